-- A record that was accepted where the last versions alone are held, as a session tells it: the
-- version that fell out was forgotten behind it, or it had a mark.
use Rattle.std.proofs.Common.{◌≡◌, ◌<◌, ◌≤◌, ◌&&◌, ℕ, suc, Option, Some, None, List, [], ◌∷◌, ◌++◌, length, refl, sym, ◌∙◌, ap, subst, arith, inl, inr, eq-eqb, append-nil, length-append}
use Rattle.std.specs.Prelude.{nat_le, ◌==◌, IsTrue}
use Rattle.std.specs.List.{Contains}
use Rattle.std.proofs.lemmas.Bool.{le-leb}
use Rattle.history_model.specs.declared.acts.Act.{Act}
use Rattle.history_model.specs.declared.histories.Mark.{Mark}
use Rattle.history_model.specs.declared.histories.Record.{Record}
use Rattle.node_words.specs.declared.shapes.names.Name.{Name}
use Rattle.node_words.specs.shapes.Tree.{Tree}
use Rattle.node_words.specs.shapes.Weights.{number_of_trees}
use Rattle.node_words.specs.Held.{SameHeld}
use Rattle.edit_walk.specs.blocks.Blocks.{ReturnsShare, MayGoBack}
use Rattle.retain.specs.Retained.{falls_out, is_marked_by}
use Rattle.conformance.specs.Answers.{IsRecordOf, mark_of}
use Rattle.table_rule.specs.LogFacts.{number_seen}
use Rattle.table_rule.specs.Rules.{SameSession}
use Rattle.table_rule.specs.Views.{SeatView}
use Rattle.version_log.specs.Commits.{AppendsNext}
use Rattle.version_log.specs.Falling.{CommitsNext, FallsOut, WasMarked}
use Rattle.version_log.specs.Forgets.{ForgetsVersion}
use Rattle.version_log.specs.Roots.{GetsRoot}
use Rattle.version_log.specs.Seeing.{KnowsMore}
use Rattle.version_log.specs.declared.answers.Committed.{Committed}
use Rattle.version_log.proofs.RootLaws.{no_root_gains}
use Rattle.conformance.specs.declared.sessions.calls.ActAnswer.TheVariants as acts
use Rattle.conformance.specs.sessions.Calls.{AppendsOwn, numbered_change}
use Rattle.conformance.specs.sessions.Fallen.{PushedOut, PushesOut}
use Rattle.conformance.specs.sessions.SessionViews.{SessionView, of_session}
use Rattle.conformance.specs.sessions.CallSpecs.{ActDone, ActSpec}
use Rattle.conformance.proofs.OfSessions.Fallen.{any_there}
use Rattle.session.specs.Attempts.{AnswersAct}
use Rattle.session.specs.SessionWorlds.{SessionWorld, of_world, session_view}
use Rattle.session.proofs.CommitLaws.{appended_held, appends_knows, appends_session, back_same, done_alone, few_gained, held_itself, held_on, may_back, same_number_held}
use Rattle.session.proofs.ForgetLaws.{own_mark}
use Rattle.session.proofs.SeenLaws.{same_noted, sees_more}
use Rattle.session.proofs.WorkLaws.{knows_on, knows_same, notes_none, session_on}

-- ---- shares

-- a share came of the root of the version that fell out, or none
pub gets_fallen : (o : Option ℕ) (line n : ℕ) (fallen : Option Name) (b x : SeatView)
    → FallsOut o line n fallen b x → GetsRoot b.held fallen x.held
gets_fallen None line n fallen b x falls =
    subst (λ (s : SeatView). GetsRoot b.held fallen s.held) (sym falls.1)
    (no_root_gains b.held fallen falls.0)
gets_fallen (Some u) line n fallen b x (inl is) =
    record { tree = is.tree; name = is.name; loses = is.loses }
gets_fallen (Some u) line n fallen b x (inr was) =
    subst (λ (ts : List Tree). GetsRoot b.held fallen ts) (sym was.held)
    (no_root_gains b.held fallen was.none)

-- the root that was made went to the log, and the share that came of the other goes back: the same
-- is held as before the root was made
pub pushed_held : (keep line : ℕ) (act : Act) (root : Option Name) (c : Committed)
    (v : List Tree) (w x : SeatView) (y : List Tree) → GetsRoot v root w.held
    → CommitsNext w keep line act root c x → ReturnsShare c.fallen x.held y → SameHeld v y
pushed_held keep line act root c v w x y gains made back =
    let first = appended_held v w.held made.behind.held root gains made.appends.gone in
    let came = gets_fallen (falls_out c.n keep) line c.n c.fallen made.behind x made.falls in
    held_on v made.behind.held y first
    (back_same made.behind.held x.held x.held y c.fallen came (held_itself x.held) back)

-- ---- what was seen

-- as many records are the same records
no_more : (xs ys more : List Record) → ys ≡ xs ++ more → length ys ≡ length xs → ys ≡ xs
no_more xs ys [] is same = is ∙ append-nil xs
no_more xs ys (r ∷ more) is same =
    absurd (let both = length-append xs (r ∷ more) in
    let all : length ys ≡ length (xs ++ r ∷ more) = ap length is in
    let some : length (r ∷ more) ≡ suc (length more) = refl in
    omega arith)

has_mark : (n u : ℕ) (marks : List Mark) (m : Mark) → Contains marks m → m.version ≡ u
    → m.at ≤ n → IsTrue (is_marked_by n u marks)
has_mark n u marks m there version by_then =
    any_there (λ (o : Mark). (o.version == u) && nat_le o.at n) marks m there
    (let a = eq-eqb m.version u version in let b = le-leb m.at n by_then in rw (a, b) refl)

-- what a session tells of the record, and of what came behind it
module _ (t : SessionWorld) (number line : ℕ) (act : Act) (root : Option Name) (n : ℕ)
    (v b x : SeatView) (one : v.numbers ≡ number ∷ []) (appends : AppendsNext v line act root n b)
  where
    alone : ActDone (of_session t.table.plan t.table.models number) line act (session_view v)
        (session_view b) n
    alone = done_alone t line act root n v b appends number one

    still_one : b.numbers ≡ number ∷ []
    still_one = (appends_session v b line act root n appends).numbers ∙ one

    module _ (knows : KnowsMore b x) (long : n ≡ number_seen x)
        (own_records : x.log.records ≡ b.log.records) (made : x.made ≡ b.made)
        (met : x.met ≡ b.met)
        (pushes : PushesOut (falls_out n t.keep) (numbered_change n number line act) v.log.marks
        (session_view x)) where
      same_records : x.log.seen.records ≡ b.log.seen.records
      same_records =
          let at : n ≡ number_seen b = alone.at_is in
          no_more b.log.seen.records x.log.seen.records knows.seen.more knows.seen.records
          (omega arith)

      done_pushed : ActDone (of_world t number) line act (session_view v)
          (session_view x) n
      done_pushed =
          let d : AppendsOwn 0 number line act (session_view v) (session_view b) = alone.appends in
          let same : b.log.seen.records ≡ x.log.seen.records = sym same_records in
          record {
            at_is = long;
            appends = record {
              sees = sees_more v x
                  (knows_on v b x (appends_knows v b line act root n appends) knows);
              longer = subst (λ (rs : List Record). length v.log.seen.records < length rs) same
                  d.longer;
              last = subst (λ (rs : List Record). IsRecordOf rs (length rs) number line act) same
                  d.last;
              records = own_records ∙ d.records
                  ∙ ap (λ (rs : List Record). numbered_change (length rs) number line act
                  ∷ v.log.records) same;
              marks = subst (λ (k : ℕ). PushesOut (falls_out k t.keep)
                  (numbered_change k number line act) v.log.marks (session_view x)) long pushes;
            };
            notes = notes_none t.table.plan t.table.models act (session_view v) (session_view x)
                (same_noted v x (made ∙ ap (λ (s : SeatView). s.made) appends.is)
                (met ∙ ap (λ (s : SeatView). s.met) appends.is));
          }

    -- its own marks behind the record are those before it
    own_marks : b.log.marks ≡ v.log.marks
    own_marks = alone.appends.marks

    -- the version was forgotten
    forgot_done : (u : ℕ) (fallen : Option Name) → falls_out n t.keep ≡ Some u
        → ForgetsVersion b u line (record { at = n; root = fallen }) x
        → ActDone (of_world t number) line act (session_view v)
        (session_view x) n
    forgot_done u fallen out is =
        let mark : is.mark ≡ mark_of u n number line =
        own_mark b u n line number is.mark still_one is.own
        in
        let low : is.mark.at ≤ n = (let e = is.own.at_is in omega arith) in
        let pushed : PushedOut u (numbered_change n number line act) v.log.marks (session_view x) =
        record {
          marked = has_mark n u x.log.seen.marks is.mark is.comes is.own.version_is low;
          own = inr (is.marks ∙ ap (λ (m : Mark). m ∷ b.log.marks) mark
              ∙ ap (λ (ms : List Mark). mark_of u n number line ∷ ms) own_marks);
        }
        in
        done_pushed is.sees is.at is.records is.made is.met
        (subst (λ (o : Option ℕ). PushesOut o (numbered_change n number line act) v.log.marks
        (session_view x)) (sym out) pushed)

    -- or it had a mark
    marked_done : (u : ℕ) (fallen : Option Name) → falls_out n t.keep ≡ Some u
        → WasMarked b u n fallen x
        → ActDone (of_world t number) line act (session_view v)
        (session_view x) n
    marked_done u fallen out was =
        let l = was.looks in
        let at = was.length in
        let low : was.mark.at ≤ n = (let e = was.marked.later.1 in omega arith) in
        let pushed : PushedOut u (numbered_change n number line act) v.log.marks (session_view x) =
        record {
          marked = has_mark n u x.log.seen.marks was.mark was.marked.marked was.marked.is low;
          own = inl (l.marks ∙ own_marks);
        }
        in
        done_pushed l.sees (sym at) l.records l.made l.met
        (subst (λ (o : Option ℕ). PushesOut o (numbered_change n number line act) v.log.marks
        (session_view x)) (sym out) pushed)

    -- or none fell out
    held_done : falls_out n t.keep ≡ None → x ≡ b
        → ActDone (of_world t number) line act (session_view v)
        (session_view x) n
    held_done out same =
        subst (λ (s : SeatView). ActDone (of_world t number) line act
        (session_view v) (session_view s) n) (sym same)
        (let d = alone in
        record {
          at_is = d.at_is;
          appends = record {
            sees = d.appends.sees;
            longer = d.appends.longer;
            last = d.appends.last;
            records = d.appends.records;
            marks = subst (λ (k : ℕ). PushesOut (falls_out k t.keep)
                (numbered_change k number line act) v.log.marks (session_view b)) d.at_is
                (subst (λ (o : Option ℕ). PushesOut o (numbered_change n number line act)
                v.log.marks (session_view b)) (sym out) own_marks);
          };
          notes = d.notes;
        })

    fallen_done : (o : Option ℕ) (fallen : Option Name) → falls_out n t.keep ≡ o
        → FallsOut o line n fallen b x
        → ActDone (of_world t number) line act (session_view v)
        (session_view x) n
    fallen_done None fallen out falls = held_done out falls.1
    fallen_done (Some u) fallen out (inl is) = forgot_done u fallen out is
    fallen_done (Some u) fallen out (inr was) = marked_done u fallen out was

-- an accepted record, whose version that fell out was given back
pub kept_answers : (t : SessionWorld) (line : ℕ) (act : Act) (root : Option Name)
    (c : Committed) (v x y : SeatView) → CommitsNext v t.keep line act root c x
    → session_view y ≡ session_view x → AnswersAct t line act (acts.Done c.n) v y
kept_answers t line act root c v x y made seen number one =
    subst (λ (s : SessionView). ActSpec (of_world t number) line act (session_view v) s
    (acts.Done c.n)) (sym seen)
    (fallen_done t number line act root c.n v made.behind x one made.appends
    (falls_out c.n t.keep) c.fallen refl made.falls)

-- ---- a session that is at rest again

falls_knows : (o : Option ℕ) (line n : ℕ) (fallen : Option Name) (b x : SeatView)
    → FallsOut o line n fallen b x → KnowsMore b x
falls_knows None line n fallen b x falls =
    subst (λ (s : SeatView). KnowsMore b s) (sym falls.1) (knows_same b b refl)
falls_knows (Some u) line n fallen b x (inl is) = is.sees
falls_knows (Some u) line n fallen b x (inr was) = was.looks.sees

falls_session : (o : Option ℕ) (line n : ℕ) (fallen : Option Name) (b x : SeatView)
    → FallsOut o line n fallen b x → SameSession b x
falls_session None line n fallen b x falls =
    subst (λ (s : SeatView). SameSession b s) (sym falls.1)
    (record { alive = refl; plan = refl; models = refl; numbers = refl })
falls_session (Some u) line n fallen b x (inl is) = is.session
falls_session (Some u) line n fallen b x (inr was) = was.looks.session

pub commits_knows : (keep : ℕ) (v x : SeatView) (line : ℕ) (act : Act) (root : Option Name)
    (c : Committed) → CommitsNext v keep line act root c x → KnowsMore v x
commits_knows keep v x line act root c made =
    knows_on v made.behind x (appends_knows v made.behind line act root c.n made.appends)
    (falls_knows (falls_out c.n keep) line c.n c.fallen made.behind x made.falls)

pub commits_session : (keep : ℕ) (v x : SeatView) (line : ℕ) (act : Act) (root : Option Name)
    (c : Committed) → CommitsNext v keep line act root c x → SameSession v x
commits_session keep v x line act root c made =
    session_on v made.behind x (appends_session v made.behind line act root c.n made.appends)
    (falls_session (falls_out c.n keep) line c.n c.fallen made.behind x made.falls)

-- the share that came may go back
pub fallen_back : (keep line : ℕ) (act : Act) (root : Option Name) (c : Committed)
    (w x : SeatView) → CommitsNext w keep line act root c x → MayGoBack x.held c.fallen
fallen_back keep line act root c w x made =
    may_back made.behind.held x.held x.held c.fallen
    (gets_fallen (falls_out c.n keep) line c.n c.fallen made.behind x made.falls)
    (held_itself x.held)

-- and there is room for that
pub fallen_room : (keep line : ℕ) (act : Act) (root : Option Name) (c : Committed)
    (v : List Tree) (w x : SeatView) → GetsRoot v root w.held
    → CommitsNext w keep line act root c x → number_of_trees v ≤ 4000
    → number_of_trees x.held ≤ 4008
fallen_room keep line act root c v w x gains made few =
    let first = same_number_held v made.behind.held
    (appended_held v w.held made.behind.held root gains made.appends.gone)
    in
    let one = few_gained made.behind.held x.held c.fallen
    (gets_fallen (falls_out c.n keep) line c.n c.fallen made.behind x made.falls)
    in
    omega arith

-- the same of an act that is equal
pub commits_as : (keep : ℕ) (v w : SeatView) (line : ℕ) (a b : Act) (root : Option Name)
    (c : Committed) → a ≡ b → CommitsNext v keep line a root c w
    → CommitsNext v keep line b root c w
commits_as keep v w line a b root c same h =
    subst (λ (x : Act). CommitsNext v keep line x root c w) same h

-- and of as many versions that are held
pub commits_kept : (k j : ℕ) (v w : SeatView) (line : ℕ) (act : Act) (root : Option Name)
    (c : Committed) → k ≡ j → CommitsNext v k line act root c w → CommitsNext v j line act root c w
commits_kept k j v w line act root c same h =
    subst (λ (n : ℕ). CommitsNext v n line act root c w) same h
