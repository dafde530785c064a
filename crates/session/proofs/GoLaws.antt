-- An undo or a redo: the version that it goes to, and what it comes to.
use Rattle.std.proofs.Common.{◌≡◌, ◌≤◌, ℕ, false, Option, Some, None, List, [], ◌∷◌, length, slice_get, refl, sym, ◌∙◌, ap, subst, arith, inr}
use Rattle.std.specs.List.{Contains}
use Rattle.history_model.specs.declared.acts.Act.{Act}
use Rattle.history_model.specs.declared.acts.Act.TheVariants.{Fill, Erase, Ball, Carve, Copy, Stamp, Tint, Undo, Redo}
use Rattle.history_model.specs.declared.histories.Mark.{Mark}
use Rattle.history_model.specs.declared.histories.Record.{Record}
use Rattle.history_model.specs.Positions.{first_of, position_after}
use Rattle.history_model.specs.Worlds.{is_edit}
use Rattle.node_words.specs.declared.shapes.names.Name.{Name}
use Rattle.node_words.specs.shapes.Tree.{Tree}
use Rattle.node_words.specs.shapes.Weights.{number_of_trees}
use Rattle.node_words.specs.Held.{SameHeld}
use Rattle.core_laws.specs.contents.Versions.{IsUnmarked}
use Rattle.conformance.specs.Answers.{target_at}
use Rattle.conformance.proofs.LineKinds.{redo_target, undo_target}
use Rattle.retain.specs.Listing.{Found}
use Rattle.table_rule.specs.LogFacts.{IsShownUnmarked, number_seen, seen_has}
use Rattle.table_rule.specs.LogViews.{LogView}
use Rattle.table_rule.specs.Views.{SeatView}
use Rattle.node_table.specs.LogChanges.{HasOpenTarget}
use Rattle.core_laws.specs.places.WordIds.{Version}
use Rattle.node_table.specs.LogTurns.{FoundMark, FoundOpen, LearnsLog, LooksForMark}
use Rattle.node_table.specs.TableStates.{PassState}
use Rattle.version_log.proofs.LookLaws.{found_looks, keeps_looks, learns_looks, looks_on}
use Rattle.version_log.proofs.UndoLaws.{target_made, target_open}
use Rattle.version_log.specs.declared.lookahead.Lookahead.{Lookahead}
use Rattle.edit_walk.specs.blocks.Blocks.{ReturnsShare}
use Rattle.version_log.specs.Falling.{CommitsNext}
use Rattle.version_log.specs.declared.answers.Committed.{Committed}
use Rattle.version_log.specs.Keeping.{OnlyKeeps}
use Rattle.version_log.specs.Roots.{GetsRoot, HoldsRootOf}
use Rattle.version_log.specs.Seeing.{OnlyReadsLog}
use Rattle.version_log.specs.Targets.{IsMadeNow, KnowsNext, act_target}
use Rattle.conformance.specs.declared.sessions.calls.ActAnswer.{ActAnswer}
use Rattle.conformance.specs.declared.sessions.calls.ActAnswer.TheVariants as acts
use Rattle.conformance.specs.sessions.CallSpecs.{ActSpec, HasFoundTarget}
use Rattle.session.specs.Attempts.{AnswersAct, nothing_to}
use Rattle.session.specs.SessionWorlds.{SessionWorld, of_world, session_view}
use Rattle.session.proofs.CommitLaws.{few_gained, held_by}
use Rattle.session.proofs.KeepLaws.{fallen_room, kept_answers, pushed_held}
use Rattle.session.proofs.SurelyLaws.{gets_from, same_number_seen}
use Rattle.session.proofs.TurnLaws.{kept_root, looked_held}
use Rattle.session.proofs.WorkLaws.{answers_after, answers_still, looks_work}

first_is : (versions : List ℕ) → first_of versions ≡ slice_get versions 0
first_is [] = refl
first_is (v ∷ versions) = refl

-- where an undo or a redo goes, in the words of answers and of the log
target_is : (records : List Record) (act : Act) → is_edit act ≡ false
    → target_at records (length records) act ≡ act_target records act
target_is records (Fill b) other = absurd (let no : ⊥ = cc in no)
target_is records (Erase b) other = absurd (let no : ⊥ = cc in no)
target_is records (Ball b) other = absurd (let no : ⊥ = cc in no)
target_is records (Carve b) other = absurd (let no : ⊥ = cc in no)
target_is records (Copy b to) other = absurd (let no : ⊥ = cc in no)
target_is records (Stamp m at) other = absurd (let no : ⊥ = cc in no)
target_is records (Tint t) other = absurd (let no : ⊥ = cc in no)
target_is records Undo other =
    undo_target records ∙ first_is (position_after records).past
target_is records Redo other =
    redo_target records ∙ first_is (position_after records).future

-- the view looked on, and this is where the act goes by the records that are seen
module _ (t : SessionWorld) (line : ℕ) (act : Act) (other : is_edit act ≡ false) (v z : SeatView)
    (looks : OnlyReadsLog v z) where
  nowhere_of : (a : Act) (at : ℕ) → act ≡ a → is_edit a ≡ false → at ≡ number_seen z
      → act_target z.log.seen.records act ≡ None → (number : ℕ)
      → ActSpec (of_world t number) line act (session_view v) (session_view z) (nothing_to a at)
  nowhere_of (Fill b) at e edit here none number = absurd (let bad : ⊥ = cc in bad)
  nowhere_of (Erase b) at e edit here none number = absurd (let bad : ⊥ = cc in bad)
  nowhere_of (Ball b) at e edit here none number = absurd (let bad : ⊥ = cc in bad)
  nowhere_of (Carve b) at e edit here none number = absurd (let bad : ⊥ = cc in bad)
  nowhere_of (Copy b to) at e edit here none number = absurd (let bad : ⊥ = cc in bad)
  nowhere_of (Stamp m p) at e edit here none number = absurd (let bad : ⊥ = cc in bad)
  nowhere_of (Tint a) at e edit here none number = absurd (let bad : ⊥ = cc in bad)
  nowhere_of Undo at e edit here none number =
      let works = looks_work t.table act v z looks in
      record {
        at_is = here;
        is = e;
        nothing = works.nothing;
        notes = works.notes;
        none = subst (λ (a : Act). target_at z.log.seen.records (number_seen z) a ≡ None) e
            (target_is z.log.seen.records act other ∙ none);
      }
  nowhere_of Redo at e edit here none number =
      let works = looks_work t.table act v z looks in
      record {
        at_is = here;
        is = e;
        nothing = works.nothing;
        notes = works.notes;
        none = subst (λ (a : Act). target_at z.log.seen.records (number_seen z) a ≡ None) e
            (target_is z.log.seen.records act other ∙ none);
      }

  nowhere_answers : (at : ℕ) → at ≡ number_seen z → act_target z.log.seen.records act ≡ None
      → AnswersAct t line act (nothing_to act at) v z
  nowhere_answers at here none number one = nowhere_of act at refl other here none number

  forgotten_answers : (at to : ℕ) (m : Mark) → at ≡ number_seen z
      → act_target z.log.seen.records act ≡ Some to → m.version ≡ to
      → Contains z.log.seen.marks m → AnswersAct t line act (acts.Forgotten at m) v z
  forgotten_answers at to m here goes version listed number one =
      let works = looks_work t.table act v z looks in
      record {
        at_is = here;
        nothing = works.nothing;
        notes = works.notes;
        target = target_is z.log.seen.records act other ∙ goes ∙ ap Some (sym version);
        listed = listed;
      }

  pub late_way : number_seen z ≡ 65535 → HasFoundTarget (session_view z) act
      → AnswersAct t line act acts.LogFull v z
  late_way all way number one =
      let works = looks_work t.table act v z looks in
      record { all = all; nothing = works.nothing; notes = works.notes; way = way }

-- the length was asked of s, which stayed as it was, and then where the act goes
module _ (t : SessionWorld) (act : Act) (other : is_edit act ≡ false) (s a b : PassState) (at : ℕ)
    (to : Option ℕ) (same : a ≡ s) (here : at ≡ number_seen s.view)
    (target : to ≡ act_target a.view.log.seen.records act) (learns : LearnsLog a.view b.view)
  where
    learns_here : LearnsLog s.view b.view
    learns_here = subst (λ (x : PassState). LearnsLog x.view b.view) same learns

    pub asked_looks : OnlyReadsLog s.view b.view
    asked_looks = learns_looks s.view b.view learns_here

    pub asked_held : b.view.held ≡ s.view.held
    asked_held = ap (λ (x : SeatView). x.held) learns_here.is

    asked_at : at ≡ number_seen b.view
    asked_at = here ∙ sym (ap (λ (x : SeatView). number_seen x) learns_here.is)

    asked_target : act_target b.view.log.seen.records act ≡ to
    asked_target =
        ap (λ (x : SeatView). act_target x.log.seen.records act) learns.is ∙ sym target

    pub asked_there : (k : ℕ) → k ≤ number_seen a.view → k ≤ number_seen b.view
    asked_there k low =
        let e : number_seen b.view ≡ number_seen a.view =
        ap (λ (x : SeatView). number_seen x) learns.is
        in
        omega arith

    pub nowhere_told : (answer : ActAnswer) → to ≡ None → answer ≡ nothing_to act at
        → (line : ℕ) → AnswersAct t line act answer s.view b.view
    nowhere_told answer none is line =
        subst (λ (x : ActAnswer). AnswersAct t line act x s.view b.view) (sym is)
        (nowhere_answers t line act other s.view b.view asked_looks at asked_at
        (asked_target ∙ none))

    -- there is a version to go to, which was looked at
    module _ (k : ℕ) (some : to ≡ Some k) (c : PassState) (m : Option Mark)
        (found : LooksForMark b.view k m c.view) where
      pub found_on : OnlyReadsLog s.view c.view
      found_on =
          looks_on s.view b.view c.view asked_looks (found_looks b.view k m c.view found)

      pub found_held : c.view.held ≡ s.view.held
      found_held = looked_held b.view c.view k m found ∙ asked_held

      pub marked_told : (mark : Mark) → m ≡ Some mark → (line : ℕ)
          → AnswersAct t line act (acts.Forgotten at mark) s.view c.view
      marked_told mark has line =
          let f : FoundMark b.view k mark c.view =
          subst (λ (x : Option Mark). LooksForMark b.view k x c.view) has found
          in
          let records : c.view.log.seen.records ≡ b.view.log.seen.records =
          ap (λ (x : SeatView). x.log.seen.records) f.is
          in
          forgotten_answers t line act other s.view c.view found_on at k mark
          (asked_at ∙ sym (ap (λ (rs : List Record). length rs) records))
          (ap (λ (rs : List Record). act_target rs act) records ∙ asked_target ∙ some) f.version
          f.comes

      -- and has no mark, and a share of its root was taken
      module _ (none : m ≡ None) where
        open_found : FoundOpen b.view k c.view
        open_found = subst (λ (x : Option Mark). LooksForMark b.view k x c.view) none found

        pub open_shown : IsShownUnmarked c.view k
        open_shown = open_found.shown

        module _ (d : PassState) (keeps : OnlyKeeps c.view d.view) where
          pub way_looks : OnlyReadsLog s.view d.view
          way_looks =
              looks_on s.view c.view d.view found_on (keeps_looks c.view d.view keeps)

          way_records : d.view.log.seen.records ≡ b.view.log.seen.records
          way_records =
              ap (λ (l : LogView). l.seen.records) keeps.log
              ∙ ap (λ (x : SeatView). x.log.seen.records) open_found.is

          way_target : act_target d.view.log.seen.records act ≡ Some k
          way_target =
              ap (λ (rs : List Record). act_target rs act) way_records ∙ asked_target ∙ some

          way_shown : IsShownUnmarked d.view k
          way_shown =
              let shown = open_found.shown in
              record {
                turn = ap (λ (l : LogView). l.turn) keeps.log ∙ shown.turn;
                there = (let e : number_seen d.view ≡ number_seen c.view =
                    ap (λ (l : LogView). length l.seen.records) keeps.log
                    in
                    let low = shown.there in
                    omega arith);
                unmarked = keeps.grows.stays (Version k 6) 0 shown.unmarked;
              }

          pub way_open : HasOpenTarget d.view act
          way_open = target_open d.view act k way_target way_shown

          pub way_known : (ahead : Lookahead) → KnowsNext b.view.log.seen.records act ahead
              → KnowsNext d.view.log.seen.records act ahead
          way_known ahead knows =
              subst (λ (rs : List Record). KnowsNext rs act ahead) (sym way_records) knows

          pub way_gets : (root : Option Name) → GetsRoot c.view.held root d.view.held
              → GetsRoot s.view.held root d.view.held
          way_gets root gets =
              subst (λ (ts : List Tree). GetsRoot ts root d.view.held) found_held gets

          pub way_made : (root : Option Name) → HoldsRootOf d.view root (seen_has c.view k)
              → IsMadeNow d.view act root
          way_made root holds =
              target_made d.view act k root other way_target
              (kept_root c.view d.view root k keeps holds)

          pub way_found : HasFoundTarget (session_view d.view) act
          way_found =
              let marks : d.view.log.seen.marks ≡ b.view.log.seen.marks =
              ap (λ (l : LogView). l.seen.marks) keeps.log
              ∙ ap (λ (x : SeatView). x.log.seen.marks) open_found.is
              in
              let founds : d.view.log.found
              ≡ record { version = k; at = number_seen b.view } ∷ b.view.log.found =
              ap (λ (l : LogView). l.found) keeps.log
              ∙ ap (λ (x : SeatView). x.log.found) open_found.is
              in
              let long : number_seen b.view ≡ number_seen d.view =
              sym (ap (λ (rs : List Record). length rs) way_records)
              in
              inr (
                k,
                target_is d.view.log.seen.records act other ∙ way_target,
                record {
                  there = way_shown.there;
                  unmarked = subst (λ (ms : List Mark). IsUnmarked ms k) (sym marks)
                      open_found.unmarked;
                  listed = subst (λ (n : ℕ).
                      Contains d.view.log.found (record { version = k; at = n })) long
                      (subst (λ (fs : List Found).
                      Contains fs (record { version = k; at = number_seen b.view })) (sym founds)
                      (0, omega arith, refl));
                },
              )

-- ---- what it comes to: the turn came, the way was found, and the turn went back

module _ (t : SessionWorld) (line : ℕ) (act : Act) (v a b : SeatView) (took : OnlyReadsLog v a)
    (looks : OnlyReadsLog a b) where
  went_looks : OnlyReadsLog v b
  went_looks = looks_on v a b took looks

  pub went_done : (root : Option Name) (c : Committed) (x y : SeatView)
      → CommitsNext b t.keep line act root c x → session_view y ≡ session_view x
      → AnswersAct t line act (acts.Done c.n) v y
  went_done root c x y made seen =
      answers_after t line act (acts.Done c.n) v b y (looks_work t.table act v b went_looks)
      (kept_answers t line act root c b x y made seen)

  pub went_nowhere : (answer : ActAnswer) (x : SeatView) → AnswersAct t line act answer a b
      → session_view x ≡ session_view b → AnswersAct t line act answer v x
  went_nowhere answer x told seen =
      answers_still t line act answer v b x seen
      (answers_after t line act answer v a b (looks_work t.table act v a took) told)

  pub went_late : is_edit act ≡ false → (x y : SeatView) → number_seen x ≡ 65535
      → HasFoundTarget (session_view b) act → session_view x ≡ session_view b
      → session_view y ≡ session_view x → AnswersAct t line act acts.LogFull v y
  went_late other x y all way first second =
      answers_still t line act acts.LogFull v b y (second ∙ first)
      (late_way t line act other v b went_looks (same_number_seen b x first ∙ all) way)

-- a share of the root came behind the turn
module _ (v a b : SeatView) (root : Option Name) (took : a.held ≡ v.held)
    (gains : GetsRoot a.held root b.held) where
  came_here : GetsRoot v.held root b.held
  came_here = gets_from v.held a.held b.held root took gains

  pub way_few : number_of_trees v.held ≤ 3900 → number_of_trees b.held ≤ 4095
  way_few few = let more = few_gained v.held b.held root came_here in omega arith

  pub gone_held : (keep line : ℕ) (act : Act) (c : Committed) (x y : SeatView)
      → CommitsNext b keep line act root c x → ReturnsShare c.fallen x.held y.held
      → SameHeld v.held y.held
  gone_held keep line act c x y made back =
      pushed_held keep line act root c v.held b x y.held came_here made back

  pub gone_room : (keep line : ℕ) (act : Act) (c : Committed) (x : SeatView)
      → CommitsNext b keep line act root c x → number_of_trees v.held ≤ 3900
      → number_of_trees x.held ≤ 4008
  gone_room keep line act c x made few =
      fallen_room keep line act root c v.held b x came_here made (omega arith)

  pub way_room : (x : SeatView) → x.held ≡ b.held → number_of_trees v.held ≤ 3900
      → number_of_trees x.held ≤ 4008
  way_room x kept few =
      let more = few_gained v.held b.held root came_here in
      let same : number_of_trees x.held ≡ number_of_trees b.held = ap number_of_trees kept in
      omega arith

-- nothing came
pub nothing_held : (v a b x : SeatView) → a.held ≡ v.held → b.held ≡ a.held → x.held ≡ b.held
    → SameHeld v.held x.held
nothing_held v a b x took kept left = held_by v.held x.held (left ∙ kept ∙ took)
