-- Roots that come and go back, and what an accepted record leaves.
use Rattle.std.proofs.Common.{◌≡◌, ◌-◌, ◌≤◌, ◌+◌, ◌^◌, ℕ, suc, true, Option, Some, None, List, [], ◌∷◌, ◌++◌, length, slice_get, refl, sym, ◌∙◌, ap, subst, arith, inl, length-append}
use Rattle.vox_read.specs.Contents.{Content}
use Rattle.history_model.specs.declared.acts.Act.{Act}
use Rattle.history_model.specs.declared.histories.Record.{Record}
use Rattle.history_model.specs.Logs.{FitsWorld}
use Rattle.history_model.specs.Stores.{stored_in}
use Rattle.history_model.specs.Worlds.{World, is_edit}
use Rattle.node_words.proofs.OfShapes.WeightLaws.{weight_of-one}
use Rattle.node_words.specs.declared.shapes.names.Name.{Name}
use Rattle.node_words.specs.shapes.Shape.{ShowsCells}
use Rattle.node_words.specs.shapes.Tree.{Tree, shape_of}
use Rattle.node_words.specs.shapes.Weights.{number_of_trees, weigh}
use Rattle.node_words.specs.Gathering.{MayHold}
use Rattle.node_words.specs.Held.{SameHeld}
use Rattle.node_words.specs.Plans.{Layout}
use Rattle.core_laws.specs.contents.Aligned.{top, world_block}
use Rattle.node_words.specs.declared.shares.Full.{Full}
use Rattle.edit_walk.specs.blocks.Blocks.{ReturnsShare, MayGoBack}
use Rattle.retain.specs.Listing.{Accepted}
use Rattle.table_rule.specs.LogFacts.{number_seen, seen_has}
use Rattle.table_rule.specs.Rules.{SameSession}
use Rattle.table_rule.specs.Views.{SeatView}
use Rattle.node_table.specs.TableStates.{TableState, PassState}
use Rattle.version_log.proofs.LookLaws.{dated_longer}
use Rattle.version_log.specs.Commits.{AppendsNext, IsMadeOver, IsOwnRecord, with_own}
use Rattle.version_log.specs.Pins.{PinsVersion}
use Rattle.version_log.specs.Roots.{GetsRoot, HoldsRootOf}
use Rattle.version_log.specs.Seeing.{KnowsMore}
use Rattle.version_log.specs.declared.answers.Pinned.{Pinned}
use Rattle.conformance.specs.declared.sessions.calls.ActAnswer.TheVariants as acts
use Rattle.conformance.specs.sessions.SessionViews.{of_session}
use Rattle.conformance.specs.sessions.CallSpecs.{ActDone}
use Rattle.session.specs.Attempts.{AnswersAct, FailsToMake, HasPinnedHead, WorksOn}
use Rattle.session.specs.Resting.{IsAtRest}
use Rattle.session.specs.SessionWorlds.{SessionWorld, session_view}
use Rattle.session.proofs.ForgetLaws.{head_is}
use Rattle.session.proofs.SeenLaws.{sees_more}
use Rattle.session.proofs.WorkLaws.{notes_none}

-- ---- shares

pub few_gained : (a b : List Tree) (root : Option Name) → GetsRoot a root b
    → number_of_trees b ≤ number_of_trees a + 1
few_gained a b root g =
    let e = g.loses.weighs (λ _. 1) in
    let one = weight_of-one g.tree in
    omega arith

pub same_number_held : (a b : List Tree) → SameHeld a b → number_of_trees b ≡ number_of_trees a
same_number_held a b s = s.weighs (λ _. 1)

-- what came is held while the rest is the same, and may go back
still_held : (a b c : List Tree) (root : Option Name) (g : GetsRoot a root b) → SameHeld b c
    → MayHold c g.tree
still_held a b c root g s =
    record { weighs = λ f. (let e = g.loses.weighs f in let h = s.weighs f in omega arith) }

pub may_back : (a b c : List Tree) (root : Option Name) → GetsRoot a root b → SameHeld b c
    → MayGoBack c root
may_back a b c root g s = (g.tree, g.name, still_held a b c root g s)

-- and once it went back the same is held as before
pub back_same : (a b c d : List Tree) (root : Option Name) → GetsRoot a root b → SameHeld b c
    → ReturnsShare root c d → SameHeld a d
back_same a b c d root g s back =
    let gone = back g.tree g.name (still_held a b c root g s) in
    record {
      weighs = λ f.
          (let e = g.loses.weighs f in let h = s.weighs f in let l = gone.weighs f in
          let is : weigh f d ≡ weigh f a = omega arith in is);
    }

pub held_itself : (a : List Tree) → SameHeld a a
held_itself a = record { weighs = λ f. refl }

pub held_by : (a b : List Tree) → b ≡ a → SameHeld a b
held_by a b e = record { weighs = λ f. ap (weigh f) e }

pub held_on : (a b c : List Tree) → SameHeld a b → SameHeld b c → SameHeld a c
held_on a b c f g = record { weighs = λ h. g.weighs h ∙ f.weighs h }

-- the root that was made went to the log
pub appended_held : (v : List Tree) (w : List Tree) (x : List Tree) (root : Option Name)
    → GetsRoot v root w → ReturnsShare root w x → SameHeld v x
appended_held v w x root g gone = back_same v w w x root g (held_itself w) gone

-- ---- the newest version, pinned

pub head_pinned : (v w : SeatView) (p : Pinned) → PinsVersion v None p w → HasPinnedHead w p
head_pinned v w p is = record { pinned = is.pinned; head = is.version; now = is.moment }

pub head_root : (v : SeatView) (p : Pinned) (root : Option Name) → root ≡ p.root
    → HasPinnedHead v p → HoldsRootOf v root (seen_has v (number_seen v))
head_root v p root same h =
    subst (λ (r : Option Name). HoldsRootOf v r (seen_has v (number_seen v))) (sym same)
    (subst (λ (n : ℕ). HoldsRootOf v p.root (seen_has v n)) (h.head ∙ h.now) h.pinned.root)

-- and a root that is the same is one too
pub root_as : (v : SeatView) (kept root : Option Name) → root ≡ kept
    → HoldsRootOf v kept (seen_has v (number_seen v))
    → HoldsRootOf v root (seen_has v (number_seen v))
root_as v kept root same h =
    subst (λ (r : Option Name). HoldsRootOf v r (seen_has v (number_seen v))) (sym same) h

-- a root of a version stays one while nothing is seen
pub holds_stays : (v w : SeatView) (root : Option Name) (n : ℕ) → w.plan ≡ v.plan
    → w.models ≡ v.models
    → w.log ≡ v.log → (h : HoldsRootOf v root (seen_has v n)) → MayHold w.held h.tree
    → HoldsRootOf w root (seen_has w n)
holds_stays v w root n plan models log h held =
    let cells : seen_has w n ≡ seen_has v n =
    (λ i. stored_in (2 ^ (plan i).side) (models i) ((log i).seen.records) n)
    in
    record {
      tree = h.tree;
      name = h.name;
      held = held;
      level = λ m e. subst (λ (p : Layout). m.level ≡ top p.side) (sym plan) (h.level m e);
      shows = subst (λ (c : World). ShowsCells (world_block w.plan.side) (shape_of h.tree) c)
          (sym cells)
          (subst (λ (p : Layout). ShowsCells (world_block p.side) (shape_of h.tree) (seen_has v n))
          (sym plan) h.shows);
    }

-- what was made of it may be committed
pub made_of_head : (w : SeatView) (p : Pinned) (act : Act) (root : Option Name)
    → HasPinnedHead w p → IsMadeOver w (number_seen w) act root → IsMadeOver w p.moment act root
made_of_head w p act root h made =
    subst (λ (n : ℕ). IsMadeOver w n act root) (sym h.now) made

pub models_fit : (t : TableState) (s : PassState) (act : Act) → IsAtRest t s
    → FitsWorld (2 ^ t.plan.side) t.models act → FitsWorld (2 ^ t.plan.side) s.view.models act
models_fit t s act r fits =
    subst (λ (ms : List Content). FitsWorld (2 ^ t.plan.side) ms act) (sym r.of.models) fits

-- ---- an accepted record

last_there : {A : Type 0} (xs : List A) (x : A) → slice_get (xs ++ x ∷ []) (length xs) ≡ Some x
last_there [] x = refl
last_there (y ∷ xs) x = last_there xs x

numbered_at : ℕ → Record → Accepted
numbered_at k r = record { at = k; entry = r }

-- the record that was appended
record_by : ℕ → ℕ → Act → Record
record_by session line act = record { session = session; line = line; act = act }

own_record : (v : SeatView) (line number : ℕ) (act : Act) (r : Record) → v.numbers ≡ number ∷ []
    → IsOwnRecord v line act r → r ≡ record { session = number; line = line; act = act }
unfolding record_by
own_record v line number act r one own =
    ap (λ (s : ℕ). record_by s r.line r.act) (head_is r.session number (sym own.session ∙ one))
    ∙ ap (λ (l : ℕ). record_by number l r.act) own.line_is
    ∙ ap (λ (a : Act). record_by number line a) own.act_is

knows_own : (v : SeatView) (r : Record) (held : List Tree) (busy : List ℕ)
    → KnowsMore v (with_own v r held busy)
knows_own v r held busy =
    record {
      seen = record { more = r ∷ []; records = refl; marks = λ m c. c };
      side = refl;
      dated = dated_longer v.log.seen (r ∷ []);
      taken = refl;
      found = record { each = λ f c. c };
    }

pub appends_knows : (v w : SeatView) (line : ℕ) (act : Act) (root : Option Name) (n : ℕ)
    → AppendsNext v line act root n w → KnowsMore v w
appends_knows v w line act root n a =
    subst (λ (x : SeatView). KnowsMore v x) (sym a.is) (knows_own v a.by w.held w.log.busy)

pub appends_session : (v w : SeatView) (line : ℕ) (act : Act) (root : Option Name) (n : ℕ)
    → AppendsNext v line act root n w → SameSession v w
appends_session v w line act root n a =
    subst (λ (x : SeatView). SameSession v x) (sym a.is)
    (record { alive = refl; plan = refl; models = refl; numbers = refl })

done_here : (t : TableState) (number line : ℕ) (act : Act) (v : SeatView) (r : Record)
    (held : List Tree) (busy : List ℕ) (n : ℕ) → n ≡ number_seen v + 1
    → r ≡ record { session = number; line = line; act = act }
    → ActDone (of_session t.plan t.models number) line act (session_view v)
    (session_view (with_own v r held busy)) n
unfolding numbered_at
done_here t number line act v r held busy n at same =
    let x : SeatView = with_own v r held busy in
    let long : number_seen x ≡ number_seen v + 1 = length-append v.log.seen.records (r ∷ []) in
    let place : number_seen v ≡ number_seen x - 1 = omega arith in
    let next : suc (number_seen v) ≡ number_seen x = omega arith in
    record {
      at_is = at ∙ sym long;
      appends = record {
        sees = sees_more v x (knows_own v r held busy);
        longer = omega arith;
        last = record {
          first = omega arith;
          is = subst (λ (k : ℕ). slice_get x.log.seen.records k
              ≡ Some (record { session = number; line = line; act = act })) place
              (last_there v.log.seen.records r ∙ ap Some same);
        };
        records = ap
            (λ (c : Accepted). c ∷ v.log.records)
            (ap (λ (k : ℕ). numbered_at k r) next
            ∙ ap (numbered_at (number_seen x)) same);
        marks = refl;
      };
      notes = notes_none t.plan t.models act (session_view v) (session_view x) refl;
    }

-- where all versions are held
pub done_alone : (t : SessionWorld) (line : ℕ) (act : Act) (root : Option Name) (n : ℕ)
    (v w : SeatView) → AppendsNext v line act root n w → (number : ℕ) → v.numbers ≡ number ∷ []
    → ActDone (of_session t.table.plan t.table.models number) line act (session_view v)
    (session_view w) n
done_alone t line act root n v w a number one =
    subst (λ (x : SeatView). ActDone (of_session t.table.plan t.table.models number) line act
    (session_view v) (session_view x) n) (sym a.is)
    (done_here t.table number line act v a.by w.held w.log.busy n a.number
    (own_record v line number act a.by one a.own))

-- ---- a history without room

pub late_answers : (t : SessionWorld) (line : ℕ) (act : Act) (v w : SeatView) → is_edit act ≡ true
    → WorksOn t.table act v w → number_seen w ≡ 65535 → AnswersAct t line act acts.LogFull v w
late_answers t line act v w edit works all number one =
    record { all = all; nothing = works.nothing; notes = works.notes; way = inl edit }

-- ---- a bucket without room

pub full_answers : (t : SessionWorld) (line : ℕ) (act : Act) (at : ℕ) (full : Full) (v w : SeatView)
    → at ≡ number_seen w → FailsToMake t.table act full v w
    → AnswersAct t line act (acts.Full at full) v w
full_answers t line act at full v w here fails number one =
    record { at_is = here; nothing = fails.works.nothing; meets = fails.meets }
