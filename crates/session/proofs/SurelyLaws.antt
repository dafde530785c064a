-- An edit under the log's turn, for each of its outcomes.
use Rattle.std.proofs.Common.{◌≡◌, ◌≤◌, ℕ, Option, List, length, sym, ◌∙◌, ap, subst, arith}
use Rattle.history_model.specs.declared.acts.Act.{Act}
use Rattle.node_words.specs.declared.shapes.names.Name.{Name}
use Rattle.node_words.specs.shapes.Tree.{Tree}
use Rattle.node_words.specs.shapes.Weights.{number_of_trees}
use Rattle.node_words.proofs.HeldLaws.{Keeps}
use Rattle.node_words.specs.declared.shares.Full.{Full}
use Rattle.node_words.specs.Held.{SameHeld}
use Rattle.table_rule.specs.LogFacts.{number_seen}
use Rattle.table_rule.specs.Views.{SeatView}
use Rattle.edit_walk.specs.blocks.Blocks.{ReturnsShare}
use Rattle.version_log.specs.Falling.{CommitsNext}
use Rattle.version_log.specs.declared.answers.Committed.{Committed}
use Rattle.version_log.specs.Finishing.{RefusesFinish}
use Rattle.version_log.specs.Roots.{GetsRoot}
use Rattle.version_log.specs.declared.answers.SureRefused.{SureRefused}
use Rattle.version_log.specs.declared.answers.SureRefused.TheVariants.{LogFull}
use Rattle.conformance.specs.declared.sessions.calls.ActAnswer.TheVariants as acts
use Rattle.conformance.specs.sessions.SessionViews.{SessionView}
use Rattle.session.specs.Attempts.{AnswersAct, FailsToMake, MakesNextRoot}
use Rattle.session.specs.SessionWorlds.{SessionWorld, session_view}
use Rattle.session.proofs.CommitLaws.{few_gained, full_answers, held_by, held_on, same_number_held}
use Rattle.session.proofs.KeepLaws.{fallen_room, kept_answers, pushed_held}
use Rattle.session.proofs.WorkLaws.{answers_after, answers_still}

-- nothing was finished: there was no room
pub finish_full : (root : Option Name) (e : SureRefused) (x : SeatView) → RefusesFinish root e x
    → number_seen x ≡ 65535
finish_full root (LogFull back) x refused = refused.1

-- as many records were seen
pub same_number_seen : (w x : SeatView) → session_view x ≡ session_view w
    → number_seen w ≡ number_seen x
same_number_seen w x seen = sym (ap (λ (s : SessionView). length s.log.records) seen)

-- a bucket was full, and the turn went back
module _ (t : SessionWorld) (line : ℕ) (act : Act) (v w : SeatView) (full : Full)
    (fails : FailsToMake t.table act full v w) (x : SeatView) where
  pub full_made : (at : ℕ) → at ≡ number_seen x → session_view x ≡ session_view w
      → AnswersAct t line act (acts.Full at full) v x
  full_made at here seen =
      answers_still t line act (acts.Full at full) v w x seen
      (full_answers t line act at full v w (here ∙ sym (same_number_seen w x seen)) fails)

  pub full_held : x.held ≡ w.held → SameHeld v.held x.held
  full_held same = held_on v.held w.held x.held fails.held (held_by w.held x.held same)

-- a share of the root came
module _ (t : SessionWorld) (line : ℕ) (act : Act) (root : Option Name) (v w : SeatView)
    (makes : MakesNextRoot t.table act root v w) where
  pub made_few : number_of_trees v.held ≤ 3909 → number_of_trees w.held ≤ 4095
  made_few few = let more = few_gained v.held w.held root makes.gains in omega arith

  pub done_made : (x y : SeatView) (c : Committed) → CommitsNext w t.keep line act root c x
      → session_view y ≡ session_view x → AnswersAct t line act (acts.Done c.n) v y
  done_made x y c made seen =
      answers_after t line act (acts.Done c.n) v w y makes.works
      (kept_answers t line act root c w x y made seen)

  pub done_held : (x y : SeatView) (c : Committed) → CommitsNext w t.keep line act root c x
      → ReturnsShare c.fallen x.held y.held → SameHeld v.held y.held
  done_held x y c made back = pushed_held t.keep line act root c v.held w x y.held makes.gains made back

  pub done_room : (x : SeatView) (c : Committed) → CommitsNext w t.keep line act root c x
      → number_of_trees v.held ≤ 3909 → number_of_trees x.held ≤ 4008
  done_room x c made few = fallen_room t.keep line act root c v.held w x makes.gains made
      (omega arith)

  pub late_room : (x : SeatView) → x.held ≡ w.held → number_of_trees v.held ≤ 3909
      → number_of_trees x.held ≤ 4008
  late_room x kept few =
      let more = few_gained v.held w.held root makes.gains in
      let same : number_of_trees x.held ≡ number_of_trees w.held = ap number_of_trees kept in
      omega arith

-- ---- shares that came

pub gets_keeps : (a b : List Tree) (root : Option Name) → GetsRoot a root b → Keeps a b
gets_keeps a b root g =
    record { weighs = λ f. (let e = g.loses.weighs f in omega arith) }

-- the same of what was held before the turn came
pub gets_from : (a b c : List Tree) (root : Option Name) → b ≡ a → GetsRoot b root c
    → GetsRoot a root c
gets_from a b c root same g = subst (λ (ts : List Tree). GetsRoot ts root c) same g

pub few_from : (a b : List Tree) → b ≡ a → number_of_trees a ≤ 3902 → number_of_trees b ≤ 4095
few_from a b same few =
    let e : number_of_trees b ≡ number_of_trees a = ap number_of_trees same in omega arith

pub few_behind : (a b : List Tree) → b ≡ a → number_of_trees a ≤ 3900
    → number_of_trees b ≤ 4095
few_behind a b same few = few_from a b same (omega arith)

pub more_from : (a b c : List Tree) (root : Option Name) → b ≡ a → GetsRoot b root c
    → number_of_trees a ≤ 3902 → number_of_trees c ≤ 3909
more_from a b c root same g few =
    let e : number_of_trees b ≡ number_of_trees a = ap number_of_trees same in
    let one = few_gained b c root g in
    omega arith

pub room_behind : (a b c : List Tree) (root : Option Name) → b ≡ a → GetsRoot b root c
    → (d : List Tree) → SameHeld c d → number_of_trees a ≤ 3902 → number_of_trees d ≤ 4008
room_behind a b c root same g d held few =
    let more = more_from a b c root same g few in
    let e = same_number_held c d held in
    omega arith

pub room_still : (a b : List Tree) → b ≡ a → number_of_trees a ≤ 4095 → number_of_trees b ≤ 4095
room_still a b same few =
    subst (λ (ts : List Tree). number_of_trees ts ≤ 4095) (sym same) few
