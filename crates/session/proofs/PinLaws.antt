-- Versions that are pinned: their roots are walked, and they stay pinned.
use Rattle.std.proofs.Common.{◌≡◌, ◌-◌, ◌^◌, ◌≤◌, ℕ, Bool, false, Option, length, sym, ◌∙◌, ap, subst, arith}
use Rattle.std.specs.List.{Contains}
use Rattle.history_model.specs.declared.questions.Question.{Question}
use Rattle.transcript.specs.declared.answers.Answer.{Answer}
use Rattle.conformance.specs.QuestionAnswers.{AnswersTo, count}
use Rattle.node_words.specs.declared.shapes.names.Name.{Name}
use Rattle.node_words.specs.shapes.Weights.{weigh}
use Rattle.node_words.specs.Held.{StoreState}
use Rattle.node_words.specs.Plans.{Layout}
use Rattle.edit_walk.specs.blocks.Blocks.{MayGoBack}
use Rattle.node_words.specs.descent.Roots as walks
use Rattle.edit_walk.specs.cells.Worlds.{ShowsWorld}
use Rattle.history_model.specs.declared.questions.Question.TheVariants.{Count}
use Rattle.history_model.specs.Tints.{Tints}
use Rattle.history_model.specs.Worlds.{World}
use Rattle.vw_cell.specs.declared.boxes.Boxed.{Boxed}
use Rattle.vw_cell.specs.Counts.{number_in}
use Rattle.act_rebuilds.specs.questions.AnswersByRoots.{AnswersByRoot}
use Rattle.table_rule.specs.LogFacts.{seen_has}
use Rattle.table_rule.specs.LogViews.{LogView}
use Rattle.table_rule.specs.Views.{SeatView, seen_of}
use Rattle.node_table.specs.TableStates.{TableState, PassState}
use Rattle.version_log.specs.declared.answers.Pinned.{Pinned}
use Rattle.version_log.specs.Pins.{IsPinned}
use Rattle.session.specs.Lendable.{StaysLendable}
use Rattle.conformance.specs.sessions.CallSpecs.{AnswersStored, plainly_tinted}
use Rattle.session.specs.Roots.{AnswersHeld}
use Rattle.session.specs.Saves.{cells_counted}
use Rattle.session.specs.Resting.{IsAtRest}
use Rattle.session.proofs.AskLaws.{kept_told, may_walk, shows_world}
use Rattle.session.proofs.CommitLaws.{holds_stays}

-- the answer to a count
counted_is : (side : ℕ) (w : World) (tints : Tints) (b : Boxed) (answer : Answer)
    → AnswersTo side w tints (Count b) answer → cells_counted answer ≡ number_in b w
counted_is side w tints part answer (count b cells e) = e

module _ (t : TableState) (v : PassState) (p : Pinned) (root : Option Name) (same : root ≡ p.root)
    (r : IsAtRest t v) (is : IsPinned v.view p) where
  side_is : v.view.plan.side ≡ t.plan.side
  side_is = ap (λ (l : Layout). l.side) r.of.plan

  pub pinned_walk : walks.HoldsRoot v.view.held t.plan.side root
  pinned_walk =
      subst (λ (x : Option Name). walks.HoldsRoot v.view.held t.plan.side x) (sym same)
      (subst (λ (n : ℕ). walks.HoldsRoot v.view.held n p.root) side_is
      (may_walk v.view p.root (seen_has v.view p.version) is.root))

  shows_here : ShowsWorld v.view.held (t.plan.side - 2) p.root (seen_has v.view p.version)
  shows_here =
      subst (λ (n : ℕ). ShowsWorld v.view.held (n - 2) p.root (seen_has v.view p.version)) side_is
      (shows_world v.view p.root (seen_has v.view p.version) is.root)

  pub pinned_tells : (tint : Bool) (question : Question) (answer : Answer)
      → AnswersHeld tint v.view.held t.plan.side root question answer
      → AnswersStored tint (2 ^ t.plan.side) (seen_has v.view p.version) question answer
  pinned_tells tint question answer tells =
      kept_told tint v.view.held t.plan.side p.root (seen_has v.view p.version) question answer
      shows_here
      (subst (λ (x : Option Name). AnswersHeld tint v.view.held t.plan.side x question answer) same
      tells)

  -- the store's cells are counted
  pub pinned_count : (part : Boxed) (answer : Answer) (cells : ℕ)
      → AnswersByRoot v.view.held t.plan.side root (Count part) answer → cells ≡ cells_counted answer
      → cells ≡ number_in part (seen_has v.view p.version)
  pinned_count part answer cells tells counted =
      counted
      ∙ counted_is (2 ^ t.plan.side) (seen_has v.view p.version)
      (plainly_tinted (seen_has v.view p.version)) part answer
      (pinned_tells false (Count part) answer tells)

-- what is pinned stays so while nothing is seen and the same is held
pub pinned_stays : (t : TableState) (v w : PassState) (p : Pinned) → StaysLendable t v w
    → seen_of w.view ≡ seen_of v.view → IsPinned v.view p → IsPinned w.view p
pinned_stays t v w p stays seen k =
    let log : v.view.log ≡ w.view.log = sym stays.log in
    record {
      version = k.version;
      moment = subst (λ (l : LogView). p.moment ≤ length l.seen.records) log k.moment;
      found = subst (λ (l : LogView). Contains l.found
          (record { version = p.version; at = p.moment })) log k.found;
      root = holds_stays v.view w.view p.root p.version stays.same.session.plan
          stays.same.session.models stays.log k.root (record {
            weighs = λ f.
                (let a = k.root.held.weighs f in
                let e = ap (λ (s : StoreState). weigh f s.held) seen in
                omega arith);
          });
    }

-- and may be given back
pub pinned_may : (v : SeatView) (p : Pinned) → IsPinned v p → MayGoBack v.held p.root
pinned_may v p is = (is.root.tree, is.root.name, is.root.held)
