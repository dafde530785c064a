use Rattle.std.proofs.Common.{◌≡◌, Some, ℕ, ap, ◌∙◌, arith}
use Rattle.node_words.specs.Plans.{Layout}
use Rattle.core_laws.specs.places.WordIds.{Version, place}
use Rattle.table_rule.specs.Views.{SeatView, known_at}
use Rattle.std.specs.List.{Contains}
use Rattle.table_rule.specs.LogWords.{mark_of_words}
use Rattle.table_rule.specs.LogChanges.{log_knowing, with_seen_mark}
use Rattle.table_rule.proofs.LogLoads.{sees_mark}
use Rattle.node_table.specs.TableStates.{TableState}
use Rattle.node_table.proofs.StoreSteps.{rest_step}
use Rattle.node_table.proofs.log_steps.see_mark.Goals as goal

pub load_as-requires-clause-may : goal.load_as-requires-clause-may
load_as-requires-clause-may c =
    let p = c.args.table.now.plan in let r = c.requires in let v = c.args.seat.now.view in
    record {
      word_id = Version c.args.version 7;
      outside = (r.there.1, omega arith);
      there =
          c.version-place.ensures
          ∙ ap (λ (q : Layout). place q (Version c.args.version 7))
          (c.table.invariant.1 ∙ ap (λ (t : TableState). t.plan) c.table.view_is);
      may = λ seat. rest_step p seat v (Version c.args.version 7) (λ (k : ℕ). k)
          (λ (k : ℕ) (w : SeatView).
          (w ≡ with_seen_mark (log_knowing v (Version c.args.version 7) k)
          (mark_of_words c.args.version c.args.at k))
          × Contains w.log.seen.marks (mark_of_words c.args.version c.args.at k)
          × ((n : ℕ) → known_at (Version c.args.version 7) v.log.words ≡ Some n → k
          ≡ n))
          (sees_mark p seat v c.args.version c.args.at r.turn.sees.turn r.there.0 r.marked);
    }

pub load_as-requires-clause-behind : goal.load_as-requires-clause-behind
load_as-requires-clause-behind c = let e = c.version-place.ensures in omega arith
