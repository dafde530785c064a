use Rattle.std.proofs.Common.{◌≡◌, ℕ, ap, ◌∙◌, arith}
use Rattle.node_words.specs.Plans.{Layout}
use Rattle.core_laws.specs.places.WordIds.{Used, place}
use Rattle.table_rule.specs.Views.{SeatView}
use Rattle.table_rule.specs.Changes.{knowing}
use Rattle.table_rule.proofs.UsedSlots.{raises_used}
use Rattle.node_table.specs.TableStates.{TableState, bucket_named}
use Rattle.node_table.proofs.StoreSteps.{rest_step}
use Rattle.node_table.proofs.steps.raise_used.Goals as goal

pub store_as-requires-clause-may : goal.store_as-requires-clause-may
store_as-requires-clause-may c =
    let p = c.args.table.now.plan in let r = c.requires in let v = c.args.seat.now.view in
    record {
      word_id = Used c.args.level c.args.bucket;
      outside = r.turn.there;
      there =
          c.used-place.ensures
          ∙ ap (λ (q : Layout). place q (Used c.args.level c.args.bucket))
          (c.table.invariant.1 ∙ ap (λ (t : TableState). t.plan) c.table.view_is);
      may = λ seat. rest_step p seat v (Used c.args.level c.args.bucket) (λ (k : ℕ). c.args.more)
          (λ (k : ℕ) (w : SeatView). w ≡ knowing v (Used c.args.level c.args.bucket) c.args.more)
          (raises_used p seat v
          (bucket_named c.args.level c.args.bucket) c.args.used c.args.more r.turn.turn r.known r.more);
    }

pub store_as-requires-clause-behind : goal.store_as-requires-clause-behind
store_as-requires-clause-behind c = let e = c.used-place.ensures in omega arith
