use Rattle.std.proofs.Common.{ℕ, ap, ◌∙◌, arith}
use Rattle.node_words.specs.Plans.{Layout}
use Rattle.core_laws.specs.places.WordIds.{Used, place}
use Rattle.table_rule.specs.Views.{SeatView}
use Rattle.table_rule.specs.Changes.{Counted}
use Rattle.table_rule.proofs.UsedSlots.{counts_used}
use Rattle.node_table.specs.TableStates.{TableState, bucket_named}
use Rattle.node_table.proofs.StoreSteps.{rest_step}
use Rattle.node_table.proofs.UsedLaws.{learn_counted}
use Rattle.node_table.proofs.steps.count_used.Goals as goal

pub load_as-requires-clause-may : goal.load_as-requires-clause-may
load_as-requires-clause-may c =
    let p = c.args.table.now.plan in let r = c.requires in let v = c.args.seat.now.view in
    let b = bucket_named c.args.level c.args.bucket in
    record {
      word_id = Used c.args.level c.args.bucket;
      outside = r.turn.there;
      there =
          c.used-at.ensures
          ∙ ap (λ (q : Layout). place q (Used c.args.level c.args.bucket))
          (c.table.invariant.1 ∙ ap (λ (t : TableState). t.plan) c.table.view_is);
      may = λ seat. rest_step p seat v (Used c.args.level c.args.bucket) (λ (k : ℕ). k)
          (λ (k : ℕ) (w : SeatView). Counted v b p.cap k w) (counts_used p seat v b r.turn.turn);
    }

pub load_as-requires-clause-behind : goal.load_as-requires-clause-behind
load_as-requires-clause-behind c = let e = c.used-at.ensures in omega arith

pub returns-clause-learns : goal.returns-clause-learns
returns-clause-learns c = learn_counted _ _ _ _ _ c.load_as.ensures.same c.load_as.ensures.tells
