use Rattle.std.proofs.Common.{◌+◌, ◌/◌, ◌∙◌, ap, refl, arith}
use Rattle.history_model.specs.Planes.{tells}
use Rattle.history_model.proofs.PartLaws.{stamp_clears, stamp_sets}
use Rattle.history_model.proofs.parts.stamped.Goals as goal

pub returns-then-k-eq1-clause-made : goal.returns-then-k-eq1-clause-made
returns-then-k-eq1-clause-made c = λ all is.
    stamp_clears all c.args.k c.args.p c.put.result c.if-k-eq1.true
    (c.put.ensures.made (λ q. tells 0 (all q)) (ap (tells 0) is))

pub returns-clause-made : goal.returns-clause-made
returns-clause-made c = λ all is.
    stamp_sets all c.args.k ((c.args.k + 1) / 2) c.args.p c.put-2.result
    (omega (arith, c.if-k-eq1.false)) refl
    (c.put-2.ensures.made (λ q. tells ((c.args.k + 1) / 2) (all q))
    (c.tells.ensures ∙ ap (tells ((c.args.k + 1) / 2)) is))
