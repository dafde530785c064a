use Rattle.std.proofs.Common.{rules, ◌≡◌, sym, ap, subst}
use Rattle.node_words.specs.declared.shapes.names.Name.{Name}
use Rattle.node_words.specs.Held.{IsHeld}
use Rattle.node_table.specs.WordIds.{Turn, IsWordId}
use Rattle.table_rule.specs.Views.{SeatView}
use Rattle.node_table.specs.declared.lowering.Lowering.TheVariants.{Freed}
use Rattle.tests_table.proofs.Giving.{held_bucket, gone_again, as_left}
use Rattle.tests_table.proofs.calls.give.Goals as goal

pub turn-turn-requires-clause-there : goal.turn-turn-requires-clause-there
turn-turn-requires-clause-there g c =
    subst (λ (n : Name). IsWordId c.args.table.now.plan (Turn n.level n.bucket))
    (sym c.name-n.ensures)
    (held_bucket c.args.table.now c.args.pass.now c.args.share c.requires.of c.tell.ensures
    c.requires.held)

pub returns-in-Freed-clause-given : goal.returns-in-Freed-clause-given
returns-in-Freed-clause-given g c = λ t held root.
    (let v = c.turn-turn.result.pass.now.view in
    let same : v.held ≡ c.args.pass.now.view.held =
    ap (λ (x : SeatView). x.held) c.turn-turn.ensures.view in
    as_left _ c.lower.new.self.1.0.view.held t c.args.pass.now.view.held (search rules)
    (gone_again c.args.pass.now.view v c.lower.new.self.1.0.view t c.args.share
    (Freed c.in-Freed.children) c.tell.ensures same held root c.requires.leaf
    (c.in-Freed.ensures.lowered t (subst (λ ts. IsHeld ts t) (sym same) held) root)))
