use Rattle.std.proofs.Common.{refl, ◌∙◌, arith}
use Rattle.node_words.proofs.HeldLaws.{same_on}
use Rattle.tests_table.proofs.Giving.{same_itself, still_few}
use Rattle.tests_table.proofs.nodes.make_often.Goals as goal

pub loop-k-init : goal.loop-k-init
loop-k-init g c = (c.requires.of, c.requires.idle, same_itself _, refl)

pub comes_over-told-requires-clause-room : goal.comes_over-told-requires-clause-room
comes_over-told-requires-clause-room g c =
    still_few _ _ 3499 c.loop-k.invariant.2 (let le = c.requires.room in omega arith)

pub loop-k-preserved : goal.loop-k-preserved
loop-k-preserved g c =
    let e = c.comes_over-told.ensures in
    (e.of, e.idle, same_on _ _ _ c.loop-k.invariant.2 e.held, e.log ∙ c.loop-k.invariant.3)
