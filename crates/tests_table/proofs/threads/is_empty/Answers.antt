use Rattle.std.proofs.Common.{refl, ◌∙◌, arith}
use Rattle.node_words.proofs.HeldLaws.{same_on}
use Rattle.tests_table.proofs.Giving.{same_itself, still_few}
use Rattle.tests_table.proofs.threads.is_empty.Goals as goal

pub loop-bits-init : goal.loop-bits-init
loop-bits-init g c = (c.requires.of, c.requires.idle, same_itself _, refl)

pub comes_and_goes-requires-clause-room : goal.comes_and_goes-requires-clause-room
comes_and_goes-requires-clause-room g c =
    still_few _ _ 3999 c.loop-bits.invariant.2 (let le = c.requires.room in omega arith)

pub loop-bits-preserved : goal.loop-bits-preserved
loop-bits-preserved g c =
    let e = c.comes_and_goes.ensures in
    (e.of, e.idle, same_on _ _ _ c.loop-bits.invariant.2 e.held, e.log ∙ c.loop-bits.invariant.3)
