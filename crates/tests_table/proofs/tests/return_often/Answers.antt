use Rattle.std.proofs.Common.{refl, ◌∙◌, arith}
use Rattle.node_words.proofs.HeldLaws.{same_on}
use Rattle.tests_table.proofs.Giving.{same_itself, still_few}
use Rattle.tests_table.proofs.tests.return_often.Goals as goal

pub loop-init : goal.loop-init
loop-init g c = (c.requires.of, c.requires.idle, same_itself _, refl)

pub comes_back-full-requires-clause-room : goal.comes_back-full-requires-clause-room
comes_back-full-requires-clause-room g c =
    still_few _ _ 3999 c.loop.invariant.2 (let le = c.requires.room in omega arith)

pub loop-preserved : goal.loop-preserved
loop-preserved g c =
    let e = c.comes_back-full.ensures in
    (e.of, e.idle, same_on _ _ _ c.loop.invariant.2 e.held, e.log ∙ c.loop.invariant.3)
