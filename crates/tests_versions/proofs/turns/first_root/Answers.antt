use Rattle.std.proofs.Common.{arith}
use Rattle.tests_versions.proofs.HoldingLaws.{few_held, full_holds, leaf_holds}
use Rattle.tests_versions.proofs.turns.first_root.Goals as goal

pub returns-in-Ok : goal.returns-in-Ok
returns-in-Ok g c =
    leaf_holds _ _ _ c.in-Ok.share c.requires.spare c.requires.side c.in-Ok.ensures.taken
    c.leaf.ensures.of

pub returns-in-Err : goal.returns-in-Err
returns-in-Err g c =
    full_holds _ _ _ _ c.requires.spare c.requires.side c.in-Err.ensures.taken c.leaf.ensures.of

pub leaf-requires-clause-room : goal.leaf-requires-clause-room
leaf-requires-clause-room g c = let few = few_held _ c.requires.spare.held in omega arith
