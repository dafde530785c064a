use Rattle.std.proofs.Common.{arith}
use Rattle.tests_versions.proofs.HoldingLaws.{few_held, full_holds, idle_spare, leaf_holds, none_holds, same_nothing}
use Rattle.tests_versions.proofs.uniform.uniform_root.Goals as goal

pub returns-then-not-full : goal.returns-then-not-full
returns-then-not-full g c =
    none_holds _ _ c.requires.spare.of (idle_spare _ _ c.requires.spare) c.requires.side
    (same_nothing _ c.requires.spare.held)

pub returns-in-Ok : goal.returns-in-Ok
returns-in-Ok g c =
    leaf_holds _ _ _ c.in-Ok.share c.requires.spare c.requires.side c.in-Ok.ensures.taken
    c.leaf.ensures.of

pub returns-in-Err : goal.returns-in-Err
returns-in-Err g c =
    full_holds _ _ _ _ c.requires.spare c.requires.side c.in-Err.ensures.taken c.leaf.ensures.of

pub leaf-requires-clause-room : goal.leaf-requires-clause-room
leaf-requires-clause-room g c = let few = few_held _ c.requires.spare.held in omega arith
