use Rattle.std.proofs.Common.{refl}
use Rattle.edit_walk.proofs.OfCells.WorldLaws.{blocks_some}
use Rattle.colour.proofs.StampBlocks.{none_inked, all_told}
use Rattle.colour.proofs.stamps.InkTaskTask.whole.Goals as goal

pub is_missed-requires : goal.is_missed-requires
is_missed-requires c = let (base, cells, m) = c.requires.task in m.small

pub returns-then-is_missed-clause-whole : goal.returns-then-is_missed-clause-whole
returns-then-is_missed-clause-whole c base cells m =
    none_inked _ _ _ _ _ _ base c.args.level cells m _ c.old_whole.ensures
    (c.if-is_missed.ensures refl)

pub returns-then-is_missed-clause-mixed : goal.returns-then-is_missed-clause-mixed
returns-then-is_missed-clause-mixed c e h = blocks_some c.args.level h

pub told-requires-clause-level : goal.told-requires-clause-level
told-requires-clause-level c = let (base, cells, m) = c.requires.task in m.small

pub told-requires-clause-plane : goal.told-requires-clause-plane
told-requires-clause-plane c = let (base, cells, m) = c.requires.task in m.some

pub cleared-requires-clause-level : goal.cleared-requires-clause-level
cleared-requires-clause-level c = let (base, cells, m) = c.requires.task in m.small

pub returns-in-Unset-clause-whole : goal.returns-in-Unset-clause-whole
returns-in-Unset-clause-whole c base cells m = c.cleared.ensures base cells m

pub returns-in-Unset-clause-mixed : goal.returns-in-Unset-clause-mixed
returns-in-Unset-clause-mixed c e h = blocks_some c.args.level h

pub returns-in-Set-clause-whole : goal.returns-in-Set-clause-whole
returns-in-Set-clause-whole c base cells m =
    all_told _ _ _ _ _ _ base c.args.level cells m (c.in-Set.ensures.set refl)

pub returns-in-Either-clause-mixed : goal.returns-in-Either-clause-mixed
returns-in-Either-clause-mixed c e h = blocks_some c.args.level h
