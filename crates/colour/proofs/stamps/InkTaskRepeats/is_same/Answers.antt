use Rattle.std.proofs.Common.{refl, rules}
use Rattle.colour.proofs.StampBlocks.{new_alike, ink_alike}
use Rattle.colour.proofs.stamps.InkTaskRepeats.is_same.Goals as goal

pub returns-then-is_none : goal.returns-then-is_none
returns-then-is_none c e =
    let (level, old, at, place) = c.if-not-same_blocks.ensures refl in
    new_alike _ _ _ _ _ _ _ _ _ _ _ _ level old (search rules) at place
    (c.if-not-same_coverage.ensures refl)

pub returns : goal.returns
returns c e =
    let (level, old, at, place) = c.if-not-same_blocks.ensures refl in
    ink_alike _ _ _ _ _ _ _ _ _ _ _ _ level old at place (c.same_ink.ensures e)
    (c.if-not-same_coverage.ensures refl)
