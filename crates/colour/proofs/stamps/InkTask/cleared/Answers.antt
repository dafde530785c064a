use Rattle.std.proofs.Common.{refl, rules}
use Rattle.colour.proofs.StampBlocks.{none_inked, nothing_kept, all_cleared}
use Rattle.colour.proofs.stamps.InkTask.cleared.Goals as goal

pub returns-then-is_none : goal.returns-then-is_none
returns-then-is_none c base cells m =
    nothing_kept _ _ _ _ _ _ base c.args.level cells m (search rules) c.requires.unset

pub returns-in-Unset : goal.returns-in-Unset
returns-in-Unset c base cells m =
    none_inked _ _ _ _ _ _ base c.args.level cells m _ c.old_whole.ensures
    (c.in-Unset.ensures.unset refl)

pub returns-in-Set : goal.returns-in-Set
returns-in-Set c base cells m =
    all_cleared _ _ _ _ _ _ base c.args.level cells m (c.in-Set.ensures.set refl) c.requires.unset
