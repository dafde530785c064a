use Rattle.edit_walk.proofs.OfCells.WorldLaws.{root_shown}
use Rattle.testkit.proofs.OfWorlds.RootLaws.{only_edit, only_root, edited_two, same_only}
use Rattle.testkit.proofs.worlds.edits.copied.Goals as goal

pub rebuild_copy-requires-clause-may : goal.rebuild_copy-requires-clause-may
rebuild_copy-requires-clause-may g c = only_edit _ c.args.side _ c.requires.side c.requires.only

pub returns-in-Ok-clause-ok : goal.returns-in-Ok-clause-ok
returns-in-Ok-clause-ok g c = edited_two _ _ c.args.side _ _ _ c.requires.only c.in-Ok.ensures.made

pub returns-in-Ok-clause-plan : goal.returns-in-Ok-clause-plan
returns-in-Ok-clause-plan g c =
    let (before, w) = root_shown _ c.args.side _ (only_root _ c.args.side _ c.requires.only) in
    (c.in-Ok.ensures.made before w).grows.plan

pub returns-in-Err-clause-refused : goal.returns-in-Err-clause-refused
returns-in-Err-clause-refused g c =
    let (before, w) = root_shown _ c.args.side _ (only_root _ c.args.side _ c.requires.only) in
    same_only _ _ _ _ (c.in-Err.ensures.made before w).held c.requires.only

pub returns-in-Err-clause-plan : goal.returns-in-Err-clause-plan
returns-in-Err-clause-plan g c =
    let (before, w) = root_shown _ c.args.side _ (only_root _ c.args.side _ c.requires.only) in
    (c.in-Err.ensures.made before w).plan
