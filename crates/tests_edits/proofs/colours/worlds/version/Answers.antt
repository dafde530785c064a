use Rattle.edit_walk.proofs.OfCells.WorldLaws.{root_shown}
use Rattle.testkit.proofs.OfWorlds.RootLaws.{only_root, only_number, rebuilt_two, same_only}
use Rattle.std.proofs.Common.{arith}
use Rattle.tests_edits.proofs.colours.worlds.version.Goals as goal

pub rebuild_tint-requires-clause-may : goal.rebuild_tint-requires-clause-may
rebuild_tint-requires-clause-may g c = record {
  side_is = c.requires.side;
  root_is = only_root _ c.args.side _ c.requires.only;
  room = omega (arith, only_number _ _ _ c.requires.only);
}

pub returns-in-Ok-clause-ok : goal.returns-in-Ok-clause-ok
returns-in-Ok-clause-ok g c =
    let (before, w) = root_shown _ c.args.side _ (only_root _ c.args.side _ c.requires.only) in
    rebuilt_two _ _ c.args.side _ _ _ c.requires.only (c.in-Ok.ensures.made.came before w)

pub returns-in-Ok-clause-plan : goal.returns-in-Ok-clause-plan
returns-in-Ok-clause-plan g c =
    let (before, w) = root_shown _ c.args.side _ (only_root _ c.args.side _ c.requires.only) in
    (c.in-Ok.ensures.made.grown before w).plan

pub returns-in-Err-clause-refused : goal.returns-in-Err-clause-refused
returns-in-Err-clause-refused g c =
    let (before, w) = root_shown _ c.args.side _ (only_root _ c.args.side _ c.requires.only) in
    same_only _ _ _ _ (c.in-Err.ensures.made before w).held c.requires.only

pub returns-in-Err-clause-plan : goal.returns-in-Err-clause-plan
returns-in-Err-clause-plan g c =
    let (before, w) = root_shown _ c.args.side _ (only_root _ c.args.side _ c.requires.only) in
    (c.in-Err.ensures.made before w).plan
