use Rattle.std.proofs.Common.{◌-◌, ◌^◌}
use Rattle.colour.proofs.EditLaws.{edits_as}
use Rattle.colour.proofs.CubeLaws.{moved_copy}
use Rattle.colour.proofs.copies.copy_part.Goals as goal

pub returns-clause-made : goal.returns-clause-made
returns-clause-made g c =
    edits_as _ _ c.args.side _ _ _ _
    (moved_copy (2 ^
    (c.args.side - 2)) _ c.plane_at-corner.result c.plus.result c.plus-2.result c.args.b c.args.to
    c.plane_at-corner.ensures.value c.plus.ensures c.plus-2.ensures c.requires.to)
    c.rebuild_copy.ensures.made
