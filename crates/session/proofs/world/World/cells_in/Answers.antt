use Rattle.std.proofs.Common.{refl, rules}
use Rattle.session.proofs.AttemptLaws.{rests_lent}
use Rattle.session.proofs.CellLaws.{pinned_cells}
use Rattle.session.proofs.ForgetLaws.{knows_back}
use Rattle.session.proofs.PinLaws.{pinned_walk}
use Rattle.session.proofs.world.World.cells_in.Goals as goal

pub cells_of_root-listed-requires-clause-root : goal.cells_of_root-listed-requires-clause-root
cells_of_root-listed-requires-clause-root c =
    pinned_walk c.args.self.now.table c.args.s.now c.args.p.now _ (search rules) c.requires.rest
    c.requires.pinned

pub returns-clause-voxels : goal.returns-clause-voxels
returns-clause-voxels c =
    pinned_cells c.args.self.now.table c.args.s.now c.args.p.now c.requires.rest c.requires.pinned
    c.args.self.now.tint c.cells_of_root-listed.result c.args.part c.requires.part.inside c.args.into.now.items
    c.cells_of_root-listed.new.into.items _ (search rules) c.cells_of_root-listed.ensures.voxels

pub returns-clause-knows : goal.returns-clause-knows
returns-clause-knows c =
    knows_back c.args.self.now.table c.cells_of_root-listed.new.s
    (rests_lent c.args.self.now.table c.args.self.now.table c.args.s.now c.cells_of_root-listed.new.s refl
    c.requires.rest c.cells_of_root-listed.ensures.read.stays) c.tell.ensures
