use Rattle.std.proofs.Common.{◌+◌, Bool, arith, length, sym, subst}
use Rattle.vw_cell.specs.Counts.{cell_at}
use Rattle.extract.specs.Listing.{voxel_if}
use Rattle.extract.specs.Layers.{HasRoom, AppendsVoxels, bits_show}
use Rattle.extract.proofs.ListingLaws.{no_bits, none_joined, appends_one, room_one}
use Rattle.extract.proofs.rows.run_in.Goals as goal

pub returns-then-bits-eq0 : goal.returns-then-bits-eq0
returns-then-bits-eq0 c =
    no_bits c.args.bits c.args.n c.args.at c.args.to c.args.into.now (omega arith)

pub loop-p-init : goal.loop-p-init
loop-p-init c = none_joined _ c.args.into.now

pub push_if-requires-clause-room : goal.push_if-requires-clause-room
push_if-requires-clause-room c =
    subst (λ (v : Bool). HasRoom c.loop-p.into
    (length (voxel_if v (c.args.to.x + c.loop-p.p) c.args.to.y c.args.to.z)))
    (sym c.leaf_has-set.ensures)
    (room_one c.loop-p.p c.args.n
    (λ p. voxel_if (bits_show c.args.bits (cell_at (c.args.at.x + p) c.args.at.y c.args.at.z))
    (c.args.to.x + p) c.args.to.y c.args.to.z) c.args.into.now c.loop-p.into c.loop-p-test.true c.requires.room c.loop-p.invariant)

pub loop-p-preserved : goal.loop-p-preserved
loop-p-preserved c =
    appends_one c.loop-p.p
    (λ p. voxel_if (bits_show c.args.bits (cell_at (c.args.at.x + p) c.args.at.y c.args.at.z))
    (c.args.to.x + p) c.args.to.y c.args.to.z) c.args.into.now c.loop-p.into c.push_if.new.into c.loop-p.invariant
    (subst (λ (v : Bool). AppendsVoxels
    (voxel_if v (c.args.to.x + c.loop-p.p) c.args.to.y c.args.to.z) c.loop-p.into c.push_if.new.into) c.leaf_has-set.ensures c.push_if.ensures)
