use Rattle.std.proofs.Common.{◌+◌, ◌*◌, ◌/◌, ◌%◌, ◌^◌, ℕ, length, subst, sym}
use Rattle.extract.specs.Layers.{HasRoom, AppendsVoxels}
use Rattle.extract.specs.Surface.{voxel_of_sides}
use Rattle.extract.proofs.ListingLaws.{none_joined, appends_one, room_one}
use Rattle.extract.proofs.surfaces.sides_in_room.Goals as goal

pub loop-p-init : goal.loop-p-init
loop-p-init c = none_joined _ c.args.into.now

pub push_sides-requires-clause-room : goal.push_sides-requires-clause-room
push_sides-requires-clause-room c =
    let to = c.args.to in
    subst (λ (s : ℕ). HasRoom c.loop-p.into
    (length (voxel_of_sides s (to.x + c.loop-p.p) to.y to.z))) (sym c.sides_in-sides.ensures)
    (room_one c.loop-p.p c.args.n
    (λ p. voxel_of_sides (c.args.row / 2 ^ (8 * (c.args.x + p)) % 256) (to.x + p) to.y to.z)
    c.args.into.now c.loop-p.into c.loop-p-test.true c.requires.room c.loop-p.invariant)

pub loop-p-preserved : goal.loop-p-preserved
loop-p-preserved c =
    let to = c.args.to in
    appends_one c.loop-p.p
    (λ p. voxel_of_sides (c.args.row / 2 ^ (8 * (c.args.x + p)) % 256) (to.x + p) to.y to.z)
    c.args.into.now c.loop-p.into c.push_sides.new.into c.loop-p.invariant
    (subst (λ (s : ℕ). AppendsVoxels (voxel_of_sides s (to.x + c.loop-p.p) to.y to.z) c.loop-p.into
    c.push_sides.new.into) c.sides_in-sides.ensures c.push_sides.ensures)
