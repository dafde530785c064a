use Rattle.std.proofs.Common.{◌≡◌, ℕ, arith, subst}
use Rattle.extract.specs.Listing.{voxels_joined}
use Rattle.extract.specs.Layers.{AppendsVoxels}
use Rattle.extract.specs.Surface.{bare_sides_of, row_of_sides}
use Rattle.extract.proofs.ListingLaws.{none_joined, appends_one, room_one}
use Rattle.extract.proofs.surfaces.layer_in_room.Goals as goal

pub loop-y-init : goal.loop-y-init
loop-y-init c = record { appended = λ side cells held. none_joined _ c.args.into.now }

pub row_in_room-requires-clause-room : goal.row_in_room-requires-clause-room
row_in_room-requires-clause-room c =
    let side = c.requires.room.0 in
    let cells = c.requires.room.1 in
    let held = c.requires.room.2 in (
      side,
      cells,
      held,
      room_one c.loop-y.y c.args.b.size.y
          (λ y. row_of_sides (bare_sides_of side cells) c.args.b c.args.z y c.args.b.size.x)
          c.args.into.now c.loop-y.into c.loop-y-test.true c.requires.room.3
          (c.loop-y.invariant.appended side cells held),
    )

pub loop-y-preserved : goal.loop-y-preserved
loop-y-preserved c = record {
  appended = λ side cells held. appends_one c.loop-y.y
      (λ y. row_of_sides (bare_sides_of side cells) c.args.b c.args.z y c.args.b.size.x)
      c.args.into.now c.loop-y.into c.row_in_room.new.into
      (c.loop-y.invariant.appended side cells held)
      (c.row_in_room.ensures.appended side cells held);
}

pub returns : goal.returns
returns c =
    let all : c.loop-y.y ≡ c.args.b.size.y = omega arith in
    record {
      appended = λ side cells held. subst
          (λ (n : ℕ). AppendsVoxels
          (voxels_joined n
          (λ y. row_of_sides (bare_sides_of side cells) c.args.b c.args.z y c.args.b.size.x))
          c.args.into.now c.loop-y.into) all (c.loop-y.invariant.appended side cells held);
    }
