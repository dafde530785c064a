use Rattle.std.proofs.Common.{◌≡◌, ℕ, arith, subst}
use Rattle.extract.specs.Listing.{voxels_joined, box_row}
use Rattle.extract.specs.Layers.{AppendsVoxels}
use Rattle.extract.proofs.ListingLaws.{none_joined, appends_one, room_one}
use Rattle.extract.proofs.rows.layer_in.Goals as goal

pub loop-y-init : goal.loop-y-init
loop-y-init c = record { appended = λ cells held. none_joined _ c.args.into.now }

pub row_in-requires-clause-room : goal.row_in-requires-clause-room
row_in-requires-clause-room c =
    let cells = c.requires.room.0 in
    let held = c.requires.room.1 in (
      cells,
      held,
      room_one c.loop-y.y c.args.b.size.y
          (λ y. box_row cells c.args.b c.args.z y c.args.b.size.x) c.args.into.now c.loop-y.into c.loop-y-test.true c.requires.room.2 (c.loop-y.invariant.appended cells held),
    )

pub loop-y-preserved : goal.loop-y-preserved
loop-y-preserved c = record {
  appended = λ cells held. appends_one c.loop-y.y
      (λ y. box_row cells c.args.b c.args.z y c.args.b.size.x) c.args.into.now c.loop-y.into c.row_in.new.into (c.loop-y.invariant.appended cells held) (c.row_in.ensures.appended cells held);
}

pub returns : goal.returns
returns c =
    let all : c.loop-y.y ≡ c.args.b.size.y = omega arith in
    record {
      appended = λ cells held. subst
          (λ (n : ℕ). AppendsVoxels
          (voxels_joined n
          (λ y. box_row cells c.args.b c.args.z y c.args.b.size.x)) c.args.into.now c.loop-y.into) all (c.loop-y.invariant.appended cells held);
    }
