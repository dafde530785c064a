use Rattle.std.proofs.Common.{◌≡◌, ◌+◌, ℕ, arith, sym, subst}
use Rattle.extract.specs.Listing.{voxels_joined, box_layer}
use Rattle.extract.specs.Layers.{AppendsVoxels, HoldsLayer, leaves_in}
use Rattle.extract.proofs.ListingLaws.{none_joined, appends_one, room_one}
use Rattle.extract.proofs.rows.layers_in.Goals as goal

pub loop-k-init : goal.loop-k-init
loop-k-init c = record { appended = λ cells held. none_joined _ c.args.into.now }

pub layer_in-requires-clause-room : goal.layer_in-requires-clause-room
layer_in-requires-clause-room c =
    let cells = c.requires.room.0 in
    let held = c.requires.room.1 in (
      cells,
      subst (λ (q : ℕ). HoldsLayer c.args.leaves.now c.args.b q (leaves_in c.args.b) cells)
          (sym (c.requires.layer c.loop-k.k c.loop-k-test.true)) held,
      room_one c.loop-k.k c.args.n
          (λ k. box_layer cells c.args.b
          (c.args.z + k)) c.args.into.now c.loop-k.into c.loop-k-test.true c.requires.room.2
          (c.loop-k.invariant.appended cells held),
    )

pub loop-k-preserved : goal.loop-k-preserved
loop-k-preserved c = record {
  appended = λ cells held. appends_one c.loop-k.k
      (λ k. box_layer cells c.args.b
      (c.args.z + k)) c.args.into.now c.loop-k.into c.layer_in.new.into
      (c.loop-k.invariant.appended cells held)
      (c.layer_in.ensures.appended cells
      (subst (λ (q : ℕ). HoldsLayer c.args.leaves.now c.args.b q (leaves_in c.args.b) cells)
      (sym (c.requires.layer c.loop-k.k c.loop-k-test.true)) held));
}

pub returns : goal.returns
returns c =
    let all : c.loop-k.k ≡ c.args.n = omega arith in
    record {
      appended = λ cells held. subst
          (λ (n : ℕ). AppendsVoxels
          (voxels_joined n
          (λ k. box_layer cells c.args.b
          (c.args.z + k))) c.args.into.now c.loop-k.into) all
          (c.loop-k.invariant.appended cells held);
    }
