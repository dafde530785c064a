use Rattle.std.proofs.Common.{◌≡◌, ◌+◌, ℕ, arith, sym, subst}
use Rattle.extract.specs.Listing.{voxels_joined}
use Rattle.extract.specs.Layers.{AppendsVoxels}
use Rattle.extract.specs.Surface.{bare_sides_of, layer_of_sides}
use Rattle.extract.specs.BareLayers.{HoldsSlab}
use Rattle.extract.proofs.ListingLaws.{none_joined, appends_one, room_one}
use Rattle.extract.proofs.surfaces.layers_in_room.Goals as goal

pub loop-k-init : goal.loop-k-init
loop-k-init c = record { appended = λ side cells held. none_joined _ c.args.into.now }

pub layer_in_room-requires-clause-room : goal.layer_in_room-requires-clause-room
layer_in_room-requires-clause-room c =
    let side = c.requires.room.0 in
    let cells = c.requires.room.1 in
    let held = c.requires.room.2 in (
      side,
      cells,
      subst (λ (q : ℕ). HoldsSlab c.args.slab.now c.args.b q side cells)
          (sym (c.requires.layer c.loop-k.k c.loop-k-test.true)) held,
      room_one c.loop-k.k c.args.n
          (λ k. layer_of_sides (bare_sides_of side cells) c.args.b
          (c.args.z + k)) c.args.into.now c.loop-k.into c.loop-k-test.true c.requires.room.3
          (c.loop-k.invariant.appended side cells held),
    )

pub loop-k-preserved : goal.loop-k-preserved
loop-k-preserved c = record {
  appended = λ side cells held. appends_one c.loop-k.k
      (λ k. layer_of_sides (bare_sides_of side cells) c.args.b
      (c.args.z + k)) c.args.into.now c.loop-k.into c.layer_in_room.new.into
      (c.loop-k.invariant.appended side cells held)
      (c.layer_in_room.ensures.appended side cells
      (subst (λ (q : ℕ). HoldsSlab c.args.slab.now c.args.b q side cells)
      (sym (c.requires.layer c.loop-k.k c.loop-k-test.true)) held));
}

pub returns : goal.returns
returns c =
    let all : c.loop-k.k ≡ c.args.n = omega arith in
    record {
      appended = λ side cells held. subst
          (λ (n : ℕ). AppendsVoxels
          (voxels_joined n
          (λ k. layer_of_sides (bare_sides_of side cells) c.args.b
          (c.args.z + k))) c.args.into.now c.loop-k.into) all
          (c.loop-k.invariant.appended side cells held);
    }
