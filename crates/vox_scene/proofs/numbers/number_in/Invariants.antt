use Rattle.std.proofs.Common.{◌≡◌, ◌<◌, ◌^◌, drop}
use Rattle.vox_scene.specs.Numbers.{digits_onto}
use Rattle.vox_scene.proofs.numbers.number_in.Given as goal

abbrev pub invariant-loop-b : goal.invariant-loop-b
invariant-loop-b l =
    (digits_onto l.n (drop l.b-index l.text) ≡ digits_onto 0 l.text) × (l.n < 10 ^ l.b-index)
