-- Where a half of a block begins, moved by an offset.
use Rattle.std.proofs.Common.{◌≡◌, ℕ, ◌+◌, ◌-◌, ◌*◌, ◌/◌, ◌%◌, ◌<◌, ◌≤◌, arith, add-one, ◌∙◌, ap}
use Rattle.std.proofs.Math.Nat.{mul-add-div_right, mul-add-mod_self_right, mod-eq_of_lt}
use Rattle.std.proofs.lemmas.Nat.{div-mul-add}
use Rattle.vw_cell.specs.Places.{block_side}
use Rattle.vw_cell.proofs.Halves.{block_side-suc}

-- a block is twice as wide as its octants
pub side_twice : (level : ℕ) → block_side (level + 1) ≡ 2 * block_side level
side_twice level = ap block_side (add-one level) ∙ block_side-suc level

-- a place below `side` lies in the block of its half, and one from there on in the next
pub step_near : (half side offset : ℕ) → offset < side
    → ((half * side + offset) / side ≡ half) × ((half * side + offset) % side ≡ offset)
step_near half side offset lt =
    (div-mul-add half side offset lt, mul-add-mod_self_right half side offset ∙ mod-eq_of_lt lt)

pub step_far : (half side offset : ℕ) → side ≤ offset → offset < 2 * side
    → ((half * side + offset) / side ≡ half + 1) × ((half * side + offset) % side ≡ offset - side)
step_far half side offset le lt =
    let e : offset ≡ 1 * side + (offset - side) = omega (arith, le) in
    let low : offset - side < side = omega (arith, le, lt) in
    let pos : 0 < side = omega (arith, le, lt) in (
      mul-add-div_right pos half offset
          ∙ ap (λ (n : ℕ). half + n)
          (ap (λ (n : ℕ). n / side) e ∙ div-mul-add 1 side (offset - side) low),
      mul-add-mod_self_right half side offset
          ∙ (ap (λ (n : ℕ). n % side) e
          ∙ (mul-add-mod_self_right 1 side (offset - side) ∙ mod-eq_of_lt low)),
    )
