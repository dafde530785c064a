-- The edits of a load lie in their regions.
use Rattle.std.proofs.Common.{◌≡◌, ℕ, zero, suc, ◌+◌, ◌*◌, ◌/◌, ◌^◌, ◌<◌, ◌≤◌, refl, arith, ◌⊎◌, inl, inr}
use Rattle.std.specs.Prelude.{All}
use Rattle.std.proofs.Math.Nat.{mod-lt}
use Rattle.std.proofs.lemmas.Nat.{mul-le}
use Rattle.std.proofs.lemmas.Bool.{cases_order}
use Rattle.std.proofs.lemmas.List.Elements.{All-nil, All-push}
use Rattle.std.specs.Int.{abs_diff}
use Rattle.gen_load.specs.Draws.{stepped, state_after, draw_from, draw_below}
use Rattle.gen_load.specs.Loads.{box_from, ball_from, place_from, edit_of, edit_from, line_state, edits_from}
use Rattle.gen_load.specs.Regions.{BoxLiesIn, BallLiesIn, EditLiesIn, stamped_box}

draw_lt : (g m : ℕ) → zero < m → draw_from g m < m
draw_lt g m some = mod-lt (stepped g / 2 ^ 33) some

box_in : (x px py pz a b c : ℕ) → x ≤ 192 → px + a ≤ 64 → py + b ≤ 256 → pz + c ≤ 256 → 1 ≤ a
    → 1 ≤ b → 1 ≤ c
    → BoxLiesIn x
    (record {
      at = record { x = x + px; y = py; z = pz };
      size =
          record { x = a; y = b; z = c };
    })
box_in x px py pz a b c low of_x of_y of_z some_a some_b some_c = record {
  fits = record { x = (some_a, omega (arith, low, of_x)); y = (some_b, of_y); z = (some_c, of_z) };
  each = λ d d_in. record {
    world = record {
      x = omega (arith, low, of_x, d_in.x);
      y = omega
          (arith, of_y, d_in.y);
      z = omega (arith, of_z, d_in.z);
    };
    from = omega (arith, d_in.x);
    to = omega (arith, of_x, d_in.x);
  };
}

-- a number whose square is at most that of 7
seven : (a r rest : ℕ) → r ≤ 7 → a * a + rest ≤ r * r → a ≤ 7
seven a r rest small near = pick (cases_order a 8) where
  most : r * r ≤ 7 * 7
  most = mul-le r r 7 7 small small

  at_8 : 8 ≤ a → ⊥
  at_8 more = let least : 8 * 8 ≤ a * a = mul-le 8 8 a a more more in omega
      (arith, most, least, near)

  pick : (a ≡ 8) ⊎ ((a < 8) ⊎ (8 < a)) → a ≤ 7
  pick (inl same) = absurd (at_8 (omega (arith, same)))
  pick (inr (inl less)) = omega (arith, less)
  pick (inr (inr more)) = absurd (at_8 (omega (arith, more)))

ball_in : (x px py pz r : ℕ) → x ≤ 192 → px < 48 → py < 240 → pz < 240 → r < 8
    → BallLiesIn x
    (record { centre = record { x = x + 8 + px; y = 8 + py; z = 8 + pz }; radius = r })
ball_in x px py pz r low of_x of_y of_z small = record {
  centre = record {
    x = omega (arith, low, of_x);
    y = omega (arith, of_y);
    z = omega
        (arith, of_z);
  };
  radius = omega (arith, small);
  each = λ d d_in.
      let dx : ℕ = abs_diff (x + 8 + px) d.x in
      let dy : ℕ = abs_diff (8 + py) d.y in
      let dz : ℕ = abs_diff (8 + pz) d.z in
      let near : dx * dx + dy * dy + dz * dz ≤ r * r = d_in.near in
      let x_near : dx ≤ 7 =
      seven dx r (dy * dy + dz * dz) (omega (arith, small)) (omega (arith, near)) in
      let y_near : dy ≤ 7 =
      seven dy r (dx * dx + dz * dz) (omega (arith, small)) (omega (arith, near)) in
      let z_near : dz ≤ 7 =
      seven dz r (dx * dx + dy * dy) (omega (arith, small)) (omega (arith, near)) in
      record {
        world = record {
          x = omega (arith, low, of_x, x_near);
          y = omega
              (arith, of_y, y_near);
          z = omega (arith, of_z, z_near);
        };
        from = omega (arith, x_near);
        to = omega (arith, of_x, x_near);
      };
}

box_lies : (g x : ℕ) → x ≤ 192 → BoxLiesIn x (box_from g x)
box_lies g x low =
    let px = draw_lt (state_after g 0) 48 (omega arith) in
    let py = draw_lt (state_after g 1) 240 (omega arith) in
    let pz = draw_lt (state_after g 2) 240 (omega arith) in
    let a = draw_lt (state_after g 3) 16 (omega arith) in
    let b = draw_lt (state_after g 4) 16 (omega arith) in
    let c = draw_lt (state_after g 5) 16 (omega arith) in
    box_in x (draw_below g 0 48) (draw_below g 1 240) (draw_below g 2 240) (1 + draw_below g 3 16)
    (1 + draw_below g 4 16) (1 + draw_below g 5 16) low
    (omega (arith, px, a)) (omega (arith, py, b)) (omega (arith, pz, c)) (omega arith)
    (omega arith) (omega arith)

ball_lies : (g x : ℕ) → x ≤ 192 → BallLiesIn x (ball_from g x)
ball_lies g x low =
    ball_in x (draw_below g 0 48) (draw_below g 1 240) (draw_below g 2 240) (draw_below g 3 8) low
    (draw_lt (state_after g 0) 48 (omega arith)) (draw_lt (state_after g 1) 240 (omega arith))
    (draw_lt (state_after g 2) 240 (omega arith)) (draw_lt (state_after g 3) 8 (omega arith))

stamp_lies : (g x : ℕ) → x ≤ 192 → BoxLiesIn x (stamped_box (place_from g x))
stamp_lies g x low =
    let px = draw_lt (state_after g 0) 32 (omega arith) in
    let py = draw_lt (state_after g 1) 224 (omega arith) in
    let pz = draw_lt (state_after g 2) 224 (omega arith) in
    box_in x (draw_below g 0 32) (draw_below g 1 224) (draw_below g 2 224) 32 32 32 low
    (omega (arith, px)) (omega (arith, py)) (omega (arith, pz)) (omega arith) (omega arith)
    (omega arith)

kind_lies : (kind g x : ℕ) → x ≤ 192 → EditLiesIn x (edit_of kind g x)
kind_lies zero g x low = box_lies g x low
kind_lies (suc zero) g x low = box_lies g x low
kind_lies (suc (suc zero)) g x low = ball_lies g x low
kind_lies (suc (suc (suc kind))) g x low = (refl, stamp_lies g x low)

-- every edit of a region lies in it
abbrev pub EditsLieInRegions : Type 0
EditsLieInRegions = (g x k : ℕ) → x ≤ 192 → All (EditLiesIn x) (edits_from g x k)

pub edits_lie_in_regions : EditsLieInRegions
unfolding edits_from
edits_lie_in_regions g x zero low = All-nil (EditLiesIn x)
edits_lie_in_regions g x (suc k) low =
    All-push (EditLiesIn x) (edits_from g x k) (edit_from (line_state g k) x)
    (edits_lie_in_regions g x k low)
    (kind_lies (draw_below (line_state g k) 0 4) (state_after (line_state g k) 1) x low)
