-- The numbers that a load is made of: one sequence, which the load's number begins.
use Rattle.std.specs.Prelude.{ℕ, zero, suc, ◌+◌, ◌*◌, ◌/◌, ◌%◌, ◌^◌}

-- the state behind one more draw
unfoldable pub stepped : ℕ → ℕ
stepped g = (g * 6364136223846793005 + 1442695040888963407) % 2 ^ 64

-- the state behind k draws from the state g on
unfoldable pub state_after : ℕ → ℕ → ℕ
state_after g zero = g
state_after g (suc k) = stepped (state_after g k)

-- the next draw from the state g on, as a number below m: the state behind it, without its 33
-- lowest bits
abbrev pub draw_from : ℕ → ℕ → ℕ
draw_from g m = stepped g / 2 ^ 33 % m

-- draw k from the state g on, counted from 0
abbrev pub draw_below : ℕ → ℕ → ℕ → ℕ
draw_below g k m = draw_from (state_after g k) m
