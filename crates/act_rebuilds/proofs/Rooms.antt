-- What each act asks of its store at most, and at least.
use Rattle.std.proofs.Common.{ℕ, ◌≤◌, arith}
use Rattle.history_model.specs.declared.acts.Act.{Act}
use Rattle.history_model.specs.declared.acts.Act.TheVariants.{Fill, Erase, Ball, Carve, Copy, Stamp, Tint, Undo, Redo}
use Rattle.act_rebuilds.specs.Acts.{IsLargeFor, room_for}

pub most_room : (act : Act) (trees : ℕ) → trees ≤ room_for act → trees ≤ 3910
most_room (Fill b) trees le = le
most_room (Erase b) trees le = le
most_room (Ball ball) trees le = le
most_room (Carve ball) trees le = le
most_room (Copy b to) trees le = le
most_room (Stamp m at) trees le = le
most_room (Tint t) trees le = omega (arith, le)
most_room Undo trees le = le
most_room Redo trees le = le

pub least_room : (act : Act) (trees : ℕ) → trees ≤ 3909 → trees ≤ room_for act
least_room (Fill b) trees le = omega (arith, le)
least_room (Erase b) trees le = omega (arith, le)
least_room (Ball ball) trees le = omega (arith, le)
least_room (Carve ball) trees le = omega (arith, le)
least_room (Copy b to) trees le = omega (arith, le)
least_room (Stamp m at) trees le = omega (arith, le)
least_room (Tint t) trees le = le
least_room Undo trees le = omega (arith, le)
least_room Redo trees le = omega (arith, le)

-- a store that is large enough for tinted acts is so for each
pub large_for_all : (act : Act) (side : ℕ) → 4 ≤ side → IsLargeFor act side
large_for_all (Fill b) side le = tt
large_for_all (Erase b) side le = tt
large_for_all (Ball ball) side le = tt
large_for_all (Carve ball) side le = tt
large_for_all (Copy b to) side le = tt
large_for_all (Stamp m at) side le = tt
large_for_all (Tint t) side le = le
large_for_all Undo side le = tt
large_for_all Redo side le = tt
