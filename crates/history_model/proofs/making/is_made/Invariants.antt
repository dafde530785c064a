use Rattle.std.proofs.Common.{◌≡◌, ◌-◌}
use Rattle.history_model.specs.Worlds.{World}
use Rattle.history_model.specs.Tints.{ink_of}
use Rattle.history_model.specs.Parts.{part, part_number, after_parts, made_in}
use Rattle.history_model.proofs.making.is_made.Given as goal

abbrev pub invariant-loop-done : goal.invariant-loop-done
invariant-loop-done g l =
    (w : World) → made_in l.n l.models l.act w l.fn.q
    ≡ after_parts (part l.n (ink_of l.models l.act) l.act)
    (part_number l.act - l.done) w l.at
