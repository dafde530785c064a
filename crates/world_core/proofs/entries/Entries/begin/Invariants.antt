use Rattle.std.proofs.Common.{◌≡◌, ◌<◌, ℕ, [], None, length, get_or, replicate}
use Rattle.world_core.proofs.entries.Entries.begin.Given as goal

abbrev pub invariant-loop-level : goal.invariant-loop-level
invariant-loop-level l =
    (length l.list.items ≡ l.level)
    ×
    ((k : ℕ) → k < l.level → get_or l.list.items k []
    ≡ replicate (get_or l.buckets k 0) (replicate l.cap None))
