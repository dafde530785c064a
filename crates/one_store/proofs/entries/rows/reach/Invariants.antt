use Rattle.std.proofs.Common.{◌≡◌, slice_index_or, vec_capacity, ℕ, ◌+◌, ◌-◌}
use Rattle.std.specs.Prelude.{vec_len}
use Rattle.one_store.proofs.entries.rows.reach.Given as goal

abbrev pub invariant-loop-empty : goal.invariant-loop-empty
invariant-loop-empty g l = record {
  same : (j : ℕ)
      → slice_index_or l.row.items j l.empty ≡ slice_index_or l.initial.row.items j l.empty;
  room : vec_capacity l.row ≡ vec_capacity l.initial.row;
}

abbrev pub decreases-loop-empty : goal.decreases-loop-empty
decreases-loop-empty g l = l.i + 1 - vec_len l.row
