use Rattle.std.proofs.Common.{◌≡◌, ◌++◌, take}
use Rattle.std.specs.List.{flat_map}
use Rattle.dag_file.specs.Writes.{numbers_bytes}
use Rattle.dag_file.proofs.putting.put_pairs.Given as goal

abbrev pub invariant-loop-pair : goal.invariant-loop-pair
invariant-loop-pair l =
    l.into.items ≡ l.fn.into.items ++ flat_map numbers_bytes (take l.pair-index l.pairs)
