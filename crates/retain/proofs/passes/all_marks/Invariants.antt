use Rattle.std.proofs.Common.{◌≡◌, ◌+◌, ◌≤◌, ◌++◌, length, drop, vec_len, vec_capacity}
use Rattle.retain.specs.Retained.{fallen_from}
use Rattle.retain.proofs.Merging.{merged}
use Rattle.retain.proofs.passes.all_marks.Given as goal

abbrev pub invariant-loop-index : goal.invariant-loop-index
invariant-loop-index l =
    record {
      so_far : l.marks.items ++ merged
          (fallen_from l.keep (l.index + 1) (drop l.index l.records)) l.left
          ≡ merged (fallen_from l.keep 1 l.records) l.forgot;
      few : vec_len l.marks ≤ l.index;
      room : vec_capacity l.marks ≡ length l.records + length l.forgot;
    }
