use Rattle.std.proofs.Common.{◌≡◌, ◌-◌, ◌^◌}
use Rattle.std.specs.Prelude.{option_copied}
use Rattle.vw_cell.specs.Extents.{IsExtent}
use Rattle.colour.specs.Layers.{ForRoot}
use Rattle.store_run.specs.TintChanges.{in_some}
use Rattle.store_run.proofs.TintChanges.{plane_differs}
use Rattle.store_run.proofs.tint_changes.tint_changes.Given as goal

abbrev pub invariant-loop-bit : goal.invariant-loop-bit
invariant-loop-bit g l =
    let seen = g.B.Blocks.seen in
    record {
      so_far : ForRoot (seen l.fn.store).held l.side (option_copied l.fn.before)
          (λ s. ForRoot (seen l.fn.store).held l.side (option_copied l.fn.after)
          (λ t. IsExtent (2 ^ (l.side - 2)) (in_some (plane_differs l.side s t) l.bit) l.found));
      same : seen l.store ≡ seen l.fn.store;
      rests : g.B.Blocks.rests l.fn.store l.store;
    }
