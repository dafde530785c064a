use Rattle.std.proofs.Common.{◌++◌, List, ℕ, refl, ◌∙◌, ap, arith}
use Rattle.voxdag_c.specs.held.Calls.{PutsItems}
use Rattle.voxdag_c.proofs.held.outputs.put_bytes.Goals as goal

pub returns-then-bytes-out-clause-writes : goal.returns-then-bytes-out-clause-writes
returns-then-bytes-out-clause-writes c =
    record { puts = PutsItems.too_small (omega (arith, c.if-bytes-out.true)) refl; number = refl }

pub returns-clause-writes : goal.returns-clause-writes
returns-clause-writes c = record {
  puts =
      PutsItems.put (omega (arith, c.if-bytes-out.false))
      (ap (λ (front : List ℕ). front ++ c.split_at_mut-front.result.1.now) c.copy_from_slice.ensures.after
      ∙ ap (λ (behind : List ℕ). c.args.bytes.now ++ behind) c.split_at_mut-front.ensures.back);
  number = refl;
}
