use Rattle.std.specs.Prelude.{option_copied}
use Rattle.colour.specs.Made.{PartsMade, copy_parts}
use Rattle.colour.proofs.copies.rebuild_copied_tints.Given as goal

abbrev pub invariant-loop-plane : goal.invariant-loop-plane
invariant-loop-plane g l =
    let seen = g.N.Blocks.seen in
    record {
      made : PartsMade (seen l.fn.store) l.side (option_copied l.fn.old)
          (copy_parts l.side l.b l.to) l.plane l.now (seen l.store);
      rests : g.N.Blocks.rests l.fn.store l.store;
    }
