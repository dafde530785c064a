use Rattle.std.proofs.Common.{◌≡◌, ◌≤◌, Some}
use Rattle.node_words.specs.shapes.Tree.{Tree}
use Rattle.node_words.specs.descent.Roots.{HasBlock, IsBlockOf}
use Rattle.node_words.specs.descent.Landings.{LandsAt, inner_place}
use Rattle.node_words.proofs.descent.landings.go_down.Given as goal

abbrev pub invariant-loop-at : goal.invariant-loop-at
invariant-loop-at g l =
    let seen = g.B.Blocks.seen in
    let block = Some (record { bucket = l.bucket; level = l.at; slot = l.slot }) in
    record {
      level : l.at ≤ l.fn.level;
      lands : (t : Tree) → IsBlockOf (seen l.fn.store).held l.fn.level (Some l.fn.n) t
          → LandsAt (seen l.fn.store).held l.fn.level l.fn.c
          (record { level = l.at; block = block; inner = inner_place l.at l.fn.c }) t;
      block : HasBlock (seen l.fn.store).held l.at block;
      same : seen l.store ≡ seen l.fn.store;
      rests : g.B.Blocks.rests l.fn.store l.store;
    }

abbrev pub decreases-loop-at : goal.decreases-loop-at
decreases-loop-at g l = l.at
