use Rattle.std.proofs.Common.{subst, sym}
use Rattle.node_words.specs.Held.{StoreState}
use Rattle.edit_walk.proofs.OfCells.PaintLaws.{old_block, old_has}
use Rattle.edit_copy.specs.Copies.{AreBlocks}
use Rattle.edit_copy.proofs.CopyBits.{copy_bits}
use Rattle.edit_copy.proofs.copies.CopyTaskTask.bits.Goals as goal

pub leaf_bits-old-requires : goal.leaf_bits-old-requires
leaf_bits-old-requires g c =
    let (base, cells, keeps, m) = c.requires.task in record
    { block = old_has base _ 0 _ _ keeps m.is_old }

pub leaves_in-leaves-requires : goal.leaves_in-leaves-requires
leaves_in-leaves-requires g c =
    let (base, cells, keeps, m) = c.requires.task in
    record {
      sources = (
        m.row,
        subst (λ (s : StoreState). AreBlocks s.held 0 c.args.self.now.sources m.row)
            (sym c.leaf_bits-old.ensures.seen)
            (record {
              each = λ i l. old_block base _ 0 (m.row i) _ keeps
                  (m.sources.each i l);
            }),
      );
    }

pub returns-clause-bits : goal.returns-clause-bits
returns-clause-bits g c base cells keeps m =
    copy_bits base c.args.self.now cells c.leaf_bits-old.result c.box_bits-inside.result c.window_bits-moved.result c.mix.result c.leaves_in-leaves.result m c.box_bits-inside.ensures.bound
    (c.leaf_bits-old.ensures.bits m.tree (old_block base _ 0 m.tree _ keeps m.is_old))
    (c.leaves_in-leaves.ensures.leaves m.row
    (subst (λ (s : StoreState). AreBlocks s.held 0 c.args.self.now.sources m.row)
    (sym c.leaf_bits-old.ensures.seen)
    (record {
      each = λ i l. old_block base _ 0 (m.row i) _ keeps
          (m.sources.each i l);
    })))
    c.window_bits-moved.ensures.bits c.box_bits-inside.ensures.bits c.mix.ensures
