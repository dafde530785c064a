use Rattle.std.proofs.Common.{ap, rules, subst, sym, ◌∙◌}
use Rattle.vw_cell.specs.declared.boxes.Boxed.{Boxed}
use Rattle.vw_cell.specs.Counts.{number_in}
use Rattle.vw_cell.specs.Places.{block_side}
use Rattle.node_words.specs.descent.Parts.{EndsBy}
use Rattle.measure.proofs.WholeLaws.{none_passes, whole_ends}
use Rattle.measure.proofs.blanks.passes_none.Goals as goal

pub has_none-requires : goal.has_none-requires
has_none-requires g c = (
  (search rules),
  (
    c.requires.level,
    (
      c.requires.block,
      (
        subst (λ (b : Boxed). EndsBy (block_side c.args.level) b) (sym c.whole_block.ensures)
            (whole_ends c.args.level),
        c.requires.wholes,
      ),
    ),
  ),
)

pub returns-clause-none : goal.returns-clause-none
returns-clause-none g c is test p =
    none_passes c.args.level test
    (c.has_none.ensures.none is test p ∙ ap (λ (b : Boxed). number_in b test) c.whole_block.ensures)
