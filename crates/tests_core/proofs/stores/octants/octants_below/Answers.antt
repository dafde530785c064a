use Rattle.std.proofs.Common.{Option, sym, subst, arith}
use Rattle.node_words.specs.declared.shapes.names.Name.{Name}
use Rattle.node_words.specs.Held.{StoreState, name_in}
use Rattle.node_words.specs.descent.Roots.{HasBlock}
use Rattle.node_words.proofs.OfDescent.BlockLaws.{root_block, has_octant}
use Rattle.dag_file.specs.Trees.{opened_state}
use Rattle.tests_core.proofs.stores.octants.octants_below.Goals as goal

pub octant_names-names-requires-clause-block : goal.octant_names-names-requires-clause-block
octant_names-names-requires-clause-block c =
    subst (λ (o : Option Name). HasBlock (opened_state c.args.view.now).held 2 o)
    (sym c.name_of.ensures)
    (root_block (opened_state c.args.view.now).held 4 _ c.requires.root)

pub octant_bits-bits-requires : goal.octant_bits-bits-requires
octant_bits-bits-requires c =
    let held = (opened_state c.args.view.now).held in let names = c.octant_names-names in
    let block = subst (λ (o : Option Name). HasBlock held 2 o) (sym c.name_of.ensures)
    (root_block held 4 _ c.requires.root) in
    record {
      block = subst (λ (s : StoreState). HasBlock s.held 1 (name_in names.result 2))
          (sym names.ensures.seen)
          (has_octant held 2 c.name_of.result (name_in names.result 2) 2 block
          (names.ensures.octants 2 (omega arith)));
    }
