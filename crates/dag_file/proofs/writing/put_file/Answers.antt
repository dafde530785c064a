use Rattle.std.proofs.Common.{◌∙◌, refl}
use Rattle.dag_file.specs.Writes.{file_bytes}
use Rattle.dag_file.proofs.HeaderLaws.{file_put}
use Rattle.dag_file.proofs.writing.put_file.Goals as goal

pub returns : goal.returns
returns c =
    file_put c.cells.result _ c.deref.result.now c.deref-2.result.now c.deref-3.result.now c.args.pairs.now _ _ _ _ _ refl c.new-file.ensures.items c.in_ok-put_header.ensures c.in_ok-put_leaves.ensures c.in_ok-put_nodes.ensures c.in_ok-put_pairs.ensures
    ∙ (λ i. file_bytes (c.cells.ensures.value i) (c.deref.ensures.value i)
    (c.deref-2.ensures.value i) (c.deref-3.ensures.value i) c.args.pairs.now)
