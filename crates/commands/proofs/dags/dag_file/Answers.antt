use Rattle.std.proofs.Common.{rules}
use Rattle.vw_io.specs.Inputs.{AreTaken}
use Rattle.commands.specs.Dags.{dag_inputs}
use Rattle.commands.specs.Putting.{StopsAmong}
use Rattle.commands.proofs.Dagging.{dag_output, dag_stopped}
use Rattle.commands.proofs.dags.dag_file.Goals as goal

pub returns : goal.returns
returns g c = record {
  outcome = (let asked = c.args.order.now in
      let texts = c.in-Ok.texts.items in
      let dag = c.in-Ok-dag_of_texts.dag.items in
      let r = c.in-Err-put_out.refused in
      let old = g.S.Shelf.state c.args.shelf.now in
      let mid = g.S.Shelf.state c.read_all.new.shelf in
      let new = g.S.Shelf.state c.put_out.new.shelf in
      let taken : AreTaken old.files (dag_inputs asked) texts = search rules in
      let stops : StopsAmong r (dag_output asked dag) mid new = search rules in
      dag_stopped asked texts dag r old mid new taken c.in-Ok-dag_of_texts.ensures.makes
      c.in-Ok.ensures.unchanged c.in-Ok.ensures.never_falls stops);
}
