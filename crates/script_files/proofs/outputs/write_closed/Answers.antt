use Rattle.std.proofs.Common.{◌≡◌, ◌∙◌}
use Rattle.script_files.proofs.Ending.{nothing_began, outputs_last, history_stopped, told_texts}
use Rattle.script_files.proofs.outputs.write_closed.Goals as goal

pub returns-in_default : goal.returns-in_default
returns-in_default g c = record {
  writes = λ r tells.
      nothing_began c.args.order.now r c.args.ran.ended (g.S.Shelf.state c.args.shelf.now)
      tells.closes;
}

pub returns-in_default-last_outputs : goal.returns-in_default-last_outputs
returns-in_default-last_outputs g c = record {
  writes = λ r tells.
      nothing_began c.args.order.now r c.args.ran.ended (g.S.Shelf.state c.args.shelf.now)
      tells.closes;
}

pub returns-in-Err : goal.returns-in-Err
returns-in-Err g c = record {
  writes = λ r tells.
      let old = g.S.Shelf.state c.args.shelf.now in
      let new = g.S.Shelf.state c.put_out.new.shelf in
      let is : c.as_slice.result.now ≡ outputs_last c.args.order.now c.in-Ok.texts =
      c.as_slice.ensures.value ∙ c.in-Ok-last_outputs.ensures in
      history_stopped c.args.order.now r c.args.ran.ended c.in-Ok.texts c.as_slice.result.now
      c.in-Err.refused old new tells.closes
      (told_texts c.args.order.now r c.args.ran c.in-Ok.texts tells c.in-Ok.ensures) is
      c.in-Err.ensures.writes;
}
