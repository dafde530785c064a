use Rattle.std.proofs.Common.{◌∙◌}
use Rattle.conformance.specs.sessions.LoggedSaves.{LoggedSave}
use Rattle.world_run.specs.Open.{file_of_save}
use Rattle.script_files.specs.Requests.{saved_output}
use Rattle.script_files.proofs.Staging.{output_put}
use Rattle.script_files.proofs.outputs.write_save.Goals as goal

pub returns-clause-writes : goal.returns-clause-writes
returns-clause-writes g c =
    let run = c.args.run.now in
    let at = c.save-save.ensures.is in
    let s : LoggedSave = record { save = c.save-save.result; seen = at.seen } in
    output_put (saved_output (file_of_save run.tint run.models)) run.kept c.args.k s
    c.as_str.result.now c.as_slice.result.now c.put_out.result (g.S.Shelf.state c.args.shelf.now)
    (g.S.Shelf.state c.put_out.new.shelf) at.at c.as_str.ensures
    (c.as_slice.ensures.value ∙ c.in-Ok.ensures.file s at.at) c.put_out.ensures.writes
