-- The files of the saves before this one are written.
use Rattle.std.proofs.Common.{◌≡◌, map}
use Rattle.world_run.specs.Open.{file_of_save}
use Rattle.script_files.specs.Requests.{saved_output}
use Rattle.script_files.proofs.Staging.{IsWrittenTo}
use Rattle.script_files.proofs.outputs.write_saves.Given as goal

abbrev pub invariant-loop-k : goal.invariant-loop-k
invariant-loop-k g l =
    IsWrittenTo
    (map (saved_output (file_of_save l.fn.run.tint l.fn.run.models)) l.fn.run.kept) l.k
    (g.S.Shelf.state l.fn.shelf) (g.S.Shelf.state l.shelf)
    × (l.run ≡ l.fn.run)
