use Rattle.std.proofs.Common.{sym, ◌∙◌, arith}
use Rattle.voxdag_c.specs.held.Calls.{RefusesModels}
use Rattle.voxdag_c.proofs.OfHeld.Opening.{refuses_file, some_bytes}
use Rattle.voxdag_c.proofs.held.worlds.read_file.Goals as goal

pub returns-then-file-gt-MOST_BYTES-clause-refused : goal.returns-then-file-gt-MOST_BYTES-clause-refused
returns-then-file-gt-MOST_BYTES-clause-refused c =
    RefusesModels.too_long (omega (arith, c.if-file-gt-MOST_BYTES.true))

pub returns-in-Err-clause-refused : goal.returns-in-Err-clause-refused
returns-in-Err-clause-refused c =
    refuses_file c.in-Err.fault c.args.file.now c.status_of_file.result c.status_of_file.ensures
    (some_bytes c.args.file.now (sym c.is_empty.ensures ∙ c.if-is_empty.false))
    c.in-Err.ensures.refused
