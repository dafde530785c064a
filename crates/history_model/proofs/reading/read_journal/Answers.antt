use Rattle.history_model.proofs.ReadLaws.{all_told, told_all, told_read, told_if}
use Rattle.history_model.proofs.reading.read_journal.Goals as goal

pub returns-in-Ok-clause-read : goal.returns-in-Ok-clause-read
returns-in-Ok-clause-read c =
    all_told c.args.bytes.now c.in-Ok.head.1 c.in-Ok.head.0 c.in-Ok.head.2.now c.read_entries.result c.in-Ok.ensures.read.1 c.read_entries.ensures.read

pub returns-in-Ok-clause-comes : goal.returns-in-Ok-clause-comes
returns-in-Ok-clause-comes c =
    λ log told is. told_all c.args.bytes.now log c.read_entries.result
    (returns-in-Ok-clause-read c)
    (told_if c.args.bytes.now _ log c.read_entries.result c.in-Ok.ensures.read.1 told is c.read_entries.ensures.refused) told is

pub returns-in-Err-clause-comes : goal.returns-in-Err-clause-comes
returns-in-Err-clause-comes c =
    λ log told is. told_read c.args.bytes.now log c.in-Err.fault told is c.in-Err.ensures.refused
