use Rattle.std.proofs.Common.{rules, Ok}
use Rattle.vox_read.specs.Files.{ReadsModels}
use Rattle.commands.specs.Audits.{IsJournalOf}
use Rattle.dag_answers.specs.Histories.{RefusesHistory}
use Rattle.dag_answers.specs.declared.making.HistoryRefused.TheVariants as histories
use Rattle.commands.proofs.Dagging.{full_refused, makes_dag}
use Rattle.commands.proofs.dags.dag_of.Goals as goal

pub returns-in-Ok-file_of_history-clause-makes : goal.returns-in-Ok-file_of_history-clause-makes
returns-in-Ok-file_of_history-clause-makes c =
    let gives : ReadsModels c.args.file (Ok c.in-Ok.models) = search rules in
    let of : IsJournalOf c.args.journal c.in-Ok-read_journal_history.history = search rules in
    makes_dag c.args.file c.args.journal c.in-Ok.models c.in-Ok-read_journal_history.history gives of
    c.in-Ok-file_of_history.dag.items c.in-Ok-file_of_history.ensures.legal
    c.in-Ok-file_of_history.ensures.file

pub returns-in-Err-Full-clause-refused : goal.returns-in-Err-Full-clause-refused
returns-in-Err-Full-clause-refused c =
    let gives : ReadsModels c.args.file (Ok c.in-Ok.models) = search rules in
    let of : IsJournalOf c.args.journal c.in-Ok-read_journal_history.history = search rules in
    let says : RefusesHistory c.in-Ok.models c.in-Ok-read_journal_history.history (histories.Full c.in-Err-Full.full) = search rules in
    full_refused c.args.file c.args.journal c.in-Ok.models c.in-Ok-read_journal_history.history gives of
    c.in-Err-Full.full says
