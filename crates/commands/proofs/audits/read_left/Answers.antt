use Rattle.std.proofs.Common.{rules, ◌≡◌, take, drop, Ok, sym, subst}
use Rattle.vox_read.specs.Files.{ReadsModels}
use Rattle.history_model.specs.Refusals.{RefusesJournal}
use Rattle.commands.specs.Audits.{AuditTexts, IsJournalOf, RefusesAuditing}
use Rattle.commands.specs.Auditing.{RefusesTranscripts}
use Rattle.commands.specs.Refusals.{RefusesScripts}
use Rattle.commands.specs.Scripts.{lines_in_history}
use Rattle.commands.specs.declared.refusals.TextRefused.{TextRefused}
use Rattle.commands.proofs.Auditing.{journal_refused, scripts_refused_at, transcripts_refused}
use Rattle.commands.proofs.audits.read_left.Goals as goal

pub returns-in-Err-read_journal_history-clause-refused : goal.returns-in-Err-read_journal_history-clause-refused
returns-in-Err-read_journal_history-clause-refused c =
    let gives : ReadsModels c.args.file (Ok c.in-Ok.models) = search rules in
    let says : RefusesJournal c.in-Err-read_journal_history.fault c.args.journal = search rules in
    let t : AuditTexts = record {
      journal = c.args.journal;
      scripts = take c.args.number c.args.texts.items;
      transcripts = drop c.args.number c.args.texts.items;
    } in
    subst (λ (r : TextRefused). RefusesAuditing c.args.file t r)
    (sym c.from-in-Err-read_journal_history.ensures)
    (journal_refused c.in-Err-read_journal_history.fault c.args.file t c.in-Ok.models gives says)

pub returns-in-Err-scripts_in_history-clause-refused : goal.returns-in-Err-scripts_in_history-clause-refused
returns-in-Err-scripts_in_history-clause-refused c =
    let gives : ReadsModels c.args.file (Ok c.in-Ok.models) = search rules in
    let of : IsJournalOf c.args.journal c.in-Ok-read_journal_history.history = search rules in
    let says : RefusesScripts c.in-Err-scripts_in_history.refused
    (lines_in_history c.in-Ok-read_journal_history.history c.in-Ok.models (take c.args.number c.args.texts.items)) =
    search rules in
    scripts_refused_at c.args.file _ c.in-Ok.models c.in-Ok-read_journal_history.history gives of
    c.in-Err-scripts_in_history.refused says

pub returns-in-Err-read_transcripts-clause-refused :
    goal.returns-in-Err-read_transcripts-clause-refused
returns-in-Err-read_transcripts-clause-refused c =
    let gives : ReadsModels c.args.file (Ok c.in-Ok.models) = search rules in
    let of : IsJournalOf c.args.journal c.in-Ok-read_journal_history.history = search rules in
    let read : lines_in_history c.in-Ok-read_journal_history.history c.in-Ok.models
    (take c.args.number c.args.texts.items) ≡ Ok c.in-Ok-scripts_in_history.scripts.items =
    search rules in
    let says : RefusesTranscripts (drop c.args.number c.args.texts.items)
    c.in-Err-read_transcripts.refused = search rules in
    transcripts_refused c.args.file _ c.in-Ok.models c.in-Ok-read_journal_history.history gives of
    c.in-Ok-scripts_in_history.scripts.items read c.in-Err-read_transcripts.refused says
