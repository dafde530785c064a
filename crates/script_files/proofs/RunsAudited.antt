-- What a run left is audited yes.
use Rattle.std.proofs.Common.{◌≡◌, ℕ, Bool, List, Option, Some, None, Result, Ok, ◌^◌, refl, sym, ap, subst, ◌∙◌}
use Rattle.vox_chunk.specs.declared.faults.VoxFault.{VoxFault}
use Rattle.vox_read.specs.Contents.{Content}
use Rattle.vox_read.specs.Once.{one_reading}
use Rattle.vox_read.proofs.Sound.{models_of_file}
use Rattle.vox_scene.proofs.Ends.{same_exponent}
use Rattle.history_model.specs.Logs.{Log}
use Rattle.history_model.specs.Entries.{HasJournal}
use Rattle.history_model.proofs.OnceLaws.{journals_once}
use Rattle.script.specs.declared.commands.ScriptLine.{ScriptLine}
use Rattle.transcript.specs.declared.answers.LineAnswer.{LineAnswer}
use Rattle.audit.specs.Audits.{IsAudited, judged_by}
use Rattle.audit.proofs.Running.{runs_are_audited}
use Rattle.commands.specs.declared.refusals.NumberedFault.{NumberedFault}
use Rattle.commands.specs.Meanings.{file_in, scripts_in}
use Rattle.script_files.specs.RunsAudited.{RunsAreAnsweredYes}
use Rattle.requests.specs.Orders.{world_exponent}
use Rattle.commands.specs.Scripts.{lines_asked, lines_in_history, scripts_of}
use Rattle.script_files.proofs.WrittenTranscripts.{transcripts_left}
use Rattle.script_files.proofs.WrittenJournals.{journal_left}

abbrev Reading : Type 0
Reading = Result (List Content) VoxFault

models_once : (a b : List Content) (x y : Reading) → x ≡ Ok a → y ≡ Ok b → x ≡ y → a ≡ b
models_once a b x y of_x of_y same = cc

abbrev LinesRead : Type 0
LinesRead = Result (List (List ScriptLine)) NumberedFault

lines_once : (a b : List (List ScriptLine)) (x y : LinesRead) → x ≡ Ok a → y ≡ Ok b → x ≡ y → a ≡ b
lines_once a b x y of_x of_y same = cc

judged_side : (side : ℕ) (buckets : Option ℕ) → (judged_by side buckets).side ≡ side
judged_side side None = refl
judged_side side (Some b) = refl

pub answered_yes : RunsAreAnsweredYes
answered_yes asked texts log transcripts buckets answer accepted same_buckets audit =
    let begun = audit.all.scripts.begun in
    let told : HasJournal log =
    journal_left (2 ^ asked.plan.side) accepted.models log begun.log
    (models_of_file (file_in texts) accepted.models accepted.gives) accepted.run.legal
    accepted.run.suits begun.journal.told begun.journal.is in
    let logs : log ≡ begun.log =
    journals_once log begun.log told begun.journal.told begun.journal.is in
    let models : accepted.models ≡ begun.models =
    models_once accepted.models begun.models (Ok accepted.models) (Ok begun.models) refl refl
    (one_reading (file_in texts) (Ok accepted.models) (Ok begun.models) accepted.gives begun.gives)
    in
    let side : log.side ≡ asked.plan.side =
    same_exponent log.side asked.plan.side accepted.run.legal.same_side in
    let reads : lines_asked asked accepted.models (scripts_in texts)
    ≡ lines_in_history begun.log begun.models (scripts_in texts) =
    ap (λ (s : ℕ). scripts_of asked.tint (world_exponent asked.tint s) accepted.models
    (scripts_in texts)) (sym side)
    ∙ ap (λ (b : Bool). scripts_of b (world_exponent b log.side) accepted.models
    (scripts_in texts)) (sym accepted.coloured)
    ∙ ap (λ (l : Log). lines_in_history l accepted.models (scripts_in texts)) logs
    ∙ ap (λ (ms : List Content). lines_in_history begun.log ms (scripts_in texts)) models in
    let lines : accepted.lines ≡ audit.all.scripts.lines =
    lines_once accepted.lines audit.all.scripts.lines
    (lines_asked asked accepted.models (scripts_in texts))
    (lines_in_history begun.log begun.models (scripts_in texts)) accepted.read
    audit.all.scripts.read reads in
    let said : transcripts ≡ audit.all.said =
    transcripts_left transcripts audit.all.said audit.all.transcripts.answers
    audit.all.transcripts.are in
    let run : IsAudited asked.keep (judged_by log.side buckets) accepted.models log accepted.lines transcripts =
    runs_are_audited asked.keep asked.plan
    (judged_by log.side buckets) accepted.models accepted.lines
    transcripts log (judged_side log.side buckets ∙ side) same_buckets accepted.run in
    audit.is.1
    (subst (λ (l : Log). IsAudited asked.keep (judged_by l.side buckets) begun.models l
    audit.all.scripts.lines audit.all.said) logs
    (subst (λ (ms : List Content). IsAudited asked.keep (judged_by log.side buckets) ms log
    audit.all.scripts.lines audit.all.said) models
    (subst (λ (ls : List (List ScriptLine)). IsAudited asked.keep
    (judged_by log.side buckets) accepted.models
    log ls audit.all.said) lines
    (subst (λ (ts : List (List LineAnswer)). IsAudited asked.keep (judged_by log.side buckets)
    accepted.models log accepted.lines ts) said run))))
