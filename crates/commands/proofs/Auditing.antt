-- What an audit answers, as an outcome of the whole command.
use Rattle.std.proofs.Common.{◌≡◌, ℕ, ◌+◌, ◌<◌, ◌≤◌, List, [], ◌∷◌, ◌++◌, Bool, length, map, take, drop, get_or, Option, Some, None, Result, Ok, Err, refl, sym, ap, subst, ◌∙◌, arith}
use Rattle.std.specs.Prelude.{All, IsTrue, ◌↔◌}
use Rattle.std.proofs.lemmas.List.{take_more, drop_more, map-append, length-map, length-take-le}
use Rattle.std.proofs.lemmas.List.Elements.{All-nil, All-cons, All-append}
use Rattle.vw_io.specs.Outside.{Files, ShelfState}
use Rattle.vw_io.specs.Inputs.{AreTaken}
use Rattle.vw_io.specs.Outputs.{AreWritten}
use Rattle.vox_chunk.specs.declared.faults.VoxFault.{VoxFault}
use Rattle.vox_chunk.specs.declared.faults.VoxFault.TheVariants as faults
use Rattle.vox_read.specs.Contents.{Content}
use Rattle.vox_read.specs.Files.{ReadsModels, RefusesFile}
use Rattle.history_model.specs.Logs.{Log}
use Rattle.history_model.specs.declared.reading.JournalFault.{JournalFault}
use Rattle.history_model.specs.declared.reading.JournalFault.TheVariants as journals
use Rattle.script.specs.declared.commands.ScriptLine.{ScriptLine}
use Rattle.transcript.specs.Bounds.{IsLineAnswer}
use Rattle.transcript.specs.Lines.{transcript_of}
use Rattle.transcript.specs.declared.answers.LineAnswer.{LineAnswer}
use Rattle.audit.specs.Audits.{IsAudited, RefusesAudit, judged_by}
use Rattle.audit.specs.declared.audits.AuditRefused.{AuditRefused}
use Rattle.audit.specs.declared.audits.AuditRefused.TheVariants as audits
use Rattle.commands.specs.declared.audits.RunLeft.{RunLeft}
use Rattle.commands.specs.declared.refusals.CommandRefused.TheVariants.{Text}
use Rattle.commands.specs.declared.refusals.NumberedFault.{NumberedFault}
use Rattle.commands.specs.declared.refusals.TranscriptLine.{TranscriptLine}
use Rattle.commands.specs.declared.refusals.TextRefused.{TextRefused}
use Rattle.commands.specs.declared.refusals.TextRefused.TheVariants.{Vox, Script, StoreFull, Journal, Transcript, Memory}
use Rattle.requests.specs.Orders.{AuditAsked}
use Rattle.history_model.specs.Refusals.{RefusesJournal}
use Rattle.commands.specs.Audits.{AuditTexts, IsJournalOf, audit_texts, texts_audited, AreTranscriptsOf, JournalRead, AllRead, AnswersAudit, LacksJournal, LacksScript, LacksTranscript, RefusesAuditing, FindsLog, FindsAnswers, JudgesSaid, JudgesLog, JudgesLeft, verdict_of_answers, audit_means}
use Rattle.commands.specs.Auditing.{IsLeft, AddsTranscript, RefusesNextTranscript, RefusesTranscripts}
use Rattle.commands.specs.Meanings.{file_in}
use Rattle.commands.specs.Outcomes.{Outcome}
use Rattle.commands.specs.Refusals.{of_vox, of_journal, of_audit, RefusesScripts}
use Rattle.commands.specs.Inputs.{audit_inputs}
use Rattle.commands.specs.Scripts.{lines_in_history}
use Rattle.commands.specs.Judging.{AgreesWith, IsJudged}
use Rattle.commands.specs.Judged.{models_once, models_not_lacking}
use Rattle.commands.specs.Unread.{no_journal, no_transcripts, said_once}
use Rattle.commands.specs.Verdicts.{Verdict, Fine, HasScriptFault, HasJournalFault, HasTranscriptFault, JudgesModels}
use Rattle.history_model.proofs.OnceLaws.{journals_once}
use Rattle.commands.proofs.Accepting.{not_accepted, unwritten}

-- ---- refusals

pub vox_refused_at : (fault : VoxFault) (file : List ℕ) (t : AuditTexts) → RefusesFile fault file
    → RefusesAuditing file t (of_vox fault)
vox_refused_at faults.Memory file t says = tt
vox_refused_at faults.NotVox file t says = says
vox_refused_at _ file t says = says

pub journal_refused : (fault : JournalFault) (file : List ℕ) (t : AuditTexts)
    (models : List Content) → ReadsModels file (Ok models) → RefusesJournal fault t.journal
    → RefusesAuditing file t (of_journal fault)
journal_refused (journals.Line line) file t models gives says =
    record { models = models; gives = gives; first = says }
journal_refused journals.Memory file t models gives says = tt

module _ (file : List ℕ) (t : AuditTexts) (models : List Content) (log : Log)
    (gives : ReadsModels file (Ok models)) (of : IsJournalOf t.journal log)
  where
    abbrev journal_read : JournalRead file t
    journal_read = record {
      models = models;
      gives = gives;
      log = log;
      journal = of;
    }

    pub scripts_refused_at : (r : TextRefused)
        → RefusesScripts r (lines_in_history log models t.scripts) → RefusesAuditing file t r
    scripts_refused_at (Script at) says =
        record { begun = journal_read; is_of_text = says.0; first = says.1 }
    scripts_refused_at Memory says = tt
    scripts_refused_at _ says = absurd says

    pub transcripts_refused : (lines : List (List ScriptLine))
        → lines_in_history log models t.scripts ≡ Ok lines → (r : TextRefused)
        → RefusesTranscripts t.transcripts r → RefusesAuditing file t r
    transcripts_refused lines read (Transcript at) says = record {
      scripts = record { begun = journal_read; lines = lines; read = read };
      first = says;
    }
    transcripts_refused lines read Memory says = tt
    transcripts_refused lines read _ says = absurd says

-- ---- what a run left

abbrev all_read : (file : List ℕ) (t : AuditTexts) (left : RunLeft) → IsLeft file t left
    → AllRead file t
all_read file t left is = record {
  scripts = record {
    begun = record {
      models = left.models;
      gives = is.gives;
      log = left.history;
      journal = is.journal;
    };
    lines = left.scripts.items;
    read = is.read;
  };
  said = left.transcripts.items;
  transcripts = is.transcripts;
}

pub left_answered : (buckets : Option ℕ) (keep : ℕ) (file : List ℕ) (t : AuditTexts)
    (left : RunLeft)
    (answer : Bool) → IsLeft file t left
    → IsTrue answer ↔ IsAudited keep (judged_by left.history.side buckets) left.models left.history
    left.scripts.items left.transcripts.items
    → AnswersAudit buckets keep file t answer
left_answered buckets keep file t left answer is answers =
    record { all = all_read file t left is; is = answers }

left_refused : (file : List ℕ) (t : AuditTexts) (left : RunLeft) (refused : AuditRefused)
    → IsLeft file t left → RefusesAudit left.models left.history refused
    → RefusesAuditing file t (of_audit refused)
left_refused file t left (audits.Full full) is says =
    record { all = all_read file t left is; fills = says }
left_refused file t left audits.Memory is says = tt

pub left_refused_as : (file : List ℕ) (t : AuditTexts) (left : RunLeft) (refused : AuditRefused)
    (r : TextRefused) → IsLeft file t left → RefusesAudit left.models left.history refused
    → r ≡ of_audit refused → RefusesAuditing file t r
left_refused_as file t left refused r is says same =
    subst (λ (x : TextRefused). RefusesAuditing file t x) (sym same)
    (left_refused file t left refused is says)

-- ---- transcripts, one after the other

pub none_said : (texts : List (List ℕ)) → AreTranscriptsOf (take 0 texts) []
none_said texts = record { answers = All-nil (All IsLineAnswer); are = refl }

pub next_said : (texts : List (List ℕ)) (text : List ℕ) (k : ℕ) (old new : List (List LineAnswer))
    → k < length texts → text ≡ get_or texts k text → AreTranscriptsOf (take k texts) old
    → AddsTranscript text old new → AreTranscriptsOf (take (k + 1) texts) new
next_said texts text k old new within is so_far adds =
    let more : take (k + 1) texts ≡ take k texts ++ text ∷ [] =
    take_more texts k text within ∙ ap (λ (t : List ℕ). take k texts ++ t ∷ []) (sym is) in
    record {
      answers = subst (All (All IsLineAnswer)) (sym adds.kept)
          (All-append (All IsLineAnswer) old (adds.answers ∷ []) so_far.answers
          (All-cons (All IsLineAnswer) adds.answers [] adds.fit (All-nil (All IsLineAnswer))));
      are =
          more ∙ ap (λ (ts : List (List ℕ)). ts ++ text ∷ []) so_far.are
          ∙ ap (λ (t : List ℕ). map transcript_of old ++ t ∷ []) adds.is
          ∙ sym (map-append transcript_of old (adds.answers ∷ []))
          ∙ ap (map transcript_of) (sym adds.kept);
    }

pub next_unread : (r : TextRefused) (texts : List (List ℕ)) (text : List ℕ) (k : ℕ)
    (old : List (List LineAnswer)) → k < length texts → text ≡ get_or texts k text
    → AreTranscriptsOf (take k texts) old → RefusesNextTranscript (length old) text r
    → RefusesTranscripts texts r
next_unread (Transcript at) texts text k old within is so_far says =
    let number : at.script ≡ k =
    says.0 ∙ (let a = ap length so_far.are in let b = length-map old transcript_of in
    let c = length-take-le k texts (omega (arith, within)) in omega (arith, a, b, c)) in
    record {
      before = old;
      read = subst (λ (n : ℕ). AreTranscriptsOf (take n texts) old) (sym number) so_far;
      text = text;
      others = drop (k + 1) texts;
      next =
          ap (λ (n : ℕ). drop n texts) number ∙ drop_more texts k text within
          ∙ ap (λ (t : List ℕ). t ∷ drop (k + 1) texts) (sym is);
      unfit = says.1;
    }
next_unread Memory texts text k old within is so_far says = tt
next_unread _ texts text k old within is so_far says = absurd says

-- ---- the parts of all texts

pub parted_answer : (b buckets : Option ℕ) (k keep m n : ℕ) (texts rest : List (List ℕ))
    (file journal : List ℕ) (answer : Bool) → b ≡ buckets → k ≡ keep → m ≡ n
    → texts ≡ file ∷ journal ∷ rest
    → AnswersAudit b k file (record {
      journal = journal;
      scripts = take m rest;
      transcripts = drop m rest;
    }) answer
    → AnswersAudit buckets keep (file_in texts) (audit_texts n texts) answer
parted_answer b buckets k keep m n texts rest file journal answer same as_many number parts says =
    subst (λ (o : Option ℕ). AnswersAudit o keep (file_in texts) (audit_texts n texts) answer) same
    (subst (λ (h : ℕ). AnswersAudit b h (file_in texts) (audit_texts n texts) answer) as_many
    (subst (λ (i : ℕ). AnswersAudit b k (file_in texts) (audit_texts i texts) answer) number
    (subst (λ (ts : List (List ℕ)). AnswersAudit b k (file_in ts) (audit_texts m ts) answer)
    (sym parts) says)))

pub parted_refusal : (r : TextRefused) (m n : ℕ) (texts rest : List (List ℕ))
    (file journal : List ℕ) → m ≡ n → texts ≡ file ∷ journal ∷ rest
    → RefusesAuditing file (record {
      journal = journal;
      scripts = take m rest;
      transcripts = drop m rest;
    }) r
    → RefusesAuditing (file_in texts) (audit_texts n texts) r
parted_refusal r m n texts rest file journal number parts says =
    subst (λ (k : ℕ). RefusesAuditing (file_in texts) (audit_texts k texts) r) number
    (subst (λ (ts : List (List ℕ)). RefusesAuditing (file_in ts) (audit_texts m ts) r) (sym parts)
    says)

-- ---- the outcome

pub audited : (asked : AuditAsked) (texts : List (List ℕ)) (answer : Bool) (old new : ShelfState)
    → AreTaken old.files (audit_inputs asked) texts
    → AnswersAudit asked.buckets asked.keep (file_in texts) (texts_audited asked texts) answer
    → new.files ≡ old.files → old.faults ≤ new.faults
    → Outcome (audit_means asked) (Ok answer) old new
audited asked texts answer old new taken answers files faults = record {
  texts = texts;
  taken = taken;
  outputs = [];
  gives = record { answers = answers; none = refl };
  whole = subst (λ (f : Option Files). AreWritten [] old.files f) (sym files)
      (unwritten old.files);
  never_falls = faults;
}

pub not_audited : (asked : AuditAsked) (texts : List (List ℕ)) (r : TextRefused)
    (old new : ShelfState) → AreTaken old.files (audit_inputs asked) texts
    → RefusesAuditing (file_in texts) (texts_audited asked texts) r → new.files ≡ old.files
    → old.faults ≤ new.faults → Outcome (audit_means asked) (Err (Text r)) old new
not_audited asked texts r old new taken says files faults =
    not_accepted (audit_means asked) r texts old new taken says files faults

-- ---- the verdict

log_once : (text : List ℕ) (f g : Option Log) → FindsLog text f → FindsLog text g → f ≡ g
log_once text None None of_f of_g = refl
log_once text None (Some log) none is = absurd (none log is)
log_once text (Some log) None is none = absurd (none log is)
log_once text (Some a) (Some b) of_a of_b =
    ap Some (journals_once a b of_a.told of_b.told (sym of_a.is ∙ of_b.is))

answers_once : (texts : List (List ℕ)) (f g : Option (List (List LineAnswer)))
    → FindsAnswers texts f → FindsAnswers texts g → f ≡ g
answers_once texts None None of_f of_g = refl
answers_once texts None (Some said) none are = absurd (none said are)
answers_once texts (Some said) None are none = absurd (none said are)
answers_once texts (Some a) (Some b) of_a of_b =
    ap Some (said_once a b of_a.answers of_b.answers (sym of_a.are ∙ of_b.are))

judged_said : (texts : List (List ℕ)) (read : Result (List (List ScriptLine)) NumberedFault)
    (v w : Verdict) → JudgesSaid texts read v → JudgesSaid texts read w → v ≡ w
judged_said texts (Err at) v w of_v of_w = of_v ∙ sym of_w
judged_said texts (Ok lines) v w of_v of_w =
    of_v.2
    ∙ ap verdict_of_answers (answers_once texts of_v.0 of_w.0 of_v.1 of_w.1)
    ∙ sym of_w.2

judged_log : (t : AuditTexts) (models : List Content) (log : Option Log) (v w : Verdict)
    → JudgesLog t models log v → JudgesLog t models log w → v ≡ w
judged_log t models None v w of_v of_w = of_v ∙ sym of_w
judged_log t models (Some log) v w of_v of_w =
    judged_said t.transcripts (lines_in_history log models t.scripts) v w of_v of_w

judged_left : (t : AuditTexts) (models : List Content) (v w : Verdict) → JudgesLeft t models v
    → JudgesLeft t models w → v ≡ w
judged_left t models v w of_v of_w =
    judged_log t models of_w.0 v w
    (subst (λ (log : Option Log). JudgesLog t models log v)
    (log_once t.journal of_v.0 of_w.0 of_v.1 of_w.1) of_v.2) of_w.2

-- what the transcripts are judged to be, where no script has a fault
said_judged : (t : AuditTexts) (models : List Content) (log : Log) (lines : List (List ScriptLine))
    (v : Verdict) → lines_in_history log models t.scripts ≡ Ok lines
    → JudgesSaid t.transcripts (Ok lines) v
    → JudgesSaid t.transcripts (lines_in_history log models t.scripts) v
said_judged t models log lines v read judged =
    subst (λ (r : Result (List (List ScriptLine)) NumberedFault). JudgesSaid t.transcripts r v)
    (sym read) judged

read_fine : (file : List ℕ) (t : AuditTexts) → AllRead file t
    → JudgesModels (JudgesLeft t) file Fine
read_fine file t all =
    let begun = all.scripts.begun in
    record {
      reading = Ok begun.models;
      says = begun.gives;
      judged = (
        Some begun.log,
        begun.journal,
        said_judged t begun.models begun.log all.scripts.lines Fine all.scripts.read
            (Some all.said, all.transcripts, refl),
      );
    }

lacks_journal : (file : List ℕ) (t : AuditTexts) (line : ℕ) → LacksJournal file t line
    → JudgesModels (JudgesLeft t) file HasJournalFault
lacks_journal file t line says = record {
  reading = Ok says.models;
  says = says.gives;
  judged = (None, (λ log is. no_journal t.journal line log says.first is), refl);
}

lacks_script : (file : List ℕ) (t : AuditTexts) (at : NumberedFault) → LacksScript file t at
    → JudgesModels (JudgesLeft t) file (HasScriptFault at)
lacks_script file t at says =
    let begun = says.begun in
    record {
      reading = Ok begun.models;
      says = begun.gives;
      judged = (
        Some begun.log,
        begun.journal,
        subst
            (λ (r : Result (List (List ScriptLine)) NumberedFault).
            JudgesSaid t.transcripts r (HasScriptFault at)) (sym says.first) refl,
      );
    }

lacks_transcript : (file : List ℕ) (t : AuditTexts) (at : TranscriptLine)
    → LacksTranscript file t at → JudgesModels (JudgesLeft t) file HasTranscriptFault
lacks_transcript file t at says =
    let begun = says.scripts.begun in
    record {
      reading = Ok begun.models;
      says = begun.gives;
      judged = (
        Some begun.log,
        begun.journal,
        said_judged t begun.models begun.log says.scripts.lines HasTranscriptFault says.scripts.read
            (None, (λ said are. no_transcripts t.transcripts at said says.first are), refl),
      );
    }

audit_refused_by : (file : List ℕ) (t : AuditTexts) (r : TextRefused) → RefusesAuditing file t r
    → AgreesWith (JudgesModels (JudgesLeft t) file) r
audit_refused_by file t (Vox fault) says =
    record { reading = Err fault; says = says; judged = refl }
audit_refused_by file t (Journal line) says = lacks_journal file t line says
audit_refused_by file t (Script at) says = lacks_script file t at says
audit_refused_by file t (Transcript at) says = lacks_transcript file t at says
audit_refused_by file t (StoreFull full) says = read_fine file t says.all
audit_refused_by file t Memory says = tt
audit_refused_by file t _ says = absurd says

said_or_none : (texts : List (List ℕ)) (read : Result (List (List ScriptLine)) NumberedFault)
    → ((v : Verdict) → JudgesSaid texts read v → ⊥) → ⊥
said_or_none texts (Err at) none = none (HasScriptFault at) refl
said_or_none texts (Ok lines) none =
    none HasTranscriptFault (None, (λ said are. none Fine (Some said, are, refl)), refl)

left_or_none : (t : AuditTexts) (models : List Content)
    → ((v : Verdict) → JudgesLeft t models v → ⊥) → ⊥
left_or_none t models none =
    none HasJournalFault (
      None,
      (λ log is. said_or_none t.transcripts (lines_in_history log models t.scripts)
          (λ v judged. none v (Some log, is, judged))),
      refl,
    )

pub audit_judged : (asked : AuditAsked) → IsJudged (audit_means asked)
audit_judged asked = record {
  one = λ texts v w of_v of_w.
      models_once (JudgesLeft (texts_audited asked texts))
      (λ models a b of_a of_b. judged_left (texts_audited asked texts) models a b of_a of_b)
      (file_in texts) v w of_v of_w;
  given = λ texts answer outputs g.
      read_fine (file_in texts) (texts_audited asked texts) g.answers.all;
  begun = λ texts outputs b. absurd b;
  refused = λ texts r says.
      audit_refused_by (file_in texts) (texts_audited asked texts) r says;
  some = λ readings texts none.
      models_not_lacking (JudgesLeft (texts_audited asked texts)) (file_in texts) readings
      (λ models lacking. left_or_none (texts_audited asked texts) models lacking) none;
  computed = λ readings told texts. absurd (let no : ⊥ = cc in no);
}
