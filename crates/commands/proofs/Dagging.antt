-- What the file of a journal's versions gives, as an outcome of the whole command.
use Rattle.std.proofs.Common.{◌≡◌, ◌≤◌, ℕ, ◌+◌, ◌^◌, List, [], ◌∷◌, Option, Some, Ok, Err, None, refl, sym, ap, subst, ◌∙◌, inl, inr, arith}
use Rattle.vw_io.specs.Outside.{Files, ShelfState}
use Rattle.vw_io.specs.Inputs.{AreTaken}
use Rattle.vw_io.specs.Outputs.{Named, AreWritten}
use Rattle.vox_chunk.specs.declared.faults.VoxFault.{VoxFault}
use Rattle.vox_chunk.specs.declared.faults.VoxFault.TheVariants as faults
use Rattle.vox_read.specs.Contents.{Content}
use Rattle.vox_read.specs.Files.{ReadsModels, RefusesFile}
use Rattle.history_model.specs.declared.reading.JournalFault.{JournalFault}
use Rattle.history_model.specs.declared.reading.JournalFault.TheVariants as journals
use Rattle.history_model.specs.Logs.{Log, IsLegal}
use Rattle.history_model.specs.Refusals.{RefusesJournal}
use Rattle.commands.specs.Audits.{IsJournalOf}
use Rattle.node_words.specs.declared.shares.Full.{Full}
use Rattle.commands.specs.declared.refusals.CommandRefused.TheVariants.{Text, Output}
use Rattle.commands.specs.declared.refusals.NamedOutputRefused.{NamedOutputRefused}
use Rattle.commands.specs.declared.refusals.TextRefused.{TextRefused}
use Rattle.commands.specs.declared.refusals.TextRefused.TheVariants.{Vox, StoreFull, Journal, Memory}
use Rattle.dag_answers.specs.declared.making.HistoryRefused.TheVariants as histories
use Rattle.dag_answers.specs.Histories.{IsFileOfHistory, RefusesHistory}
use Rattle.dag_answers.specs.Replaying.{AreLegalRecords}
use Rattle.dag_answers.specs.Legality.{IsFirstIllegal}
use Rattle.dag_answers.proofs.LegalLaws.{legal_whole, first_not_legal, legal_records}
use Rattle.dag_answers.proofs.ToldLaws.{told_marks}
use Rattle.commands.specs.Dags.{GivesHistory, GivesLegal, MakesDag, FillsReplay, RefusesDagging, LacksHistory, journal_in, HasIllegal, JudgesLegal, FindsLegalLog, verdict_of_legal, dag_inputs, dag_means}
use Rattle.commands.specs.Meanings.{file_in}
use Rattle.requests.specs.Orders.{DagAsked}
use Rattle.commands.specs.Outcomes.{Outcome}
use Rattle.commands.specs.Putting.{StopsAmong}
use Rattle.commands.specs.Refusals.{of_vox, of_journal}
use Rattle.commands.specs.Judging.{AgreesWith, IsJudged}
use Rattle.commands.specs.Judged.{models_once, models_not_lacking}
use Rattle.commands.specs.Verdicts.{Verdict, Fine, HasJournalFault, JudgesModels}
use Rattle.commands.specs.Unread.{no_journal}
use Rattle.history_model.proofs.OnceLaws.{journals_once}
use Rattle.commands.proofs.Accepting.{not_accepted}
use Rattle.commands.proofs.Putting.{broken_off}

-- ---- refusals

pub line_refused : (fault : JournalFault) (file journal : List ℕ) (models : List Content)
    → ReadsModels file (Ok models) → RefusesJournal fault journal
    → RefusesDagging file journal (of_journal fault)
line_refused (journals.Line line) file journal models gives says =
    inl (record { models = models; gives = gives; first = says })
line_refused journals.Memory file journal models gives says = tt

pub file_refused : (fault : VoxFault) (file journal : List ℕ) → RefusesFile fault file
    → RefusesDagging file journal (of_vox fault)
file_refused faults.Memory file journal says = tt
file_refused faults.NotVox file journal says = says
file_refused _ file journal says = says

module _ (file journal : List ℕ) (models : List Content) (log : Log)
    (gives : ReadsModels file (Ok models)) (of : IsJournalOf journal log) where
  abbrev given : GivesHistory file journal
  given = record { models = models; gives = gives; log = log; is = of }

  pub illegal_refused : (number : ℕ) → IsFirstIllegal (2 ^ log.side) models log number
      → LacksHistory file journal (number + 2)
  illegal_refused number illegal =
      inr (record { given = given; number = number; is = refl; illegal = illegal })

  -- a record that fills a bucket is one of a legal history, and so is one whose file was made
  pub full_refused : (full : Full) → RefusesHistory models log (histories.Full full)
      → FillsReplay file journal full
  full_refused full says = record {
    legal = record {
      given = given;
      legal = legal_whole models log
          (told_marks log of.told) says.0;
    };
    fills = says.1;
  }

  pub makes_dag : (dag : List ℕ) → AreLegalRecords (2 ^ log.side) models log.marks log.records
      → IsFileOfHistory models log dag → MakesDag file journal dag
  makes_dag dag records made = record {
    legal = record {
      given = given;
      legal = legal_whole models log
          (told_marks log of.told) records;
    };
    is = made;
  }

-- ---- outcomes

abbrev pub dag_output : DagAsked → List ℕ → List Named
dag_output asked dag = record { name = asked.out; bytes = dag } ∷ []

pub dag_written : (asked : DagAsked) (texts : List (List ℕ)) (dag : List ℕ)
    (old mid new : ShelfState)
    → AreTaken old.files (dag_inputs asked) texts
    → MakesDag (file_in texts) (journal_in texts) dag → mid.files ≡ old.files
    → old.faults ≤ mid.faults → AreWritten (dag_output asked dag) mid.files new.files
    → mid.faults ≤ new.faults
    → Outcome (dag_means asked) (Ok tt) old new
dag_written asked texts dag old mid new taken makes same grown whole more = record {
  texts = texts;
  taken = taken;
  outputs = dag_output asked dag;
  gives = record { dag = dag; makes = makes; are = refl };
  whole = subst
      (λ (f : Option Files). AreWritten (dag_output asked dag) f new.files) same whole;
  never_falls = omega (arith, grown, more);
}

pub dag_stopped : (asked : DagAsked) (texts : List (List ℕ)) (dag : List ℕ) (r : NamedOutputRefused)
    (old mid new : ShelfState) → AreTaken old.files (dag_inputs asked) texts
    → MakesDag (file_in texts) (journal_in texts) dag → mid.files ≡ old.files
    → old.faults ≤ mid.faults → StopsAmong r (dag_output asked dag) mid new
    → Outcome (dag_means asked) (Err (Output r)) old new
dag_stopped asked texts dag r old mid new taken makes same grown stops =
    broken_off r (dag_means asked) texts (dag_output asked dag) old mid new taken
    (record { dag = dag; makes = makes; are = refl }) same grown stops

pub no_dag : (asked : DagAsked) (texts : List (List ℕ)) (r : TextRefused) (old new : ShelfState)
    → AreTaken old.files (dag_inputs asked) texts
    → RefusesDagging (file_in texts) (journal_in texts) r → new.files ≡ old.files
    → old.faults ≤ new.faults → Outcome (dag_means asked) (Err (Text r)) old new
no_dag asked texts r old new taken says files faults =
    not_accepted (dag_means asked) r texts old new taken says files faults

-- ---- the verdict

legal_log_once : (models : List Content) (text : List ℕ) (f g : Option Log)
    → FindsLegalLog models text f → FindsLegalLog models text g → f ≡ g
legal_log_once models text None None of_f of_g = refl
legal_log_once models text None (Some log) none is = absurd (none log is.0 is.1)
legal_log_once models text (Some log) None is none = absurd (none log is.0 is.1)
legal_log_once models text (Some a) (Some b) of_a of_b =
    ap Some (journals_once a b of_a.0.told of_b.0.told (sym of_a.0.is ∙ of_b.0.is))

legal_once : (text : List ℕ) (models : List Content) (v w : Verdict) → JudgesLegal text models v
    → JudgesLegal text models w → v ≡ w
legal_once text models v w of_v of_w =
    of_v.2
    ∙ ap verdict_of_legal (legal_log_once models text of_v.0 of_w.0 of_v.1 of_w.1)
    ∙ sym of_w.2

-- a journal of an illegal history tells no legal one
illegal_alone : (file journal : List ℕ) (line : ℕ) (has : HasIllegal file journal line) (log : Log)
    → IsJournalOf journal log → IsLegal (2 ^ log.side) has.given.models log → ⊥
illegal_alone file journal line has log is legal =
    let given = has.given in
    let same : log ≡ given.log =
    journals_once log given.log is.told given.is.told (sym is.is ∙ given.is.is) in
    first_not_legal (2 ^ given.log.side) given.models given.log has.number has.illegal
    (legal_records given.models given.log
    (subst (λ (l : Log). IsLegal (2 ^ l.side) given.models l) same legal))

legal_fine : (file journal : List ℕ) → GivesLegal file journal
    → JudgesModels (JudgesLegal journal) file Fine
legal_fine file journal legal = record {
  reading = Ok legal.given.models;
  says = legal.given.gives;
  judged = (Some legal.given.log, (legal.given.is, legal.legal), refl);
}

lacks_history : (file journal : List ℕ) (line : ℕ) → LacksHistory file journal line
    → JudgesModels (JudgesLegal journal) file HasJournalFault
lacks_history file journal line (inl lacks) = record {
  reading = Ok lacks.models;
  says = lacks.gives;
  judged = (None, (λ log is legal. no_journal journal line log lacks.first is), refl);
}
lacks_history file journal line (inr has) = record {
  reading = Ok has.given.models;
  says = has.given.gives;
  judged = (None, illegal_alone file journal line has, refl);
}

dag_refused_by : (file journal : List ℕ) (r : TextRefused) → RefusesDagging file journal r
    → AgreesWith (JudgesModels (JudgesLegal journal) file) r
dag_refused_by file journal (Vox fault) says =
    record { reading = Err fault; says = says; judged = refl }
dag_refused_by file journal (Journal line) says = lacks_history file journal line says
dag_refused_by file journal (StoreFull full) says = legal_fine file journal says.legal
dag_refused_by file journal Memory says = tt
dag_refused_by file journal _ says = absurd says

legal_or_none : (text : List ℕ) (models : List Content)
    → ((v : Verdict) → JudgesLegal text models v → ⊥) → ⊥
legal_or_none text models none =
    none HasJournalFault
    (None, (λ log is legal. none Fine (Some log, (is, legal), refl)), refl)

pub dag_judged : (asked : DagAsked) → IsJudged (dag_means asked)
dag_judged asked = record {
  one = λ texts v w of_v of_w.
      models_once (JudgesLegal (journal_in texts))
      (λ models a b of_a of_b. legal_once (journal_in texts) models a b of_a of_b)
      (file_in texts) v w of_v of_w;
  given = λ texts told outputs g. legal_fine (file_in texts) (journal_in texts) g.makes.legal;
  begun = λ texts outputs b. legal_fine (file_in texts) (journal_in texts) b.makes.legal;
  refused = λ texts r says. dag_refused_by (file_in texts) (journal_in texts) r says;
  some = λ readings texts none.
      models_not_lacking (JudgesLegal (journal_in texts)) (file_in texts) readings
      (λ models lacking. legal_or_none (journal_in texts) models lacking) none;
  computed = λ readings told texts. absurd (let no : ⊥ = cc in no);
}
