-- What the command `dag` writes, or is refused for.
use Rattle.std.specs.Prelude.{◌≡◌, ◌⊎◌, ℕ, ◌+◌, ◌^◌, List, [], ◌∷◌, true, get_or, Option, Some, None, Ok, Err, ⊤}
use Rattle.vw_io.specs.Inputs.{WantedInput}
use Rattle.vw_io.specs.Outputs.{Named}
use Rattle.vox_read.specs.Contents.{Content}
use Rattle.vox_read.specs.Files.{ReadsModels}
use Rattle.history_model.specs.declared.reading.JournalFault.TheVariants as journals
use Rattle.history_model.specs.Logs.{Log, IsLegal}
use Rattle.node_words.specs.declared.shares.Full.{Full}
use Rattle.dag_answers.specs.Replaying.{MayFillAlong, replay_plan}
use Rattle.dag_answers.specs.Histories.{IsFileOfHistory}
use Rattle.dag_answers.specs.Legality.{IsFirstIllegal}
use Rattle.commands.specs.declared.refusals.TextRefused.{TextRefused}
use Rattle.commands.specs.declared.refusals.TextRefused.TheVariants.{Vox, Journal, StoreFull, Memory}
use Rattle.history_model.specs.Refusals.{RefusesJournal}
use Rattle.commands.specs.Audits.{IsJournalOf}
use Rattle.commands.specs.Meanings.{Meaning, file_in}
use Rattle.requests.specs.Orders.{DagAsked}
use Rattle.commands.specs.Inputs.{vox_input, script_input}
use Rattle.commands.specs.Verdicts.{Verdict, Fine, HasJournalFault, JudgesModels}

-- the journal's text comes behind that of the VOX file
abbrev pub journal_in : List (List ℕ) → List ℕ
journal_in texts = get_or texts 1 []

-- the file gives models, and the journal a history
pub record GivesHistory (file journal : List ℕ) : Type 0 where
  pub models : List Content
  pub gives : ReadsModels file (Ok models)
  pub log : Log
  pub is : IsJournalOf journal log

-- which is legal
pub record GivesLegal (file journal : List ℕ) : Type 0 where
  pub given : GivesHistory file journal
  pub legal : IsLegal (2 ^ given.log.side) given.models given.log

-- and this is the file of its versions without a mark
pub record MakesDag (file journal dag : List ℕ) : Type 0 where
  pub legal : GivesLegal file journal
  pub is : IsFileOfHistory legal.given.models legal.given.log dag

-- it is the one output
pub record DagWritten (asked : DagAsked) (file journal : List ℕ)
    (outputs : List Named) : Type 0 where
  pub dag : List ℕ
  pub makes : MakesDag file journal dag
  pub are : outputs ≡ record { name = asked.out; bytes = dag } ∷ []

-- ---- what is refused

-- the file gives models, and this line of the journal is refused
pub record LacksLine (file journal : List ℕ) (line : ℕ) : Type 0 where
  pub models : List Content
  pub gives : ReadsModels file (Ok models)
  pub first : RefusesJournal (journals.Line line) journal

-- or it is the line of the first record that breaks a rule of a legal history
pub record HasIllegal (file journal : List ℕ) (line : ℕ) : Type 0 where
  pub given : GivesHistory file journal
  pub number : ℕ
  pub is : line ≡ number + 2
  pub illegal : IsFirstIllegal (2 ^ given.log.side) given.models given.log number

abbrev pub LacksHistory : List ℕ → List ℕ → ℕ → Type 0
LacksHistory file journal line = LacksLine file journal line ⊎ HasIllegal file journal line

-- the history is legal, and the records up to one of them can fill this bucket
pub record FillsReplay (file journal : List ℕ) (full : Full) : Type 0 where
  pub legal : GivesLegal file journal
  pub fills : MayFillAlong (replay_plan legal.given.log.side) legal.given.models
      legal.given.log.marks legal.given.log.records full

-- want of memory says nothing
abbrev pub RefusesDagging : List ℕ → List ℕ → TextRefused → Type 0
RefusesDagging file journal (Vox fault) = ReadsModels file (Err fault)
RefusesDagging file journal (Journal line) = LacksHistory file journal line
RefusesDagging file journal (StoreFull full) = FillsReplay file journal full
RefusesDagging file journal Memory = ⊤
RefusesDagging file journal _ = ⊥

-- ---- what is judged

-- the text is that of this legal history, or of none
abbrev pub FindsLegalLog : List Content → List ℕ → Option Log → Type 0
FindsLegalLog models text None =
    (log : Log) → IsJournalOf text log → IsLegal (2 ^ log.side) models log → ⊥
FindsLegalLog models text (Some log) =
    IsJournalOf text log × IsLegal (2 ^ log.side) models log

abbrev pub verdict_of_legal : Option Log → Verdict
verdict_of_legal None = HasJournalFault
verdict_of_legal (Some log) = Fine

abbrev pub JudgesLegal : List ℕ → List Content → Verdict → Type 0
JudgesLegal text models v =
    (log : Option Log) × FindsLegalLog models text log × (v ≡ verdict_of_legal log)

-- what is read, in order
abbrev pub dag_inputs : DagAsked → List WantedInput
dag_inputs asked = vox_input asked.file ∷ script_input asked.journal ∷ []

abbrev pub dag_means : DagAsked → Meaning (Unit {0})
dag_means asked = record {
  inputs = dag_inputs asked;
  gives = λ texts none outputs. DagWritten asked (file_in texts) (journal_in texts) outputs;
  begins = λ texts outputs. DagWritten asked (file_in texts) (journal_in texts) outputs;
  refuses = λ texts r. RefusesDagging (file_in texts) (journal_in texts) r;
  judges = λ texts v. JudgesModels (JudgesLegal (journal_in texts)) (file_in texts) v;
  journal = true;
}
