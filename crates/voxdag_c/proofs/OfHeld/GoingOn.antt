-- What comes of a journal that is to be gone on with.
use Rattle.std.proofs.Common.{◌≡◌, ◌≢◌, true, false, ℕ, ◌+◌, ◌-◌, ◌^◌, ◌≤◌, List, [], ◌∷◌, Option, Some, None, length, sym, ◌∙◌, ap, subst, arith}
use Rattle.std.specs.Prelude.{Bool, Result, Ok, Err, IfOk, IfErr}
use Rattle.std.specs.Global.{Box}
use Rattle.std.proofs.lemmas.Bool.{false≢true}
use Rattle.vox_read.specs.Contents.{Content}
use Rattle.history_model.specs.declared.reading.JournalFault.{JournalFault}
use Rattle.history_model.specs.declared.reading.JournalFault.TheVariants as journals
use Rattle.history_model.specs.declared.histories.Mark.{Mark}
use Rattle.history_model.specs.Entries.{AreMarks, HasJournal}
use Rattle.history_model.specs.Logs.{Log, IsLegal}
use Rattle.history_model.specs.Refusals.{RefusesJournal}
use Rattle.node_words.specs.Plans.{Layout, is_cap}
use Rattle.store_run.specs.Replaying.{AreLegalRecords}
use Rattle.dag_answers.specs.declared.making.HistoryRefused.{HistoryRefused}
use Rattle.dag_answers.specs.declared.making.HistoryRefused.TheVariants as histories
use Rattle.dag_answers.specs.Histories.{RefusesHistoryOver}
use Rattle.dag_answers.proofs.LegalLaws.{legal_whole}
use Rattle.dag_answers.proofs.ToldLaws.{told_marks}
use Rattle.voxdag_c.specs.declared.held.worlds.CWorld.{CWorld}
use Rattle.voxdag_c.specs.held.Calls.{AsksForModels}
use Rattle.voxdag_c.specs.held.GoingOn.{IsCapAsked, IsPlanAsked, IsToldOver, IsGoneOn, RefusesToGoOn, GoesOnInHandle, PutsFault, PutsWhy, IsFewAt}

-- ---- a journal has few lines

few_marks : (count least : ℕ) (ms : List Mark) → AreMarks count least ms
    → length ms ≤ count - least
few_marks count least [] are = omega arith
few_marks count least (m ∷ ms) are =
    let rest = few_marks count (m.version + 1) ms are.2 in
    let low = are.0 in
    let less = are.1.0 in
    let high = are.1.1 in
    omega (arith, rest, low, less, high)

pub few_lines : (log : Log) → HasJournal log
    → length log.records + length log.marks ≤ 131070
few_lines log has =
    let few = has.few in
    let marks = few_marks (length log.records) 0 log.marks has.marks in
    omega (arith, few, marks)

-- ---- refusals

pub cap_is_asked : (cap : ℕ) (b : Bool) → b ≡ is_cap cap → b ≡ true → IsCapAsked cap
cap_is_asked cap b same is some = sym same ∙ is

pub cap_is_not : (cap : ℕ) (b : Bool) → cap ≢ 0 → b ≡ is_cap cap → b ≡ false → ¬ IsCapAsked cap
cap_is_not cap b some same is asked = false≢true (sym is ∙ same ∙ asked some)

pub journal_refused : (cap : ℕ) (bytes journal : List ℕ) (models : List Content)
    (fault : JournalFault) (old new status : ℕ) → IsCapAsked cap → AsksForModels bytes models
    → RefusesJournal fault journal → PutsFault fault old new status
    → RefusesToGoOn cap bytes journal old new status
journal_refused cap bytes journal models (journals.Line n) old new status ok asks says puts =
    subst (λ (k : ℕ). RefusesToGoOn cap bytes journal old new k) (sym puts.1)
    (RefusesToGoOn.bad_journal models ok asks
    (subst (λ (k : ℕ). RefusesJournal (journals.Line k) journal) (sym puts.0) says))
journal_refused cap bytes journal models journals.Memory old new status ok asks says puts =
    subst (λ (k : ℕ). RefusesToGoOn cap bytes journal old new k) (sym puts.1)
    (RefusesToGoOn.memory ok puts.0)

pub not_boxed_on : {X : Type 0} (cap : ℕ) (bytes journal : List ℕ) (old new : ℕ)
    → IsCapAsked cap → new ≡ old
    → (result : Result X ℕ) → IfErr result (λ status. status ≡ 2)
    → IfErr result (RefusesToGoOn cap bytes journal old new)
not_boxed_on cap bytes journal old new ok same (Ok x) is = tt
not_boxed_on cap bytes journal old new ok same (Err status) is =
    subst (λ (n : ℕ). RefusesToGoOn cap bytes journal old new n) (sym is)
    (RefusesToGoOn.memory ok same)

pub boxed_gone : (cap keep : ℕ) (bytes journal : List ℕ) (w : CWorld)
    (result : Result (Box CWorld) ℕ) → IfOk result (λ b. b.value ≡ w)
    → IsGoneOn cap keep bytes journal w → IfOk result (λ b. IsGoneOn cap keep bytes journal b.value)
boxed_gone cap keep bytes journal w (Err status) is gone = tt
boxed_gone cap keep bytes journal w (Ok b) is gone =
    subst (λ (v : CWorld). IsGoneOn cap keep bytes journal v) (sym is) gone

-- the record that isn't legal is one of 65,536
pub few_at : (p : Layout) (models : List Content) (log : Log) (why : HistoryRefused)
    → RefusesHistoryOver p models log why → IsFewAt why
few_at p models log (histories.Illegal n) says =
    let few = says.legal.few in let number = says.number in omega (arith, few, number)
few_at p models log (histories.Full full) says = tt
few_at p models log histories.Memory says = tt

module _ (cap keep : ℕ) (models : List Content) (log : Log) (has : HasJournal log) (p : Layout)
    (ok : IsCapAsked cap) (asked : IsPlanAsked log.side cap p) where
  pub history_refused : (why : HistoryRefused) (old new status : ℕ)
      → RefusesHistoryOver p models log why → PutsWhy why old new status
      → (bytes journal : List ℕ) → IsToldOver bytes journal models log
      → RefusesToGoOn cap bytes journal old new status
  history_refused (histories.Illegal n) old new status says puts bytes journal told =
      subst (λ (k : ℕ). RefusesToGoOn cap bytes journal old new k) (sym puts.1)
      (RefusesToGoOn.not_legal models log n ok told says puts.0)
  history_refused (histories.Full full) old new status says puts bytes journal told =
      subst (λ (k : ℕ). RefusesToGoOn cap bytes journal old new k) (sym puts.1)
      (RefusesToGoOn.full models log ok
      (record {
        told = told;
        legal = legal_whole models log (told_marks log has) says.0;
        plan = p;
        asked = asked;
        bucket = full;
        fills = says.1;
      })
      puts.0)
  history_refused histories.Memory old new status says puts bytes journal told =
      subst (λ (k : ℕ). RefusesToGoOn cap bytes journal old new k) (sym puts.1)
      (RefusesToGoOn.memory ok puts.0)

  -- the world is gone on with
  pub gone_on : (w : CWorld)
      → AreLegalRecords (2 ^ log.side) models log.marks log.records
      → w.open.plan ≡ p → w.open.models ≡ models → w.open.log ≡ log
      → w.keep ≡ keep → w.line ≡ length log.records + length log.marks + 1
      → (bytes journal : List ℕ) → IsToldOver bytes journal models log
      → IsGoneOn cap keep bytes journal w
  gone_on w records plan same is kept line bytes journal told = record {
    told =
        subst (λ (l : Log). IsToldOver bytes journal w.open.models l) (sym is)
        (subst (λ (ms : List Content). IsToldOver bytes journal ms log) (sym same) told);
    legal =
        subst (λ (l : Log). IsLegal (2 ^ w.open.plan.side) w.open.models l) (sym is)
        (subst (λ (ms : List Content). IsLegal (2 ^ w.open.plan.side) ms log) (sym same)
        (subst (λ (s : ℕ). IsLegal (2 ^ s) models log)
        (sym (ap (λ (q : Layout). q.side) plan ∙ asked.side_is))
        (legal_whole models log (told_marks log has) records)));
    plan =
        subst (λ (l : Log). IsPlanAsked l.side cap w.open.plan) (sym is)
        (subst (λ (q : Layout). IsPlanAsked log.side cap q) (sym plan) asked);
    keep_is = kept;
    line =
        line
        ∙ ap (λ (l : Log). length l.records + length l.marks + 1) (sym is);
  }

-- ---- handles

module _ (cap keep : ℕ) (bytes journal : List ℕ) (before line : ℕ) where
  pub goes_on_open : (old new : Option CWorld) (w : CWorld) → Some w ≡ old → new ≡ Some w
      → line ≡ before → GoesOnInHandle cap keep bytes journal before line old 13 new
  goes_on_open old new w was now same =
      subst (λ (o : Option CWorld). GoesOnInHandle cap keep bytes journal before line o 13 new) was
      (subst (λ (n : Option CWorld). GoesOnInHandle cap keep bytes journal before line (Some w) 13 n)
      (sym now) (GoesOnInHandle.is_open w same))

  pub goes_on_begun : (old new : Option CWorld) (w : CWorld) → old ≡ None → new ≡ Some w
      → IsGoneOn cap keep bytes journal w → line ≡ before
      → GoesOnInHandle cap keep bytes journal before line old 0 new
  goes_on_begun old new w was now gone same =
      subst (λ (o : Option CWorld). GoesOnInHandle cap keep bytes journal before line o 0 new) (sym was)
      (subst (λ (n : Option CWorld). GoesOnInHandle cap keep bytes journal before line None 0 n)
      (sym now) (GoesOnInHandle.gone_on w gone same))

  pub goes_on_not : (old new : Option CWorld) (status : ℕ) → old ≡ None → new ≡ None
      → RefusesToGoOn cap bytes journal before line status
      → GoesOnInHandle cap keep bytes journal before line old status new
  goes_on_not old new status was now why =
      subst (λ (o : Option CWorld). GoesOnInHandle cap keep bytes journal before line o status new)
      (sym was)
      (subst (λ (n : Option CWorld). GoesOnInHandle cap keep bytes journal before line None status n)
      (sym now) (GoesOnInHandle.refused status why))
