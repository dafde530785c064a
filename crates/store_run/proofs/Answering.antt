-- What each answer makes of a run.
use Rattle.std.proofs.Common.{◌≡◌, ◌≢◌, ℕ, ◌+◌, ◌<◌, ◌≤◌, append-nil, Bool, true, false, Some, None, Option, List, [], ◌∷◌, ◌++◌, length, length-append, refl, sym, ◌∙◌, ap, subst, arith}
use Rattle.vox_read.specs.Contents.{Content}
use Rattle.history_model.specs.declared.acts.Act.{Act}
use Rattle.history_model.specs.declared.acts.Act.TheVariants.{Fill, Erase, Ball, Carve, Copy, Stamp, Tint, Undo, Redo}
use Rattle.history_model.specs.declared.histories.Mark.{Mark}
use Rattle.history_model.specs.declared.histories.Record.{Record}
use Rattle.history_model.specs.Logs.{Log}
use Rattle.history_model.specs.Worlds.{is_edit}
use Rattle.node_words.specs.shapes.Shape.{Shape}
use Rattle.node_words.specs.declared.shares.Full.{Full}
use Rattle.node_words.specs.Gathering.{Grew}
use Rattle.node_words.specs.Plans.{Layout}
use Rattle.core_laws.specs.contents.Versions.{HoldsVersion}
use Rattle.script.specs.declared.commands.Command.TheVariants.{Edit, Forget}
use Rattle.script.specs.declared.commands.ScriptLine.{ScriptLine}
use Rattle.transcript.specs.declared.answers.Answer.{Answer}
use Rattle.transcript.specs.declared.answers.Answer.TheVariants as answers
use Rattle.transcript.specs.declared.answers.LineAnswer.{LineAnswer}
use Rattle.conformance.specs.Answers.{IsUnforgotten, IsReadable, IsForgotten, Answers, no_version, forgotten, is_head, nothing_to_undo, nothing_to_redo, log_full, Names, target_at}
use Rattle.conformance.specs.Kinds.{is_resting, answer_at, IsAfter}
use Rattle.conformance.specs.Refusing.{refused_by}
use Rattle.conformance.specs.Running.{IsSoFar, GrowsByRecord}
use Rattle.conformance.proofs.LineKinds.{kept_readable, marked_forgotten}
use Rattle.conformance.specs.scripts.Keeping.{MadeAndMet, last_moment}
use Rattle.conformance.specs.scripts.Sessions.{TakesLine}
use Rattle.conformance.proofs.OfScripts.Arms.{rebuilt_arm, undone_arm, forgot_arm, full_arm, late_arm, resting_arm, before_within}
use Rattle.one_store.specs.Known.{known_state}
use Rattle.store_run.specs.declared.stored_versions.Versions.{Versions}
use Rattle.store_run.specs.Kept.{plan_of, log_of, moment_of, noted_of, AreStoredVersions, LosesTree, HoldsSame}
use Rattle.store_run.specs.Steps.{IsVersionMarked, LeavesAll, SharesRootOfVersion, MakesRoot, MeetsBucket, GainsRecord, GainsMark}
use Rattle.store_run.specs.Answering.{ExtendsBy, nothing_to_go_to}
use Rattle.store_run.proofs.Holding.{same_again}
use Rattle.store_run.proofs.Sparing.{gave_nothing}
use Rattle.conformance.proofs.OfScripts.Going.{goes_to}
use Rattle.store_run.proofs.Targets.{Wants, grew_wanted, meets_full}

moment_as : (old new : Versions) → log_of new ≡ log_of old → moment_of new ≡ moment_of old
moment_as old new log = ap (λ (l : Log). length l.records) log

noted_as : (old new : Versions) → new.store.told.made ≡ old.store.told.made
    → new.store.told.met ≡ old.store.told.met → noted_of new ≡ noted_of old
noted_as old new made met = λ i. record { made = made i; met = met i }

records_as : (old new : Versions) → log_of new ≡ log_of old
    → new.records.items ≡ old.records.items ++ []
records_as old new log = ap (λ (l : Log). l.records) log ∙ sym (append-nil old.records.items)

-- what fits, whatever has run so far
abbrev pub FitsSoFar : Versions → ℕ → ScriptLine → Answer → Type 0
FitsSoFar v session l answer =
    (keep since : ℕ) (scripts : List (List ScriptLine)) (transcripts : List (List LineAnswer))
    (script : List ScriptLine) (transcript : List LineAnswer)
    → IsSoFar since keep (plan_of v) v.models.models scripts transcripts script transcript (log_of v)
    → length scripts ≡ session → IsAfter script l
    → Answers (plan_of v) v.models.models (log_of v)
    (IsUnforgotten (log_of v).marks session l.line (moment_of v)) session l.line
    (moment_of v) l.command answer

-- an answer that changes nothing
pub rests : (v w : Versions) (session : ℕ) (l : ScriptLine) (answer : Answer) → AreStoredVersions v
    → LeavesAll v w
    → is_resting answer ≡ true → refused_by l.command (moment_of v) answer ≡ []
    → FitsSoFar v session l answer
    → ExtendsBy v session l answer w
rests v w session l answer are leaves resting none fits = record {
  models = leaves.stay.models;
  plan = leaves.stay.spares.plan;
  more = [];
  records = records_as v w leaves.stay.log;
  goes_on = λ keep since scripts transcripts script transcript running within number after. (
      let p = plan_of v in
      let models = v.models.models in
      let first = last_moment 0 transcript in
      let line =
      resting_arm 0 p models session first l (log_of v) answer
      (noted_of v) are.sound.legal resting none
      (fits keep since scripts transcripts script transcript running.so_far number after) in
      subst (λ (new : Log). TakesLine 0 p models session first l (log_of v) new (noted_of v)
      (noted_of w) (answer_at l (length new.records) answer)) (sym leaves.stay.log)
      (subst (λ (now : MadeAndMet). TakesLine 0 p models session first l (log_of v) (log_of v)
      (noted_of v) now (answer_at l (moment_of v) answer))
      (sym (noted_as v w leaves.only.made leaves.only.met)) line));
}

-- ---- a version that is named can't be read

pub names_missing : (v : Versions) (session : ℕ) (l : ScriptLine) (version : ℕ)
    → moment_of v < version
    → Names (IsUnforgotten (log_of v).marks session l.line (moment_of v))
    (moment_of v) l.command version
    → FitsSoFar v session l (answers.NoVersion version)
names_missing v session l version past names keep since scripts transcripts script transcript so_far number after =
    no_version l.command version names past

forgotten_now : (v : Versions) (session : ℕ) (l : ScriptLine) (version : ℕ)
    (mark : IsVersionMarked v version)
    (keep since : ℕ) (scripts : List (List ScriptLine)) (transcripts : List (List LineAnswer))
    (script : List ScriptLine) (transcript : List LineAnswer)
    → IsSoFar since keep (plan_of v) v.models.models scripts transcripts script transcript (log_of v)
    → length scripts ≡ session → IsAfter script l
    → IsForgotten (log_of v).marks session l.line (moment_of v) version
forgotten_now v session l version mark keep since scripts transcripts script transcript so_far number after =
    subst (λ (n : ℕ). IsForgotten (log_of v).marks session l.line (moment_of v) n) mark.same
    (subst (λ (k : ℕ). IsForgotten (log_of v).marks k l.line (moment_of v) mark.mark.version) number
    (marked_forgotten since keep (plan_of v) v.models.models scripts transcripts script transcript l
    (log_of v) mark.mark so_far after mark.listed))

pub readable_now : (v : Versions) (session line version : ℕ) → HoldsVersion (log_of v) version
    → IsReadable (IsUnforgotten (log_of v).marks session line (moment_of v)) (moment_of v) version
readable_now v session line version kept = kept_readable (log_of v) session line version kept

-- ---- edits

module _ (v w : Versions) (session line : ℕ) (act : Act) (once : Bool) (are : AreStoredVersions v)
    (edit : is_edit act ≡ true) where
  p : Layout
  p = plan_of v

  ms : List Content
  ms = v.models.models

  pub edit_full : (full : Full) → MeetsBucket v act full w
      → ExtendsBy v session (record { line = line; command = Edit act once })
      (answers.Full full.level full.bucket) w
  edit_full full meets = record {
    models = meets.stay.models;
    plan = meets.stay.spares.plan;
    more = [];
    records = records_as v w meets.stay.log;
    goes_on = λ keep since scripts transcripts script transcript running within number after. (
        let first = last_moment 0 transcript in
        let low =
        before_within since keep (plan_of v) v.models.models scripts transcripts script transcript
        (log_of v) (noted_of v) running in
        let l : ScriptLine = record { line = line; command = Edit act once } in
        let done =
        full_arm 0 (plan_of v) v.models.models session first line act once full.level full.bucket
        (log_of v) (known_state v.store) (known_state w.store)
        are.sound.legal refl low
        (meets_full v act are edit full.level full.bucket (known_state v.store)
        (known_state w.store) meets.fails) in
        subst (λ (new : Log). TakesLine 0 (plan_of v) v.models.models session first l (log_of v) new
        (noted_of v) (noted_of w)
        (answer_at l (length new.records) (answers.Full full.level full.bucket)))
        (sym meets.stay.log) done);
  }

  pub edit_done : (u : Versions) (root : Option Rattle.node_words.specs.declared.shapes.names.Name.Name)
      → MakesRoot v act root u
      → GainsRecord u (record { session = session; line = line; act = act }) w
      → ExtendsBy v session (record { line = line; command = Edit act once }) answers.Done w
  edit_done u root makes appends = record {
    models = appends.only.models ∙ makes.stay.models;
    plan = appends.only.plan ∙ makes.stay.spares.plan;
    more = record { session = session; line = line; act = act } ∷ [];
    records = appends.grows.records
        ∙ ap
        (λ (l : Log). l.records ++
        record { session = session; line = line; act = act } ∷ []) makes.stay.log;
    goes_on = λ keep since scripts transcripts script transcript running within number after. (
        let first = last_moment 0 transcript in
        let low =
        before_within since keep (plan_of v) v.models.models scripts transcripts script transcript
        (log_of v) (noted_of v) running in
        let l : ScriptLine = record { line = line; command = Edit act once } in
        let r : Record = record { session = session; line = line; act = act } in
        let grows : GrowsByRecord (plan_of v) v.models.models r (log_of v) (log_of w) =
        subst (λ (q : Layout). GrowsByRecord q v.models.models r (log_of v)
        (log_of w)) makes.stay.spares.plan
        (subst (λ (models : List Content). GrowsByRecord (plan_of u) models r (log_of v)
        (log_of w)) makes.stay.models
        (subst (λ (log : Log). GrowsByRecord (plan_of u) u.models.models r log
        (log_of w)) makes.stay.log appends.grows)) in
        let grew : Grew (Wants v act) v.store.told.made w.store.told.made =
        subst (λ (list : List Shape). Grew (Wants v act) v.store.told.made list)
        (sym appends.only.only.made)
        (grew_wanted v act are edit v.store.told.made u.store.told.made makes.grows.made) in
        let done =
        rebuilt_arm (plan_of v) v.models.models session first line act once (log_of v)
        (log_of w) (noted_of v) (noted_of w)
        grows low grew (appends.only.only.met ∙ makes.grows.met) in
        let longer : moment_of w ≡ moment_of v + 1 =
        ap (λ (rs : List Record). length rs) grows.records
        ∙ length-append v.records.items (r ∷ []) in
        subst (λ (n : ℕ). TakesLine 0 (plan_of v) v.models.models session first l (log_of v)
        (log_of w) (noted_of v) (noted_of w) (answer_at l n answers.Done)) (sym longer) done);
  }

  pub edit_late : (u : Versions) (root : Option Rattle.node_words.specs.declared.shapes.names.Name.Name)
      → MakesRoot v act root u
      → moment_of u ≡ 65535 → LeavesAll u w
      → ExtendsBy v session (record { line = line; command = Edit act once }) answers.LogFull w
  edit_late u root makes all leaves = record {
    models = leaves.stay.models ∙ makes.stay.models;
    plan = leaves.stay.spares.plan ∙ makes.stay.spares.plan;
    more = [];
    records = records_as v w (leaves.stay.log ∙ makes.stay.log);
    goes_on = λ keep since scripts transcripts script transcript running within number after. (
        let first = last_moment 0 transcript in
        let low =
        before_within since keep (plan_of v) v.models.models scripts transcripts script transcript
        (log_of v) (noted_of v) running in
        let l : ScriptLine = record { line = line; command = Edit act once } in
        let grew : Grew (Wants v act) v.store.told.made w.store.told.made =
        subst (λ (list : List Shape). Grew (Wants v act) v.store.told.made list)
        (sym leaves.only.made)
        (grew_wanted v act are edit v.store.told.made u.store.told.made makes.grows.made) in
        let done =
        late_arm 0 (plan_of v) v.models.models session first line act once (log_of v)
        (noted_of v) (noted_of w)
        are.sound.legal (sym (moment_as v u makes.stay.log) ∙ all) edit low grew
        (leaves.only.met ∙ makes.grows.met) in
        subst (λ (new : Log). TakesLine 0 (plan_of v) v.models.models session first l (log_of v) new
        (noted_of v) (noted_of w) (answer_at l (length new.records) answers.LogFull))
        (sym (leaves.stay.log ∙ makes.stay.log)) done);
  }

-- nothing more is held
pub full_same : (v w : Versions) (act : Act) (full : Full) → MeetsBucket v act full w
    → HoldsSame v.store w.store
full_same v w act full meets = record { weighs = meets.fails.held }

pub went_same : (v u w : Versions) (to : ℕ)
    (root : Option Rattle.node_words.specs.declared.shapes.names.Name.Name)
    → SharesRootOfVersion v to root u → LosesTree u.store root w.store → HoldsSame v.store w.store
went_same v u w to root shares loses = same_again v.store u.store w.store root shares.gains loses

-- ---- undos and redos

pub go_done : (v u w : Versions) (session line : ℕ) (act : Act) (once : Bool) (to : ℕ)
    (root : Option Rattle.node_words.specs.declared.shapes.names.Name.Name)
    → SharesRootOfVersion v to root u
    → GainsRecord u (record { session = session; line = line; act = act }) w
    → ExtendsBy v session (record { line = line; command = Edit act once }) answers.Done w
go_done v u w session line act once to root shares appends = record {
  models = appends.only.models ∙ shares.stay.models;
  plan = appends.only.plan ∙ shares.stay.spares.plan;
  more = record { session = session; line = line; act = act } ∷ [];
  records = appends.grows.records
      ∙ ap
      (λ (l : Log). l.records ++
      record { session = session; line = line; act = act } ∷ []) shares.stay.log;
  goes_on = λ keep since scripts transcripts script transcript running within number after. (
      let first = last_moment 0 transcript in
      let l : ScriptLine = record { line = line; command = Edit act once } in
      let r : Record = record { session = session; line = line; act = act } in
      let grows : GrowsByRecord (plan_of v) v.models.models r (log_of v) (log_of w) =
      subst (λ (q : Layout). GrowsByRecord q v.models.models r (log_of v)
      (log_of w)) shares.stay.spares.plan
      (subst (λ (models : List Content). GrowsByRecord (plan_of u) models r (log_of v)
      (log_of w)) shares.stay.models
      (subst (λ (log : Log). GrowsByRecord (plan_of u) u.models.models r log
      (log_of w)) shares.stay.log appends.grows)) in
      let done =
      undone_arm (plan_of v) v.models.models session first line act once (log_of v) (log_of w)
      (noted_of v) grows in
      let longer : moment_of w ≡ moment_of v + 1 =
      ap (λ (rs : List Record). length rs) grows.records
      ∙ length-append v.records.items (r ∷ []) in
      subst (λ (now : MadeAndMet). TakesLine 0 (plan_of v) v.models.models session first l (log_of v)
      (log_of w) (noted_of v) now (answer_at l (moment_of w) answers.Done))
      (sym (noted_as v w (appends.only.only.made ∙ shares.only.made)
      (appends.only.only.met ∙ shares.only.met)))
      (subst (λ (n : ℕ). TakesLine 0 (plan_of v) v.models.models session first l (log_of v)
      (log_of w) (noted_of v) (noted_of v) (answer_at l n answers.Done)) (sym longer) done));
}

module _ (v : Versions) (session line : ℕ) (act : Act) (once : Bool) (are : AreStoredVersions v)
    (other : is_edit act ≡ false) where
  nothing_fits : target_at v.records.items (moment_of v) act ≡ None
      → FitsSoFar v session (record { line = line; command = Edit act once }) (nothing_to_go_to act)
  nothing_fits none keep since scripts transcripts script transcript so_far number after = go act other none
    where
      go : (a : Act) → is_edit a ≡ false → target_at v.records.items (moment_of v) a ≡ None
          → Answers (plan_of v) v.models.models (log_of v)
          (IsUnforgotten (log_of v).marks session line (moment_of v)) session line (moment_of v)
          (Edit a once) (nothing_to_go_to a)
      go Undo o n = nothing_to_undo once n
      go Redo o n = nothing_to_redo once n
      go (Fill b) o n = absurd (let no : ⊥ = cc in no)
      go (Erase b) o n = absurd (let no : ⊥ = cc in no)
      go (Ball b) o n = absurd (let no : ⊥ = cc in no)
      go (Carve b) o n = absurd (let no : ⊥ = cc in no)
      go (Copy b c) o n = absurd (let no : ⊥ = cc in no)
      go (Stamp b c) o n = absurd (let no : ⊥ = cc in no)
      go (Tint t) o n = absurd (let no : ⊥ = cc in no)

  nothing_rests : is_resting (nothing_to_go_to act) ≡ true
  nothing_rests = go act
    where
      go : (a : Act) → is_resting (nothing_to_go_to a) ≡ true
      go Undo = refl
      go Redo = refl
      go (Fill b) = refl
      go (Erase b) = refl
      go (Ball b) = refl
      go (Carve b) = refl
      go (Copy b c) = refl
      go (Stamp b c) = refl
      go (Tint t) = refl

  nothing_refused : refused_by (Edit act once) (moment_of v) (nothing_to_go_to act) ≡ []
  nothing_refused = go act
    where
      go : (a : Act) → refused_by (Edit a once) (moment_of v) (nothing_to_go_to a) ≡ []
      go Undo = refl
      go Redo = refl
      go (Fill b) = refl
      go (Erase b) = refl
      go (Ball b) = refl
      go (Carve b) = refl
      go (Copy b c) = refl
      go (Stamp b c) = refl
      go (Tint t) = refl

  pub go_nowhere : target_at v.records.items (moment_of v) act ≡ None
      → ExtendsBy v session (record { line = line; command = Edit act once })
      (nothing_to_go_to act) v
  go_nowhere none = rests v v session (record { line = line; command = Edit act once })
      (nothing_to_go_to act) are (gave_nothing v) nothing_rests nothing_refused (nothing_fits none)

  pub go_forgotten : (to : ℕ) → target_at v.records.items (moment_of v) act ≡ Some to
      → (to ≤ moment_of v) × IsVersionMarked v to
      → ExtendsBy v session (record { line = line; command = Edit act once })
      (answers.Forgotten to) v
  go_forgotten to goes mark =
      rests v v session (record { line = line; command = Edit act once })
      (answers.Forgotten to) are (gave_nothing v) refl refl
      (λ keep since scripts transcripts script transcript so_far number after. forgotten
      (Edit act once) to goes
      (forgotten_now v session
      (record { line = line; command = Edit act once }) to mark.1 keep since scripts transcripts script transcript so_far number after))

  pub go_past : (to : ℕ) (answer : Answer) → target_at v.records.items (moment_of v) act ≡ Some to
      → moment_of v < to
      → ExtendsBy v session (record { line = line; command = Edit act once }) answer v
  go_past to answer goes past = absurd
      (let g = goes_to (log_of v) act to other goes in let le = g.there in omega arith)

  pub go_late : (to : ℕ) → target_at v.records.items (moment_of v) act ≡ Some to
      → HoldsVersion (log_of v) to → moment_of v ≡ 65535
      → ExtendsBy v session (record { line = line; command = Edit act once }) answers.LogFull v
  go_late to goes kept all =
      rests v v session (record { line = line; command = Edit act once }) answers.LogFull are
      (gave_nothing v) refl refl
      (λ keep since scripts transcripts script transcript so_far number after. log_full act once all
      (λ _. (to, goes, readable_now v session line to kept)))

-- ---- forgetting

pub kept_earlier : (v : Versions) (version at : ℕ) → HoldsVersion (log_of v) version → at ≡ moment_of v
    → version ≢ at → version < moment_of v
kept_earlier v version at kept now other = let le = kept.there in omega (arith, other, now)

pub forgot_version : (v w : Versions) (session line version at : ℕ) → at ≡ moment_of v
    → GainsMark v (record { version = version; at = at; session = session; line = line }) w
    → ExtendsBy v session (record { line = line; command = Forget version })
    (answers.Forgot version) w
forgot_version v w session line version at now marks = record {
  models = marks.only.models;
  plan = marks.only.plan;
  more = [];
  records = marks.forgets.records ∙ sym (append-nil v.records.items);
  goes_on = λ keep since scripts transcripts script transcript running within number after. (
      let first = last_moment 0 transcript in
      let l : ScriptLine = record { line = line; command = Forget version } in
      let mark : Mark = record { version = version; at = at; session = session; line = line } in
      let done =
      forgot_arm 0 (plan_of v) v.models.models first mark (log_of v) (log_of w)
      (noted_of v) marks.forgets in
      let same : moment_of w ≡ moment_of v =
      ap (λ (rs : List Record). length rs) marks.forgets.records in
      subst (λ (now : MadeAndMet). TakesLine 0 (plan_of v) v.models.models session first l (log_of v)
      (log_of w) (noted_of v) now (answer_at l (moment_of w) (answers.Forgot version)))
      (sym (noted_as v w marks.only.only.made marks.only.only.met))
      (subst (λ (n : ℕ). TakesLine 0 (plan_of v) v.models.models session first l (log_of v)
      (log_of w) (noted_of v) (noted_of v) (answer_at l n (answers.Forgot version)))
      (sym same) done));
}

module _ (v : Versions) (session line : ℕ) (are : AreStoredVersions v) where
  pub forgets_head : (version : ℕ) → version ≡ moment_of v
      → ExtendsBy v session (record { line = line; command = Forget version }) answers.IsHead v
  forgets_head version is =
      rests v v session (record { line = line; command = Forget version }) answers.IsHead are
      (gave_nothing v) refl refl
      (λ keep since scripts transcripts script transcript so_far number after.
      subst (λ (n : ℕ). Answers (plan_of v) v.models.models (log_of v)
      (IsUnforgotten (log_of v).marks session line (moment_of v)) session line (moment_of v)
      (Forget n) answers.IsHead) (sym is) is_head)

  pub forget_missing : (version : ℕ) → moment_of v < version
      → ExtendsBy v session (record { line = line; command = Forget version })
      (answers.NoVersion version) v
  forget_missing version past =
      rests v v session (record { line = line; command = Forget version })
      (answers.NoVersion version) are (gave_nothing v) refl refl
      (names_missing v session (record { line = line; command = Forget version }) version past refl)

  pub forget_marked : (version : ℕ) → (version ≤ moment_of v) × IsVersionMarked v version
      → ExtendsBy v session (record { line = line; command = Forget version })
      (answers.Forgotten version) v
  forget_marked version mark =
      rests v v session (record { line = line; command = Forget version })
      (answers.Forgotten version) are (gave_nothing v) refl refl
      (λ keep since scripts transcripts script transcript so_far number after. forgotten
      (Forget version) version refl
      (forgotten_now v session
      (record { line = line; command = Forget version }) version mark.1 keep since scripts transcripts script transcript so_far number after))
