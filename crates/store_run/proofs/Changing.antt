-- What each answer to a change says of the history.
use Rattle.std.proofs.Common.{◌≡◌, ◌≢◌, ℕ, ◌+◌, ◌<◌, ◌≤◌, true, false, Some, None, List, [], ◌∷◌, ◌++◌, length, length-append, refl, sym, ◌∙◌, ap, arith}
use Rattle.std.proofs.lemmas.Bool.{false≢true}
use Rattle.std.proofs.lemmas.List.Elements.{All-contains}
use Rattle.vox_read.specs.Contents.{Content}
use Rattle.history_model.specs.declared.acts.Act.{Act}
use Rattle.history_model.specs.declared.acts.Act.TheVariants.{Fill, Erase, Ball, Carve, Copy, Stamp, Tint, Undo, Redo}
use Rattle.history_model.specs.declared.histories.Mark.{Mark}
use Rattle.history_model.specs.declared.histories.Record.{Record}
use Rattle.history_model.specs.Laws.{has_stays, has_of_edit, has_of_other, position_of_next}
use Rattle.history_model.specs.FoldLaws.{state_stays, state_of_edit, state_of_other}
use Rattle.history_model.specs.Logs.{Log}
use Rattle.history_model.specs.Moments.{world_has, world_tint}
use Rattle.history_model.specs.Tints.{Tints, untinted, tints_by}
use Rattle.history_model.specs.Positions.{Position}
use Rattle.history_model.specs.Worlds.{is_edit}
use Rattle.core_laws.specs.contents.Versions.{HoldsVersion}
use Rattle.node_words.specs.declared.shapes.names.Name.{Name}
use Rattle.std.specs.Prelude.{Option}
use Rattle.node_words.specs.declared.shares.Full.{Full}
use Rattle.transcript.specs.declared.answers.Answer.{Answer}
use Rattle.transcript.specs.declared.answers.Answer.TheVariants as answers
use Rattle.conformance.specs.Answers.{target_at}
use Rattle.conformance.proofs.OfScripts.Going.{goes_to}
use Rattle.store_run.specs.declared.stored_versions.Versions.{Versions}
use Rattle.store_run.specs.Kept.{log_of, moment_of}
use Rattle.store_run.specs.Steps.{IsVersionMarked, LeavesAll, SharesRootOfVersion, MakesRoot, MeetsBucket, GainsRecord, GainsMark}
use Rattle.store_run.specs.Answering.{nothing_to_go_to}
use Rattle.store_run.specs.Changing.{log_with_record, HasHeldTarget, Changes, AnswersForget, MakesVersion}

abbrev record_of : ℕ → ℕ → Act → Record
record_of session line act = record { session = session; line = line; act = act }

same_moment : (v u : Versions) → log_of u ≡ log_of v → moment_of u ≡ moment_of v
same_moment v u same = ap (λ (l : Log). length l.records) same

grown : (old new : Log) (r : Record) → new.side ≡ old.side → new.coloured ≡ old.coloured
    → new.records ≡ old.records ++ r ∷ [] → new.marks ≡ old.marks → new ≡ log_with_record old r
grown old new r side coloured records marks =
    λ i. record { side = side i; coloured = coloured i; records = records i; marks = marks i }

appended : (v u w : Versions) (r : Record) → log_of u ≡ log_of v → GainsRecord u r w
    → log_of w ≡ log_with_record (log_of v) r
appended v u w r same appends =
    grown (log_of u)
    (log_of w) r appends.grows.side appends.grows.coloured appends.grows.records appends.grows.marks ∙ ap (λ (l : Log). log_with_record l r) same

edit_way : (log : Log) (act : Act) → is_edit act ≡ true → HasHeldTarget log act
edit_way log act edit = record { other = λ no. absurd (false≢true (sym no ∙ edit)) }

-- a version that has a mark isn't kept
pub marked_gone : (v : Versions) (version : ℕ) → IsVersionMarked v version
    → ¬ HoldsVersion (log_of v) version
marked_gone v version mark kept =
    All-contains (λ (m : Mark). m.version ≢ version)
    (log_of v).marks mark.mark kept.unmarked mark.listed mark.same

-- ---- edits

module _ (v w : Versions) (session line : ℕ) (act : Act) (edit : is_edit act ≡ true) where
  pub edit_full_logs : (full : Full) → MeetsBucket v act full w
      → Changes (log_of v) (record_of session line act) (answers.Full full.level full.bucket)
      (log_of w)
  edit_full_logs full meets = Changes.full (log_of w) full.level full.bucket edit meets.stay.log

  pub edit_done_logs : (u : Versions) (root : Option Name) → MakesRoot v act root u
      → GainsRecord u (record_of session line act) w
      → moment_of u ≢ 65535 → moment_of u ≤ 65535
      → Changes (log_of v) (record_of session line act) answers.Done (log_of w)
  edit_done_logs u root makes appends other few =
      let now = same_moment v u makes.stay.log in
      Changes.done (log_of w) (omega (arith, now, other, few)) (edit_way (log_of v) act edit)
      (appended v u w (record_of session line act) makes.stay.log appends)

  pub edit_late_logs : (u : Versions) (root : Option Name) → MakesRoot v act root u
      → moment_of u ≡ 65535 → LeavesAll u w
      → Changes (log_of v) (record_of session line act) answers.LogFull (log_of w)
  edit_late_logs u root makes all leaves =
      Changes.log_full (log_of w) (sym (same_moment v u makes.stay.log) ∙ all)
      (edit_way (log_of v) act edit) (leaves.stay.log ∙ makes.stay.log)

-- ---- undos and redos

module _ (v : Versions) (session line : ℕ) (act : Act) (other : is_edit act ≡ false) where
  pub go_nowhere_logs : target_at v.records.items (moment_of v) act ≡ None
      → Changes (log_of v) (record_of session line act) (nothing_to_go_to act) (log_of v)
  go_nowhere_logs none = Changes.nothing (log_of v) other none refl

  pub go_forgotten_logs : (to : ℕ) → target_at v.records.items (moment_of v) act ≡ Some to
      → IsVersionMarked v to
      → Changes (log_of v) (record_of session line act) (answers.Forgotten to) (log_of v)
  go_forgotten_logs to goes mark = Changes.forgotten (log_of v) to
      (record { other = other; goes = goes }) (marked_gone v to mark) refl

  pub go_past_logs : (to : ℕ) (answer : Answer)
      → target_at v.records.items (moment_of v) act ≡ Some to → moment_of v < to
      → Changes (log_of v) (record_of session line act) answer (log_of v)
  go_past_logs to answer goes past = absurd
      (let g = goes_to (log_of v) act to other goes in let le = g.there in omega arith)

  pub go_late_logs : (to : ℕ) → target_at v.records.items (moment_of v) act ≡ Some to
      → HoldsVersion (log_of v) to → moment_of v ≡ 65535
      → Changes (log_of v) (record_of session line act) answers.LogFull (log_of v)
  go_late_logs to goes kept all = Changes.log_full (log_of v) all
      (record { other = λ _. (to, record { other = other; goes = goes }, kept) }) refl

  pub go_done_logs : (u w : Versions) (to : ℕ) (root : Option Name)
      → target_at v.records.items (moment_of v) act ≡ Some to → HoldsVersion (log_of v) to
      → moment_of v ≢ 65535 → moment_of v ≤ 65535 → SharesRootOfVersion v to root u
      → GainsRecord u (record_of session line act) w
      → Changes (log_of v) (record_of session line act) answers.Done (log_of w)
  go_done_logs u w to root goes kept late few shares appends =
      Changes.done (log_of w) (omega (arith, late, few))
      (record { other = λ _. (to, record { other = other; goes = goes }, kept) })
      (appended v u w (record_of session line act) shares.stay.log appends)

-- ---- forgetting

module _ (v : Versions) (mark : Mark) where
  pub forget_missing_logs : moment_of v < mark.version
      → AnswersForget (log_of v) mark (answers.NoVersion mark.version) (log_of v)
  forget_missing_logs past = AnswersForget.no_version past

  pub forget_marked_logs : (mark.version ≤ moment_of v) × IsVersionMarked v mark.version
      → AnswersForget (log_of v) mark (answers.Forgotten mark.version) (log_of v)
  forget_marked_logs is = AnswersForget.forgotten is.0 (marked_gone v mark.version is.1)

  pub forgets_head_logs : mark.version ≡ moment_of v
      → AnswersForget (log_of v) mark answers.IsHead (log_of v)
  forgets_head_logs is = AnswersForget.is_head is

  pub forgot_logs : (w : Versions) → HoldsVersion (log_of v) mark.version → mark.version < moment_of v
      → GainsMark v mark w
      → AnswersForget (log_of v) mark (answers.Forgot mark.version) (log_of w)
  forgot_logs w kept earlier marks =
      AnswersForget.forgot (log_of w)
      (record { kept = kept; earlier = earlier; side = marks.forgets.side; coloured = marks.forgets.coloured; records = marks.forgets.records; marks = marks.forgets.marks })

-- ---- the cells of the version that is made

pub makes_version : (models : List Content) (old new : Log) (r : Record)
    → new ≡ log_with_record old r → MakesVersion models old r.act new
makes_version models old new r is =
    let records : new.records ≡ old.records ++ r ∷ [] = ap (λ (l : Log). l.records) is in
    record {
      one_more = ap (λ (rs : List Record). length rs) records ∙ length-append old.records (r ∷ []);
      earlier = λ v le c. ap (λ (rs : List Record). world_has models rs v c) records
          ∙ has_stays models old.records (r ∷ []) v c le;
      edit = λ edit c. ap
          (λ (rs : List Record). world_has models rs (length old.records + 1) c) records
          ∙ has_of_edit models old.records r c edit;
      other = λ to goes c.
          ap (λ (rs : List Record). world_has models rs (length old.records + 1) c) records
          ∙ has_of_other models old.records r c goes.other
          ∙ ap (λ (at : Position). world_has models old.records at.now c)
          (position_of_next old.records r)
          ∙ ap (λ (n : ℕ). world_has models old.records n c)
          (goes_to old r.act to goes.other goes.goes).goes;
      tints_earlier = λ v le c. ap (λ (rs : List Record). world_tint models rs v c) records
          ∙ ap (λ (t : Tints). t c)
          (state_stays untinted (tints_by models) old.records (r ∷ []) v le);
      tints_edit = λ edit c. ap
          (λ (rs : List Record). world_tint models rs (length old.records + 1) c) records
          ∙ ap (λ (t : Tints). t c)
          (state_of_edit untinted (tints_by models) old.records r edit);
      tints_other = λ to goes c.
          ap (λ (rs : List Record). world_tint models rs (length old.records + 1) c) records
          ∙ ap (λ (t : Tints). t c)
          (state_of_other untinted (tints_by models) old.records r goes.other)
          ∙ ap (λ (at : Position). world_tint models old.records at.now c)
          (position_of_next old.records r)
          ∙ ap (λ (n : ℕ). world_tint models old.records n c)
          (goes_to old r.act to goes.other goes.goes).goes;
    }

pub nothing_not_done : (act : Act) → nothing_to_go_to act ≡ answers.Done → ⊥
nothing_not_done Undo e = cc
nothing_not_done Redo e = cc
nothing_not_done (Fill b) e = cc
nothing_not_done (Erase b) e = cc
nothing_not_done (Ball b) e = cc
nothing_not_done (Carve b) e = cc
nothing_not_done (Copy b to) e = cc
nothing_not_done (Stamp m at) e = cc
nothing_not_done (Tint t) e = cc

pub made_version : (models : List Content) (old new : Log) (r : Record) (answer : Answer)
    → Changes old r answer new → answer ≡ answers.Done
    → MakesVersion models old r.act new
made_version models old new r _ (Changes.done _ room way is) e = makes_version models old new r is
made_version models old new r _ (Changes.full _ level bucket edit is) e =
    absurd (let no : ⊥ = cc in no)
made_version models old new r _ (Changes.log_full _ all way is) e = absurd (let no : ⊥ = cc in no)
made_version models old new r _ (Changes.forgotten _ to goes gone is) e =
    absurd (let no : ⊥ = cc in no)
made_version models old new r _ (Changes.nothing _ other none is) e =
    absurd (nothing_not_done r.act e)
