-- What a change and a question come to, case by case.
use Rattle.std.proofs.Common.{◌≡◌, ◌≢◌, ℕ, ◌⊎◌, Bool, length, refl, ap, sym, ◌∙◌, subst, inl, inr}
use Rattle.history_model.specs.declared.acts.Act.{Act}
use Rattle.history_model.specs.declared.acts.Act.TheVariants.{Fill, Erase, Ball, Carve, Copy, Stamp, Tint, Undo, Redo}
use Rattle.history_model.specs.declared.histories.Record.{Record}
use Rattle.history_model.specs.declared.questions.Question.{Question}
use Rattle.history_model.specs.declared.questions.Question.TheVariants as questions
use Rattle.history_model.specs.Logs.{Log, FitsWorld}
use Rattle.history_model.specs.Tints.{Tints}
use Rattle.script.specs.declared.commands.Command.TheVariants.{Edit, Forget}
use Rattle.transcript.specs.declared.answers.Answer.{Answer}
use Rattle.transcript.specs.declared.answers.Answer.TheVariants as answers
use Rattle.conformance.specs.Answers.{mark_of}
use Rattle.conformance.specs.Kinds.{answer_at}
use Rattle.conformance.specs.QuestionAnswers.{AnswersTo, is, colour, count, faces, extent, hit}
use Rattle.history_model.specs.Worlds as worlds
use Rattle.conformance.specs.scripts.Sessions.{ExtendsWith}
use Rattle.store_run.specs.Answering.{nothing_to_go_to}
use Rattle.store_run.specs.Changing.{Changes, ChangesKeeping, AnswersForget, MakesVersion}
use Rattle.voxdag_c.specs.declared.held.worlds.CWorld.{CWorld}
use Rattle.voxdag_c.specs.held.Calls.{WorldChanges, WorldForgets, WorldAsks, Answered, CantBeAsked, IsActAnswered, CountsLine, record_of, store_side, call_status, is_in, cells_in, faces_answered, extent_in, tint_in_answer, hit_in}

nothing_not_done : (act : Act) → nothing_to_go_to act ≡ answers.Done → ⊥
nothing_not_done Undo e = cc
nothing_not_done Redo e = cc
nothing_not_done (Fill b) e = cc
nothing_not_done (Erase b) e = cc
nothing_not_done (Ball b) e = cc
nothing_not_done (Carve b) e = cc
nothing_not_done (Copy b to) e = cc
nothing_not_done (Stamp m at) e = cc
nothing_not_done (Tint t) e = cc

-- a change is done, or the history stays
done_or_not : (old new : Log) (r : Record) (answer : Answer) → Changes old r answer new
    → (answer ≡ answers.Done) ⊎ ((answer ≢ answers.Done) × (new ≡ old))
done_or_not old new r _ (Changes.done _ room way eq) = inl refl
done_or_not old new r _ (Changes.full _ level bucket edit eq) = inr ((λ e. cc), eq)
done_or_not old new r _ (Changes.log_full _ all way eq) = inr ((λ e. cc), eq)
done_or_not old new r _ (Changes.forgotten _ to goes gone eq) = inr ((λ e. cc), eq)
done_or_not old new r _ (Changes.nothing _ other none eq) = inr (nothing_not_done r.act, eq)

kept_or_not : (keep : ℕ) (w : CWorld) (new : Log) (r : Record) (answer : Answer)
    → ChangesKeeping keep w.open.plan w.open.models w.open.log r answer new
    → (answer ≡ answers.Done) ⊎ ((answer ≢ answers.Done) × (new ≡ w.open.log))
kept_or_not keep w new r answer logs =
    elim (done_or_not w.open.log logs.before r answer logs.changes) [
      | inl done ↦ inl done
      | inr other ↦ inr (other.0, logs.stays other.0 ∙ other.1)
    ]

module _ (w v : CWorld) (act : Act) (answer : Answer)
    (fits : FitsWorld (store_side w) w.open.models act)
    (plan : v.open.plan ≡ w.open.plan)
    (models : v.open.models ≡ w.open.models) (keep : v.keep ≡ w.keep)
    (line : CountsLine answer w.line v.line)
    (logs : ChangesKeeping w.keep w.open.plan w.open.models w.open.log (record_of w act) answer
    v.open.log)
    (makes : answer ≡ answers.Done → MakesVersion w.open.models w.open.log act v.open.log)
    (goes_on : (once : Bool)
    → ExtendsWith w.keep w.open.plan w.open.models 0
    (record { line = w.line; command = Edit act once }) w.open.log v.open.log w.open.noted v.open.noted
    (answer_at (record { line = w.line; command = Edit act once })
    (length v.open.log.records) answer)) where
  answered : IsActAnswered w act answer v
  answered = record {
    logs = logs;
    goes_on = λ once.
        record { plan = plan; models = models; keep = keep; line = line; goes_on = goes_on once };
  }

  pub changed : (status : ℕ) → status ≡ call_status answer → WorldChanges w act status v
  changed status eq = go (kept_or_not w.keep w v.open.log (record_of w act) answer logs)
    where
      go : (answer ≡ answers.Done) ⊎ ((answer ≢ answers.Done) × (v.open.log ≡ w.open.log))
          → WorldChanges w act status v
      go (inl done) =
          subst (λ (n : ℕ). WorldChanges w act n v)
          (ap (λ (a : Answer). call_status a) (sym done) ∙ sym eq)
          (WorldChanges.made v fits (subst (λ (a : Answer). IsActAnswered w act a v) done answered)
          (makes done))
      go (inr (isnt, stays)) =
          subst (λ (n : ℕ). WorldChanges w act n v) (sym eq)
          (WorldChanges.refused v answer fits isnt answered stays)

pub lacks_memory : (w v : CWorld) (act : Act) → FitsWorld (store_side w) w.open.models act → v ≡ w
    → WorldChanges w act 2 v
lacks_memory w v act fits same =
    subst (λ (u : CWorld). WorldChanges w act 2 u) (sym same) (WorldChanges.memory fits)

pub forgets : (w v : CWorld) (version : ℕ) (answer : Answer) (status : ℕ)
    → status ≡ call_status answer → v.open.plan ≡ w.open.plan → v.open.models ≡ w.open.models
    → v.keep ≡ w.keep → CountsLine answer w.line v.line
    → AnswersForget w.open.log (mark_of version (length w.open.log.records) 0 w.line) answer
    v.open.log
    → ExtendsWith w.keep w.open.plan w.open.models 0
    (record { line = w.line; command = Forget version }) w.open.log v.open.log w.open.noted v.open.noted
    (answer_at (record { line = w.line; command = Forget version })
    (length v.open.log.records) answer)
    → WorldForgets w version status v
forgets w v version answer status eq plan models keep line logs goes_on =
    subst (λ (n : ℕ). WorldForgets w version n v) (sym eq)
    (WorldForgets.answered v answer logs
    (record { plan = plan; models = models; keep = keep; line = line; goes_on = goes_on }))

-- ---- the answers to questions have the form that these ask for

module _ (side : ℕ) (world : worlds.World) (tints : Tints) where
  pub tells_is : (c : _) (answer : Answer) → AnswersTo side world tints (questions.Get c) answer
      → answer ≡ answers.Is (is_in answer)
  tells_is _ _ (is c set e) = refl

  pub tells_colour : (c : _) (answer : Answer)
      → AnswersTo side world tints (questions.Colour c) answer
      → answer ≡ answers.Colour (tint_in_answer answer)
  tells_colour _ _ (colour c tint e) = refl

  pub tells_count : (b : _) (answer : Answer) → AnswersTo side world tints (questions.Count b) answer
      → answer ≡ answers.Count (cells_in answer)
  tells_count _ _ (count b cells e) = refl

  pub tells_faces : (b : _) (answer : Answer) → AnswersTo side world tints (questions.Faces b) answer
      → answer ≡ answers.Faces (faces_answered answer)
  tells_faces _ _ (faces b number e) = refl

  pub tells_extent : (answer : Answer) → AnswersTo side world tints questions.Bounds answer
      → answer ≡ answers.Extent (extent_in answer)
  tells_extent _ (extent least e) = refl

  pub tells_hit : (from : _) (way : _) (answer : Answer)
      → AnswersTo side world tints (questions.Ray from way) answer
      → answer ≡ answers.Hit (hit_in answer)
  tells_hit _ _ _ (hit from way found e) = refl

-- ---- what a question comes to

module _ (w : CWorld) (version : ℕ) (q question : Question) (Written : Answer → Type 0)
    (Untouched : Type 0) (same : q ≡ question) where
  pub asked : (answer : Answer) → Answered w version q answer → Written answer
      → WorldAsks w version question Written Untouched 0
  asked answer answered written =
      subst (λ (k : Question). WorldAsks w version k Written Untouched 0) same
      (WorldAsks.told answer answered written)

  pub not_asked : (status : ℕ) → CantBeAsked w version q status → Untouched
      → WorldAsks w version question Written Untouched status
  not_asked status cant untouched =
      subst (λ (k : Question). WorldAsks w version k Written Untouched status) same
      (WorldAsks.gone status cant untouched)
