-- What a replayed history is asked.
use Rattle.std.proofs.Common.{◌≡◌, ℕ, ◌^◌, Bool, IsTrue, List, Option, Some, None, ◌↔◌, refl, sym, ap, subst}
use Rattle.std.specs.Prelude.{slice_index_or}
use Rattle.std.specs.List.{Contains}
use Rattle.history_model.specs.declared.histories.Mark.{Mark}
use Rattle.history_model.specs.declared.questions.Question.{Question}
use Rattle.history_model.specs.declared.histories.Record.{Record}
use Rattle.history_model.specs.Logs.{Log, side_of_world, world_side}
use Rattle.history_model.specs.Moments.{world_has, world_tint}
use Rattle.history_model.specs.Tints.{SameTints}
use Rattle.script.specs.Fitting.{QuestionFits}
use Rattle.transcript.specs.declared.answers.Answer.{Answer}
use Rattle.conformance.specs.Answers.{IsUnforgotten, IsForgotten, mark_of}
use Rattle.conformance.specs.QuestionAnswers.{AnswersTo}
use Rattle.store_run.specs.Replaying.{ReplayState}
use Rattle.audit.specs.declared.replaying.UndoTargets.{UndoTargets}
use Rattle.audit.specs.Fitting.{AnswersVersion, AreSame}
use Rattle.audit.specs.Reruns.{IsRerun}
use Rattle.audit.specs.Marks.{IsOnlyMarkOrNone, StandsBy, ForgottenBy}
use Rattle.audit.proofs.Marking.{stands_is, forgotten_is}
use Rattle.audit.proofs.OneAnswer.{one_answer}

pub stands_rerun : (log : Log) (replay : ReplayState) (ways : List UndoTargets)
    (table : List (Option Mark)) (session line n version : ℕ) → IsRerun log replay ways table
    → StandsBy (slice_index_or table version None) session line n
    ↔ IsUnforgotten log.marks session line n version
stands_rerun log replay ways table session line n version is =
    stands_is log.marks version session line n (slice_index_or table version None)
    (is.tells.each version)

pub forgotten_rerun : (log : Log) (replay : ReplayState) (ways : List UndoTargets)
    (table : List (Option Mark)) (session line n version : ℕ) → IsRerun log replay ways table
    → ForgottenBy (slice_index_or table version None) session line n
    ↔ IsForgotten log.marks session line n version
forgotten_rerun log replay ways table session line n version is =
    forgotten_is log.marks version session line n (slice_index_or table version None)
    (is.tells.each version)

mark_listed : (marks : List Mark) (m : Mark) (found : Option Mark)
    → IsOnlyMarkOrNone marks m.version found
    → (found ≡ Some m) ↔ Contains marks m
mark_listed marks m None is =
    (λ e. absurd (let no : ⊥ = cc in no), λ listed. absurd (is m listed refl))
mark_listed marks m (Some other) is = (
  λ e. (let same : other ≡ m = cc in subst (λ (x : Mark). Contains marks x) same is.listed),
  λ listed. ap Some (sym (is.only m listed refl)),
)

pub mark_rerun : (log : Log) (replay : ReplayState) (ways : List UndoTargets) (table : List (Option Mark))
    (version n session line : ℕ) → IsRerun log replay ways table
    → (slice_index_or table version None ≡ Some (mark_of version n session line))
    ↔ Contains log.marks (mark_of version n session line)
mark_rerun log replay ways table version n session line is =
    mark_listed log.marks (mark_of version n session line) (slice_index_or table version None)
    (is.tells.each version)

module _ (log : Log) (replay : ReplayState) (ways : List UndoTargets) (table : List (Option Mark))
    (is : IsRerun log replay ways table) where
  -- the world that is replayed is the history's
  rerun_side : side_of_world replay.tint (2 ^ replay.plan.side) ≡ world_side log
  rerun_side = λ i. side_of_world (is.tint i) (2 ^ (is.side i))

  pub question_rerun : (question : Question) → QuestionFits (world_side log) question
      → QuestionFits (side_of_world replay.tint (2 ^ replay.plan.side)) question
  question_rerun question fits = subst (λ (n : ℕ). QuestionFits n question) (sym rerun_side) fits

  told_rerun : (version : ℕ) (question : Question) (told : Answer)
      → AnswersTo (side_of_world replay.tint (2 ^ replay.plan.side))
      (world_has replay.models replay.records version)
      (world_tint replay.models replay.records version) question told
      → AnswersVersion replay.models log version question told
  told_rerun version question told tells =
      subst (λ (n : ℕ). AnswersTo n (world_has replay.models log.records version)
      (world_tint replay.models log.records version) question told) rerun_side
      (subst (λ (rs : List Record). AnswersTo (side_of_world replay.tint (2 ^ replay.plan.side))
      (world_has replay.models rs version)
      (world_tint replay.models rs version) question told) is.records tells)

  -- a question is answered by what is told of it, and by nothing else
  pub told_same : (version : ℕ) (question : Question) (told answer : Answer)
      → AnswersTo (side_of_world replay.tint (2 ^ replay.plan.side))
      (world_has replay.models replay.records version)
      (world_tint replay.models replay.records version) question told
      → (answer ≡ told) ↔ AnswersVersion replay.models log version question answer
  told_same version question told answer tells =
      let here = told_rerun version question told tells in (
        λ same. subst (λ (a : Answer). AnswersVersion replay.models log version question a)
            (sym same) here,
        λ other. one_answer (world_side log) (world_has replay.models log.records version)
            (world_tint replay.models log.records version) question answer told other here,
      )

  -- two versions have the same tints in the history where they have them in what was replayed
  pub same_rerun : (v w : ℕ) (same : Bool)
      → (IsTrue same ↔ SameTints (side_of_world replay.tint (2 ^ replay.plan.side))
      (world_tint replay.models replay.records v) (world_tint replay.models replay.records w))
      → IsTrue same ↔ AreSame replay.models log v w
  same_rerun v w same tints =
      subst (λ (n : ℕ). IsTrue same ↔ SameTints n (world_tint replay.models log.records v)
      (world_tint replay.models log.records w)) rerun_side
      (subst (λ (rs : List Record). IsTrue same
      ↔ SameTints (side_of_world replay.tint (2 ^ replay.plan.side))
      (world_tint replay.models rs v) (world_tint replay.models rs w)) is.records tints)
