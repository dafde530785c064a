-- What a change makes of a world that stands open.
use Rattle.std.proofs.Common.{◌≡◌, ◌↔◌, ℕ, ◌-◌, ◌/◌, ◌^◌, Bool, true, false, Option, List, sym, ◌∙◌, ap, subst}
use Rattle.std.specs.declared.vec.Vec.{Vec}
use Rattle.std.specs.Prelude.{Result, Ok, Err, IfOk, IsTrue}
use Rattle.vw_cell.specs.declared.boxes.Boxed.{Boxed}
use Rattle.vw_cell.specs.Places.{FitsAt}
use Rattle.vox_read.specs.Contents.{Content}
use Rattle.history_model.specs.declared.questions.Question.{Question}
use Rattle.history_model.specs.Logs.{Log, side_of_world}
use Rattle.history_model.specs.Moments.{world_has, world_tint}
use Rattle.node_words.specs.declared.shapes.names.Name.{Name}
use Rattle.node_words.specs.shapes.Tree.{shape_of}
use Rattle.node_words.proofs.HeldLaws.{held_reached}
use Rattle.core_laws.specs.contents.Versions.{HoldsVersion, SameWorld}
use Rattle.core_laws.proofs.RootCells.{same_cells, same_root}
use Rattle.node_words.specs.descent.Roots.{IsBlockOf, ForWorld, cells_of}
use Rattle.extract.specs.Saved.{file_of_box}
use Rattle.one_store.specs.Known.{IsStore, stored_root}
use Rattle.script.specs.Fitting.{QuestionFits}
use Rattle.script.specs.declared.commands.ScriptLine.{ScriptLine}
use Rattle.transcript.specs.declared.answers.Answer.{Answer}
use Rattle.conformance.specs.Kinds.{answer_at}
use Rattle.conformance.specs.QuestionAnswers.{AnswersTo}
use Rattle.conformance.specs.scripts.Sessions.{ExtendsBefore}
use Rattle.store_run.specs.declared.stored_versions.Versions.{Versions}
use Rattle.store_run.specs.Kept.{plan_of, log_of, moment_of, noted_of, world_of, tints_of, AreStoredVersions, AreVersions, HoldsTree}
use Rattle.store_run.specs.Steps.{StayVersions, AnswersHeldVersion, side_of}
use Rattle.store_run.proofs.Rebuilding.{shows_plainly}
use Rattle.store_run.proofs.Files.{same_file, shown_in}
use Rattle.store_run.proofs.KeptWorlds.{same_in_world, same_in_store}
use Rattle.store_run.proofs.Sparing.{versions_sound}
use Rattle.store_run.specs.Answering.{ExtendsBy}
use Rattle.store_run.specs.Worlds.{WorldState, world_state, AreVersionsAtRest, AreStoredAtRest}
use Rattle.store_run.specs.Changing.{Changes, MakesVersion}
use Rattle.store_run.proofs.Changing.{made_version}
use Rattle.transcript.specs.declared.answers.Answer.TheVariants.{Done}
use Rattle.history_model.specs.declared.histories.Record.{Record}

-- room for one more changes nothing that is seen
pub room_same : (u v : Versions) (s : WorldState) → world_state u ≡ s
    → v.models.models ≡ u.models.models → log_of v ≡ log_of u
    → v.store ≡ u.store → world_state v ≡ s
room_same u v s is models log store =
    (λ i. record {
      plan = (store i).words.plan;
      models = models i;
      log = log i;
      noted =
          record { made = (store i).told.made; met = (store i).told.met };
    })
    ∙ is

module _ (v w : Versions) (s : WorldState) (is : world_state v ≡ s) (session : ℕ) (l : ScriptLine)
    (answer : Answer) (g : ExtendsBy v session l answer w) where
  pub changed_plan : plan_of w ≡ s.plan
  changed_plan = g.plan ∙ ap (λ (t : WorldState). t.plan) is

  pub changed_models : w.models.models ≡ s.models
  changed_models = g.models ∙ ap (λ (t : WorldState). t.models) is

  pub changed_goes : ExtendsBefore s.plan s.models session l s.log (log_of w) s.noted (noted_of w)
      (answer_at l (moment_of w) answer)
  changed_goes =
      subst (λ (t : WorldState). ExtendsBefore t.plan t.models session l t.log (log_of w) t.noted
      (noted_of w) (answer_at l (moment_of w) answer)) is g.goes_on

module _ (v w : Versions) (s : WorldState) (is : world_state v ≡ s) (r : Record) (answer : Answer)
    (logs : Changes (log_of v) r answer (log_of w)) where
  pub changed_logs : Changes s.log r answer (log_of w)
  changed_logs = subst (λ (t : WorldState). Changes t.log r answer (log_of w)) is logs

  pub changed_makes : answer ≡ Done → MakesVersion s.models s.log r.act (log_of w)
  changed_makes done = made_version s.models s.log (log_of w) r answer changed_logs done

-- a world whose cells have no tints
pub rests_plain : (v : Versions) (s : WorldState) → world_state v ≡ s → AreStoredAtRest v
    → s.log.coloured ≡ false → AreVersionsAtRest v
rests_plain v s is rest plain = record {
  are = record { stored = rest.are; plain = ap (λ (t : WorldState). t.log.coloured) is ∙ plain };
  nothing = rest.nothing;
}

pub rests_stored : (v : Versions) → AreVersionsAtRest v → AreStoredAtRest v
rests_stored v rest = record { are = rest.are.stored; nothing = rest.nothing }

-- the world's side
pub side_tinted : (v : Versions) (s : WorldState) (side : ℕ) → world_state v ≡ s
    → AreStoredAtRest v → v.models.tint ≡ true → 2 ^ side ≡ 2 ^ v.side / 4
    → 2 ^ side ≡ side_of_world s.log.coloured (2 ^ s.plan.side)
side_tinted v s side is rest tinted same =
    subst (λ (t : WorldState). 2 ^ side ≡ side_of_world t.log.coloured (2 ^ t.plan.side)) is
    (subst (λ (b : Bool). 2 ^ side ≡ side_of_world b (2 ^ (plan_of v).side)) (sym tinted)
    (subst (λ (l : ℕ). 2 ^ side ≡ 2 ^ l / 4) rest.are.side same))

pub side_plain : (v : Versions) (s : WorldState) → world_state v ≡ s
    → AreStoredAtRest v → v.models.tint ≡ false
    → 2 ^ v.side ≡ side_of_world s.log.coloured (2 ^ s.plan.side)
side_plain v s is rest plain =
    subst (λ (t : WorldState). 2 ^ v.side ≡ side_of_world t.log.coloured (2 ^ t.plan.side)) is
    (subst (λ (b : Bool). 2 ^ v.side ≡ side_of_world b (2 ^ (plan_of v).side)) (sym plain)
    (ap (λ (l : ℕ). 2 ^ l) rest.are.side))

-- ---- a question about a version

pub asked_told : (v : Versions) (s : WorldState) (version : ℕ) (question : Question)
    (answer : Answer) → world_state v ≡ s → AreStoredVersions v
    → AnswersHeldVersion v version question answer
    → AnswersTo (side_of_world s.log.coloured (2 ^ s.plan.side))
    (world_has s.models s.log.records version)
    (world_tint s.models s.log.records version) question answer
asked_told v s version question answer is are told =
    subst (λ (t : WorldState). AnswersTo (side_of_world t.log.coloured (2 ^ t.plan.side))
    (world_has t.models t.log.records version)
    (world_tint t.models t.log.records version) question answer) is
    (subst (λ (l : ℕ). AnswersTo (side_of_world v.models.tint (2 ^ l)) (world_of v version)
    (tints_of v version) question answer) are.side told)

-- what is asked fits the world that the store keeps
pub asks_here : (v : Versions) (s : WorldState) (question : Question)
    → world_state v ≡ s → AreStoredVersions v
    → QuestionFits (side_of_world s.log.coloured (2 ^ s.plan.side)) question
    → QuestionFits (side_of v) question
asks_here v s question is are fits =
    subst (λ (l : ℕ). QuestionFits (side_of_world v.models.tint (2 ^ l)) question) (sym are.side)
    (subst (λ (t : WorldState). QuestionFits (side_of_world t.log.coloured (2 ^ t.plan.side)) question)
    (sym is) fits)

-- ---- the file of a box of a version

pub root_file : {E Z : Type 0} (v : Versions) (version : ℕ) (base : Option Name) (part : Boxed)
    (result : Result (Vec ℕ Z) E) → AreVersions v
    → HoldsVersion (log_of v) version → HoldsTree v.store base → base ≡ stored_root v.store.roots version
    → FitsAt part.at part.size (2 ^ v.side)
    → IfOk result
    (λ file. ForWorld v.store.told.held v.side base
    (λ cells. file.items ≡ file_of_box part cells))
    → IfOk result (λ file. file.items ≡ file_of_box part (world_of v version))
root_file v version base part (Err e) are kept holds is fits told = tt
root_file v version base part (Ok file) are kept holds is fits told =
    let s = shows_plainly v version base are kept holds is in
    let block : IsBlockOf v.store.told.held (v.side - 2) base s.tree = record {
      root = s.is_root.root;
      reached = λ n e. held_reached v.store.told.held s.tree (s.is_root.is_held n e);
      of_level = s.is_root.at;
    } in
    told s.tree block
    ∙ same_file part (cells_of (v.side - 2) (shape_of s.tree)) (world_of v version)
    (shown_in v.side part (shape_of s.tree) (world_of v version) s.shows fits)

pub file_still : {E Z : Type 0} (a v : Versions) (version : ℕ) (part : Boxed)
    (result : Result (Vec ℕ Z) E) → StayVersions a v
    → IfOk result (λ file. file.items ≡ file_of_box part (world_of v version))
    → IfOk result (λ file. file.items ≡ file_of_box part (world_of a version))
file_still {E} {Z} a v version part result stay told =
    subst (λ (l : Log). IfOk result
    (λ file. file.items
    ≡ file_of_box part (world_has a.models.models l.records version))) stay.log
    (subst (λ (ms : List Content). IfOk result
    (λ file. file.items
    ≡ file_of_box part (world_has ms v.records.items version))) stay.models told)

-- ---- two versions

-- they have the same cells exactly where they have one root
pub same_by_roots : (v : Versions) (number a b : ℕ) (is : Bool) → AreVersions v
    → IsStore v.store number → HoldsVersion (log_of v) a → HoldsVersion (log_of v) b
    → (IsTrue is ↔ (stored_root v.store.roots a ≡ stored_root v.store.roots b))
    → (IsTrue is ↔ SameWorld (2 ^ (plan_of v).side) (world_of v a) (world_of v b))
same_by_roots v number a b is are st of_a of_b roots = (
  (λ yes. same_in_world v a b are
      (same_cells (plan_of v) v.models.models _ st.plan.side_low
      (versions_sound v number are.stored st) a b of_a of_b (roots.0 yes))),
  (λ cells. roots.1
      (same_root (plan_of v) v.models.models _ st.plan.side_low
      (versions_sound v number are.stored st) a b of_a of_b
      (same_in_store v a b are cells))),
)
