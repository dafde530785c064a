-- What a question of a file of versions comes to, case by case.
use Rattle.std.proofs.Common.{◌≡◌, ℕ, ◌-◌, ◌^◌, ◌<◌, ◌≤◌, ◌++◌, List, Option, Some, None, drop, length, map, refl, sym, ◌∙◌, ap, subst, arith}
use Rattle.std.proofs.lemmas.List.{length-map}
use Rattle.std.proofs.Common.{ℤ, SFits, w16, to_z, of_z}
use Rattle.std.specs.Prelude.{Result, Ok, Err, IfErr}
use Rattle.vw_cell.specs.declared.cells.Cell.{Cell}
use Rattle.vw_cell.specs.declared.boxes.Boxed.{Boxed}
use Rattle.vox_read.specs.declared.voxels.Voxel.{Voxel}
use Rattle.history_model.specs.Ways.{Heading, heading_of}
use Rattle.history_model.specs.declared.questions.Question.{Question}
use Rattle.history_model.specs.declared.questions.Question.TheVariants as questions
use Rattle.script.specs.Fitting.{QuestionFits}
use Rattle.transcript.specs.declared.answers.Answer.{Answer}
use Rattle.transcript.specs.declared.answers.Answer.TheVariants as answers
use Rattle.dag_file.specs.declared.faults.DagFault.{DagFault}
use Rattle.dag_file.specs.declared.faults.DagFault.TheVariants as faults
use Rattle.dag_file.specs.Reads.{SaysFault}
use Rattle.dag_file.specs.Rules.{FirstFault}
use Rattle.dag_file.specs.Trees.{Opened, HasVersion}
use Rattle.dag_answers.specs.Looks.{AnswersFileVersion, version_has, version_tints}
use Rattle.dag_answers.specs.OfVersions.{HasBoth}
use Rattle.voxdag_c.specs.declared.held.files.CFile.{CFile}
use Rattle.voxdag_c.specs.declared.held.places.CBox.{CBox}
use Rattle.voxdag_c.specs.declared.held.shown.CShown.{CShown}
use Rattle.voxdag_c.specs.held.Places.{box_of, shown_by}
use Rattle.voxdag_c.specs.held.Calls.{PutsItems, WritesItems, is_in, cells_in, faces_answered, extent_in, hit_in}
use Rattle.voxdag_c.specs.held.Files.{FileAsks, FileHas, FileHasBoth, IsFileOf, RefusesDag, PutsDagFault, OpensDag}
use Rattle.voxdag_c.proofs.OfHeld.Changing.{tells_is, tells_count, tells_faces, tells_extent, tells_hit}
use Rattle.voxdag_c.proofs.OfHeld.Fitting.{same_steps}

module _ (f : CFile) (version : ℕ) (q question : Question) (Written : Answer → Type 0)
    (Untouched : Type 0) (same : q ≡ question) where
  pub file_told : (answer : Answer) → QuestionFits (2 ^ f.file.side) q
      → AnswersFileVersion f.file.bytes f.file.side version q answer → Written answer
      → FileAsks f version question Written Untouched 0
  file_told answer fits tells written =
      subst (λ (k : Question). FileAsks f version k Written Untouched 0) same
      (FileAsks.told answer fits tells written)

  pub file_lacks : QuestionFits (2 ^ f.file.side) q
      → (HasVersion f.file.bytes (f.file.side - 1) version → ⊥) → Untouched
      → FileAsks f version question Written Untouched 4
  file_lacks fits none untouched =
      subst (λ (k : Question). FileAsks f version k Written Untouched 4) same
      (FileAsks.no_version fits none untouched)

-- ---- what a view of the file tells

module _ (f : CFile) (view : Opened) (side : ℕ) (viewed : view ≡ f.file) (of_view : side ≡ view.side)
  where
    pub file_cells : 2 ^ side ≡ 2 ^ f.file.side
    file_cells = ap (λ (s : ℕ). 2 ^ s) of_view ∙ ap (λ (o : Opened). 2 ^ o.side) viewed

-- of the file that is viewed, and the box that was handed in
pub file_moved : (P : List ℕ → ℕ → Boxed → Type 0) (f : CFile) (view : Opened) (part : CBox)
    (b : Boxed) → view ≡ f.file → b ≡ box_of part → P view.bytes view.side b
    → P f.file.bytes f.file.side (box_of part)
file_moved P f view part b viewed same told =
    subst (λ (o : Opened). P o.bytes o.side (box_of part)) viewed
    (subst (λ (x : Boxed). P view.bytes view.side x) same told)

-- the file has what its view has, and lacks what that lacks
module _ (f : CFile) (view : Opened) (version : ℕ) (viewed : view ≡ f.file) where
  pub file_has : HasVersion view.bytes (view.side - 1) version → FileHas f version
  file_has has = subst (λ (o : Opened). HasVersion o.bytes (o.side - 1) version) viewed has

  pub file_has_not : (HasVersion view.bytes (view.side - 1) version → ⊥) → FileHas f version → ⊥
  file_has_not none has =
      none (subst (λ (o : Opened). HasVersion o.bytes (o.side - 1) version) (sym viewed) has)

pub file_lacks_one : (f : CFile) (view : Opened) (a b : ℕ) → view ≡ f.file
    → (HasBoth view.bytes view.side a b → ⊥) → FileHasBoth f a b → ⊥
file_lacks_one f view a b viewed none has =
    none (subst (λ (o : Opened). HasBoth o.bytes o.side a b) (sym viewed) has)

-- cells are written, each with tint 1
module _ (voxels : List Voxel) (old new : List CShown) where
  pub shows_none : length old < length voxels
      → WritesItems (map (shown_by (λ v. 1)) voxels) old old (length voxels) 11
  shows_none few =
      let long = length-map voxels (shown_by (λ v. 1)) in
      record { puts = PutsItems.too_small (omega (arith, few, long)) refl; number = sym long }

  pub shows_all : length voxels ≤ length old
      → new ≡ map (shown_by (λ v. 1)) voxels ++ drop (length voxels) old
      → WritesItems (map (shown_by (λ v. 1)) voxels) old new (length voxels) 0
  shows_all room is =
      let long = length-map voxels (shown_by (λ v. 1)) in
      record {
        puts = PutsItems.put (omega (arith, room, long))
            (is ∙ ap (λ (n : ℕ). map (shown_by (λ v. 1)) voxels ++ drop n old) (sym long));
        number = sym long;
      }

-- the answers to questions have the form that these ask for
module _ (bytes : List ℕ) (side number : ℕ) (answer : Answer) where
  pub file_is : (c : Cell) → AnswersFileVersion bytes side number (questions.Get c) answer
      → answer ≡ answers.Is (is_in answer)
  file_is c told =
      tells_is (2 ^ side) (version_has bytes side told.v) (version_tints bytes side told.v) c answer told.tells

  pub file_counts : (b : Boxed) → AnswersFileVersion bytes side number (questions.Count b) answer
      → answer ≡ answers.Count (cells_in answer)
  file_counts b told =
      tells_count (2 ^ side) (version_has bytes side told.v) (version_tints bytes side told.v) b answer told.tells

  pub file_faces : (b : Boxed) → AnswersFileVersion bytes side number (questions.Faces b) answer
      → answer ≡ answers.Faces (faces_answered answer)
  file_faces b told =
      tells_faces (2 ^ side) (version_has bytes side told.v) (version_tints bytes side told.v) b answer told.tells

  pub file_extent : AnswersFileVersion bytes side number questions.Bounds answer
      → answer ≡ answers.Extent (extent_in answer)
  file_extent told =
      tells_extent (2 ^ side) (version_has bytes side told.v) (version_tints bytes side told.v) answer told.tells

  pub file_hit : (from : Cell) (way : Heading)
      → AnswersFileVersion bytes side number (questions.Ray from way) answer
      → answer ≡ answers.Hit (hit_in answer)
  file_hit from way told =
      tells_hit (2 ^ side) (version_has bytes side told.v) (version_tints bytes side told.v) from way answer told.tells

-- ---- opening

pub file_refused : (bytes copy : List ℕ) (fault : DagFault) (old new status : ℕ) → copy ≡ bytes
    → SaysFault copy fault → PutsDagFault fault old new status → RefusesDag bytes old new status
file_refused bytes copy (faults.Bad place) old new status is says puts =
    subst (λ (n : ℕ). RefusesDag bytes old new n) (sym puts.1)
    (RefusesDag.broken (subst (λ (p : ℕ). FirstFault bytes p) (sym puts.0)
    (subst (λ (xs : List ℕ). FirstFault xs place) is says)))
file_refused bytes copy faults.Memory old new status is says puts =
    subst (λ (n : ℕ). RefusesDag bytes old new n) (sym puts.1) (RefusesDag.memory puts.0)

pub file_not_boxed : {X : Type 0} (bytes : List ℕ) (at : ℕ) (result : Result X ℕ)
    → IfErr result (λ status. status ≡ 2) → IfErr result (RefusesDag bytes at at)
file_not_boxed bytes at (Ok x) is = tt
file_not_boxed bytes at (Err status) is =
    subst (λ (n : ℕ). RefusesDag bytes at at n) (sym is) (RefusesDag.memory refl)

module _ (bytes : List ℕ) (old at : ℕ) where
  pub opens_dag_again : (was now : Option CFile) (f : CFile) → Some f ≡ was → now ≡ Some f
      → at ≡ old → OpensDag bytes old at was 13 now
  opens_dag_again was now f held stays same =
      subst (λ (o : Option CFile). OpensDag bytes old at o 13 now) held
      (subst (λ (n : Option CFile). OpensDag bytes old at (Some f) 13 n) (sym stays)
      (OpensDag.is_open f same))

  pub opens_dag : (was now : Option CFile) (f : CFile) → was ≡ None → now ≡ Some f
      → IsFileOf bytes f → at ≡ old → OpensDag bytes old at was 0 now
  opens_dag was now f none held file same =
      subst (λ (o : Option CFile). OpensDag bytes old at o 0 now) (sym none)
      (subst (λ (n : Option CFile). OpensDag bytes old at None 0 n) (sym held)
      (OpensDag.opened f file same))

  pub opens_dag_not : (was now : Option CFile) (status : ℕ) → was ≡ None → now ≡ None
      → RefusesDag bytes old at status → OpensDag bytes old at was status now
  opens_dag_not was now status none stays why =
      subst (λ (o : Option CFile). OpensDag bytes old at o status now) (sym none)
      (subst (λ (n : Option CFile). OpensDag bytes old at None status n) (sym stays)
      (OpensDag.refused status why))

-- ---- a ray by steps of 16 bits

pub file_by_steps : {f : CFile} {version : ℕ} {from : Cell} {Written : Answer → Type 0}
    {Untouched : Type 0} {status : ℕ} (dx dy dz : ℤ)
    → SFits w16 dx → SFits w16 dy → SFits w16 dz
    → FileAsks f version
    (questions.Ray from
    (heading_of (to_z w16 (of_z w16 dx)) (to_z w16 (of_z w16 dy))
    (to_z w16 (of_z w16 dz)))) Written Untouched status
    → FileAsks f version (questions.Ray from (heading_of dx dy dz)) Written Untouched status
file_by_steps {f} {version} {from} {Written} {Untouched} {status} dx dy dz x y z asks =
    subst (λ (h : Heading). FileAsks f version (questions.Ray from h) Written Untouched status)
    (same_steps dx dy dz x y z) asks
