-- What a call through a handle of a file of versions does, which is only asked.
use Rattle.std.specs.Prelude.{◌≡◌, ℕ, ◌-◌, ◌^◌, Bool, List, Option, Some, None, map}
use Rattle.vw_cell.specs.declared.cells.Cell.{Cell}
use Rattle.vw_cell.specs.declared.boxes.Boxed.{Boxed}
use Rattle.vox_read.specs.declared.voxels.Voxel.{Voxel}
use Rattle.history_model.specs.declared.questions.Question.{Question}
use Rattle.script.specs.Fitting.{QuestionFits}
use Rattle.transcript.specs.declared.answers.Answer.{Answer}
use Rattle.dag_file.specs.declared.faults.DagFault.{DagFault}
use Rattle.dag_file.specs.declared.faults.DagFault.TheVariants as faults
use Rattle.dag_file.specs.Places.{versions_in}
use Rattle.dag_file.specs.Rules.{IsDagFile, FirstFault}
use Rattle.dag_file.specs.Trees.{HasVersion, IsNewest}
use Rattle.dag_answers.specs.Looks.{AnswersFileVersion}
use Rattle.dag_answers.specs.OfVersions.{HasBoth, TellsSame, TellsChanges, TellsFile, TellsSurface, TellsRegion}
use Rattle.voxdag_c.specs.declared.held.shown.CShown.{CShown}
use Rattle.voxdag_c.specs.declared.held.files.CFile.{CFile}
use Rattle.voxdag_c.specs.held.Places.{shown_by}
use Rattle.voxdag_c.specs.held.Calls.{QuestionLiesIn, FitsFile, FitsRegion, WritesBytes, WritesItems, WritesNothing}

-- the side of a file's worlds in cells
pub data TellsSide (f : CFile) (new : ℕ) : ℕ → Type 0 where
  told : new ≡ 2 ^ f.file.side → TellsSide f new 0

-- the greatest number of a version, where there is one
pub data TellsNewest (f : CFile) (old new : ℕ) : ℕ → Type 0 where
  told : IsNewest f.file.bytes (f.file.side - 1) new → TellsNewest f old new 0
  no_version : versions_in f.file.bytes ≡ 0 → new ≡ old → TellsNewest f old new 4

-- asking a version of a file: the answer that tells what is asked was written, or nothing was
pub data FileAsks (f : CFile) (version : ℕ) (question : Question) (Written : Answer → Type 0)
    (Untouched : Type 0) : ℕ → Type 0 where
  told : (answer : Answer) → QuestionFits (2 ^ f.file.side) question
      → AnswersFileVersion f.file.bytes f.file.side version question answer → Written answer
      → FileAsks f version question Written Untouched 0
  outside : ¬ QuestionLiesIn (2 ^ f.file.side) question → Untouched
      → FileAsks f version question Written Untouched 3
  no_way : QuestionLiesIn (2 ^ f.file.side) question → ¬ QuestionFits (2 ^ f.file.side) question
      → Untouched → FileAsks f version question Written Untouched 16
  no_version : QuestionFits (2 ^ f.file.side) question
      → ¬ HasVersion f.file.bytes (f.file.side - 1) version
      → Untouched → FileAsks f version question Written Untouched 4

-- ---- two versions beside each other, and what is saved and seen of one

-- the version of this number is there, or both are
abbrev pub FileHas : CFile → ℕ → Type 0
FileHas f version = HasVersion f.file.bytes (f.file.side - 1) version

abbrev pub FileHasBoth : CFile → ℕ → ℕ → Type 0
FileHasBoth f a b = HasBoth f.file.bytes f.file.side a b

-- whether two versions have the same cells
pub data FileCompares (f : CFile) (a b : ℕ) (old new : Bool) : ℕ → Type 0 where
  told : TellsSame f.file.bytes f.file.side a b new → FileCompares f a b old new 0
  no_version : ¬ FileHasBoth f a b → new ≡ old → FileCompares f a b old new 4

-- the least box of all cells that one of two versions has and the other hasn't, where there are any
pub data FileDiffers (f : CFile) (a b : ℕ) (Written : Option Boxed → Type 0) (Untouched : Type 0)
    : ℕ → Type 0 where
  told : (least : Option Boxed) → TellsChanges f.file.bytes f.file.side a b least → Written least
      → FileDiffers f a b Written Untouched 0
  no_version : ¬ FileHasBoth f a b → Untouched → FileDiffers f a b Written Untouched 4

-- the VOX file of a box of a version
pub data FileSaves (f : CFile) (version : ℕ) (part : Boxed) (old new : List ℕ)
    (before needed : ℕ) : ℕ → Type 0 where
  made : (status : ℕ) (file : List ℕ) → FitsFile (2 ^ f.file.side) part
      → TellsFile f.file.bytes f.file.side version part file
      → WritesBytes file old new needed status
      → FileSaves f version part old new before needed status
  memory : FileHas f version → FitsFile (2 ^ f.file.side) part
      → WritesNothing old new before needed → FileSaves f version part old new before needed 2
  outside : ¬ FitsFile (2 ^ f.file.side) part → WritesNothing old new before needed
      → FileSaves f version part old new before needed 3
  no_version : FitsFile (2 ^ f.file.side) part → ¬ FileHas f version
      → WritesNothing old new before needed → FileSaves f version part old new before needed 4

-- the cells of a box of a version that can be seen, each with tint 1
pub data FileShows (f : CFile) (version : ℕ) (part : Boxed) (old new : List CShown)
    (before needed : ℕ) : ℕ → Type 0 where
  made : (status : ℕ) (voxels : List Voxel) → FitsFile (2 ^ f.file.side) part
      → TellsSurface f.file.bytes f.file.side version part voxels
      → WritesItems (map (shown_by (λ v. 1)) voxels) old new needed status
      → FileShows f version part old new before needed status
  memory : FileHas f version → FitsFile (2 ^ f.file.side) part
      → WritesNothing old new before needed → FileShows f version part old new before needed 2
  outside : ¬ FitsFile (2 ^ f.file.side) part → WritesNothing old new before needed
      → FileShows f version part old new before needed 3
  no_version : FitsFile (2 ^ f.file.side) part → ¬ FileHas f version
      → WritesNothing old new before needed → FileShows f version part old new before needed 4

-- the region of a box of a version that is connected with a cell of it
pub data FileFloods (f : CFile) (version : ℕ) (part : Boxed) (from : Cell) (was cells : ℕ)
    (old new : List ℕ) (before needed : ℕ) : ℕ → Type 0 where
  made : (status : ℕ) (file : List ℕ) → FitsRegion (2 ^ f.file.side) part from
      → TellsRegion f.file.bytes f.file.side version part from cells file
      → WritesBytes file old new needed status
      → FileFloods f version part from was cells old new before needed status
  memory : FileHas f version → FitsRegion (2 ^ f.file.side) part from → cells ≡ was
      → WritesNothing old new before needed
      → FileFloods f version part from was cells old new before needed 2
  outside : ¬ FitsRegion (2 ^ f.file.side) part from → cells ≡ was
      → WritesNothing old new before needed
      → FileFloods f version part from was cells old new before needed 3
  no_version : FitsRegion (2 ^ f.file.side) part from → ¬ FileHas f version → cells ≡ was
      → WritesNothing old new before needed
      → FileFloods f version part from was cells old new before needed 4

-- ---- opening

-- the file of these bytes, which keep all rules
pub record IsFileOf (bytes : List ℕ) (f : CFile) : Type 0 where
  pub bytes_are : f.file.bytes ≡ bytes
  pub file : IsDagFile f.file.bytes (f.file.side - 1)

-- why a file isn't opened: the place of its first fault is told
pub data RefusesDag (bytes : List ℕ) (old at : ℕ) : ℕ → Type 0 where
  broken : FirstFault bytes at → RefusesDag bytes old at 23
  memory : at ≡ old → RefusesDag bytes old at 2

-- the number that C gets for a file's fault, and the place that is told
abbrev pub PutsDagFault : DagFault → ℕ → ℕ → ℕ → Type 0
PutsDagFault (faults.Bad place) old new status = (new ≡ place) × (status ≡ 23)
PutsDagFault faults.Memory old new status = (new ≡ old) × (status ≡ 2)

-- a file is opened in a handle that holds none
pub data OpensDag (bytes : List ℕ) (old at : ℕ) : Option CFile → ℕ → Option CFile → Type 0 where
  is_open : (f : CFile) → at ≡ old → OpensDag bytes old at (Some f) 13 (Some f)
  refused : (status : ℕ) → RefusesDag bytes old at status → OpensDag bytes old at None status None
  opened : (f : CFile) → IsFileOf bytes f → at ≡ old → OpensDag bytes old at None 0 (Some f)
