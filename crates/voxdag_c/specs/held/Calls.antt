-- What a call from C does: which status it ends with, what is held then, and what was written.
use Rattle.std.specs.Prelude.{◌≡◌, ◌≢◌, ◌↔◌, ℕ, ◌+◌, ◌^◌, ◌<◌, ◌≤◌, Bool, true, false, IsTrue, List, [], ◌++◌, Option, Some, None, Ok, Err, length, drop, map, ⊤}
use Rattle.std.specs.List.{slice_get}
use Rattle.vw_cell.specs.declared.cells.Cell.{Cell}
use Rattle.vw_cell.specs.declared.boxes.Boxed.{Boxed}
use Rattle.vw_cell.specs.Places.{FitsAt, IsInBox, IsInWorld}
use Rattle.vw_cell.specs.Extents.{IsExtent}
use Rattle.vw_cell.specs.Sides.{is_side}
use Rattle.vox_chunk.specs.declared.faults.VoxFault.{VoxFault}
use Rattle.vox_chunk.specs.declared.faults.VoxFault.TheVariants.{Memory}
use Rattle.vox_read.specs.Contents.{Content}
use Rattle.vox_read.specs.Files.{ReadsModels}
use Rattle.history_model.specs.declared.acts.Act.{Act}
use Rattle.history_model.specs.declared.acts.Act.TheVariants.{Stamp, Tint}
use Rattle.history_model.specs.declared.acts.TintAct.{TintAct}
use Rattle.history_model.specs.declared.acts.TintAct.TheVariants as tints
use Rattle.history_model.specs.declared.histories.Record.{Record}
use Rattle.history_model.specs.declared.questions.Question.{Question}
use Rattle.history_model.specs.declared.questions.Question.TheVariants.{Get, Colour, Count, Bounds, Faces, Ray}
use Rattle.history_model.specs.Journal.{journal_of}
use Rattle.history_model.specs.Logs.{Log, FitsWorld, side_of_world}
use Rattle.history_model.specs.Moments.{world_has, world_tint}
use Rattle.history_model.specs.Spelling.{tinted_act}
use Rattle.history_model.specs.Tints.{Tints, IsTint, SameTints}
use Rattle.history_model.specs.Worlds.{World}
use Rattle.core_laws.specs.contents.Versions.{HoldsVersion, SameWorld}
use Rattle.measure.specs.Changes.{differs}
use Rattle.extract.specs.Saved.{file_of_box}
use Rattle.extract.specs.Surface.{surface_of_box}
use Rattle.flood.specs.Regions.{FilesRegion}
use Rattle.node_words.specs.Plans.{usual_buckets, is_cap}
use Rattle.script.specs.Fitting.{QuestionFits}
use Rattle.script.specs.declared.commands.Command.{Command}
use Rattle.script.specs.declared.commands.Command.TheVariants.{Edit, Forget}
use Rattle.transcript.specs.declared.answers.Answer.{Answer}
use Rattle.transcript.specs.declared.answers.Answer.TheVariants as answers
use Rattle.conformance.specs.Answers.{mark_of}
use Rattle.conformance.specs.Kinds.{answer_at}
use Rattle.conformance.specs.QuestionAnswers.{AnswersTo}
use Rattle.conformance.specs.scripts.Sessions.{ExtendsWith}
use Rattle.store_run.specs.Changing.{ChangesKeeping, AnswersForget, MakesVersion}
use Rattle.store_run.specs.TintChanges.{tints_differ}
use Rattle.store_run.specs.TintFiles.{file_of_tints}
use Rattle.store_run.specs.Worlds.{size_of}
use Rattle.voxdag_c.specs.declared.held.places.CPlace.{CPlace}
use Rattle.voxdag_c.specs.declared.held.shown.CShown.{CShown}
use Rattle.voxdag_c.specs.declared.held.worlds.CWorld.{CWorld}
use Rattle.voxdag_c.specs.held.Places.{cell_of_c_place, ones, shown_of}

-- the world's side in cells, that of its store, which cells a version has, and their tints
abbrev pub held_side : CWorld → ℕ
held_side w = side_of_world w.open.log.coloured (2 ^ w.open.plan.side)

abbrev pub store_side : CWorld → ℕ
store_side w = 2 ^ w.open.plan.side

abbrev pub cells_of_version : CWorld → ℕ → Cell → Bool
cells_of_version w version = world_has w.open.models w.open.log.records version

abbrev pub tints_at : CWorld → ℕ → Cell → ℕ
tints_at w version = world_tint w.open.models w.open.log.records version

-- a call through a handle that may hold nothing; where it does, no output is touched
pub data ByHandle {X : Type 0} (Untouched : Type 0) (Does : X → ℕ → X → Type 0)
    : Option X → ℕ → Option X → Type 0 where
  closed : Untouched → ByHandle Untouched Does None 1 None
  does : (w v : X) (status : ℕ) → Does w status v
      → ByHandle Untouched Does (Some w) status (Some v)

-- a call for worlds of one kind, with tints or without: no other world is touched, nor an output
pub data ByKind (coloured : Bool) (w : CWorld) (Untouched : Type 0) (Does : ℕ → Type 0)
    : ℕ → Type 0 where
  other_kind : w.open.log.coloured ≢ coloured → Untouched → ByKind coloured w Untouched Does 20
  does : (status : ℕ) → w.open.log.coloured ≡ coloured → Does status
      → ByKind coloured w Untouched Does status

-- ---- changes

-- an act as a world takes it: where cells have tints with tint 1, as a line of a script that names
-- none
abbrev pub act_of_kind : Bool → Act → Act
act_of_kind true act = tinted_act 1 act
act_of_kind false act = act

abbrev pub act_here : CWorld → Act → Act
act_here w act = act_of_kind w.open.log.coloured act

-- the number that C gets for an answer to a change
abbrev pub call_status : Answer → ℕ
call_status answers.NothingToUndo = 6
call_status answers.NothingToRedo = 7
call_status answers.LogFull = 8
call_status (answers.Full level bucket) = 9
call_status (answers.Forgotten version) = 5
call_status (answers.NoVersion version) = 4
call_status answers.IsHead = 10
call_status other = 0

-- the record that an act becomes; all that C does is of session 0
abbrev pub record_of : CWorld → Act → Record
record_of w act = record { session = 0; line = w.line; act = act }

-- a change, or a forgotten version, was accepted
abbrev pub is_accepted : Answer → Bool
is_accepted answers.Done = true
is_accepted (answers.Forgot version) = true
is_accepted other = false

-- what is accepted is numbered line by line. The numbers reach further than any history
pub record CountsLine (answer : Answer) (old new : ℕ) : Type 0 where
  pub next : is_accepted answer ≡ true → old < 4294967295 → new ≡ old + 1
  pub same : is_accepted answer ≡ false → new ≡ old

-- plan and models stay, and the command goes on from whatever was done before, as a script's line
pub record WorldExtends (w : CWorld) (command : Command) (answer : Answer)
    (v : CWorld) : Type 0 where
  pub plan : v.open.plan ≡ w.open.plan
  pub models : v.open.models ≡ w.open.models
  pub keep : v.keep ≡ w.keep
  pub line : CountsLine answer w.line v.line
  pub goes_on : ExtendsWith w.keep w.open.plan w.open.models 0
      (record { line = w.line; command = command }) w.open.log v.open.log w.open.noted v.open.noted
      (answer_at (record { line = w.line; command = command }) (length v.open.log.records) answer)

-- the act is answered, and where its record pushes a version out of the last ones that are kept,
-- that is forgotten by the record's line
pub record IsActAnswered (w : CWorld) (act : Act) (answer : Answer) (v : CWorld) : Type 0 where
  pub logs : ChangesKeeping w.keep w.open.plan w.open.models w.open.log (record_of w act) answer
      v.open.log
  pub goes_on : (once : Bool) → WorldExtends w (Edit act once) answer v

-- the model that is stamped is there
abbrev pub HasItsModel : List Content → Act → Type 0
HasItsModel models (Stamp number at) = slice_get models number ≢ None
HasItsModel models (Tint (tints.Stamp number at)) = slice_get models number ≢ None
HasItsModel models other = ⊤

-- a version is forgotten, or not
pub data WorldForgets (w : CWorld) (version : ℕ) : ℕ → CWorld → Type 0 where
  answered : (v : CWorld) (answer : Answer)
      → AnswersForget w.open.log (mark_of version (length w.open.log.records) 0 w.line) answer
      v.open.log
      → WorldExtends w (Forget version) answer v → WorldForgets w version (call_status answer) v

-- a change of the world: its model isn't there, it leaves the world, or memory lacks, and nothing
-- changed; or it was made, and what it pushed out was forgotten; or the answer says why not, and
-- the history is what it was. Memory may lack at any change: nothing here says that it doesn't
pub data WorldChanges (w : CWorld) (act : Act) : ℕ → CWorld → Type 0 where
  no_model : ¬ HasItsModel w.open.models act → WorldChanges w act 14 w
  outside : HasItsModel w.open.models act → ¬ FitsWorld (store_side w) w.open.models act
      → WorldChanges w act 3 w
  memory : FitsWorld (store_side w) w.open.models act → WorldChanges w act 2 w
  made : (v : CWorld) → FitsWorld (store_side w) w.open.models act
      → IsActAnswered w act answers.Done v
      → MakesVersion w.open.models w.open.log act v.open.log → WorldChanges w act 0 v
  refused : (v : CWorld) (answer : Answer) → FitsWorld (store_side w) w.open.models act
      → answer ≢ answers.Done → IsActAnswered w act answer v → v.open.log ≡ w.open.log
      → WorldChanges w act (call_status answer) v

-- a change by a tint: the world has none, or the number is none, and nothing changed; or it is a
-- change as any other
pub data WorldTints (w : CWorld) (act : TintAct) (tint : ℕ) : ℕ → CWorld → Type 0 where
  other_kind : w.open.log.coloured ≡ false → WorldTints w act tint 20 w
  bad_tint : w.open.log.coloured ≡ true → ¬ IsTint tint → WorldTints w act tint 21 w
  changes : (status : ℕ) (v : CWorld) → w.open.log.coloured ≡ true → IsTint tint
      → WorldChanges w (Tint act) status v → WorldTints w act tint status v

-- ---- questions

-- why a version can't be read
pub data IsGone (log : Log) (version : ℕ) : ℕ → Type 0 where
  no_version : length log.records < version → IsGone log version 4
  forgotten : version ≤ length log.records → ¬ HoldsVersion log version → IsGone log version 5

-- the place or the box that is asked about lies in the world
abbrev pub QuestionLiesIn : ℕ → Question → Type 0
QuestionLiesIn side (Get c) = IsInWorld side c
QuestionLiesIn side (Colour c) = IsInWorld side c
QuestionLiesIn side (Count b) = FitsAt b.at b.size side
QuestionLiesIn side Bounds = ⊤
QuestionLiesIn side (Faces b) = FitsAt b.at b.size side
QuestionLiesIn side (Ray from way) = IsInWorld side from

-- the answer tells what is asked of the version, which can be read
pub record Answered (w : CWorld) (version : ℕ) (question : Question)
    (answer : Answer) : Type 0 where
  pub kept : HoldsVersion w.open.log version
  pub fits : QuestionFits (held_side w) question
  pub tells : AnswersTo (held_side w) (cells_of_version w version)
      (tints_at w version) question answer

-- nothing is wrong with what is asked, and the version can't be read
pub record CantBeAsked (w : CWorld) (version : ℕ) (question : Question) (status : ℕ)
    : Type 0 where
  pub fits : QuestionFits (held_side w) question
  pub gone : IsGone w.open.log version status

-- a question of a version: the answer that tells what is asked was written, or nothing was
pub data WorldAsks (w : CWorld) (version : ℕ) (question : Question) (Written : Answer → Type 0)
    (Untouched : Type 0) : ℕ → Type 0 where
  told : (answer : Answer) → Answered w version question answer → Written answer
      → WorldAsks w version question Written Untouched 0
  outside : ¬ QuestionLiesIn (held_side w) question → Untouched
      → WorldAsks w version question Written Untouched 3
  no_way : QuestionLiesIn (held_side w) question → ¬ QuestionFits (held_side w) question → Untouched
      → WorldAsks w version question Written Untouched 16
  gone : (status : ℕ) → CantBeAsked w version question status → Untouched
      → WorldAsks w version question Written Untouched status

-- what an answer says: of a cell, of its tint, of a number of cells or faces, of a least box, of a
-- hit
abbrev pub is_in : Answer → Bool
is_in (answers.Is set) = set
is_in other = false

abbrev pub cells_in : Answer → ℕ
cells_in (answers.Count cells) = cells
cells_in other = 0

abbrev pub faces_answered : Answer → ℕ
faces_answered (answers.Faces faces) = faces
faces_answered other = 0

abbrev pub extent_in : Answer → Option Boxed
extent_in (answers.Extent least) = least
extent_in other = None

abbrev pub tint_in_answer : Answer → ℕ
tint_in_answer (answers.Colour tint) = tint
tint_in_answer other = 0

abbrev pub hit_in : Answer → Option Cell
hit_in (answers.Hit hit) = hit
hit_in other = None

-- whether two versions have the same tints: the same cells, where cells have none
pub data WorldCompares (w : CWorld) (a b : ℕ) (old new : Bool) : ℕ → Type 0 where
  told : HoldsVersion w.open.log a → HoldsVersion w.open.log b
      → (IsTrue new ↔ SameTints (held_side w) (tints_at w a) (tints_at w b))
      → (w.open.log.coloured ≡ false
      → IsTrue new ↔ SameWorld (held_side w) (cells_of_version w a) (cells_of_version w b))
      → WorldCompares w a b old new 0
  first : (status : ℕ) → IsGone w.open.log a status → new ≡ old
      → WorldCompares w a b old new status
  second : (status : ℕ) → HoldsVersion w.open.log a → IsGone w.open.log b status → new ≡ old
      → WorldCompares w a b old new status

-- the number of the newest version
pub data PutsNewest (w : CWorld) : ℕ → ℕ → Type 0 where
  told : PutsNewest w 0 (length w.open.log.records)

-- the size of the model of this number
pub data PutsSize (w : CWorld) (number : ℕ) (old new : CPlace) : ℕ → Type 0 where
  told : size_of (slice_get w.open.models number) ≡ Some (cell_of_c_place new)
      → PutsSize w number old new 0
  no_model : slice_get w.open.models number ≡ None → new ≡ old → PutsSize w number old new 14

-- ---- bytes that are written

-- the items stand at the front, where there is room for them, and else nothing was written
pub data PutsItems {X : Type 0} (items old new : List X) : ℕ → Type 0 where
  put : length items ≤ length old → new ≡ items ++ drop (length items) old
      → PutsItems items old new 0
  too_small : length old < length items → new ≡ old → PutsItems items old new 11

-- the same, and how many items there are
pub record WritesItems {X : Type 0} (items old new : List X) (needed status : ℕ) : Type 0 where
  pub puts : PutsItems items old new status
  pub number : needed ≡ length items

abbrev pub WritesBytes : List ℕ → List ℕ → List ℕ → ℕ → ℕ → Type 0
WritesBytes bytes old new needed status = WritesItems bytes old new needed status

-- nothing was written
pub record WritesNothing {X : Type 0} (old new : List X) (before needed : ℕ) : Type 0 where
  pub bytes : new ≡ old
  pub number : needed ≡ before

-- a file, or a list of cells that can be seen, can have the box
pub record FitsFile (side : ℕ) (part : Boxed) : Type 0 where
  pub inside : FitsAt part.at part.size side
  pub small : (part.size.x ≤ 256) × (part.size.y ≤ 256) × (part.size.z ≤ 256)

-- the VOX file of a box of a version: with each cell's tint as its colour, or with colour 1
abbrev pub file_by_kind : Bool → Boxed → World → Tints → List ℕ
file_by_kind true part cells held = file_of_tints part cells held
file_by_kind false part cells held = file_of_box part cells

abbrev pub file_of_version : CWorld → ℕ → Boxed → List ℕ
file_of_version w version part =
    file_by_kind w.open.log.coloured part (cells_of_version w version) (tints_at w version)

pub data WorldSaves (w : CWorld) (version : ℕ) (part : Boxed) (old new : List ℕ)
    (before needed : ℕ) : ℕ → Type 0 where
  made : (status : ℕ) → HoldsVersion w.open.log version → FitsFile (held_side w) part
      → WritesBytes (file_of_version w version part) old new needed status
      → WorldSaves w version part old new before needed status
  memory : HoldsVersion w.open.log version → FitsFile (held_side w) part
      → WritesNothing old new before needed → WorldSaves w version part old new before needed 2
  outside : ¬ FitsFile (held_side w) part → WritesNothing old new before needed
      → WorldSaves w version part old new before needed 3
  gone : (status : ℕ) → FitsFile (held_side w) part → IsGone w.open.log version status
      → WritesNothing old new before needed → WorldSaves w version part old new before needed status

-- the text of the journal
pub data WorldJournals (w : CWorld) (old new : List ℕ) (before needed : ℕ) : ℕ → Type 0 where
  made : (status : ℕ) → WritesBytes (journal_of w.open.log) old new needed status
      → WorldJournals w old new before needed status
  memory : WritesNothing old new before needed → WorldJournals w old new before needed 2

-- ---- two versions beside each other, and what can be seen of one

-- the least box of all cells whose tints differ in two versions, where there are any: of all that
-- one has and the other hasn't, where cells have no tints
pub data WorldDiffers (w : CWorld) (a b : ℕ) (Written : Option Boxed → Type 0)
    (Untouched : Type 0) : ℕ → Type 0 where
  told : (least : Option Boxed) → HoldsVersion w.open.log a → HoldsVersion w.open.log b
      → IsExtent (held_side w) (tints_differ (tints_at w a) (tints_at w b)) least
      → (w.open.log.coloured ≡ false
      → IsExtent (held_side w) (differs (cells_of_version w a) (cells_of_version w b)) least)
      → Written least → WorldDiffers w a b Written Untouched 0
  first : (status : ℕ) → IsGone w.open.log a status → Untouched
      → WorldDiffers w a b Written Untouched status
  second : (status : ℕ) → HoldsVersion w.open.log a → IsGone w.open.log b status → Untouched
      → WorldDiffers w a b Written Untouched status

-- the tints that are told of set cells: their own, or 1 where cells have none
abbrev pub tints_by_kind : Bool → Tints → Tints
tints_by_kind true held = held
tints_by_kind false held = ones

-- the set cells of a box of a version at whose side an unset cell or the world's outside is, in
-- saving order, each with its tint
abbrev pub surface_of_version : CWorld → ℕ → Boxed → List CShown
surface_of_version w version part =
    map (shown_of (tints_by_kind w.open.log.coloured (tints_at w version)) part.at)
    (surface_of_box (held_side w) (cells_of_version w version) part)

-- these cells are written
pub data WorldShows (w : CWorld) (version : ℕ) (part : Boxed) (old new : List CShown)
    (before needed : ℕ) : ℕ → Type 0 where
  made : (status : ℕ) → HoldsVersion w.open.log version → FitsFile (held_side w) part
      → WritesItems (surface_of_version w version part) old new needed status
      → WorldShows w version part old new before needed status
  memory : HoldsVersion w.open.log version → FitsFile (held_side w) part
      → WritesNothing old new before needed → WorldShows w version part old new before needed 2
  outside : ¬ FitsFile (held_side w) part → WritesNothing old new before needed
      → WorldShows w version part old new before needed 3
  gone : (status : ℕ) → FitsFile (held_side w) part → IsGone w.open.log version status
      → WritesNothing old new before needed → WorldShows w version part old new before needed status

-- a region is asked for of this box, and from this cell of it
pub record FitsRegion (side : ℕ) (part : Boxed) (from : Cell) : Type 0 where
  pub part_fits : FitsFile side part
  pub start : IsInBox part from

-- the cells of a box of a version that ways through its clear cells join with a cell of it: how
-- many they are, and their VOX file
pub data WorldFloods (w : CWorld) (version : ℕ) (part : Boxed) (from : Cell) (was cells : ℕ)
    (old new : List ℕ) (before needed : ℕ) : ℕ → Type 0 where
  made : (status : ℕ) (file : List ℕ) → HoldsVersion w.open.log version
      → FitsRegion (held_side w) part from
      → FilesRegion part from cells file (cells_of_version w version)
      → WritesBytes file old new needed status
      → WorldFloods w version part from was cells old new before needed status
  memory : HoldsVersion w.open.log version → FitsRegion (held_side w) part from → cells ≡ was
      → WritesNothing old new before needed
      → WorldFloods w version part from was cells old new before needed 2
  outside : ¬ FitsRegion (held_side w) part from → cells ≡ was → WritesNothing old new before needed
      → WorldFloods w version part from was cells old new before needed 3
  gone : (status : ℕ) → FitsRegion (held_side w) part from → IsGone w.open.log version status
      → cells ≡ was → WritesNothing old new before needed
      → WorldFloods w version part from was cells old new before needed status

-- ---- opening

-- the models that are asked for by the bytes of a file, none by no bytes
abbrev pub AsksForModels : List ℕ → List Content → Type 0
AsksForModels [] models = models ≡ []
AsksForModels bytes models = ReadsModels bytes (Ok models)

-- so many slots of a bucket were asked for; 0 asks for the usual number
pub record AreSlots (asked slots : ℕ) : Type 0 where
  pub usual : asked ≡ 0 → slots ≡ 128
  pub given : asked ≢ 0 → slots ≡ asked

-- a world of this side and cap, which keeps so many versions, with the models of these bytes, where
-- nothing was done
pub record IsBegun (coloured : Bool) (side cap keep : ℕ) (bytes : List ℕ)
    (w : CWorld) : Type 0 where
  pub cells : held_side w ≡ side
  pub buckets : w.open.plan.buckets ≡ usual_buckets
  pub slots : AreSlots cap w.open.plan.cap
  pub models : AsksForModels bytes w.open.models
  pub nothing : w.open.log
      ≡ record { side = w.open.plan.side; coloured = coloured; records = []; marks = [] }
  pub noted : w.open.noted ≡ record { made = []; met = [] }
  pub keep_is : w.keep ≡ keep
  pub line : w.line ≡ 1

-- a world can have this side, with tints or without, and its buckets so many slots
pub record AreSideAndCap (coloured : Bool) (side cap : ℕ) : Type 0 where
  pub is_a_side : IsTrue (is_side side)
  pub has_store : coloured ≡ true → side ≤ 1024
  pub is_a_cap : cap ≢ 0 → IsTrue (is_cap cap)

-- why the models that are asked for by the bytes of a file aren't there
pub data RefusesModels (bytes : List ℕ) : ℕ → Type 0 where
  too_long : 2 ^ 28 < length bytes → RefusesModels bytes 15
  bad_file : 0 < length bytes → (fault : VoxFault) → ReadsModels bytes (Err fault)
      → RefusesModels bytes 15
  memory : RefusesModels bytes 2

-- why no world is opened
pub data Refuses (coloured : Bool) (side cap : ℕ) (bytes : List ℕ) : ℕ → Type 0 where
  bad_plan : ¬ AreSideAndCap coloured side cap → Refuses coloured side cap bytes 12
  no_models : (status : ℕ) → AreSideAndCap coloured side cap → RefusesModels bytes status
      → Refuses coloured side cap bytes status
  memory : AreSideAndCap coloured side cap → Refuses coloured side cap bytes 2

-- the number that C gets for a file's fault
abbrev pub status_of_file : VoxFault → ℕ
status_of_file Memory = 2
status_of_file other = 15

-- a world is opened in a handle that has none
pub data OpensHandle (coloured : Bool) (side cap keep : ℕ) (bytes : List ℕ)
    : Option CWorld → ℕ → Option CWorld → Type 0 where
  is_open : (w : CWorld) → OpensHandle coloured side cap keep bytes (Some w) 13 (Some w)
  refused : (status : ℕ) → Refuses coloured side cap bytes status
      → OpensHandle coloured side cap keep bytes None status None
  begun : (w : CWorld) → IsBegun coloured side cap keep bytes w
      → OpensHandle coloured side cap keep bytes None 0 (Some w)

-- what is held is closed, where something is
pub data ClosesHandle {X : Type 0} : Option X → ℕ → Option X → Type 0 where
  closed : ClosesHandle None 1 None
  given_back : (w : X) → ClosesHandle (Some w) 0 None
