-- What a run keeps of the shapes that a store made and met, and how that tells where a bucket may
-- be full. The headline's definitions don't rest on this: it is how a run comes to them.
use Rattle.std.specs.Prelude.{◌≡◌, ◌≢◌, ℕ, ◌^◌, ◌≤◌, true, false, List, [], ◌∷◌, ◌++◌, length, All}
use Rattle.std.specs.List.{Contains}
use Rattle.vox_read.specs.Contents.{Content}
use Rattle.history_model.specs.declared.acts.Act.{Act}
use Rattle.history_model.specs.declared.histories.Record.{Record}
use Rattle.history_model.specs.Logs.{suits_tints}
use Rattle.history_model.specs.Worlds.{World, edited, is_edit}
use Rattle.history_model.specs.Stores.{edit_part_number, stored_in}
use Rattle.node_words.specs.shapes.Shape.{Shape, Clear, ShowsCells, IsCanonical, IsPart}
use Rattle.node_words.specs.shapes.Buckets.{bucket_of_shape}
use Rattle.node_words.specs.Enough.{HasEnough}
use Rattle.node_words.specs.Gathering.{Grew}
use Rattle.node_words.specs.Held.{Wanted, StoreState, IsSought}
use Rattle.node_words.specs.Plans.{Layout}
use Rattle.core_laws.specs.contents.Aligned.{top, world_block}
use Rattle.conformance.specs.possible.Needed.{Span, made_of}
use Rattle.script.specs.declared.commands.Command.{Command}
use Rattle.script.specs.declared.commands.Command.TheVariants.{Edit}
use Rattle.script.specs.declared.commands.ScriptLine.{ScriptLine}
use Rattle.transcript.specs.declared.answers.LineAnswer.{LineAnswer}
use Rattle.conformance.specs.Refusing.{Refusal, refused_by}

-- what a store notes: the shapes of the entries that it added, and what met a full bucket
pub record MadeAndMet : Type 0 where
  pub made : List Shape
  pub met : List Wanted

abbrev pub made_and_met : StoreState → MadeAndMet
made_and_met seen = record { made = seen.made; met = seen.met }

-- each bucket that was full had enough entries
abbrev pub HaveEnough : Layout → MadeAndMet → Type 0
HaveEnough p noted = All (λ w. HasEnough p noted.made w.level w.bucket) noted.met

-- the shape is a part of the canonical shape of a world
pub record IsPartOfWorld (p : Layout) (w : World) (s : Shape) : Type 0 where
  pub all : Shape
  pub canonical : IsCanonical (top p.side) all
  pub shows : ShowsCells (world_block p.side) all w
  pub part : IsPart s all

-- an edit wants the shape: it is a part of the canonical shape of what so many parts of the edit
-- make of a version
pub record IsWanted (p : Layout) (models : List Content) (records : List Record) (act : Act)
    (version : ℕ) (s : Shape) : Type 0 where
  pub edit : is_edit act ≡ true
  pub parts : ℕ
  pub some_part : 1 ≤ parts
  pub few_parts : parts ≤ edit_part_number act
  pub part : IsPartOfWorld p (made_of (2 ^ p.side) models records act version parts) s

-- the canonical shape of what an edit without a tint makes of a version at once
pub record IsPlainTarget (p : Layout) (models : List Content) (records : List Record) (act : Act)
    (version : ℕ) (target : Shape) : Type 0 where
  pub edit : is_edit act ≡ true
  pub plain : suits_tints false act ≡ true
  pub canonical : IsCanonical (top p.side) target
  pub shows : ShowsCells (world_block p.side) target
      (edited models act (stored_in (2 ^ p.side) models records version))

-- such shapes may have been made, and one met this full bucket, which is its own
pub record MeetsFull (Wants : Shape → Type 0) (level bucket : ℕ)
    (old new : StoreState) : Type 0 where
  pub plan : new.plan ≡ old.plan
  pub made : Grew Wants old.made new.made
  pub wanted : Shape
  pub wants : Wants wanted
  pub sought : IsSought old.plan (record { level = level; bucket = bucket; shape = wanted })
  pub met : new.met ≡ record { level = level; bucket = bucket; shape = wanted } ∷ old.met

-- ---- what one line makes

-- the line before was answered at moment `first`, and this one at moment `last`: its edit made the
-- shape, which it wants of a version of these moments
pub record MakesPart (p : Layout) (models : List Content) (records : List Record) (act : Act)
    (first last : ℕ) (s : Shape) : Type 0 where
  pub version : ℕ
  pub low : first ≤ version
  pub high : version ≤ last
  pub wanted : IsWanted p models records act version s

-- by the line's command
abbrev pub MakesFor : Layout → List Content → List Record → Command → ℕ → ℕ → Shape → Type 0
MakesFor p models records (Edit act once) first last s =
    MakesPart p models records act first last s
MakesFor p models records _ first last s = ⊥

-- an edit met a full bucket at this version, which is its moment, for this shape
pub record IsMetBy (p : Layout) (models : List Content) (records : List Record) (act : Act)
    (version level bucket : ℕ) (s : Shape) : Type 0 where
  pub wanted : IsWanted p models records act version s
  pub canonical : IsCanonical level s
  pub some : s ≢ Clear
  pub of_bucket : bucket_of_shape p.buckets level s ≡ bucket

-- what the refused change wanted was noted
pub record WasMet (p : Layout) (models : List Content) (records : List Record)
    (noted : List Wanted) (r : Refusal) : Type 0 where
  pub shape : Shape
  pub is_met : IsMetBy p models records r.act r.at r.level r.bucket shape
  pub listed : Contains noted (record { level = r.level; bucket = r.bucket; shape = shape })
  pub there : r.at ≤ length records

-- what one line of a session adds: the shapes made, and for a full bucket what it wanted
pub record LineMakes (p : Layout) (models : List Content) (first : ℕ) (l : ScriptLine)
    (a : LineAnswer) (records : List Record) (old new : MadeAndMet) : Type 0 where
  pub more : List Shape
  pub made : new.made ≡ more ++ old.made
  pub parts : All (MakesFor p models records l.command first a.at) more
  pub further : List Wanted
  pub met : new.met ≡ further ++ old.met
  pub was_met : All (WasMet p models records new.met) (refused_by l.command a.at a.answer)

-- ---- what all lines made

-- a store added the shape for an edit of the run, which wants it of a version of its moments
pub record IsMadeFor (p : Layout) (models : List Content) (records : List Record)
    (spans : List Span) (s : Shape) : Type 0 where
  pub span : Span
  pub listed : Contains spans span
  pub version : ℕ
  pub low : span.first ≤ version
  pub high : version ≤ span.last
  pub wanted : IsWanted p models records span.act version s

-- and that version is there
pub record IsMadeInRun (p : Layout) (models : List Content) (records : List Record)
    (spans : List Span) (s : Shape) : Type 0 where
  pub made : IsMadeFor p models records spans s
  pub there : made.version ≤ length records

-- of the lines so far: what was made for them, and what their refusals met
pub record KeepsMade (p : Layout) (models : List Content) (records : List Record)
    (spans : List Span) (refused : List Refusal) (noted : MadeAndMet) : Type 0 where
  pub made_in : All (IsMadeInRun p models records spans) noted.made
  pub was_met : All (WasMet p models records noted.met) refused

-- the moment of the last of some lines
abbrev pub last_moment : ℕ → List LineAnswer → ℕ
last_moment first [] = first
last_moment first (a ∷ answers) = last_moment a.at answers
