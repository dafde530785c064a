-- How what is noted changes.
use Rattle.std.specs.Prelude.{◌≡◌, ℕ, ◌+◌, ◌≤◌, List, ◌∷◌}
use Rattle.node_words.specs.shapes.Shape.{Shape}
use Rattle.node_words.specs.shapes.Tree.{Tree}
use Rattle.node_words.specs.shapes.Weights.{weigh, weight_below}
use Rattle.node_words.specs.Held.{Wanted, Gains}
use Rattle.one_store.specs.notes.StoreNotes.{StoreNotes}

-- nothing was made and nothing met a full bucket
pub record MakesNothing (old new : StoreNotes) : Type 0 where
  pub made : new.made ≡ old.made
  pub met : new.met ≡ old.met

-- a share of t came
pub record NotesGain (old : StoreNotes) (t : Tree) (new : StoreNotes) : Type 0 where
  pub only : MakesNothing old new
  pub gains : Gains old.held t new.held

-- a share of t went
pub record NotesLoss (old : StoreNotes) (t : Tree) (new : StoreNotes) : Type 0 where
  pub only : MakesNothing old new
  pub loses : Gains new.held t old.held

-- the shares of a row take the place of one of t
pub record Parts (old : List Tree) (t : Tree) (row : ℕ → Tree) (new : List Tree) : Type 0 where
  pub weighs : (f : Tree → ℕ) → weigh f new + f t ≡ weigh f old + weight_below f row 8

-- a share of t takes the place of those of a row
pub record GathersUnder (old : List Tree) (row : ℕ → Tree) (t : Tree)
    (new : List Tree) : Type 0 where
  pub weighs : (f : Tree → ℕ) → weigh f new + weight_below f row 8 ≡ f t + weigh f old

-- a share of each tree of a row is held
pub record HoldsRow (held : List Tree) (row : ℕ → Tree) : Type 0 where
  pub weighs : (f : Tree → ℕ) → weight_below f row 8 ≤ weigh f held

-- an entry was freed: its share went, and those of its children came
pub record NotesFreeing (old : StoreNotes) (t : Tree) (row : ℕ → Tree)
    (new : StoreNotes) : Type 0 where
  pub only : MakesNothing old new
  pub parts : Parts old.held t row new.held

-- an entry of this shape was added: the shares of its children went, and its own came
pub record NotesEntry (old : StoreNotes) (row : ℕ → Tree) (t : Tree) (shape : Shape)
    (new : StoreNotes) : Type 0 where
  pub made : new.made ≡ shape ∷ old.made
  pub met : new.met ≡ old.met
  pub closes : GathersUnder old.held row t new.held

-- a full bucket was met
pub record NotesFull (old : StoreNotes) (wanted : Wanted) (new : StoreNotes) : Type 0 where
  pub held : new.held ≡ old.held
  pub made : new.made ≡ old.made
  pub met : new.met ≡ wanted ∷ old.met
