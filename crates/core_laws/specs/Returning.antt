-- What giving a share back frees. The keys stay as they are, and the books fall.
use Rattle.std.specs.Prelude.{◌≡◌, ◌≢◌, ℕ, ◌+◌, ◌*◌, ◌<◌, ◌≤◌, Some, List, All, AllPairs, length}
use Rattle.node_words.specs.declared.shapes.names.Name.{Name}
use Rattle.node_words.specs.shapes.Shape.{Shape, IsBranch, IsPart}
use Rattle.node_words.specs.shapes.Tree.{shape_of}
use Rattle.node_words.specs.declared.keys.Key.{Key}
use Rattle.node_words.specs.Plans.{Layout}
use Rattle.core_laws.specs.places.Names.{IsName}
use Rattle.core_laws.specs.States.{tree_at}

-- by these keys and books, the shape is that of a live entry
pub record IsShapeStored (p : Layout) (key : Name → Key) (book : Name → ℕ)
    (s : Shape) : Type 0 where
  pub name : Name
  pub is_name : IsName p name
  pub live : 0 < book name
  pub shape : shape_of (tree_at key name.level (Some name)) ≡ s

-- the books of all names but n are as before
pub record OneBookChanges (p : Layout) (n : Name) (before after : Name → ℕ) : Type 0 where
  pub others : (m : Name) → IsName p m → m ≢ n → after m ≡ before m

-- a branch that was stored and is no more
pub record IsFreed (p : Layout) (key : Name → Key) (before after : Name → ℕ)
    (s : Shape) : Type 0 where
  pub is_branch : IsBranch s
  pub was : IsShapeStored p key before s
  pub gone : ¬ IsShapeStored p key after s

-- books fell, different branches that are parts of s were freed, and eight turns for each of them
-- passed besides the first ones
pub record FreesParts (p : Layout) (key : Name → Key) (s : Shape) (first : ℕ)
    (before after : Name → ℕ) (steps now : ℕ) : Type 0 where
  pub fell : (n : Name) → IsName p n → after n ≤ before n
  pub freed : List Shape
  pub different : AllPairs (λ r t. r ≢ t) freed
  pub parts : All (λ r. IsPart r s) freed
  pub each : All (λ r. IsFreed p key before after r) freed
  pub turns : now ≤ steps + first + 8 * length freed
