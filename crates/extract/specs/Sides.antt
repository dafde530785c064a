-- A block and what stands beside it in each direction, and words by direction.
use Rattle.std.specs.Prelude.{◌≡◌, ℕ, ◌<◌, ◌≤◌, Bool, Option, List}
use Rattle.vw_cell.specs.declared.cells.Cell.{Cell}
use Rattle.vw_cell.specs.declared.directions.Direction.{Direction}
use Rattle.vw_cell.specs.declared.directions.Direction.TheVariants.{LowX, HighX, LowY, HighY, LowZ, HighZ}
use Rattle.node_words.specs.declared.shapes.names.Name.{Name}
use Rattle.node_words.specs.shapes.Tree.{Tree}
use Rattle.node_words.specs.Held.{bits_of_leaf, name_in}
use Rattle.node_words.specs.shapes.Shape.{Shape, bits_of, octant_shape}
use Rattle.node_words.specs.descent.Answers.{AreRight}
use Rattle.node_words.specs.descent.Roots.{ForBlock, IsOctantOf}
use Rattle.measure.specs.Exposed.{PassesExposed}
use Rattle.measure.specs.Tallies.{IsWholeTally, PassesNone}
use Rattle.measure.specs.Faces.{passes_exposed}
use Rattle.measure.specs.declared.exposed_sides.ExposedSides.{ExposedSides}
use Rattle.extract.specs.declared.bare_layers.BareLayer.{BareLayer}
use Rattle.extract.specs.declared.bare_layers.BareLeaf.{BareLeaf}
use Rattle.extract.specs.declared.alike.Alike.{Alike}
use Rattle.extract.specs.declared.alike.Found.{Found}
use Rattle.extract.specs.declared.near_leaves.NearLeaves.{NearLeaves}
use Rattle.extract.specs.declared.nearby.Nearby.{Nearby}
use Rattle.extract.specs.declared.surrounded.Surrounded.{Surrounded}

-- what stands beside the block
abbrev pub beside_of : Surrounded → Direction → Option Name
beside_of s LowX = s.low_x
beside_of s HighX = s.high_x
beside_of s LowY = s.low_y
beside_of s HighY = s.high_y
beside_of s LowZ = s.low_z
beside_of s HighZ = s.high_z

-- the block with what stands beside it in one direction
abbrev pub sided : Surrounded → Direction → ExposedSides
sided s d = record { direction = d; block = s.block; beside = beside_of s d }

-- the block, and what stands beside it, may be read
pub record HasSides (held : List Tree) (level : ℕ) (s : Surrounded) : Type 0 where
  pub each : (d : Direction) → (test : Cell → Bool) × passes_exposed held level (sided s d) test

-- what stands in the octants of the block beside
abbrev pub names_towards : Nearby → Direction → List (Option Name)
names_towards near LowX = near.low_x
names_towards near HighX = near.high_x
names_towards near LowY = near.low_y
names_towards near HighY = near.high_y
names_towards near LowZ = near.low_z
names_towards near HighZ = near.high_z

-- the names are those of the octants of a block, and of each block beside it
pub record AreNear (held : List Tree) (level : ℕ) (s : Surrounded) (near : Nearby) : Type 0 where
  pub block : (k : ℕ) → k < 8 → IsOctantOf held level s.block k (name_in near.block k)
  pub beside : (d : Direction) (k : ℕ) → k < 8
      → IsOctantOf held level (beside_of s d) k (name_in (names_towards near d) k)

-- the bits are those of the leaves in the octants of a shape
abbrev pub HaveBits : List ℕ → Shape → Type 0
HaveBits leaves s = (k : ℕ) → k < 8 → bits_of_leaf leaves k ≡ bits_of (octant_shape s k)

abbrev pub leaves_towards : NearLeaves → Direction → List ℕ
leaves_towards near LowX = near.low_x
leaves_towards near HighX = near.high_x
leaves_towards near LowY = near.low_y
leaves_towards near HighY = near.high_y
leaves_towards near LowZ = near.low_z
leaves_towards near HighZ = near.high_z

-- the bits are those of the leaves of a block of eight, and of each block beside it
pub record AreNearLeaves (held : List Tree) (s : Surrounded) (near : NearLeaves) : Type 0 where
  pub block : ForBlock held 1 s.block (HaveBits near.block)
  pub beside : (d : Direction) → ForBlock held 1 (beside_of s d) (HaveBits (leaves_towards near d))

-- where the number isn't 0, no cell is bare of a block beside which the same stands everywhere
abbrev pub hides_alike : List Tree → Alike → ℕ → Type 0
hides_alike held q number =
    1 ≤ number → (d : Direction) (test : Cell → Bool)
    → PassesExposed d held q.level q.block q.block test → PassesNone q.level test

-- what a walk found is right
pub record AreFound (held : List Tree) (found : Found) : Type 0 where
  pub wholes : AreRight (IsWholeTally passes_exposed) held found.wholes.places
  pub alike : AreRight hides_alike held found.alike.places

-- the words of one direction, of a layer and of a leaf
abbrev pub words_towards : BareLayer → Direction → List ℕ
words_towards words LowX = words.low_x
words_towards words HighX = words.high_x
words_towards words LowY = words.low_y
words_towards words HighY = words.high_y
words_towards words LowZ = words.low_z
words_towards words HighZ = words.high_z

abbrev pub leaf_towards : BareLeaf → Direction → ℕ
leaf_towards leaf LowX = leaf.low_x
leaf_towards leaf HighX = leaf.high_x
leaf_towards leaf LowY = leaf.low_y
leaf_towards leaf HighY = leaf.high_y
leaf_towards leaf LowZ = leaf.low_z
leaf_towards leaf HighZ = leaf.high_z
