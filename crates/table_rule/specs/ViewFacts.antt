-- What a view tells by itself, with no look at a word.
use Rattle.std.specs.Prelude.{◌≡◌, ℕ, ◌+◌, ◌*◌, ◌^◌, ◌<◌, ◌≤◌, true, Some}
use Rattle.node_words.specs.declared.shapes.names.Name.{Name}
use Rattle.node_words.specs.shapes.Buckets.{bucket_of_shape}
use Rattle.node_words.specs.shapes.Tree.{Tree, Gone, LeafAt, NodeAt, root_of, child_of, shape_of}
use Rattle.node_words.specs.shapes.Weights.{number_of_trees}
use Rattle.node_words.specs.Held.{IsReached, AreTrees, AreCanonical}
use Rattle.core_laws.specs.places.Names.{IsName}
use Rattle.core_laws.specs.places.WordIds.{key_words}
use Rattle.core_laws.specs.places.Words.{word_of_child}
use Rattle.table_rule.specs.Reading.{book_of}
use Rattle.table_rule.specs.LogFacts.{LogFacts, RootFacts}
use Rattle.table_rule.specs.Views.{SeatView, bucket_of, key_word_id, known_at}

-- the word of a key for two children, of the octants 2i and 2i + 1
abbrev pub pair_of_children : Tree → ℕ → ℕ
pair_of_children t i =
    word_of_child (root_of (child_of t (2 * i)))
    + 2 ^ 32 * word_of_child (root_of (child_of t (2 * i + 1)))

-- the word i of the key of a tree's node
abbrev pub tree_word : Tree → ℕ → ℕ
tree_word Gone i = 0
tree_word (LeafAt n bits) i = bits
tree_word (NodeAt n a b c d e f g h) i = pair_of_children (NodeAt n a b c d e f g h) i

-- what is known of an entry's words under its turn is as its tree says
pub record ViewAgrees (v : SeatView) (t : Tree) (n : Name) : Type 0 where
  pub book : (k : ℕ) → known_at (book_of n) v.words ≡ Some k → 0 < k
  pub key : (i k : ℕ) → i < key_words n.level → known_at (key_word_id n i) v.words ≡ Some k
      → k ≡ tree_word t i

-- P of each tree that is held or stands in a held one, and of its name
abbrev pub ForNamed : SeatView → (Tree → Name → Type 0) → Type 0
ForNamed v P = (t : Tree) (n : Name) → IsReached v.held t → root_of t ≡ Some n → P t n

-- what a view in use tells of the trees that it reaches: they are trees of the world with canonical
-- shapes, each in the bucket of its shape, one for each name, and one name for each level and
-- shape; and of the log, and of roots that its turn has shown
pub record ViewFacts (v : SeatView) : Type 0 where
  pub trees : AreTrees v.plan.side v.held
  pub canonical : AreCanonical v.held
  pub few : number_of_trees v.held ≤ 4096
  pub names : ForNamed v (λ t n. IsName v.plan n)
  pub buckets : ForNamed v (λ t n. n.bucket ≡ bucket_of_shape v.plan.buckets n.level (shape_of t))
  pub once : ForNamed v (λ t m. ForNamed v (λ u n. m.level ≡ n.level → shape_of t ≡ shape_of u
      → m ≡ n))
  pub agrees : ForNamed v (λ t n. v.turn ≡ Some (bucket_of n) → ViewAgrees v t n)
  pub log : LogFacts v
  pub roots : RootFacts v

abbrev pub FactsInUse : SeatView → Type 0
FactsInUse v = v.alive ≡ true → ViewFacts v
