-- How much trees weigh. Two lists have the same trees, as often, where they weigh the same by every
-- weight.
use Rattle.std.specs.Prelude.{ℕ, ◌+◌, List, sum_by}
use Rattle.std.proofs.Common.{zero, suc}
use Rattle.node_words.specs.shapes.Tree.{Tree, Gone, LeafAt, NodeAt}

-- how much the trees of a list weigh
unfoldable pub weigh : (Tree → ℕ) → List Tree → ℕ
weigh f ts = sum_by f ts

-- how many trees a list has
abbrev pub number_of_trees : List Tree → ℕ
number_of_trees ts = weigh (λ _. 1) ts

-- how much a tree weighs, where nothing weighs nothing
unfoldable pub weight_of : (Tree → ℕ) → Tree → ℕ
weight_of f Gone = 0
weight_of f (LeafAt n bits) = f (LeafAt n bits)
weight_of f (NodeAt n a b c d e f' g h) = f (NodeAt n a b c d e f' g h)

-- how much the first k of a row of trees weigh
abbrev pub weight_below : (Tree → ℕ) → (ℕ → Tree) → ℕ → ℕ
weight_below f row zero = 0
weight_below f row (suc k) = weight_of f (row k) + weight_below f row k

-- a row with the tree t in place k
abbrev pub put_row : (ℕ → Tree) → ℕ → Tree → ℕ → Tree
put_row row zero t zero = t
put_row row zero t (suc j) = row (suc j)
put_row row (suc k) t zero = row zero
put_row row (suc k) t (suc j) = put_row (λ i. row (suc i)) k t j
