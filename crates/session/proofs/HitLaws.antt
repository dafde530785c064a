-- What is held or stands below a held node is shared where it is asked for.
use Rattle.std.proofs.Common.{Ok, Err, ◌≡◌, ℕ}
use Rattle.std.specs.Prelude.{MatchResult}
use Rattle.std.specs.Result.{IsOkAnd}
use Rattle.std.specs.declared.result.Result.{Result}
use Rattle.node_words.specs.declared.shapes.names.Name.{Name}
use Rattle.node_words.specs.shapes.Tree.{Tree, LeafAt, node_at}
use Rattle.node_words.specs.declared.shares.Full.{Full}
use Rattle.node_words.specs.declared.shares.NodeRefused.{NodeRefused}
use Rattle.node_words.specs.Held.{IsReached}
use Rattle.table_rule.specs.Views.{SeatView}
use Rattle.intern.specs.Leaves.{InternsLeaf, LeafRefused}
use Rattle.intern.specs.Nodes.{InternsNode, NodeIsRefused}

pub leaf_hit : (v w : SeatView) (bits : ℕ) (r : Result Name Full)
    → MatchResult r (λ n. InternsLeaf v bits n w) (λ e. LeafRefused v bits e w) → (n : Name)
    → IsReached v.held (LeafAt n bits) → IsOkAnd r (λ m. (m ≡ n) × (w.made ≡ v.made))
leaf_hit v w bits (Ok m) h n r = h.hit n r
leaf_hit v w bits (Err e) h n r = absurd (h.unreached n r)

pub node_hit : (v w : SeatView) (level : ℕ) (row : ℕ → Tree) (r : Result Name NodeRefused)
    → MatchResult r (λ n. InternsNode v level row n w) (λ e. NodeIsRefused v level row e.full w)
    → (n : Name) → IsReached v.held (node_at n row)
    → IsOkAnd r (λ m. (m ≡ n) × (w.made ≡ v.made))
node_hit v w level row (Ok m) h n r = h.hit n r
node_hit v w level row (Err e) h n r = absurd (h.unreached n r)
