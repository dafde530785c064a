-- The bucket of a content is that of its canonical shape.
use Rattle.std.proofs.Common.{◌≡◌, ◌≢◌, ℕ, zero, suc, ◌+◌, ◌≤◌, true, false, refl, sym, ◌∙◌, ap, arith, List}
use Rattle.std.specs.Prelude.{slice_index}
use Rattle.vw_cell.specs.declared.cells.Cell.{Cell}
use Rattle.vw_cell.specs.Sums.{one_if}
use Rattle.vw_cell.specs.Counts.{cell_at, number_below-same, number_below-none, number_below-at}
use Rattle.vw_cell.specs.Places.{block_side}
use Rattle.node_words.specs.shapes.Shape.{Shape, Clear, Leaf, Branch, octant_shape, bits_of, has, HasCell, IsCanonical}
use Rattle.node_words.specs.shapes.Buckets.{leaf_bucket, octant_term, bucket_of_shape}
use Rattle.node_words.proofs.OfShapes.ShapeLaws.{has-clear, some_cell, octant_canonical}
use Rattle.node_words.proofs.OfShapes.BucketLaws.{node_bucket-same}
use Rattle.node_words.specs.contents.CellShapes.{Cells, octant_cells, SameIn, bits_with, shape_with}
use Rattle.conformance.specs.possible.Needed.{number_of_cells, content_term, bucket_of_cells}
use Rattle.node_words.proofs.OfContents.LeafBits.{leaf_shape-bits}
use Rattle.node_words.proofs.OfContents.SameCells.{octant_same, octant_has, same_back, same_on}
use Rattle.node_words.proofs.OfContents.CellShapeLaws.{shape_with-only}

-- where the shape is clear no cell is counted, and else one is
none_counted : (level : ℕ) (cells : Cells) → SameIn level (has level Clear) cells
    → number_of_cells level cells ≡ 0
none_counted level cells same =
    let side : Cell = cell_at (block_side level) (block_side level) (block_side level) in
    number_below-same side (λ c. cells c.x c.y c.z) (λ c. false)
    (λ c inside. sym (same.each c.x c.y c.z inside.x inside.y inside.z)
    ∙ has-clear level c.x c.y c.z)
    ∙ number_below-none side (λ c. false) (λ c. refl)

some_counted : (level : ℕ) (s : Shape) (cells : Cells) → IsCanonical level s → s ≢ Clear
    → SameIn level (has level s) cells → 1 ≤ number_of_cells level cells
some_counted level s cells canonical some same =
    let h : HasCell level s = some_cell level s canonical some in
    let side : Cell = cell_at (block_side level) (block_side level) (block_side level) in
    let set : cells h.x h.y h.z ≡ true = sym (same.each h.x h.y h.z h.x_in h.y_in h.z_in) ∙ h.set in
    let one : one_if (cells h.x h.y h.z) ≡ 1 = ap one_if set in
    let counted : one_if (cells h.x h.y h.z) ≤ number_of_cells level cells =
    number_below-at side (cell_at h.x h.y h.z) (λ c. cells c.x c.y c.z)
    (record { x = h.x_in; y = h.y_in; z = h.z_in }) in
    omega arith

term_none : (number bucket : ℕ) → number ≡ 0 → content_term number bucket ≡ 0
term_none zero bucket e = refl
term_none (suc n) bucket e = absurd (omega arith)

term_some : (number bucket : ℕ) → 1 ≤ number → content_term number bucket ≡ 1 + bucket
term_some zero bucket le = absurd (omega arith)
term_some (suc n) bucket le = refl

term_of : (level : ℕ) (s : Shape) (cells : Cells) (bucket : ℕ) → IsCanonical level s
    → SameIn level (has level s) cells
    → content_term (number_of_cells level cells) bucket ≡ octant_term s bucket
term_of level Clear cells bucket canonical same =
    term_none (number_of_cells level cells) bucket (none_counted level cells same)
term_of level (Leaf bits) cells bucket canonical same =
    term_some (number_of_cells level cells) bucket
    (some_counted level (Leaf bits) cells canonical (λ e. cc) same)
term_of level (Branch a b c d e f g h) cells bucket canonical same =
    term_some (number_of_cells level cells) bucket
    (some_counted level (Branch a b c d e f g h) cells canonical (λ e. cc) same)

leaf_bits : (s : Shape) (cells : Cells) → IsCanonical 0 s → SameIn 0 (has 0 s) cells
    → bits_with cells ≡ bits_of s
unfolding shape_with
leaf_bits s cells canonical same =
    sym (leaf_shape-bits (bits_with cells))
    ∙ ap bits_of (sym (shape_with-only 0 s cells canonical same))

pub bucket_of_content : (buckets : List ℕ) (level : ℕ) (s : Shape) (cells : Cells)
    → IsCanonical level s → SameIn level (has level s) cells
    → bucket_of_cells buckets level cells ≡ bucket_of_shape buckets level s
unfolding bucket_of_cells bucket_of_shape
bucket_of_content buckets zero s cells canonical same =
    ap (λ (b : ℕ). leaf_bucket b (slice_index buckets 0)) (leaf_bits s cells canonical same)
bucket_of_content buckets (suc level) s cells canonical same =
    node_bucket-same _ _ (slice_index buckets (suc level)) (λ k lt. (
    let right : IsCanonical level (octant_shape s k) = octant_canonical level s k canonical in
    let cells' : SameIn level (has level (octant_shape s k)) (octant_cells level cells k) =
    same_on level _ _ _ (same_back level _ _ (octant_has level s k lt))
    (octant_same level (has (suc level) s) cells k lt same) in
    term_of level (octant_shape s k) (octant_cells level cells k)
    (bucket_of_cells buckets level (octant_cells level cells k)) right cells'
    ∙ ap (octant_term (octant_shape s k))
    (bucket_of_content buckets level (octant_shape s k)
    (octant_cells level cells k) right cells')))
