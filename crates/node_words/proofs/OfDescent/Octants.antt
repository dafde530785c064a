-- A count over a block goes by its octants.
use Rattle.std.proofs.Common.{◌≡◌, ℕ, suc, ◌+◌, ◌-◌, ◌*◌, ◌<◌, ◌≤◌, Bool, sym, ap, subst, ◌∙◌, arith}
use Rattle.vw_cell.specs.declared.cells.Cell.{Cell}
use Rattle.vw_cell.specs.declared.boxes.Boxed.{Boxed}
use Rattle.vw_cell.specs.Places.{block_side, half_x, half_y, half_z}
use Rattle.vw_cell.specs.Sums.{sum_below, sum_below-same, one_if}
use Rattle.vw_cell.specs.Counts.{cell_at, number_in}
use Rattle.node_words.specs.shapes.Shape.{Shape, octant_shape}
use Rattle.node_words.proofs.OfShapes.ShapeLaws.{has-in_octant, block_side-suc}
use Rattle.node_words.specs.descent.Roots.{cells_of}
use Rattle.node_words.specs.descent.Parts.{half_at, half_size, part_in, EndsBy}
use Rattle.node_words.proofs.OfDescent.Halving.{in_half, by_halves, sum_below-plus, below_half}

-- terms that are sums make two sums
split : (f g h : ℕ → ℕ) (half i at size : ℕ) → ((p : ℕ) → f p ≡ g p + h p)
    → in_half f half i at size ≡ in_half g half i at size + in_half h half i at size
split f g h half i at size e =
    sum_below-same (half_size half i at size) _ _ (λ p _. e (i * half + (half_at half i at + p)))
    ∙ sum_below-plus (half_size half i at size) (λ p. g (i * half + (half_at half i at + p)))
    (λ p. h (i * half + (half_at half i at + p)))

-- the sum over the part of the box in the octant of these halves
abbrev pub in_octant : (ℕ → ℕ → ℕ → ℕ) → ℕ → Boxed → ℕ → ℕ → ℕ → ℕ
in_octant g half b i j k =
    in_half
    (λ z. in_half
    (λ y. in_half
    (λ x. g x y z) half i b.at.x b.size.x) half j b.at.y b.size.y) half k b.at.z b.size.z

-- the sum over the box
abbrev pub over_box : (ℕ → ℕ → ℕ → ℕ) → Boxed → ℕ
over_box g b =
    sum_below b.size.z
    (λ z. sum_below b.size.y
    (λ y. sum_below b.size.x (λ x. g (b.at.x + x) (b.at.y + y) (b.at.z + z))))

layers_in : (g : ℕ → ℕ → ℕ → ℕ) (half : ℕ) (b : Boxed) (k : ℕ) → EndsBy (2 * half) b
    → in_half
    (λ z. sum_below b.size.y
    (λ y. sum_below b.size.x (λ x. g (b.at.x + x) (b.at.y + y) z))) half k b.at.z b.size.z
    ≡ (in_octant g half b 0 0 k + in_octant g half b 1 0 k) +
    (in_octant g half b 0 1 k + in_octant g half b 1 1 k)
layers_in g half b k ends =
    let rows = λ (z : ℕ) (y : ℕ). sum_below b.size.x (λ x. g (b.at.x + x) y z) in
    let row_in = λ (i z y : ℕ). in_half (λ x. g x y z) half i b.at.x b.size.x in
    let by_y =
    split (λ z. sum_below b.size.y (λ y. rows z (b.at.y + y)))
    (λ z. in_half (rows z) half 0 b.at.y b.size.y)
    (λ z. in_half (rows z) half 1 b.at.y b.size.y) half k b.at.z b.size.z
    (λ z. by_halves half b.at.y b.size.y (rows z) ends.y)
    in
    let by_x = λ (z y : ℕ). by_halves half b.at.x b.size.x (λ x. g x y z) ends.x in
    let of_half =
    λ (j : ℕ). split (λ z. in_half (rows z) half j b.at.y b.size.y)
    (λ z. in_half (row_in 0 z) half j b.at.y b.size.y)
    (λ z. in_half (row_in 1 z) half j b.at.y b.size.y) half k b.at.z b.size.z
    (λ z. split (rows z) (row_in 0 z) (row_in 1 z) half j b.at.y b.size.y (by_x z))
    in
    let near = of_half 0 in
    let far = of_half 1 in
    omega (arith, by_y, near, far)

-- the eight octants' sums make the box's
octants_sum : (g : ℕ → ℕ → ℕ → ℕ) (half : ℕ) (b : Boxed) → EndsBy (2 * half) b
    → over_box g b ≡ sum_below 8 (λ o. in_octant g half b (half_x o) (half_y o) (half_z o))
unfolding sum_below
octants_sum g half b ends =
    let by_z =
    by_halves half b.at.z b.size.z
    (λ z. sum_below b.size.y
    (λ y. sum_below b.size.x (λ x. g (b.at.x + x) (b.at.y + y) z))) ends.z in
    let low = layers_in g half b 0 ends in
    let high = layers_in g half b 1 ends in
    omega (arith, by_z, low, high)

-- a count over a box goes by octants, where each octant's test says what the block's says there
pub number_by_octants : (half : ℕ) (b : Boxed) (test : Cell → Bool) (tests : ℕ → Cell → Bool)
    → EndsBy (2 * half) b
    → ((o x y z : ℕ) → o < 8 → x < half → y < half → z < half
    → test (cell_at (half_x o * half + x) (half_y o * half + y) (half_z o * half + z))
    ≡ tests o (cell_at x y z))
    → number_in b test ≡ sum_below 8 (λ o. number_in (part_in half b o) (tests o))
number_by_octants half b test tests ends same =
    octants_sum (λ x y z. one_if (test (cell_at x y z))) half b ends
    ∙ sum_below-same 8 _ _
    (λ o lt. sum_below-same (part_in half b o).size.z _ _
    (λ z of_z. sum_below-same (part_in half b o).size.y _ _
    (λ y of_y. sum_below-same (part_in half b o).size.x _ _ (λ x of_x.
    ap one_if
    (same o _ _ _ lt (below_half half (half_x o) b.at.x b.size.x x ends.x of_x)
    (below_half half (half_y o) b.at.y b.size.y y ends.y of_y)
    (below_half half (half_z o) b.at.z b.size.z z ends.z of_z))))))

-- the set cells of a box of a block are those of its parts in the octants
pub count_by_octants : (level : ℕ) (s : Shape) (b : Boxed) → 1 ≤ level → EndsBy (block_side level) b
    → number_in b (cells_of level s) ≡ sum_below 8
    (λ o. number_in (part_in (block_side (level - 1)) b o)
    (cells_of (level - 1) (octant_shape s o)))
count_by_octants level s b h ends =
    let e : suc (level - 1) ≡ level = omega arith in
    let twice : block_side level ≡ 2 * block_side (level - 1) =
    ap (λ (l : ℕ). block_side l) (sym e) ∙ block_side-suc (level - 1) in
    let by : number_in b (cells_of (suc (level - 1)) s) ≡ sum_below 8 (λ o. number_in (part_in (block_side (level - 1)) b o) (cells_of (level - 1) (octant_shape s o))) =
    number_by_octants (block_side (level - 1)) b (cells_of (suc (level - 1)) s)
    (λ o. cells_of (level - 1) (octant_shape s o)) (subst (λ (n : ℕ). EndsBy n b) twice ends)
    (λ o x y z lt px py pz. has-in_octant (level - 1) s o x y z lt px py pz)
    in
    ap (λ (l : ℕ). number_in b (cells_of l s)) (sym e) ∙ by
