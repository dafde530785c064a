-- Surfaces, cell by cell, leaf by leaf and layer by layer.
use Rattle.std.proofs.Common.{◌≡◌, ◌≢◌, ℕ, zero, suc, ◌+◌, ◌-◌, ◌*◌, ◌/◌, ◌%◌, ◌^◌, ◌<◌, ◌≤◌, max, min, Bool, false, List, [], ◌∷◌, ◌++◌, length, take, Option, Result, Ok, Err, refl, sym, ap, subst, ◌∙◌, arith, inl, inr, append_assoc, append-nil}
use Rattle.std.specs.Prelude.{◌==◌, is_err, OnOk, bit_and, bit_or, slice_index, slice_set}
use Rattle.std.specs.Int.{bit_at}
use Rattle.std.proofs.lemmas.Bool.{cases_eq}
use Rattle.std.proofs.lemmas.List.{take_at, get_or-set_same, get_or-set_other}
use Rattle.std.proofs.lemmas.Nat.{mul-le, shr-shr}
use Rattle.std.proofs.lemmas.Nat.Bits.{bit_at-zero, bit_at-lt, bit_at_and, bit_at_or, bit_at_ones}
use Rattle.std.specs.declared.vec.Vec.{Vec}
use Rattle.vw_cell.specs.declared.cells.Cell.{Cell}
use Rattle.vw_cell.specs.declared.boxes.Boxed.{Boxed}
use Rattle.vw_cell.specs.declared.directions.Direction.TheVariants.{LowX, HighX, LowY, HighY, LowZ, HighZ}
use Rattle.vw_cell.specs.Counts.{cell_at}
use Rattle.vw_cell.specs.Faces.{is_exposed}
use Rattle.vw_cell.specs.Places.{block_side}
use Rattle.vox_read.specs.declared.voxels.Voxel.{Voxel}
use Rattle.node_words.specs.Sums.{sum_below, sum_below-le}
use Rattle.node_words.specs.declared.shapes.names.Name.{Name}
use Rattle.node_words.specs.shapes.Shape.{bit_number}
use Rattle.node_words.specs.shapes.Tree.{Tree, shape_of}
use Rattle.node_words.specs.descent.Roots.{IsBlockOf, ForBlock, ForWorld, cells_of}
use Rattle.node_words.proofs.OfDescent.LookLaws.{root_side}
use Rattle.extract.specs.Listing.{voxels_joined}
use Rattle.extract.specs.Layers.{HasRoom, AppendsVoxels, HoldsLayer, IsSmallLayer, bits_show, leaves_along, leaves_in}
use Rattle.extract.specs.Surface.{sides_number, bare_sides_of, voxel_of_sides, row_of_sides, layer_of_sides, surface_of_box}
use Rattle.extract.specs.BareLayers.{HoldsBare, HoldsSlab, CountsBlank, CountsFrom, IsAny, IsBlank, IsRowUnset, leaf_at, TellsRow, leaf_sides, part_of_row, run_of_sides, run_told}
use Rattle.extract.specs.declared.bare_layers.BareLayer.{BareLayer}
use Rattle.extract.specs.declared.bare_layers.BareLeaf.{BareLeaf}
use Rattle.extract.specs.declared.bare_layers.Slab.{Slab}
use Rattle.extract.proofs.FillLaws.{not_both}
use Rattle.extract.proofs.LeafLaws.{run_shows, cell_shows, run_inside}
use Rattle.extract.proofs.ListingLaws.{joined-zero, joined-same, joined-add, length-joined, length-more, appends_none, none_below}

pub few_cells : (n y x : ℕ) → n ≤ 256 → y ≤ 256 → x ≤ 256 → n * (y * x) < 2 ^ 64
few_cells n y x p q r =
    let layer : y * x ≤ 256 * 256 = mul-le y x 256 256 q r in
    let all : n * (y * x) ≤ 256 * (256 * 256) = mul-le n (y * x) 256 (256 * 256) p layer in
    omega (arith, all)

-- how long such lists may be
one_voxel : (n x y z : ℕ) → length (voxel_of_sides n x y z) ≤ 1
one_voxel zero x y z = omega arith
one_voxel (suc n) x y z = omega arith

joined_bound : (n k : ℕ) (f : ℕ → List Voxel) → ((i : ℕ) → i < n → length (f i) ≤ k)
    → length (voxels_joined n f) ≤ n * k
joined_bound n k f small =
    let sum : sum_below n (λ i. length (f i)) ≤ n * k = sum_below-le n k _ small in
    let is = length-joined n f in
    omega (arith, sum, is)

row_bound : (sides : Cell → ℕ) (b : Boxed) (z y n : ℕ) → length (row_of_sides sides b z y n) ≤ n
row_bound sides b z y n =
    let most = joined_bound n 1 (λ x. voxel_of_sides (sides (cell_at (b.at.x + x) (b.at.y + y) (b.at.z + z))) x y z) (λ x _. one_voxel _ x y z) in
    omega (arith, most)

pub layers_bound : (sides : Cell → ℕ) (b : Boxed) (z n : ℕ)
    → length (voxels_joined n (λ k. layer_of_sides sides b (z + k))) ≤ n * (b.size.y * b.size.x)
layers_bound sides b z n =
    joined_bound n (b.size.y * b.size.x) _ (λ k _.
    joined_bound b.size.y b.size.x _ (λ y _. row_bound sides b (z + k) y b.size.x))

-- sides that are alike
sides_same : (a b c d e f a' b' c' d' e' f' : Bool) → a ≡ a' → b ≡ b' → c ≡ c' → d ≡ d' → e ≡ e'
    → f ≡ f' → sides_number a b c d e f ≡ sides_number a' b' c' d' e' f'
sides_same a b c d e f a' b' c' d' e' f' p q r s t u = rw (p, q, r, s, t, u) refl

-- a run of a row lies in one leaf
pub run_is_surface : (words : BareLayer) (b : Boxed) (z y p n m side : ℕ) (cells : Cell → Bool)
    → IsSmallLayer b → y < b.size.y → p + n ≤ b.size.x → (b.at.x + p) % 4 + n ≤ 4
    → m ≡ ((b.at.y + y) / 4 - b.at.y / 4) * leaves_along b + ((b.at.x + p) / 4 - b.at.x / 4)
    → m < leaves_in b → 1 ≤ n → HoldsBare words b ((b.at.z + z) / 4) side cells
    → run_of_sides (leaf_at words m)
    (cell_at ((b.at.x + p) % 4) ((b.at.y + y) % 4) ((b.at.z + z) % 4)) n (cell_at p y z)
    ≡ part_of_row (bare_sides_of side cells) b z y p n
run_is_surface words b z y p n m side cells small ly fits near is inside some held =
    let shows =
    λ (ws : List ℕ) (test : Cell → Bool)
    (h : HoldsLayer ws b ((b.at.z + z) / 4) (leaves_in b) test)
    (i : ℕ) (lt : i < n).
    run_shows ws b z y p n m (slice_index ws m) test small ly fits near is inside refl some h i lt in
    joined-same n _ _ (λ i lt.
    ap (λ (s : ℕ). voxel_of_sides s (p + i) y z)
    (sides_same _ _ _ _ _ _ _ _ _ _ _ _
    (shows words.low_x (is_exposed LowX side cells) held.low_x i lt)
    (shows words.high_x (is_exposed HighX side cells) held.high_x i lt)
    (shows words.low_y (is_exposed LowY side cells) held.low_y i lt)
    (shows words.high_y (is_exposed HighY side cells) held.high_y i lt)
    (shows words.low_z (is_exposed LowZ side cells) held.low_z i lt)
    (shows words.high_z (is_exposed HighZ side cells) held.high_z i lt)))

-- the bare sides of a cell of a row are those that its leaf tells
cell_is_told : (words : BareLayer) (b : Boxed) (z y p m side : ℕ) (cells : Cell → Bool)
    → IsSmallLayer b → y < b.size.y → p < b.size.x
    → m ≡ ((b.at.y + y) / 4 - b.at.y / 4) * leaves_along b + ((b.at.x + p) / 4 - b.at.x / 4)
    → m < leaves_in b → HoldsBare words b ((b.at.z + z) / 4) side cells
    → leaf_sides (leaf_at words m)
    (cell_at ((b.at.x + p) % 4) ((b.at.y + y) % 4) ((b.at.z + z) % 4))
    ≡ bare_sides_of side cells (cell_at (b.at.x + p) (b.at.y + y) (b.at.z + z))
cell_is_told words b z y p m side cells small ly lp is inside held =
    let shows =
    λ (ws : List ℕ) (test : Cell → Bool)
    (h : HoldsLayer ws b ((b.at.z + z) / 4) (leaves_in b) test).
    cell_shows ws b z y p m test small ly lp is inside h in
    sides_same _ _ _ _ _ _ _ _ _ _ _ _
    (shows words.low_x (is_exposed LowX side cells) held.low_x)
    (shows words.high_x (is_exposed HighX side cells) held.high_x)
    (shows words.low_y (is_exposed LowY side cells) held.low_y)
    (shows words.high_y (is_exposed HighY side cells) held.high_y)
    (shows words.low_z (is_exposed LowZ side cells) held.low_z)
    (shows words.high_z (is_exposed HighZ side cells) held.high_z)

-- cells of leaves without a bare side
pub blank_part : (slab : Slab) (b : Boxed) (z y p n m row side : ℕ) (cells : Cell → Bool)
    → IsSmallLayer b → y < b.size.y → p + n ≤ b.size.x
    → row ≡ ((b.at.y + y) / 4 - b.at.y / 4) * leaves_along b
    → row + leaves_along b ≤ leaves_in b → m ≡ row + ((b.at.x + p) / 4 - b.at.x / 4)
    → (b.at.x + p) % 4 + n ≤ 4 * slice_index slab.blanks m
    → HoldsSlab slab b ((b.at.z + z) / 4) side cells
    → part_of_row (bare_sides_of side cells) b z y p n ≡ []
blank_part slab b z y p n m row side cells small ly fits start ends at blank held =
    none_below n _ (λ i lt.
    let q : ℕ = p + i in
    let w : ℕ = ((b.at.x + p) % 4 + i) / 4 in
    let lq : q < b.size.x = omega (arith, fits, lt) in
    let lp : p < b.size.x = omega (arith, fits, lt) in
    let step : m + w ≡ row + ((b.at.x + q) / 4 - b.at.x / 4) = omega (arith, at) in
    let here : m < leaves_in b = run_inside b y p row m small ly lp ends at in
    let there : m + w < leaves_in b = run_inside b y q row (m + w) small ly lq ends step in
    let is : m + w ≡ ((b.at.y + y) / 4 - b.at.y / 4) * leaves_along b + ((b.at.x + q) / 4 - b.at.x / 4) =
    step ∙ ap (λ (r : ℕ). r + ((b.at.x + q) / 4 - b.at.x / 4)) start in
    let near : w < slice_index slab.blanks m = omega (arith, blank, lt) in
    let none = (held.blank.each m w here near).each
    (cell_at ((b.at.x + q) % 4) ((b.at.y + y) % 4) ((b.at.z + z) % 4)) in
    let told = cell_is_told slab.words b z y q (m + w) side cells small ly lq is there held.bare in
    ap (λ (s : ℕ). voxel_of_sides s q y z) (sym told ∙ none))

pub blank_appends : {Z : Type 0} (v : Vec Voxel Z) (xs : List Voxel) → xs ≡ []
    → AppendsVoxels xs v v
blank_appends v xs e = subst (λ (ys : List Voxel). AppendsVoxels ys v v) (sym e) (appends_none v)

-- the cells of a leaf that have a bare side
max_unset : (x y : ℕ) → x < 2 → y < 2 → (max x y == 1) ≡ false
    → ((x == 1) ≡ false) × ((y == 1) ≡ false)
max_unset zero zero p q e = (refl, refl)
max_unset zero (suc zero) p q e = cc
max_unset (suc zero) zero p q e = cc
max_unset (suc zero) (suc zero) p q e = cc
max_unset (suc (suc x)) y p q e = absurd (omega arith)
max_unset x (suc (suc y)) p q e = absurd (omega arith)

or_unset : (a b : ℕ) (c : Cell) → bits_show (bit_or a b) c ≡ false
    → (bits_show a c ≡ false) × (bits_show b c ≡ false)
or_unset a b c e =
    let k : ℕ = bit_number c.x c.y c.z in
    max_unset (bit_at a k) (bit_at b k) (bit_at-lt a k) (bit_at-lt b k)
    (sym (ap (λ (n : ℕ). n == 1) (bit_at_or a b k)) ∙ e)

pub any_is : (leaf : BareLeaf)
    → IsAny leaf
    (bit_or (bit_or (bit_or leaf.low_x leaf.high_x) (bit_or leaf.low_y leaf.high_y))
    (bit_or leaf.low_z leaf.high_z))
any_is leaf = record {
  unset = λ c e.
      let xy_z = or_unset (bit_or (bit_or leaf.low_x leaf.high_x) (bit_or leaf.low_y leaf.high_y))
      (bit_or leaf.low_z leaf.high_z) c e in
      let x_y = or_unset (bit_or leaf.low_x leaf.high_x) (bit_or leaf.low_y leaf.high_y) c xy_z.0 in
      let x = or_unset leaf.low_x leaf.high_x c x_y.0 in
      let y = or_unset leaf.low_y leaf.high_y c x_y.1 in
      let z = or_unset leaf.low_z leaf.high_z c xy_z.1 in
      sides_same _ _ _ _ _ _ false false false false false false x.0 x.1 y.0 y.1 z.0 z.1;
}

pub no_any : (leaf : BareLeaf) (any : ℕ) → IsAny leaf any → any ≡ 0 → IsBlank leaf
no_any leaf any h e = record {
  each = λ c. h.unset c
      (ap (λ (w : ℕ). bits_show w c) e
      ∙ ap (λ (bit : ℕ). bit == 1) (bit_at-zero (bit_number c.x c.y c.z)));
}

-- a row of which no cell is set
pub bit_moved : (n k i j : ℕ) → j ≡ k + i → bit_at (n / 2 ^ k) i ≡ bit_at n j
bit_moved n k i j e =
    ap (λ (m : ℕ). m % 2) (shr-shr n k i) ∙ ap (λ (q : ℕ). bit_at n q) (sym e)

low_bits : (word i : ℕ) → i < 4 → bit_and word 15 ≡ 0 → bit_at word i ≡ 0
low_bits word i lt none =
    let ones : bit_at 15 i ≡ 1 = bit_at_ones 4 i lt in
    let both : min (bit_at word i) (bit_at 15 i) ≡ 0 =
    sym (bit_at_and word 15 i) ∙ ap (λ (w : ℕ). bit_at w i) none ∙ bit_at-zero i in
    let small = bit_at-lt word i in
    omega (arith, ones, both, small)

pub row_unset : (bits row y z : ℕ) → row ≡ 4 * y + 16 * z → bit_and (bits / 2 ^ row) 15 ≡ 0
    → IsRowUnset bits y z
row_unset bits row y z e none = record {
  each = λ x lt.
      let at : bit_number x y z ≡ row + x = omega (arith, e) in
      ap (λ (bit : ℕ). bit == 1)
      (sym (bit_moved bits row x (bit_number x y z) at) ∙ low_bits (bits / 2 ^ row) x lt none);
}

pub no_row : (leaf : BareLeaf) (any n : ℕ) (at to : Cell) → IsAny leaf any → at.x + n ≤ 4
    → IsRowUnset any at.y at.z → run_of_sides leaf at n to ≡ []
no_row leaf any n at to h fits row =
    none_below n _ (λ p lt.
    let inside : at.x + p < 4 = omega (arith, fits, lt) in
    ap (λ (s : ℕ). voxel_of_sides s (to.x + p) to.y to.z)
    (h.unset (cell_at (at.x + p) at.y at.z) (row.each (at.x + p) inside)))

-- a row that was told shows what its leaf has
pub run_is_told : (row x m n : ℕ) (leaf : BareLeaf) (at to : Cell) → x ≡ at.x → m ≡ n
    → at.x + n ≤ 4 → TellsRow row leaf at.y at.z
    → run_told row x m to ≡ run_of_sides leaf at n to
run_is_told row x m n leaf at to e f fits told =
    ap (λ (k : ℕ). run_told row x k to) f
    ∙ joined-same n _ _ (λ p lt.
    ap (λ (s : ℕ). voxel_of_sides s (to.x + p) to.y to.z)
    (ap (λ (k : ℕ). row / 2 ^ (8 * (k + p)) % 256) e
    ∙ told.each (at.x + p) (omega (arith, fits, lt))))

-- a cell without a bare side, and one with some
pub no_sides : {Z : Type 0} (n x y z : ℕ) (v : Vec Voxel Z) → n ≡ 0
    → AppendsVoxels (voxel_of_sides n x y z) v v
no_sides n x y z v e =
    subst (λ (m : ℕ). AppendsVoxels (voxel_of_sides m x y z) v v) (sym e) (appends_none v)

pub some_sides : (n x y z : ℕ) → n ≢ 0
    → voxel_of_sides n x y z ≡ record { x = x; y = y; z = z; colour = n } ∷ []
some_sides zero x y z h = absurd (h refl)
some_sides (suc n) x y z h = refl

pub unset_cell : {Z : Type 0} (leaf : BareLeaf) (any x y z : ℕ) (c : Cell) (set : Bool)
    (v : Vec Voxel Z) → IsAny leaf any → set ≡ bits_show any c → set ≡ false
    → AppendsVoxels (voxel_of_sides (leaf_sides leaf c) x y z) v v
unset_cell leaf any x y z c set v h told e = no_sides _ x y z v (h.unset c (sym told ∙ e))

-- how many leaves from one on are blank
pub counts_none : (words : BareLayer) (blanks : List ℕ) (n : ℕ) → CountsFrom words blanks n n 0
counts_none words blanks n = record {
  each = λ j i from below lt. absurd (omega (arith, from, below));
  here = λ i lt. absurd (omega (arith, lt));
}

counted_here : (words : BareLayer) (m run more i : ℕ) → more ≤ run + 1
    → (1 ≤ more → IsBlank (leaf_at words m))
    → ((k : ℕ) → k < run → IsBlank (leaf_at words (m + 1 + k))) → i < more
    → IsBlank (leaf_at words (m + i))
counted_here words m run more zero within blank rest lt =
    let same : m ≡ m + 0 = omega arith in
    subst (λ (k : ℕ). IsBlank (leaf_at words k)) same (blank (omega arith))
counted_here words m run more (suc i) within blank rest lt =
    let same : m + 1 + i ≡ m + suc i = omega arith in
    subst (λ (k : ℕ). IsBlank (leaf_at words k)) same (rest i (omega arith))

pub counts_more : (words : BareLayer) (blanks : List ℕ) (n m run more : ℕ) → m < length blanks
    → more ≤ run + 1 → (1 ≤ more → IsBlank (leaf_at words m))
    → CountsFrom words blanks n (m + 1) run
    → CountsFrom words (slice_set blanks m more) n m more
counts_more words blanks n m run more inside within blank counts =
    let here = λ (i : ℕ) (lt : i < more). counted_here words m run more i within blank counts.here lt in
    record {
      each = λ j i from below lt. elim (cases_eq j m) [
        | inl same ↦
            let told : slice_index (slice_set blanks m more) j ≡ more =
            ap (slice_index (slice_set blanks m more)) same ∙ get_or-set_same blanks m more 0 inside in
            subst (λ (k : ℕ). IsBlank (leaf_at words (k + i))) (sym same) (here i (omega (arith, told, lt)))
        | inr other ↦
            let told : slice_index (slice_set blanks m more) j ≡ slice_index blanks j =
            get_or-set_other blanks m j more 0 other in
            counts.each j i (omega (arith, from, other)) below (omega (arith, told, lt))
      ];
      here = here;
    }

pub counts_all : (words : BareLayer) (blanks : List ℕ) (n m run : ℕ) → m ≡ 0
    → CountsFrom words blanks n m run → CountsBlank words blanks n
counts_all words blanks n m run e counts =
    record { each = λ j i below lt. counts.each j i (omega (arith, e)) below lt }

-- one leaf's cells with a bare side more
pub any_more : (words : BareLayer) (anys : List ℕ) (n m any : ℕ) → m < length anys
    → IsAny (leaf_at words m) any
    → ((j : ℕ) → m + 1 ≤ j → j < n → IsAny (leaf_at words j) (slice_index anys j))
    → (j : ℕ) → m ≤ j → j < n → IsAny (leaf_at words j) (slice_index (slice_set anys m any) j)
any_more words anys n m any inside here rest j from below = elim (cases_eq j m) [
  | inl same ↦
      let told : slice_index (slice_set anys m any) j ≡ any =
      ap (slice_index (slice_set anys m any)) same ∙ get_or-set_same anys m any 0 inside in
      subst (λ (w : ℕ). IsAny (leaf_at words j) w) (sym told)
      (subst (λ (k : ℕ). IsAny (leaf_at words k) any) (sym same) here)
  | inr other ↦
      let told : slice_index (slice_set anys m any) j ≡ slice_index anys j =
      get_or-set_other anys m j any 0 other in
      subst (λ (w : ℕ). IsAny (leaf_at words j) w) (sym told)
      (rest j (omega (arith, from, other)) below)
]

-- one layer of leaves more
pub slab_more : (z n : ℕ) (f : ℕ → List Voxel) (old mid new : List Voxel)
    → mid ≡ old ++ voxels_joined z f → new ≡ mid ++ voxels_joined n (λ k. f (z + k))
    → new ≡ old ++ voxels_joined (z + n) f
slab_more z n f old mid new p q =
    q ∙ ap (λ (xs : List Voxel). xs ++ voxels_joined n (λ k. f (z + k))) p
    ∙ append_assoc old (voxels_joined z f) (voxels_joined n (λ k. f (z + k)))
    ∙ ap (λ (xs : List Voxel). old ++ xs) (sym (joined-add z n f))

pub begins_so : (old new more : List Voxel) → new ≡ old ++ more → take (length old) new ≡ old
begins_so old new more e = ap (take (length old)) e ∙ take_at old more (length old) refl

-- the surface of the root's block is that of its world
pub world_surface : (held : List Tree) (level side : ℕ) (root name : Option Name) (b : Boxed)
    (old new : List Voxel) → level ≡ side - 2 → 2 ≤ side → name ≡ root
    → ForBlock held level name
    (λ s. new ≡ old ++ surface_of_box (block_side level) (cells_of level s) b)
    → ForWorld held side root (λ cells. new ≡ old ++ surface_of_box (2 ^ side) cells b)
world_surface held level side root name b old new e h n told t o =
    let there =
    subst (λ (m : Option Name). IsBlockOf held level m t) (sym n)
    (subst (λ (l : ℕ). IsBlockOf held l root t) (sym e) o) in
    told t there
    ∙ ap (λ (w : ℕ). old ++ surface_of_box w (cells_of level (shape_of t)) b)
    (sym (root_side level side e h))
    ∙ ap (λ (l : ℕ). old ++ surface_of_box (2 ^ side) (cells_of l (shape_of t)) b) e

-- no layer yet
pub slab_none : (f : ℕ → List Voxel) (old : List Voxel) → old ≡ old ++ voxels_joined 0 f
slab_none f old = sym (ap (λ (xs : List Voxel). old ++ xs) (joined-zero f) ∙ append-nil old)

-- room for what is left of a row is room for its first cells
pub room_part : {Z : Type 0} (sides : Cell → ℕ) (b : Boxed) (z y p n left : ℕ) (v : Vec Voxel Z)
    → n ≤ left → HasRoom v (length (part_of_row sides b z y p left))
    → HasRoom v (length (part_of_row sides b z y p n))
room_part sides b z y p n left v h room =
    let more = length-more n left (λ i. voxel_of_sides (sides (cell_at (b.at.x + (p + i)) (b.at.y + y) (b.at.z + z))) (p + i) y z) h in
    omega (arith, more, room)

-- what a call tells where it didn't fail
pub where_done : {A E : Type 0} (r : Result A E) (failed : Bool) (P : Type 0)
    → failed ≡ is_err r → failed ≡ false → OnOk r P → P
where_done (Ok x) failed P e f h = h
where_done (Err x) failed P e f h = absurd (not_both failed f e)
