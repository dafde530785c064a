-- Lists of voxels, piece by piece.
use Rattle.std.proofs.Common.{◌≡◌, ℕ, zero, suc, ◌+◌, ◌-◌, ◌<◌, ◌≤◌, Bool, true, false, List, [], ◌++◌, length, refl, sym, ap, subst, ◌∙◌, arith, append_assoc, append-nil, add-zero, add-suc, add-one, length-append}
use Rattle.std.specs.Prelude.{◌==◌}
use Rattle.std.proofs.lemmas.Nat.Bits.{bit_at-zero}
use Rattle.node_words.specs.shapes.Shape.{bit_number}
use Rattle.std.specs.declared.vec.Vec.{Vec}
use Rattle.vw_cell.specs.declared.cells.Cell.{Cell}
use Rattle.vw_cell.specs.declared.boxes.Boxed.{Boxed}
use Rattle.node_words.specs.Sums.{sum_below, sum_below-same, one_if}
use Rattle.vw_cell.specs.Counts.{cell_at, number_in}
use Rattle.vox_read.specs.declared.voxels.Voxel.{Voxel}
use Rattle.extract.specs.Listing.{voxels_joined, voxel_if, row_voxels, box_row, box_layer, voxels_of_box}
use Rattle.extract.specs.Layers.{HasRoom, AppendsVoxels, bits_show}

pub joined-zero : (f : ℕ → List Voxel) → voxels_joined 0 f ≡ []
unfolding voxels_joined
joined-zero f = refl

pub joined-suc : (n : ℕ) (f : ℕ → List Voxel) → voxels_joined (suc n) f ≡ voxels_joined n f ++ f n
unfolding voxels_joined
joined-suc n f = refl

pub joined-same : (n : ℕ) (f g : ℕ → List Voxel) → ((i : ℕ) → i < n → f i ≡ g i)
    → voxels_joined n f ≡ voxels_joined n g
unfolding voxels_joined
joined-same zero f g same = refl
joined-same (suc n) f g same =
    rw (joined-same n f g (λ i lt. same i (omega arith)), same n (omega arith)) refl

pub joined-add : (a b : ℕ) (f : ℕ → List Voxel)
    → voxels_joined (a + b) f ≡ voxels_joined a f ++ voxels_joined b (λ i. f (a + i))
unfolding voxels_joined
joined-add a zero f = rw add-zero (sym (append-nil (voxels_joined a f)))
joined-add a (suc b) f =
    rw add-suc
    (ap (λ (xs : List Voxel). xs ++ f (a + b)) (joined-add a b f)
    ∙ append_assoc (voxels_joined a f) (voxels_joined b (λ i. f (a + i))) (f (a + b)))

-- a piece is no longer than what is left
length-piece : (p r n : ℕ) (f : ℕ → List Voxel) → p + r ≤ n
    → length (voxels_joined p f) + length (voxels_joined r (λ i. f (p + i))) ≤ length
    (voxels_joined n f)
length-piece p r n f fits =
    let all : n ≡ p + r + (n - (p + r)) = omega arith in
    let whole : length (voxels_joined n f) ≡ length (voxels_joined (p + r + (n - (p + r))) f) =
    ap (λ (m : ℕ). length (voxels_joined m f)) all in
    let two : length (voxels_joined (p + r + (n - (p + r))) f) ≡ length (voxels_joined (p + r) f) + length (voxels_joined (n - (p + r)) (λ i. f (p + r + i))) =
    ap length (joined-add (p + r) (n - (p + r)) f) ∙ length-append (voxels_joined (p + r) f) _
    in
    let one : length (voxels_joined (p + r) f) ≡ length (voxels_joined p f) + length (voxels_joined r (λ i. f (p + i))) = ap length (joined-add p r f) ∙ length-append (voxels_joined p f) _ in
    omega (arith, whole, two, one)

length-one : (k : ℕ) (f : ℕ → List Voxel)
    → length (voxels_joined (suc k) f) ≡ length (voxels_joined k f) + length (f k)
length-one k f = ap length (joined-suc k f) ∙ length-append (voxels_joined k f) (f k)

pub length-more : (k n : ℕ) (f : ℕ → List Voxel) → k ≤ n
    → length (voxels_joined k f) ≤ length (voxels_joined n f)
length-more k n f h = let piece = length-piece k 0 n f (omega arith) in omega (arith, piece)

-- nothing is appended
pub appends_none : {Z : Type 0} (v : Vec Voxel Z) → AppendsVoxels [] v v
appends_none v = record { items = sym (append-nil v.items); len = omega arith; room = refl }

pub none_joined : {Z : Type 0} (f : ℕ → List Voxel) (v : Vec Voxel Z)
    → AppendsVoxels (voxels_joined 0 f) v v
none_joined f v =
    subst (λ (xs : List Voxel). AppendsVoxels xs v v) (sym (joined-zero f)) (appends_none v)

then_appends : {Z : Type 0} (xs ys : List Voxel) (old mid new : Vec Voxel Z)
    → AppendsVoxels xs old mid → AppendsVoxels ys mid new → AppendsVoxels (xs ++ ys) old new
then_appends xs ys old mid new p q = record {
  items = q.items ∙ ap (λ (zs : List Voxel). zs ++ ys) p.items ∙ append_assoc old.items xs ys;
  len = (let all = length-append xs ys in omega (arith, p.len, q.len, all));
  room = q.room ∙ p.room;
}

-- one piece more
pub appends_one : {Z : Type 0} (k : ℕ) (f : ℕ → List Voxel) (old mid new : Vec Voxel Z)
    → AppendsVoxels (voxels_joined k f) old mid → AppendsVoxels (f k) mid new
    → AppendsVoxels (voxels_joined (k + 1) f) old new
appends_one k f old mid new p q =
    rw add-one
    (subst (λ (xs : List Voxel). AppendsVoxels xs old new) (sym (joined-suc k f))
    (then_appends (voxels_joined k f) (f k) old mid new p q))

pub appends_run : {Z : Type 0} (p r : ℕ) (f : ℕ → List Voxel) (old mid new : Vec Voxel Z)
    → AppendsVoxels (voxels_joined p f) old mid
    → AppendsVoxels (voxels_joined r (λ i. f (p + i))) mid new
    → AppendsVoxels (voxels_joined (p + r) f) old new
appends_run p r f old mid new a b =
    subst (λ (xs : List Voxel). AppendsVoxels xs old new) (sym (joined-add p r f))
    (then_appends (voxels_joined p f) (voxels_joined r (λ i. f (p + i))) old mid new a b)

-- room for all is room for each piece
pub room_one : {Z : Type 0} (k n : ℕ) (f : ℕ → List Voxel) (old mid : Vec Voxel Z) → k < n
    → HasRoom old (length (voxels_joined n f)) → AppendsVoxels (voxels_joined k f) old mid
    → HasRoom mid (length (f k))
room_one k n f old mid lt room p =
    let one = length-one k f in
    let more = length-more (suc k) n f (omega arith) in
    omega (arith, one, more, p.len, p.room)

pub room_run : {Z : Type 0} (p r n : ℕ) (f : ℕ → List Voxel) (old mid : Vec Voxel Z) → p + r ≤ n
    → HasRoom old (length (voxels_joined n f)) → AppendsVoxels (voxels_joined p f) old mid
    → HasRoom mid (length (voxels_joined r (λ i. f (p + i))))
room_run p r n f old mid fits room a =
    let piece = length-piece p r n f fits in omega (arith, piece, a.len, a.room)

-- as many voxels as set cells
pub length-joined : (n : ℕ) (f : ℕ → List Voxel)
    → length (voxels_joined n f) ≡ sum_below n (λ i. length (f i))
unfolding voxels_joined sum_below
length-joined zero f = refl
length-joined (suc n) f =
    length-append (voxels_joined n f) (f n) ∙ ap (λ (m : ℕ). m + length (f n)) (length-joined n f)

length-voxel : (set : Bool) (x y z : ℕ) → length (voxel_if set x y z) ≡ one_if set
length-voxel true x y z = refl
length-voxel false x y z = refl

pub length-voxels : (b : Boxed) (cells : Cell → Bool)
    → length (voxels_of_box b cells) ≡ number_in b cells
length-voxels b cells =
    length-joined b.size.z (box_layer cells b)
    ∙ sum_below-same b.size.z _ _ (λ z _. length-joined b.size.y (λ y. box_row cells b z y b.size.x)
    ∙ sum_below-same b.size.y _ _ (λ y _. length-joined b.size.x _
    ∙ sum_below-same b.size.x _ _
    (λ x _. length-voxel (cells (cell_at (b.at.x + x) (b.at.y + y) (b.at.z + z))) _ _ _)))

-- a leaf of no bits has no cell
pub no_voxels : (n : ℕ) (f : ℕ → List Voxel) → ((i : ℕ) → f i ≡ []) → voxels_joined n f ≡ []
unfolding voxels_joined
no_voxels zero f none = refl
no_voxels (suc n) f none = rw (no_voxels n f none, none n) refl

pub none_below : (n : ℕ) (f : ℕ → List Voxel) → ((i : ℕ) → i < n → f i ≡ [])
    → voxels_joined n f ≡ []
none_below n f none = joined-same n f (λ _. []) none ∙ no_voxels n (λ _. []) (λ _. refl)

pub no_bits : {Z : Type 0} (bits n : ℕ) (at to : Cell) (v : Vec Voxel Z) → bits ≡ 0
    → AppendsVoxels (row_voxels (bits_show bits) at n to) v v
no_bits bits n at to v e =
    let none : row_voxels (bits_show bits) at n to ≡ [] =
    ap (λ (w : ℕ). row_voxels (bits_show w) at n to) e
    ∙ no_voxels n _
    (λ p. ap (λ (bit : ℕ). voxel_if (bit == 1) (to.x + p) to.y to.z)
    (bit_at-zero (bit_number (at.x + p) at.y at.z)))
    in
    subst (λ (xs : List Voxel). AppendsVoxels xs v v) (sym none) (appends_none v)
