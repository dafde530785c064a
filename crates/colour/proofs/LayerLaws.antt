-- Tints read from the leaves of a layer of a box.
use Rattle.std.proofs.Common.{◌≡◌, ◌≢◌, ℕ, zero, suc, ◌+◌, ◌-◌, ◌*◌, ◌/◌, ◌%◌, ◌^◌, ◌<◌, ◌≤◌, ◌==◌, ◌⊎◌, inl, inr, Bool, Option, List, [], ◌∷◌, set, length, get_or, refl, sym, ◌∙◌, ap, subst, arith, get_or-set_other, get_or-set_same}
use Rattle.std.specs.Prelude.{slice_index, slice_index_or}
use Rattle.std.specs.Int.{bit_at}
use Rattle.std.proofs.lemmas.Bool.{cases_eq}
use Rattle.std.proofs.lemmas.Nat.{mod-mul-add, div-mul-add}
use Rattle.vw_cell.specs.Sums.{one_if}
use Rattle.vw_cell.specs.declared.cells.Cell.{Cell}
use Rattle.vw_cell.specs.declared.boxes.Boxed.{Boxed}
use Rattle.vw_cell.specs.Counts.{cell_at}
use Rattle.vw_cell.specs.Places.{IsInWorld, FitsAt, block_side}
use Rattle.node_words.specs.declared.shapes.names.Name.{Name}
use Rattle.node_words.specs.shapes.Shape.{Shape, bit_number, octant_shape}
use Rattle.node_words.specs.shapes.Tree.{Tree, child_of, shape_of}
use Rattle.node_words.proofs.OfShapes.TreeLaws.{shape_of-child}
use Rattle.node_words.specs.Held.{StoreState}
use Rattle.node_words.specs.descent.Roots.{IsBlockOf, IsOctantOf, ForBlock, cells_of}
use Rattle.node_words.specs.descent.Parts.{EndsBy}
use Rattle.node_words.proofs.OfDescent.LookLaws.{root_side, same_cell}
use Rattle.node_words.specs.contents.CellShapes.{bits_below}
use Rattle.extract.specs.Layers.{HoldsLayer, IsSmallLayer, leaves_along, leaves_in}
use Rattle.history_model.specs.Worlds.{plus}
use Rattle.history_model.specs.Planes.{plane_at}
use Rattle.core_laws.specs.tints.Planes.{tint_in}
use Rattle.colour.specs.Layers.{ForRoot, HoldsBits, IsRead, bit_cells}
use Rattle.colour.proofs.PlaceLaws.{in_octants}

-- ---- one plane

pub bit_layer : (a b c : StoreState) (side level bit : ℕ) (root name half block : Option Name)
    (words : List ℕ) (box : Boxed) (layer : ℕ) → 4 ≤ side → level ≡ side - 2 → name ≡ root → b ≡ a
    → c ≡ b → IsOctantOf a.held level name 1 half → IsOctantOf b.held (level - 1) half bit block
    → ForBlock c.held (level - 2) block
    (λ s. HoldsLayer words box layer (leaves_in box) (cells_of (level - 2) s))
    → ForRoot a.held side root
    (λ t. HoldsLayer words box layer (leaves_in box) (bit_cells side t bit))
bit_layer a b c side level bit root name half block words box layer large is_level n same again first
    second holds t o =
    let top : IsBlockOf a.held level name t =
    subst (λ (l : ℕ). IsBlockOf a.held l name t) (sym is_level)
    (subst (λ (m : Option Name). IsBlockOf a.held (side - 2) m t) (sym n) o) in
    let low : IsBlockOf b.held (level - 1 - 1) block (child_of (child_of t 1) bit) =
    second (child_of t 1)
    (subst (λ (s : StoreState). IsBlockOf s.held (level - 1) half (child_of t 1)) (sym same)
    (first t top)) in
    let down : level - 1 - 1 ≡ level - 2 = omega arith in
    let at : IsBlockOf c.held (level - 2) block (child_of (child_of t 1) bit) =
    subst (λ (s : StoreState). IsBlockOf s.held (level - 2) block (child_of (child_of t 1) bit))
    (sym again)
    (subst (λ (l : ℕ). IsBlockOf b.held l block (child_of (child_of t 1) bit)) down low) in
    let quarter : level - 2 ≡ side - 2 - 2 = omega arith in
    subst (λ (l : ℕ). HoldsLayer words box layer (leaves_in box)
    (cells_of l (shape_of (child_of (child_of t 1) bit)))) quarter (holds _ at)

-- a box of a plane's world ends in the plane's block
pub ends_there : (side level : ℕ) (b : Boxed) → 4 ≤ side → level ≡ side - 2
    → FitsAt b.at b.size (2 ^ (side - 2)) → EndsBy (block_side (level - 2)) b
ends_there side level b large is f =
    let e : 2 ^ (side - 2) ≡ block_side (level - 2) =
    root_side (level - 2) (side - 2) (omega arith) (omega arith) in
    record {
      x = omega (arith, f.x.1, e);
      y = omega (arith, f.y.1, e);
      z = omega (arith, f.z.1, e);
    }

-- ---- one row after another

pub no_bits : (rows : List (List ℕ)) (b : Boxed) (layer side : ℕ) (t : Tree)
    → HoldsBits rows b layer side t 0
no_bits rows b layer side t = record { each = λ bit lt. absurd (omega arith) }

pub more_bits : (old new : List (List ℕ)) (words : List ℕ) (b : Boxed) (layer side : ℕ) (t : Tree)
    (k bit : ℕ) → length old ≡ 8 → bit < 8 → k ≡ bit → new ≡ set old k words
    → HoldsBits old b layer side t bit
    → HoldsLayer words b layer (leaves_in b) (bit_cells side t bit)
    → HoldsBits new b layer side t (bit + 1)
more_bits old new words b layer side t k bit eight lt at is so_far here =
    record { each = λ j lj. cases j lj (cases_eq j k) }
  where
    cases : (j : ℕ) → j < bit + 1 → (j ≡ k) ⊎ (j ≢ k)
        → HoldsLayer (slice_index_or new j []) b layer (leaves_in b) (bit_cells side t j)
    cases j lj (inl e) =
        let row : slice_index_or new j [] ≡ words =
        ap (λ (list : List (List ℕ)). slice_index_or list j []) is
        ∙ ap (λ (i : ℕ). slice_index_or (set old k words) i []) e
        ∙ get_or-set_same old k words [] (omega (arith, eight, at)) in
        subst (λ (w : List ℕ). HoldsLayer w b layer (leaves_in b) (bit_cells side t j)) (sym row)
        (subst (λ (i : ℕ). HoldsLayer words b layer (leaves_in b) (bit_cells side t i))
        (sym (e ∙ at)) here)
    cases j lj (inr other) =
        let row : slice_index_or new j [] ≡ slice_index_or old j [] =
        ap (λ (list : List (List ℕ)). slice_index_or list j []) is
        ∙ get_or-set_other old k j words [] other in
        subst (λ (w : List ℕ). HoldsLayer w b layer (leaves_in b) (bit_cells side t j)) (sym row)
        (so_far.each j (omega (arith, at, other)))

-- ---- one cell

place_in : (at p x0 : ℕ) → x0 ≤ (at + p) / 4
    → 4 * (x0 + ((at + p) / 4 - x0)) + (at + p) % 4 ≡ at + p
place_in at p x0 h = omega arith

pub layer_cell : (words : List ℕ) (b : Boxed) (x y z m bits : ℕ) (cells : Cell → Bool)
    → IsSmallLayer b → x < b.size.x → y < b.size.y
    → m ≡ ((b.at.y + y) / 4 - b.at.y / 4) * leaves_along b + ((b.at.x + x) / 4 - b.at.x / 4)
    → m < leaves_in b → bits ≡ slice_index words m
    → HoldsLayer words b ((b.at.z + z) / 4) (leaves_in b) cells
    → (bit_at bits (bit_number ((b.at.x + x) % 4) ((b.at.y + y) % 4) ((b.at.z + z) % 4)) == 1)
    ≡ cells (cell_at (b.at.x + x) (b.at.y + y) (b.at.z + z))
layer_cell words b x y z m bits cells small lx ly is inside word held =
    let along : ℕ = leaves_along b in
    let down : ℕ = (b.at.y + y) / 4 - b.at.y / 4 in
    let right : ℕ = (b.at.x + x) / 4 - b.at.x / 4 in
    let near : right < along = omega arith in
    let col : m % along ≡ right =
    ap (λ (j : ℕ). j % along) is ∙ mod-mul-add down along right near in
    let line : m / along ≡ down =
    ap (λ (j : ℕ). j / along) is ∙ div-mul-add down along right near in
    let shows = held.each m inside in
    let place : cell_at (4 * (b.at.x / 4 + m % along) + (b.at.x + x) % 4)
    (4 * (b.at.y / 4 + m / along) + (b.at.y + y) % 4) (4 * ((b.at.z + z) / 4) + (b.at.z + z) % 4)
    ≡ cell_at (b.at.x + x) (b.at.y + y) (b.at.z + z) =
    same_cell _ _ _ _
    (ap (λ (j : ℕ). 4 * (b.at.x / 4 + j) + (b.at.x + x) % 4) col
    ∙ place_in b.at.x x (b.at.x / 4) (omega arith))
    (ap (λ (j : ℕ). 4 * (b.at.y / 4 + j) + (b.at.y + y) % 4) line
    ∙ place_in b.at.y y (b.at.y / 4) (omega arith))
    (omega arith) in
    ap (λ (w : ℕ). bit_at w
    (bit_number ((b.at.x + x) % 4) ((b.at.y + y) % 4) ((b.at.z + z) % 4)) == 1) word
    ∙ shows.each ((b.at.x + x) % 4) ((b.at.y + y) % 4) ((b.at.z + z) % 4) (omega arith)
    (omega arith)
    (omega arith)
    ∙ ap cells place

-- ---- the number of eight planes

same_bits : (p q : ℕ → Bool) (n : ℕ) → ((i : ℕ) → i < n → p i ≡ q i)
    → bits_below p n ≡ bits_below q n
unfolding bits_below
same_bits p q zero same = refl
same_bits p q (suc n) same =
    ap (λ (b : Bool). one_if b * 2 ^ n + bits_below p n) (same n (omega arith))
    ∙ ap (λ (m : ℕ). one_if (q n) * 2 ^ n + m) (same_bits p q n (λ i lt. same i (omega arith)))

pub tint_read : (side : ℕ) (t : Tree) (c : Cell) (tint : ℕ) → 4 ≤ side
    → IsInWorld (2 ^ (side - 2)) c → tint ≡ bits_below (λ bit. bit_cells side t bit c) 8
    → tint ≡ tint_in (2 ^ (side - 2)) (cells_of (side - 2) (shape_of t)) c
tint_read side t c tint large i e =
    let l : ℕ = side - 2 - 2 in
    let up : suc (suc l) ≡ side - 2 = omega arith in
    let quarter : 2 ^ (side - 2) ≡ block_side l = root_side l (side - 2) refl (omega arith) in
    let inside : IsInWorld (block_side l) c = subst (λ (m : ℕ). IsInWorld m c) quarter i in
    e ∙ same_bits _ _ 8 (λ b lt.
    sym (ap (λ (m : ℕ). cells_of (side - 2) (shape_of t) (plus (plane_at m (suc b)) c)) quarter
    ∙ ap (λ (k : ℕ). cells_of k (shape_of t) (plus (plane_at (block_side l) (suc b)) c)) (sym up)
    ∙ in_octants l (shape_of t) b c lt inside
    ∙ ap (λ (s : Shape). cells_of l (octant_shape s b) c) (sym (shape_of-child t 1))
    ∙ ap (λ (s : Shape). cells_of l s c) (sym (shape_of-child (child_of t 1) b))))

-- a layer that was read is of a box
pub was_read : (layer z : ℕ) (rows : List (List ℕ)) (b : Boxed) (side : ℕ) (t : Tree)
    → layer ≡ (b.at.z + z) / 4 → IsSmallLayer b → z < b.size.z → IsRead layer rows b side t
    → HoldsBits rows b ((b.at.z + z) / 4) side t 8
was_read layer z rows b side t e small lt (inl none) =
    absurd (let s = small.z in omega (arith, e, none, lt, s.1, s.2))
was_read layer z rows b side t e small lt (inr held) =
    subst (λ (l : ℕ). HoldsBits rows b l side t 8) e held

-- a row that was read, whatever was to stand for one that isn't there
any_default : (xs : List (List ℕ)) (k : ℕ) (d e : List ℕ) → k < length xs
    → get_or xs k d ≡ get_or xs k e
any_default [] k d e h = absurd (omega arith)
any_default (x ∷ xs) zero d e h = refl
any_default (x ∷ xs) (suc k) d e h = any_default xs k d e (omega arith)

pub leaf_read : (rows : List (List ℕ)) (k j m : ℕ) (v : List ℕ) → length rows ≡ 8 → j < 8 → k ≡ j
    → get_or (get_or rows k v) m 0 ≡ slice_index (slice_index_or rows j []) m
leaf_read rows k j m v eight lt e =
    ap (λ (n : ℕ). get_or (get_or rows n v) m 0) e
    ∙ ap (λ (row : List ℕ). get_or row m 0) (any_default rows j v [] (omega (arith, eight, lt)))
