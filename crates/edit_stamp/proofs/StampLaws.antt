-- Stamps of blocks, and the bits of a leaf out of those of eight leaves of the model.
use Rattle.std.proofs.Common.{◌≡◌, ℕ, zero, suc, ◌+◌, ◌-◌, ◌*◌, ◌/◌, ◌%◌, ◌<◌, ◌≤◌, ◌==◌, Bool, true, false, Some, Option, List, refl, sym, ◌∙◌, ap, subst, arith, min, inl, inr, set, length, get_or-set_same, get_or-set_other}
use Rattle.std.specs.Prelude.{if◌then◌else◌, ◌&&◌, ◌||◌, not, slice_index, bit_and}
use Rattle.std.specs.Int.{bit_at}
use Rattle.std.proofs.lemmas.Nat.Bits.{bit_at_and, bit_at-lt}
use Rattle.std.proofs.lemmas.Bool.{cases_eq, false≢true}
use Rattle.vw_cell.specs.declared.cells.Cell.{Cell}
use Rattle.vw_cell.specs.declared.blocks.Block.{Block}
use Rattle.vw_cell.specs.declared.boxes.Boxed.{Boxed}
use Rattle.vw_cell.specs.Counts.{cell_at}
use Rattle.vw_cell.specs.Places.{block_side, HoldsBlock, is_in_box, IsInBox, Meets, octant_of, half_x, half_y, half_z}
use Rattle.vw_cell.specs.Tests.{is_in_box_tells, is_in_box_holds}
use Rattle.vox_read.specs.Contents.{Content}
use Rattle.node_words.specs.declared.shapes.names.Name.{Name}
use Rattle.node_words.specs.shapes.Shape.{bit_number, octant_number}
use Rattle.node_words.specs.shapes.Tree.{Tree, root_of, child_of}
use Rattle.node_words.specs.kernels.Leaves.{LeafShows, LiesAcross}
use Rattle.node_words.specs.Held.{AreTrees, AreCanonical}
use Rattle.node_words.specs.contents.CellShapes.{Cells, SameIn, octant_cells, no_cells, all_cells}
use Rattle.edit_walk.specs.cells.Worlds.{world_cells, cells_from, ShowsWorld}
use Rattle.edit_walk.proofs.OfCells.PaintLaws.{paints_octant}
use Rattle.edit_walk.proofs.OfCells.WorldLaws.{placed_octant, octant_lies, world_lies, from_nowhere}
use Rattle.edit_walk.proofs.OfCells.WorldPaints.{world_paints}
use Rattle.std.specs.List.{slice_get}
use Rattle.history_model.specs.Worlds.{box_at, less, is_in_stamp, edited}
use Rattle.history_model.specs.declared.acts.Act.TheVariants.{Stamp}
use Rattle.edit_stamp.specs.Drawings.{first_leaf, last_leaf, AllWords, SameInside, IsSameWord, IsPart, AllDrawn, Agree, Drawn, drawn_cells, IsWord, Draws, leaves_of}
use Rattle.edit_stamp.specs.Stamps.{is_stamped, MakesStamp, stamped, unstamped, inked}

both_when : (a v w : Bool) → (a ≡ true → v ≡ w) → (a && v) ≡ (a && w)
both_when true v w h = h refl
both_when false v w h = refl

and_test : (p q : ℕ) → p < 2 → q < 2 → (min p q == 1) ≡ ((q == 1) && (p == 1))
and_test zero zero h k = refl
and_test zero (suc zero) h k = refl
and_test (suc zero) zero h k = refl
and_test (suc zero) (suc zero) h k = refl
and_test (suc (suc p)) q h k = absurd (omega arith)
and_test p (suc (suc q)) h k = absurd (omega arith)

-- one axis: the leaf and the place in it of a cell of the model
record Axis (x u q : ℕ) : Type 0 where
  leaf : u / 4 + (x + u % 4) / 4 ≡ 1024 + q / 4
  rest : (x + u % 4) % 4 ≡ q % 4
  half : (x + u % 4) / 4 < 2
  back : 4 * (q / 4) + q % 4 ≡ q

axis : (x u q : ℕ) → x < 4 → u + x ≡ 4096 + q → Axis x u q
axis x u q lt e =
    record { leaf = omega arith; rest = omega arith; half = omega arith; back = omega arith }

leaf_in : (q size : ℕ) → q < size → q / 4 < leaves_of size
leaf_in q size lt = omega arith

same_cell : (test : Cell → Bool) (x y z x' y' z' : ℕ) → x ≡ x' → y ≡ y' → z ≡ z'
    → test (cell_at x y z) ≡ test (cell_at x' y' z')
same_cell test x y z x' y' z' p q r = rw (p, q, r) refl

word_bit : (drawn : Drawn) (word i j k rx ry rz : ℕ)
    → IsWord drawn (1024 + i) (1024 + j) (1024 + k) word → i < leaves_of drawn.size.x
    → j < leaves_of drawn.size.y → k < leaves_of drawn.size.z → rx < 4 → ry < 4 → rz < 4
    → (bit_at word (bit_number rx ry rz) == 1) ≡ drawn_cells drawn
    (cell_at (4 * i + rx) (4 * j + ry) (4 * k + rz))
word_bit drawn word i j k rx ry rz w li lj lk p q r =
    w.each i j k li lj lk refl refl refl (bit_number rx ry rz) (omega arith)
    ∙ same_cell (drawn_cells drawn) _ _ _ _ _ _ (omega arith) (omega arith) (omega arith)

at_word : (drawn : Drawn) (x y z x' y' z' word : ℕ) → x ≡ x' → y ≡ y' → z ≡ z'
    → IsWord drawn x y z word → IsWord drawn x' y' z' word
at_word drawn x y z x' y' z' word p q r w =
    subst (λ (n : ℕ). IsWord drawn n y' z' word) p
    (subst (λ (n : ℕ). IsWord drawn x n z' word) q
    (subst (λ (n : ℕ). IsWord drawn x y n word) r w))

-- the bits of a leaf at a place of the world
pub stamp_bits : (drawn : Drawn) (place : Cell) (block : Block) (leaves : List ℕ)
    (u v w across inside bits : ℕ)
    → u ≡ block.at.x + 4096 - place.x → v ≡ block.at.y + 4096 - place.y
    → w ≡ block.at.z + 4096 - place.z → (place.x ≤ 4096) × (place.y ≤ 4096) × (place.z ≤ 4096)
    → ((n : ℕ) → n < 8
    → IsWord drawn (u / 4 + half_x n) (v / 4 + half_y n) (w / 4 + half_z n)
    (slice_index leaves n)) → LiesAcross leaves (u % 4) (v % 4) (w % 4) across
    → LeafShows inside block (is_in_box (box_at place drawn.size))
    → bits ≡ bit_and across inside → LeafShows bits block (is_stamped drawn place)
stamp_bits drawn place block leaves u v w across inside bits eu ev ew small words lies shows e =
    record {
      each = λ x y z lx ly lz.
          let i : ℕ = bit_number x y z in
          let c : Cell = cell_at (block.at.x + x) (block.at.y + y) (block.at.z + z) in
          ap (λ (n : ℕ). bit_at n i == 1) e
          ∙ ap (λ (n : ℕ). n == 1) (bit_at_and across inside i)
          ∙ and_test (bit_at across i) (bit_at inside i) (bit_at-lt across i) (bit_at-lt inside i)
          ∙ ap (λ (b : Bool). b && (bit_at across i == 1)) (shows.each x y z lx ly lz)
          ∙ both_when (is_in_box (box_at place drawn.size) c) _ _
          (λ t. in_model x y z lx ly lz (is_in_box_tells (box_at place drawn.size) c t));
    }
  where
    in_model : (x y z : ℕ) → x < 4 → y < 4 → z < 4
        → IsInBox (box_at place drawn.size)
        (cell_at (block.at.x + x) (block.at.y + y) (block.at.z + z))
        → (bit_at across (bit_number x y z) == 1) ≡ drawn_cells drawn
        (less (cell_at (block.at.x + x) (block.at.y + y) (block.at.z + z)) place)
    in_model x y z lx ly lz b =
        let qx : ℕ = block.at.x + x - place.x in
        let qy : ℕ = block.at.y + y - place.y in
        let qz : ℕ = block.at.z + z - place.z in
        let ax = axis x u qx lx (omega (arith, eu, b.x)) in
        let ay = axis y v qy ly (omega (arith, ev, b.y)) in
        let az = axis z w qz lz (omega (arith, ew, b.z)) in
        let n : ℕ = octant_number 4 (x + u % 4) (y + v % 4) (z + w % 4) in
        let hx : half_x n ≡ (x + u % 4) / 4 = omega (arith, ax.half, ay.half, az.half) in
        let hy : half_y n ≡ (y + v % 4) / 4 = omega (arith, ax.half, ay.half, az.half) in
        let hz : half_z n ≡ (z + w % 4) / 4 = omega (arith, ax.half, ay.half, az.half) in
        let word =
        at_word drawn _ _ _ (1024 + qx / 4) (1024 + qy / 4) (1024 + qz / 4)
        (slice_index leaves n) (omega (arith, hx, ax.leaf)) (omega (arith, hy, ay.leaf))
        (omega (arith, hz, az.leaf))
        (words n (omega (arith, ax.half, ay.half, az.half))) in
        ap (λ (k : ℕ). k == 1) (lies.each x y z lx ly lz)
        ∙ word_bit drawn (slice_index leaves n) (qx / 4) (qy / 4) (qz / 4) ((x + u % 4) % 4)
        ((y + v % 4) % 4) ((z + w % 4) % 4) word
        (leaf_in qx drawn.size.x (omega (arith, b.x)))
        (leaf_in qy drawn.size.y (omega (arith, b.y)))
        (leaf_in qz drawn.size.z (omega (arith, b.z))) (omega arith) (omega arith)
        (omega arith)
        ∙ same_cell (drawn_cells drawn) _ _ _ qx qy qz (omega (arith, ax.rest, ax.back))
        (omega (arith, ay.rest, ay.back)) (omega (arith, az.rest, az.back))

-- the task of an octant
pub stamp_octant : (base : List Tree) (level : ℕ) (old child : Option Name) (drawn : Drawn)
    (place at : Cell) (set : Bool) (cells : Cells) (k : ℕ) → 1 ≤ level → k < 8
    → (m : MakesStamp old drawn place at set base level cells)
    → child ≡ root_of (child_of m.paints.tree k)
    → MakesStamp child drawn place (octant_of (record { level = level; at = at }) k).at set base
    (level - 1) (octant_cells (level - 1) cells k)
stamp_octant base level old child drawn place at set cells k one lt m e = record {
  small = omega (arith, m.small);
  inside = octant_lies level at k one lt m.inside;
  stands = m.stands;
  paints = paints_octant base level old child set _ _ cells k one lt m.paints e
      (placed_octant (level - 1) at (is_stamped drawn place) k);
}

and_false : (a b : Bool) → (a ≡ true → ⊥) → (a && b) ≡ false
and_false true b h = absurd (h refl)
and_false false b h = refl

-- the model's box has no cell of the block
pub stamp_missed : (drawn : Drawn) (place : Cell) (block : Block)
    → (Meets (box_at place drawn.size) block → ⊥)
    → SameIn block.level (cells_from block.at (is_stamped drawn place)) no_cells
stamp_missed drawn place block missed = record {
  each = λ x y z p q r.
      let c : Cell = cell_at (block.at.x + x) (block.at.y + y) (block.at.z + z) in
      and_false _ _
      (λ e. missed
      (record {
        cell = c;
        in_block =
            record {
              x = (omega arith, omega arith);
              y = (omega arith, omega arith);
              z =
                  (omega arith, omega arith);
            };
        in_box = is_in_box_tells
            (box_at place drawn.size) c e;
      }));
}

-- what is drawn as the model is stamps as the model
draws_stamp : (model : Content) (drawn : Drawn) (at p : Cell) → Draws model drawn
    → is_in_stamp (Some model) at p ≡ is_stamped drawn at p
draws_stamp model drawn at p d =
    both_when (is_in_box (box_at at model.size) p) _ _
    (λ e. let b = is_in_box_tells (box_at at model.size) p e in sym
    (d.each (less p at)
    (record {
      x = omega (arith, b.x);
      y = omega (arith, b.y);
      z = omega
          (arith, b.z);
    })))
    ∙ ap (λ (s : Cell). is_in_box (box_at at s) p && drawn_cells drawn (less p at)) (sym d.size)

or_if : (a b : Bool) → (if a then true else b) ≡ (a || b)
or_if true b = refl
or_if false b = refl

and_if : (a b : Bool) → (if a then false else b) ≡ (b && not a)
and_if true true = refl
and_if true false = refl
and_if false true = refl
and_if false false = refl

-- the two ways to say what a stamp and its opposite make
one_world : (v w : Cell → Bool) → ((c : Cell) → v c ≡ w c) → v ≡ w
one_world v w same = λ i c. same c i

pub inked_set : (drawn : Drawn) (at : Cell) (before : Cell → Bool)
    → inked true drawn at before ≡ stamped drawn at before
inked_set drawn at before = one_world _ _ (λ p. or_if (is_stamped drawn at p) (before p))

pub inked_clear : (drawn : Drawn) (at : Cell) (before : Cell → Bool)
    → inked false drawn at before ≡ unstamped drawn at before
inked_clear drawn at before = one_world _ _ (λ p. and_if (is_stamped drawn at p) (before p))

pub stamp_world : (side level : ℕ) (held : List Tree) (old : Option Name) (drawn : Drawn)
    (at : Cell) (set : Bool) (before : Cell → Bool) → level ≤ 10
    → (at.x ≤ 4096) × (at.y ≤ 4096) × (at.z ≤ 4096) → AreTrees side held → AreCanonical held
    → ShowsWorld held level old before
    → MakesStamp old drawn at (cell_at 0 0 0) set held level
    (world_cells (inked set drawn at before))
stamp_world side level held old drawn at set before small stands a c w = record {
  small = small;
  inside = world_lies level small;
  stands = stands;
  paints = world_paints side level held old before _ set (is_stamped drawn at) _ a c w (λ p. refl)
      (from_nowhere level (is_stamped drawn at));
}

-- a stencil's stamp is the act's
pub stamps_model : (models : List Content) (m : ℕ) (model : Content) (drawn : Drawn) (at : Cell)
    (before : Cell → Bool) (c : Cell) → slice_get models m ≡ Some model → Draws model drawn
    → stamped drawn at before c ≡ edited models (Stamp m at) before c
stamps_model models m model drawn at before c e d =
    ap (λ (b : Bool). b || before c)
    (sym (draws_stamp model drawn at c d)
    ∙ ap (λ (o : Option Content). is_in_stamp o at c) (sym e))

-- one more word of eight was put
pub words_more : (drawn : Drawn) (xs : List ℕ) (k v n : ℕ) (x y z : ℕ → ℕ) → k < length xs
    → ((i : ℕ) → i < k → IsWord drawn (x i) (y i) (z i) (slice_index xs i))
    → IsWord drawn (x k) (y k) (z k) v → n < k + 1
    → IsWord drawn (x n) (y n) (z n) (slice_index (set xs k v) n)
words_more drawn xs k v n x y z lt h w below = elim (cases_eq n k) [
  | inl q ↦
      let e : slice_index (set xs k v) n ≡ v =
      ap (λ (j : ℕ). slice_index (set xs k v) j) q ∙ get_or-set_same xs k v 0 lt in
      subst (λ (a : ℕ). IsWord drawn (x n) (y n) (z n) a) (sym e)
      (subst (λ (j : ℕ). IsWord drawn (x j) (y j) (z j) v) (sym q) w)
  | inr ne ↦
      let e : slice_index (set xs k v) n ≡ slice_index xs n = get_or-set_other xs k n v 0 ne in
      subst (λ (a : ℕ). IsWord drawn (x n) (y n) (z n) a) (sym e) (h n (omega arith))
]

-- a scan of the words

all_axis : (low size at side x : ℕ) → x < side → low ≤ at + x → at + x < low + size
    → (first_leaf low at ≤ (at + x - low) / 4) × ((at + x - low) / 4 < last_leaf low size at side)
all_axis low size at side x lt le gt = (omega arith, omega arith)

in_leaf : (x y z : ℕ) → bit_number (x % 4) (y % 4) (z % 4) < 64
in_leaf x y z = omega arith

pub all_drawn : (drawn : Drawn) (place at : Cell) (side : ℕ) (set : Bool) (from to : Cell)
    (want : ℕ)
    → (from.x ≡ first_leaf place.x at.x) × (to.x ≡ last_leaf place.x drawn.size.x at.x side)
    → (from.y ≡ first_leaf place.y at.y) × (to.y ≡ last_leaf place.y drawn.size.y at.y side)
    → (from.z ≡ first_leaf place.z at.z) × (to.z ≡ last_leaf place.z drawn.size.z at.z side)
    → AllWords drawn.size drawn.words from to want → ((b : ℕ) → b < 64 → (bit_at want b == 1) ≡ set)
    → AllDrawn drawn place at side set
all_drawn drawn place at side set from to want ex ey ez words bits = record {
  each = λ x y z p q r t.
      let c : Cell = cell_at (at.x + x) (at.y + y) (at.z + z) in
      let b = is_in_box_tells (box_at place drawn.size) c t in
      let ax = all_axis place.x drawn.size.x at.x side x p b.x.0 b.x.1 in
      let ay = all_axis place.y drawn.size.y at.y side y q b.y.0 b.y.1 in
      let az = all_axis place.z drawn.size.z at.z side z r b.z.0 b.z.1 in
      let u : ℕ = at.x + x - place.x in
      let v : ℕ = at.y + y - place.y in
      let w : ℕ = at.z + z - place.z in
      let e =
      words.each (u / 4) (v / 4) (w / 4) (omega (arith, ex.0, ax.0))
      (omega (arith, ex.1, ax.1)) (omega (arith, ey.0, ay.0)) (omega (arith, ey.1, ay.1))
      (omega (arith, ez.0, az.0)) (omega (arith, ez.1, az.1)) in
      ap (λ (n : ℕ). bit_at n (bit_number (u % 4) (v % 4) (w % 4)) == 1) e
      ∙ bits (bit_number (u % 4) (v % 4) (w % 4)) (in_leaf u v w);
}

and_none : (a v : Bool) → (a ≡ true → v ≡ false) → (a && v) ≡ false
and_none true v h = h refl
and_none false v h = refl

both_true : (a v : Bool) → a ≡ true → v ≡ true → (a && v) ≡ true
both_true a v p q = rw (p, q) refl

-- no place of the block is a cell of the model
pub stamp_empty : (drawn : Drawn) (place at : Cell) (level side : ℕ) → side ≡ block_side level
    → AllDrawn drawn place at side false
    → SameIn level (cells_from at (is_stamped drawn place)) no_cells
stamp_empty drawn place at level side e d =
    record {
      each = λ x y z p q r. and_none _ _
          (d.each x y z (omega arith) (omega arith) (omega arith));
    }

-- each place of the block is a cell of the model
pub stamp_full : (drawn : Drawn) (place at : Cell) (level side : ℕ) → side ≡ block_side level
    → AllDrawn drawn place at side true
    → HoldsBlock (box_at place drawn.size) (record { level = level; at = at })
    → SameIn level (cells_from at (is_stamped drawn place)) all_cells
stamp_full drawn place at level side e d h = record {
  each = λ x y z p q r.
      let c : Cell = cell_at (at.x + x) (at.y + y) (at.z + z) in
      let t =
      is_in_box_holds (box_at place drawn.size) c
      (h.each c (record {
        x = (omega arith, omega arith);
        y =
            (omega arith, omega arith);
        z = (omega arith, omega arith);
      })) in
      both_true _ _ t (d.each x y z (omega arith) (omega arith) (omega arith) t);
}

pub scan_drawn : (drawn : Drawn) (place at : Cell) (side : ℕ) (set : Bool) (size : Cell)
    (items : List ℕ) (from to : Cell) (want : ℕ) → size ≡ drawn.size → items ≡ drawn.words
    → (from.x ≡ first_leaf place.x at.x) × (to.x ≡ last_leaf place.x size.x at.x side)
    → (from.y ≡ first_leaf place.y at.y) × (to.y ≡ last_leaf place.y size.y at.y side)
    → (from.z ≡ first_leaf place.z at.z) × (to.z ≡ last_leaf place.z size.z at.z side)
    → AllWords size items from to want → ((b : ℕ) → b < 64 → (bit_at want b == 1) ≡ set)
    → AllDrawn drawn place at side set
scan_drawn drawn place at side set size items from to want es ei ex ey ez words bits =
    let d : Drawn = record { size = size; words = items } in
    let e : d ≡ drawn =
    ap (λ (s : Cell). record { size = s; words = items }) es
    ∙ ap (λ (i : List ℕ). record { size = drawn.size; words = i }) ei in
    subst (λ (v : Drawn). AllDrawn v place at side set) e
    (all_drawn d place at side set from to want ex ey ez words bits)

-- one more number, of a row or a layer
pub one_more : (P : ℕ → Type 0) (from k n : ℕ) → ((m : ℕ) → from ≤ m → m < k → P m) → P k
    → from ≤ n → n < k + 1 → P n
one_more P from k n before last le lt = elim (cases_eq n k) [
  | inl q ↦ subst P (sym q) last
  | inr ne ↦ before n le (omega arith)
]

-- words that are the same, or the same where the mask of the box is set
masked_bit : (p q s : ℕ) → p < 2 → q < 2 → s < 2 → (s == 1) ≡ true → min p s ≡ min q s
    → (p == 1) ≡ (q == 1)
masked_bit p q zero lp lq ls e same = absurd (false≢true e)
masked_bit zero zero (suc zero) lp lq ls e same = refl
masked_bit zero (suc zero) (suc zero) lp lq ls e same = absurd (omega (arith, same))
masked_bit (suc zero) zero (suc zero) lp lq ls e same = absurd (omega (arith, same))
masked_bit (suc zero) (suc zero) (suc zero) lp lq ls e same = refl
masked_bit (suc (suc p)) q (suc zero) lp lq ls e same = absurd (omega arith)
masked_bit p (suc (suc q)) (suc zero) lp lq ls e same = absurd (omega arith)
masked_bit p q (suc (suc s)) lp lq ls e same = absurd (omega arith)

pub whole_word : (inside : Boxed) (x y z left right : ℕ) → left ≡ right
    → IsSameWord inside x y z left right
whole_word inside x y z left right e = record {
  each = λ i j k p q r t. ap (λ (n : ℕ). bit_at n (bit_number i j k) == 1) e;
}

pub masked_word : (inside : Boxed) (x y z left right seen : ℕ) (block : Block)
    → block.at.x ≡ 4 * x → block.at.y ≡ 4 * y → block.at.z ≡ 4 * z
    → LeafShows seen block (is_in_box inside) → bit_and left seen ≡ bit_and right seen
    → IsSameWord inside x y z left right
masked_word inside x y z left right seen block ex ey ez shows same = record {
  each = λ i j k p q r t.
      let b : ℕ = bit_number i j k in
      masked_bit (bit_at left b) (bit_at right b) (bit_at seen b) (bit_at-lt left b)
      (bit_at-lt right b) (bit_at-lt seen b)
      (shows.each i j k p q r ∙ same_cell (is_in_box inside) _ _ _ _ _ _ (omega (arith, ex))
      (omega (arith, ey)) (omega (arith, ez)) ∙ t)
      (sym (bit_at_and left seen b) ∙ ap (λ (n : ℕ). bit_at n b) same ∙ bit_at_and right seen b);
}

-- one axis: a place of the model, that one of the cube's is, in its leaf and in the cube
record Seen (low size at side x : ℕ) : Type 0 where
  leaf : (first_leaf low at ≤ (at + x - low) / 4)
      × ((at + x - low) / 4 < last_leaf low size at side)
  back : 4 * ((at + x - low) / 4) + (at + x - low) % 4 ≡ at + x - low
  inside : (at - low ≤ at + x - low) × (at + x - low < at - low + (at + side - low - (at - low)))

seen : (low size at side x : ℕ) → x < side → low ≤ at + x → at + x < low + size
    → Seen low size at side x
seen low size at side x lt le gt = record {
  leaf = all_axis low size at side x lt le gt;
  back = omega arith;
  inside = (omega arith, omega arith);
}

-- the same bits of a cube in the leaves that it touches
words_agree : (size : Cell) (left right : List ℕ) (place at : Cell) (side : ℕ) (from to : Cell)
    (inside : Boxed)
    → (from.x ≡ first_leaf place.x at.x) × (to.x ≡ last_leaf place.x size.x at.x side)
    → (from.y ≡ first_leaf place.y at.y) × (to.y ≡ last_leaf place.y size.y at.y side)
    → (from.z ≡ first_leaf place.z at.z) × (to.z ≡ last_leaf place.z size.z at.z side)
    → IsPart place at side inside → SameInside size left right from to inside
    → Agree (record { size = size; words = left })
    (record { size = size; words = right }) place at side
words_agree size left right place at side from to inside ex ey ez part words = record {
  size = refl;
  each = λ x y z p q r t.
      let i = is_in_box_tells (box_at place size) (cell_at (at.x + x) (at.y + y) (at.z + z)) t in
      let ax = seen place.x size.x at.x side x p i.x.0 i.x.1 in
      let ay = seen place.y size.y at.y side y q i.y.0 i.y.1 in
      let az = seen place.z size.z at.z side z r i.z.0 i.z.1 in
      let u : ℕ = at.x + x - place.x in
      let v : ℕ = at.y + y - place.y in
      let w : ℕ = at.z + z - place.z in
      let same = words.each (u / 4) (v / 4) (w / 4) (omega (arith, ex.0, ax.leaf.0))
      (omega (arith, ex.1, ax.leaf.1)) (omega (arith, ey.0, ay.leaf.0))
      (omega (arith, ey.1, ay.leaf.1)) (omega (arith, ez.0, az.leaf.0))
      (omega (arith, ez.1, az.leaf.1)) in
      same.each (u % 4) (v % 4) (w % 4) (omega arith) (omega arith) (omega arith)
      (is_in_box_holds inside _ (record {
        x = (omega (arith, part.x, ax.back, ax.inside), omega (arith, part.x, ax.back, ax.inside));
        y = (omega (arith, part.y, ay.back, ay.inside), omega (arith, part.y, ay.back, ay.inside));
        z = (omega (arith, part.z, az.back, az.inside), omega (arith, part.z, az.back, az.inside));
      }));
}

pub drawn_agree : (a b : Drawn) (place at : Cell) (side : ℕ) (size : Cell) (left right : List ℕ)
    (from to : Cell) (inside : Boxed)
    → size ≡ a.size → size ≡ b.size → left ≡ a.words → right ≡ b.words
    → (from.x ≡ first_leaf place.x at.x) × (to.x ≡ last_leaf place.x size.x at.x side)
    → (from.y ≡ first_leaf place.y at.y) × (to.y ≡ last_leaf place.y size.y at.y side)
    → (from.z ≡ first_leaf place.z at.z) × (to.z ≡ last_leaf place.z size.z at.z side)
    → IsPart place at side inside → SameInside size left right from to inside
    → Agree a b place at side
drawn_agree a b place at side size left right from to inside es fs el er ex ey ez part words =
    subst (λ (d : Drawn). Agree d b place at side) (as_drawn size left a es el)
    (subst (λ (d : Drawn). Agree (record { size = size; words = left }) d place at side)
    (as_drawn size right b fs er)
    (words_agree size left right place at side from to inside ex ey ez part words))
  where
    as_drawn : (size : Cell) (words : List ℕ) (d : Drawn) → size ≡ d.size → words ≡ d.words
        → record { size = size; words = words } ≡ d
    as_drawn size words d e f =
        ap (λ (s : Cell). record { size = s; words = words }) e
        ∙ ap (λ (i : List ℕ). record { size = d.size; words = i }) f
