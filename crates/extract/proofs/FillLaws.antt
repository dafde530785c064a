-- The words of a layer's leaves, filled in block by block.
use Rattle.std.proofs.Common.{◌≡◌, ◌≢◌, ℕ, zero, suc, ◌+◌, ◌-◌, ◌*◌, ◌/◌, ◌%◌, ◌^◌, ◌<◌, ◌≤◌, Bool, true, false, List, length, Option, None, refl, sym, ap, subst, ◌∙◌, arith, inl, inr, ◌⊎◌}
use Rattle.std.specs.Prelude.{◌==◌, slice_index, slice_set, replicate}
use Rattle.std.proofs.lemmas.Bool.{cases_eq, cases_lt}
use Rattle.std.proofs.lemmas.Nat.Bits.{bit_at-zero}
use Rattle.std.proofs.lemmas.Nat.{mod_below, div_below, div-add-mod', mul-le}
use Rattle.std.proofs.lemmas.List.{get_or-set_same, get_or-set_other, get_or-replicate, get_or_past, length-replicate}
use Rattle.vw_cell.specs.declared.cells.Cell.{Cell}
use Rattle.vw_cell.specs.declared.boxes.Boxed.{Boxed}
use Rattle.vw_cell.specs.declared.blocks.Block.{Block}
use Rattle.vw_cell.specs.Counts.{cell_at}
use Rattle.vw_cell.specs.Places.{block_side, half_x, half_y, half_z, IsWithin, IsInBlock, Touches, octant_of}
use Rattle.node_words.specs.declared.shapes.names.Name.{Name}
use Rattle.vw_cell.specs.declared.directions.Direction.{Direction}
use Rattle.vw_cell.specs.Faces.{is_exposed}
use Rattle.node_words.specs.shapes.Shape.{bit_number}
use Rattle.node_words.specs.shapes.Tree.{Tree, shape_of}
use Rattle.node_words.specs.kernels.Leaves.{LeafShows}
use Rattle.node_words.specs.Held.{StoreState}
use Rattle.node_words.specs.descent.Roots.{ForBlock, cells_of}
use Rattle.node_words.specs.descent.Parts.{EndsBy}
use Rattle.measure.specs.Exposed.{PassesExposed}
use Rattle.measure.specs.Leaves.{BitsPassTest}
use Rattle.measure.specs.Subjects.{PassesSet}
use Rattle.measure.specs.Tallies.{Counting, in_octant, PassesNone}
use Rattle.measure.specs.Widening.{ForCounted, ShowsPassed}
use Rattle.measure.proofs.FaceLaws.{world_bare}
use Rattle.measure.proofs.SubjectLaws.{block_set}
use Rattle.measure.proofs.WideningLaws.{has_octant, leaf_shows, none_there, octant_counts_in, octant_passed, shown_root}
use Rattle.extract.specs.Layers.{leaves_met, leaves_along, leaves_in, leaf_block, leaf_corner, HoldsLayer, IsLeafCorner, IsSmallLayer}
use Rattle.extract.specs.Filling.{MeetsLayer, ShowsItsLeaf, AreBegun, Fills, IsInFirst}
use Rattle.extract.proofs.LeafLaws.{corner_in}

-- the numbers of the leaves in a block
abbrev pub LiesAmong : Boxed → ℕ → Block → ℕ → Type 0
LiesAmong b layer place m = IsInBlock place (leaf_corner b layer m)

-- nothing is filled in, and two fillings make one
pub fills_none : (which : ℕ → Type 0) (b : Boxed) (layer : ℕ) (cells : Cell → Bool) (words : List ℕ)
    →
    (AreBegun b layer cells words → (m : ℕ) → m < leaves_in b → which m
    → ShowsItsLeaf b layer cells words m) → Fills which b layer cells words words
fills_none which b layer cells words there =
    record { begun = λ f. f; keeps = λ m lt s. s; there = there }

pub fills_then : (first second all : ℕ → Type 0) (b : Boxed) (layer : ℕ) (cells : Cell → Bool)
    (old mid new : List ℕ) → ((m : ℕ) → all m → first m ⊎ second m)
    → Fills first b layer cells old mid → Fills second b layer cells mid new
    → Fills all b layer cells old new
fills_then first second all b layer cells old mid new either p q = record {
  begun = λ f. q.begun (p.begun f);
  keeps = λ m lt s. q.keeps m lt (p.keeps m lt s);
  there = λ f m lt a. elim
      (either m a) [
        | inl one ↦ q.keeps m lt (p.there f m lt one)
        | inr other ↦ q.there
            (p.begun f) m lt other
      ];
}

pub fills_for : (which fewer : ℕ → Type 0) (b : Boxed) (layer : ℕ) (cells : Cell → Bool)
    (old new : List ℕ) → ((m : ℕ) → m < leaves_in b → fewer m → which m)
    → Fills which b layer cells old new → Fills fewer b layer cells old new
fills_for which fewer b layer cells old new within p =
    record { begun = p.begun; keeps = p.keeps; there = λ f m lt w. p.there f m lt (within m lt w) }

-- one word is written
word_same : (words : List ℕ) (m i bits : ℕ) → m < length words → i ≡ m
    → slice_index (slice_set words m bits) i ≡ bits
word_same words m i bits inside e =
    ap (slice_index (slice_set words m bits)) e ∙ get_or-set_same words m bits 0 inside

shown_same : (b : Boxed) (layer : ℕ) (cells : Cell → Bool) (words : List ℕ) (m i bits : ℕ)
    → m < length words → i ≡ m → LeafShows bits (leaf_block (leaf_corner b layer m)) cells
    → ShowsItsLeaf b layer cells (slice_set words m bits) i
shown_same b layer cells words m i bits inside e shows =
    subst (λ (w : ℕ). LeafShows w (leaf_block (leaf_corner b layer i)) cells)
    (sym (word_same words m i bits inside e))
    (subst (λ (j : ℕ). LeafShows bits (leaf_block (leaf_corner b layer j)) cells)
    (sym e) shows)

shown_other : (b : Boxed) (layer : ℕ) (cells : Cell → Bool) (words : List ℕ) (m i bits : ℕ) → i ≢ m
    → ShowsItsLeaf b layer cells words i → ShowsItsLeaf b layer cells (slice_set words m bits) i
shown_other b layer cells words m i bits other s =
    subst (λ (w : ℕ). LeafShows w (leaf_block (leaf_corner b layer i)) cells)
    (sym (get_or-set_other words m i bits 0 other)) s

pub fills_one : (which : ℕ → Type 0) (b : Boxed) (layer : ℕ) (cells : Cell → Bool) (words : List ℕ)
    (m bits : ℕ) → m < length words → LeafShows bits (leaf_block (leaf_corner b layer m)) cells
    → ((i : ℕ) → i < leaves_in b → which i → i ≡ m)
    → Fills which b layer cells words (slice_set words m bits)
fills_one which b layer cells words m bits inside shows only = record {
  begun = λ f i lt. elim (cases_eq i m) [
    | inl e ↦ inr (shown_same b layer cells words m i bits inside e shows)
    | inr other ↦ elim
        (f i lt) [
          | inl z ↦ inl (get_or-set_other words m i bits 0 other ∙ z)
          | inr s ↦ inr
              (shown_other b layer cells words m i bits other s)
        ]
  ];
  keeps = λ i lt s. elim
      (cases_eq i m) [ inl e ↦ shown_same b layer cells words m i bits inside e shows | inr other ↦ shown_other b layer cells words m i bits other s ];
  there = λ f i lt w. shown_same b layer cells words m i bits inside (only i lt w) shows;
}

-- a leaf whose corner lies in a block lies in it
axis_in : (low q p x : ℕ) → low % 4 ≡ 0 → p % 4 ≡ 0 → IsWithin low (4 * q) p → x < 4
    → IsWithin low (4 * q) (p + x)
axis_in low q p x e f w lt = let w0 = w.0 in let w1 = w.1 in (omega arith, omega arith)

leaf_in : (place : Block) (c : Cell) (x y z : ℕ) → IsLeafCorner place.at → IsLeafCorner c
    → IsInBlock place c → x < 4 → y < 4 → z < 4
    → IsInBlock place (cell_at (c.x + x) (c.y + y) (c.z + z))
leaf_in place c x y z p q i lx ly lz = record {
  x = axis_in place.at.x (2 ^ place.level) c.x x p.x q.x i.x lx;
  y = axis_in place.at.y (2 ^ place.level) c.y y p.y q.y i.y ly;
  z = axis_in place.at.z (2 ^ place.level) c.z z p.z q.z i.z lz;
}

corner_leaf : (b : Boxed) (layer m : ℕ) → IsLeafCorner (leaf_corner b layer m)
corner_leaf b layer m = record { x = omega arith; y = omega arith; z = omega arith }

-- where nothing counts the words stay
zero_shows : (place : Block) (cells : Cell → Bool) (word : ℕ) (c : Cell) → word ≡ 0
    → IsLeafCorner place.at → IsLeafCorner c → IsInBlock place c
    → ((p : Cell) → IsInBlock place p → cells p ≡ false) → LeafShows word (leaf_block c) cells
zero_shows place cells word c e p q i unset =
    subst (λ (w : ℕ). LeafShows w (leaf_block c) cells) (sym e)
    (record {
      each = λ x y z lx ly lz. ap (λ (n : ℕ). n == 1) (bit_at-zero (bit_number x y z))
          ∙ sym (unset _ (leaf_in place c x y z p q i lx ly lz));
    })

pub nothing_fills : {S : Type 0} (counts : Counting S) (held : List Tree) (subject : S)
    (place : Block) (b : Boxed) (layer : ℕ) (words : List ℕ)
    → ((test : Cell → Bool) → counts held place.level subject test → PassesNone place.level test)
    → IsLeafCorner place.at
    → ForCounted counts held subject place
    (λ cells. Fills (LiesAmong b layer place) b layer cells words words)
nothing_fills counts held subject place b layer words none corner cells test p shows =
    let unset : (q : Cell) → IsInBlock place q → cells q ≡ false =
    λ q i. none_there place test cells q (none test p) shows i in
    fills_none _ b layer cells words
    (λ f m lt i. elim
    (f m lt) [
      | inl z ↦ zero_shows place cells _ (leaf_corner b layer m) z corner
          (corner_leaf b layer m) i unset
      | inr s ↦ s
    ])

-- one corner has one number
one_axis : (low p q : ℕ) → low ≡ 4 * q → IsWithin low 4 (4 * p) → p ≡ q
one_axis low p q e w = let w0 = w.0 in let w1 = w.1 in omega arith

div_mod_one : (along m n : ℕ) → 1 ≤ along → m % along ≡ n % along → m / along ≡ n / along → m ≡ n
div_mod_one along m n some e f =
    sym (div-add-mod' m along) ∙ ap (λ (q : ℕ). q * along + m % along) f
    ∙ ap (λ (r : ℕ). n / along * along + r) e ∙ div-add-mod' n along

one_number : (b : Boxed) (layer m i : ℕ) (place : Block) → place.level ≡ 0
    → leaf_corner b layer m ≡ place.at → 1 ≤ leaves_along b → LiesAmong b layer place i → i ≡ m
one_number b layer m i place e corner some inside =
    let side : block_side place.level ≡ 4 = ap block_side e in
    let x : IsWithin place.at.x 4 (4 * (b.at.x / 4 + i % leaves_along b)) =
    subst (λ (n : ℕ). IsWithin place.at.x n
    (4 * (b.at.x / 4 + i % leaves_along b))) side inside.x in
    let y : IsWithin place.at.y 4 (4 * (b.at.y / 4 + i / leaves_along b)) =
    subst (λ (n : ℕ). IsWithin place.at.y n
    (4 * (b.at.y / 4 + i / leaves_along b))) side inside.y in
    let px =
    one_axis place.at.x (b.at.x / 4 + i % leaves_along b) (b.at.x / 4 + m % leaves_along b)
    (sym (ap (λ (c : Cell). c.x) corner)) x in
    let py =
    one_axis place.at.y (b.at.y / 4 + i / leaves_along b) (b.at.y / 4 + m / leaves_along b)
    (sym (ap (λ (c : Cell). c.y) corner)) y in
    div_mod_one (leaves_along b) i m some (omega (arith, px)) (omega (arith, py))

pub leaf_fills : {S : Type 0} (counts : Counting S) (held : List Tree) (subject : S)
    (place : Block) (b : Boxed) (layer m bits : ℕ) (words : List ℕ) → place.level ≡ 0
    → IsSmallLayer b → m < length words → leaf_corner b layer m ≡ place.at
    → ((test : Cell → Bool) → counts held 0 subject test → BitsPassTest bits test)
    → ForCounted counts held subject place
    (λ cells. Fills (LiesAmong b layer place) b layer cells words (slice_set words m bits))
leaf_fills counts held subject place b layer m bits words e small inside corner told cells test p shows =
    let some : 1 ≤ leaves_along b = (let sx = small.x.0 in omega arith) in
    let at : counts held 0 subject test = subst (λ (l : ℕ). counts held l subject test) e p in
    let shown : LeafShows bits place cells = leaf_shows bits place test cells e (told test at) shows in
    let here : LeafShows bits (leaf_block (leaf_corner b layer m)) cells =
    subst (λ (c : Cell). LeafShows bits (leaf_block c) cells) (sym corner)
    (record { each = shown.each }) in
    fills_one (LiesAmong b layer place) b layer cells words m bits inside here
    (λ i lt w. one_number b layer m i place e corner some w)

pub fills_more : (place : Block) (b : Boxed) (layer n : ℕ) (cells : Cell → Bool)
    (old mid new : List ℕ)
    → Fills (λ m. IsInFirst place n (leaf_corner b layer m)) b layer cells old mid
    → Fills (LiesAmong b layer (octant_of place n)) b layer cells mid new
    → Fills (λ m. IsInFirst place (n + 1) (leaf_corner b layer m)) b layer cells old new
fills_more place b layer n cells old mid new p q =
    fills_then _ _ _ b layer cells old mid new
    (λ m i. elim (cases_eq i.octant n) [
      | inl e ↦ inr (subst (λ (k : ℕ). LiesAmong b layer (octant_of place k) m) e i.inside)
      | inr other ↦ inl
          (record {
            octant = i.octant;
            below =
                (let l = i.below in omega arith);
            inside = i.inside;
          })
    ])
    p q

pub fills_block : (place : Block) (b : Boxed) (layer n : ℕ) (cells : Cell → Bool) (old new : List ℕ)
    → 1 ≤ place.level → n ≡ 8
    → Fills (λ m. IsInFirst place n (leaf_corner b layer m)) b layer cells old new
    → Fills (LiesAmong b layer place) b layer cells old new
fills_block place b layer n cells old new h e p =
    fills_for _ _ b layer cells old new
    (λ m lt i. (let o = has_octant place (leaf_corner b layer m) h i in
    record {
      octant = o.octant;
      below =
          (let l = o.below in omega (arith, l, e));
      inside = o.inside;
    })) p

-- an octant that has no leaf of the layer, and one that has
axis_touches : (at size w low q : ℕ) → 1 ≤ size → w < leaves_met at size → low % 4 ≡ 0
    → IsWithin low (4 * q) (4 * (at / 4 + w)) → Touches at size low (4 * q)
axis_touches at size w low q some lt e i =
    let i0 = i.0 in let i1 = i.1 in (some, omega arith, omega arith)

pub among_meets : (place : Block) (b : Boxed) (layer m : ℕ) → IsSmallLayer b → IsLeafCorner place.at
    → m < leaves_in b → LiesAmong b layer place m → MeetsLayer place b layer
among_meets place b layer m small corner lt i =
    let some : 1 ≤ leaves_along b = (let sx = small.x.0 in omega arith) in
    let right = mod_below m (leaves_along b) some in
    let down = div_below m (leaves_along b) (leaves_met b.at.y b.size.y) some lt in
    record {
      x = axis_touches b.at.x b.size.x (m % leaves_along b) place.at.x
          (2 ^ place.level) small.x.0 right corner.x i.x;
      y = axis_touches b.at.y b.size.y (m / leaves_along b) place.at.y
          (2 ^ place.level) small.y.0 down corner.y i.y;
      z = i.z;
    }

pub misses_fills : (place : Block) (b : Boxed) (layer : ℕ) (cells : Cell → Bool) (words : List ℕ)
    → IsSmallLayer b → IsLeafCorner place.at → (MeetsLayer place b layer → ⊥)
    → Fills (LiesAmong b layer place) b layer cells words words
misses_fills place b layer cells words small corner not =
    fills_none _ b layer cells words
    (λ f m lt i. absurd (not (among_meets place b layer m small corner lt i)))

pub octant_fills : {S : Type 0} (counts : Counting S) (a b : StoreState) (subject child : S)
    (place inner : Block) (k : ℕ) (box : Boxed) (layer : ℕ) (old new : List ℕ) → b ≡ a
    → 1 ≤ place.level → k < 8 → inner ≡ octant_of place k
    → ((u : Cell → Bool) → counts a.held place.level subject u
    → counts a.held (place.level - 1) child (in_octant place.level k u))
    → ForCounted counts b.held child inner
    (λ cells. Fills (LiesAmong box layer inner) box layer cells old new)
    → ForCounted counts a.held subject place
    (λ cells. Fills (LiesAmong box layer (octant_of place k)) box layer cells old new)
octant_fills counts a b subject child place inner k box layer old new e h lt is down told cells test p shows =
    let told' : ForCounted counts b.held child (octant_of place k) (λ cells. Fills (LiesAmong box layer (octant_of place k)) box layer cells old new) =
    subst (λ (q : Block). ForCounted counts b.held child q
    (λ cells. Fills (LiesAmong box layer q) box layer cells old new)) is told in
    let below : counts b.held (place.level - 1) child (in_octant place.level k test) =
    octant_counts_in counts a b place (octant_of place k) k subject child test e refl down p in
    told' cells (in_octant place.level k test) below
    (octant_passed place test cells k h lt shows)

-- an octant's corner is one of leaves
axis_corner : (low half i : ℕ) (q : ℕ) → low % 4 ≡ 0 → half ≡ 4 * q → i < 2
    → (low + half * i) % 4 ≡ 0
axis_corner low half zero q e d lt = omega arith
axis_corner low half (suc zero) q e d lt = omega arith
axis_corner low half (suc (suc i)) q e d lt = absurd (omega arith)

pub octant_corner : (place inner : Block) (k : ℕ) → k < 8 → inner ≡ octant_of place k
    → IsLeafCorner place.at → IsLeafCorner inner.at
octant_corner place inner k lt e p =
    subst (λ (b : Block). IsLeafCorner b.at) (sym e) (record {
      x = axis_corner place.at.x (block_side (place.level - 1)) (half_x k)
          (2 ^ (place.level - 1)) p.x refl (omega arith);
      y = axis_corner place.at.y (block_side (place.level - 1)) (half_y k)
          (2 ^ (place.level - 1)) p.y refl (omega arith);
      z = axis_corner place.at.z (block_side (place.level - 1)) (half_z k)
          (2 ^ (place.level - 1)) p.z refl (omega arith);
    })

-- a layer of a world that was filled in
root_filled : (level layer z : ℕ) (b : Boxed) (cells : Cell → Bool) (old new : List ℕ)
    → IsSmallLayer b → EndsBy (block_side level) b → z < b.size.z → layer ≡ (b.at.z + z) / 4
    → ((m : ℕ) → m < leaves_in b → slice_index old m ≡ 0)
    → Fills (LiesAmong b layer (record { level = level; at = cell_at 0 0 0 })) b layer cells old new
    → HoldsLayer new b layer (leaves_in b) cells
root_filled level layer z b cells old new small ends lt e none filled = record {
  each = λ m inside.
      let c = corner_in b (block_side level) z m small ends lt inside in
      let there : LiesAmong b layer (record {
        level =
            level;
        at = cell_at 0 0 0;
      }) m =
      record {
        x = (omega arith, omega (arith, c.x));
        y =
            (omega arith, omega (arith, c.y));
        z =
            (omega arith, omega (arith, c.z, e));
      } in
      filled.there (λ i j. inl (none i j)) m inside there;
}

pub layer_filled : (held : List Tree) (level layer z : ℕ) (block : Option Name) (b : Boxed)
    (old new : List ℕ) → IsSmallLayer b → EndsBy (block_side level) b → z < b.size.z
    → layer ≡ (b.at.z + z) / 4 → ((m : ℕ) → slice_index old m ≡ 0)
    → ((cells test : Cell → Bool) → PassesSet held level block test
    → ShowsPassed (record { level = level; at = cell_at 0 0 0 }) test cells
    → Fills (LiesAmong b layer (record { level = level; at = cell_at 0 0 0 })) b layer cells old new)
    → ForBlock held level block
    (λ s. HoldsLayer new b layer (leaves_in b) (cells_of level s))
layer_filled held level layer z block b old new small ends lt e none fills t o =
    let cells : Cell → Bool = cells_of level (shape_of t) in
    root_filled level layer z b cells old new small ends lt e (λ m _. none m)
    (fills cells cells (block_set held level block t o) (shown_root level cells))

pub bare_filled : (d : Direction) (held : List Tree) (level layer z : ℕ) (block : Option Name)
    (b : Boxed) (old new : List ℕ) → IsSmallLayer b → EndsBy (block_side level) b → z < b.size.z
    → layer ≡ (b.at.z + z) / 4 → ((m : ℕ) → m < leaves_in b → slice_index old m ≡ 0)
    → ((cells test : Cell → Bool) → PassesExposed d held level block None test
    → ShowsPassed (record { level = level; at = cell_at 0 0 0 }) test cells
    → Fills (LiesAmong b layer (record { level = level; at = cell_at 0 0 0 })) b layer cells old new)
    → ForBlock held level block
    (λ s. HoldsLayer new b layer (leaves_in b) (is_exposed d (block_side level) (cells_of level s)))
bare_filled d held level layer z block b old new small ends lt e none fills t o =
    let cells : Cell → Bool = is_exposed d (block_side level) (cells_of level (shape_of t)) in
    root_filled level layer z b cells old new small ends lt e none
    (fills cells cells (world_bare d held level block t o) (shown_root level cells))

-- all words are 0 at first
pub all_zero : (m : ℕ) → slice_index (replicate 4225 0) m ≡ 0
all_zero m =
    elim
    (cases_lt m 4225) [
      | inl below ↦ get_or-replicate 4225 m 0 0 below
      | inr past ↦ get_or_past
          (replicate 4225 0) m 0 (omega (arith, past, length-replicate {A = ℕ} 4225 0))
    ]

-- the greatest layer
pub few_leaves : (down along : ℕ) → down ≤ 65 → along ≤ 65 → down * along ≤ 4225
few_leaves down along p q = mul-le down along 65 65 p q

-- one more word is 0
pub zeros_more : (old new : List ℕ) (k : ℕ) → new ≡ slice_set old k 0 → k < length old
    → ((m : ℕ) → m < k → slice_index old m ≡ 0) → (m : ℕ) → m < k + 1 → slice_index new m ≡ 0
zeros_more old new k e inside zeros m lt =
    ap (λ (words : List ℕ). slice_index words m) e
    ∙ elim (cases_eq m k) [
      | inl same ↦ word_same old k m 0 inside same
      | inr other ↦ get_or-set_other old k m 0 0 other ∙ zeros m (omega arith)
    ]

-- a test isn't both
pub not_both : (b : Bool) → b ≡ false → b ≡ true → ⊥
not_both b e f = cc
