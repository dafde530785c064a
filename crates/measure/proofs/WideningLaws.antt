-- How a box is widened, step by step.
use Rattle.std.proofs.Common.{◌≡◌, ℕ, zero, suc, ◌+◌, ◌-◌, ◌*◌, ◌/◌, ◌%◌, ◌^◌, ◌<◌, ◌≤◌, Some, None, Option, List, Bool, true, false, refl, sym, ap, subst, ◌∙◌, arith, inl, inr, ◌⊎◌}
use Rattle.std.specs.Prelude.{◌==◌, ◌&&◌, bit_and}
use Rattle.std.specs.Int.{bit_at}
use Rattle.std.proofs.lemmas.Bool.{and_parts, cases_eq, cases_Bool}
use Rattle.std.proofs.lemmas.Nat.Bits.{bit_at_and, bit_at-lt}
use Rattle.vw_cell.specs.declared.cells.Cell.{Cell}
use Rattle.vw_cell.specs.declared.boxes.Boxed.{Boxed}
use Rattle.vw_cell.specs.declared.blocks.Block.{Block}
use Rattle.vw_cell.specs.Counts.{cell_at}
use Rattle.vw_cell.specs.Places.{block_side, half_x, half_y, half_z, IsWithin, IsInBlock, IsInWorld, LiesIn, octant_of, is_in_box}
use Rattle.vw_cell.specs.Tests.{is_in_box_tells}
use Rattle.node_words.specs.declared.shapes.names.Name.{Name}
use Rattle.node_words.specs.shapes.Shape.{bit_number}
use Rattle.node_words.specs.shapes.Tree.{Tree, shape_of}
use Rattle.node_words.proofs.OfShapes.ShapeLaws.{block_side_some}
use Rattle.node_words.proofs.OfShapes.ShowLaws.{octant_has, half_below}
use Rattle.node_words.specs.kernels.Leaves.{LeafShows}
use Rattle.node_words.specs.Held.{StoreState}
use Rattle.vw_cell.specs.Extents.{IsExtent}
use Rattle.node_words.specs.descent.Roots.{IsBlockOf, ForBlock, ForWorld, cells_of}
use Rattle.node_words.specs.descent.Parts.{placed}
use Rattle.node_words.proofs.OfDescent.LookLaws.{twice, root_side, same_cell}
use Rattle.node_words.proofs.OfDescent.PartLaws.{placed_in}
use Rattle.measure.proofs.LeafCounts.{both}
use Rattle.measure.proofs.SubjectLaws.{block_set}
use Rattle.measure.proofs.TallyLaws.{small_side}
use Rattle.measure.specs.Leaves.{BitsPassTest}
use Rattle.measure.specs.Subjects.{PassesSet}
use Rattle.measure.specs.Tallies.{Counting, in_octant, PassesNone}
use Rattle.measure.specs.Widening.{IsFound, Widens, IsSetIn, IsSetInSome, IsOther, IsOtherAt, IsSetAt, from_corner, ShowsPassed, ForCounted, WidensBy, leaf_cell, bit_of}

-- two steps make one
middle : (may' : Cell → Type 0) (old mid new : Option Boxed) (may : Cell → Type 0)
    → ((x : Boxed) → old ≡ None → mid ≡ Some x → (c : Cell) × may c)
    → ((x : Boxed) → mid ≡ None → new ≡ Some x → (c : Cell) × may c) → (b : Boxed) → old ≡ None
    → new ≡ Some b → (c : Cell) × may c
middle may' old None new may p q b e f = q b refl f
middle may' old (Some x) new may p q b e f = p x e refl

pub widens_then : (must must' may may' all some : Cell → Type 0) (old mid new : Option Boxed)
    → ((c : Cell) → all c → must c ⊎ must' c) → ((c : Cell) → may c → some c)
    → ((c : Cell) → may' c → some c)
    → Widens must may old mid → Widens must' may' mid new → Widens all some old new
widens_then must must' may may' all some old mid new either within within' p q = record {
  keeps = λ c f. q.keeps c (p.keeps c f);
  holds = λ c a. elim (either c a) [ inl m ↦ q.keeps c (p.holds c m) | inr m ↦ q.holds c m ];
  least = λ d fits all'. q.least d (p.least d fits (λ c m. all' c (within c m)))
      (λ c m. all' c (within' c m));
  some = middle may' old mid new some (λ x e f. (let w = p.some x e f in (w.0, within w.0 w.1)))
      (λ x e f. (let w = q.some x e f in (w.0, within' w.0 w.1)));
}

-- nothing more where all is found
nothing_came : (old : Option Boxed) (b : Boxed) → old ≡ None → old ≡ Some b → ⊥
nothing_came old b e f = cc

pub widens_same : (must may : Cell → Type 0) (old : Option Boxed)
    → ((c : Cell) → must c → IsFound old c) → Widens must may old old
widens_same must may old found =
    record {
      keeps = λ c f. f;
      holds = found;
      least = λ d fits _. fits;
      some = λ b e f. absurd
          (nothing_came old b e f);
    }

-- fewer cells that it must have, and more that it may
pub widens_for : (must may must' may' : Cell → Type 0) (old new : Option Boxed)
    → ((c : Cell) → must' c → must c) → ((c : Cell) → may c → may' c) → Widens must may old new
    → Widens must' may' old new
widens_for must may must' may' old new fewer more p = record {
  keeps = p.keeps;
  holds = λ c m. p.holds c (fewer c m);
  least = λ d fits all. p.least d fits (λ c m. all c (more c m));
  some = λ b e f. (let w = p.some b e f in (w.0, more w.0 w.1));
}

unset_set : (b : Bool) → b ≡ false → b ≡ true → ⊥
unset_set b e f = cc

-- a cell of a block, told from the block's corner
abbrev told_place : Block → Cell → Cell
told_place place c = cell_at (c.x - place.at.x) (c.y - place.at.y) (c.z - place.at.z)

pub record HasJournal (place : Block) (c : Cell) : Type 0 where
  pub inner : Cell
  pub inside : IsInWorld (block_side place.level) inner
  pub same : c ≡ from_corner place inner

pub told_cell : (place : Block) (c : Cell) → IsInBlock place c → HasJournal place c
told_cell place c i = record {
  inner = told_place place c;
  inside = record {
    x = omega (arith, i.x.0, i.x.1);
    y = omega (arith, i.y.0, i.y.1);
    z = omega (arith, i.z.0, i.z.1);
  };
  same = same_cell c _ _ _ (omega (arith, i.x.0)) (omega (arith, i.y.0)) (omega (arith, i.z.0));
}

-- a cell that doesn't count is unset in the block
pub passed_by : (place : Block) (test cells : Cell → Bool) (c : Cell) (t : HasJournal place c)
    → ShowsPassed place test cells → cells c ≡ test t.inner
passed_by place test cells c t shows = ap cells t.same ∙ sym (shows.each t.inner t.inside)

pub none_there : (place : Block) (test cells : Cell → Bool) (c : Cell)
    → PassesNone place.level test → ShowsPassed place test cells → IsInBlock place c
    → cells c ≡ false
none_there place test cells c none shows i =
    let t = told_cell place c i in
    passed_by place test cells c t shows ∙ none.each t.inner t.inside

-- nothing is set where nothing counts
pub nothing_widens : {S : Type 0} (counts : Counting S) (held : List Tree) (subject : S)
    (place : Block) (old : Option Boxed)
    → ((test : Cell → Bool) → counts held place.level subject test → PassesNone place.level test)
    → WidensBy counts held subject place old old
nothing_widens counts held subject place old none cells test p shows =
    widens_same _ _ old (λ c m. absurd
    (unset_set (cells c) (none_there place test cells c (none test p) shows m.inside) m.set))

pub covered_widens : {S : Type 0} (counts : Counting S) (held : List Tree) (subject : S)
    (place : Block) (old : Option Boxed)
    → ((c : Cell) → IsInBlock place c → IsFound old c) → WidensBy counts held subject place old old
covered_widens counts held subject place old covers cells test p shows =
    widens_same _ _ old (λ c m. covers c m.inside)

-- the bits of a leaf show the cells that count in it
pub leaf_shows : (bits : ℕ) (place : Block) (test cells : Cell → Bool) → place.level ≡ 0
    → BitsPassTest bits test → ShowsPassed place test cells → LeafShows bits place cells
leaf_shows bits place test cells e told shows =
    let side : block_side place.level ≡ 4 = ap block_side e in
    record {
      each = λ x y z lx ly lz. told.each x y z lx ly lz
          ∙ shows.each (cell_at x y z)
          (record {
            x = omega (arith, lx, side);
            y = omega (arith, ly, side);
            z = omega (arith, lz, side);
          });
    }

pub leaf_widens : {S : Type 0} (counts : Counting S) (held : List Tree) (subject : S)
    (place : Block) (bits : ℕ) (old new : Option Boxed) → place.level ≡ 0
    → ((test : Cell → Bool) → counts held 0 subject test → BitsPassTest bits test)
    → ((cells : Cell → Bool) → LeafShows bits place cells
    → Widens (IsSetIn place cells) (IsSetIn place cells) old new)
    → WidensBy counts held subject place old new
leaf_widens counts held subject place bits old new e told widens cells test p shows =
    let at : counts held 0 subject test = subst (λ (l : ℕ). counts held l subject test) e p in
    widens cells (leaf_shows bits place test cells e (told test at) shows)

-- an octant lies in its block
in_half : (low half i side c : ℕ) → side ≡ 2 * half → i < 2 → IsWithin (low + half * i) half c
    → IsWithin low side c
in_half low half zero side c d lt h = (omega arith, omega arith)
in_half low half (suc zero) side c d lt h = (omega arith, omega arith)
in_half low half (suc (suc i)) side c d lt h = absurd (omega arith)

octant_within : (place : Block) (k : ℕ) (c : Cell) → 1 ≤ place.level → k < 8
    → IsInBlock (octant_of place k) c → IsInBlock place c
octant_within place k c h lt i =
    let d = twice place.level h in
    record {
      x = in_half place.at.x _ (half_x k) _ c.x d (omega arith) i.x;
      y = in_half place.at.y _
          (half_y k) _ c.y d (omega arith) i.y;
      z = in_half place.at.z _ (half_z k) _ c.z d
          (omega arith) i.z;
    }

pub octant_set_in : (place : Block) (cells : Cell → Bool) (k : ℕ) (c : Cell) → 1 ≤ place.level
    → k < 8 → IsSetIn (octant_of place k) cells c → IsSetIn place cells c
octant_set_in place cells k c h lt s =
    record { inside = octant_within place k c h lt s.inside; set = s.set }

-- each cell of a block lies in an octant
pub record HasOctant (place : Block) (c : Cell) : Type 0 where
  pub octant : ℕ
  pub below : octant < 8
  pub inside : IsInBlock (octant_of place octant) c

pub has_octant : (place : Block) (c : Cell) → 1 ≤ place.level → IsInBlock place c
    → HasOctant place c
has_octant place c h i =
    let half : ℕ = block_side (place.level - 1) in
    let some = block_side_some (place.level - 1) in
    let d = twice place.level h in
    let x =
    half_below place.at.x half c.x some (subst (λ (n : ℕ). IsWithin place.at.x n c.x) d i.x) in
    let y =
    half_below place.at.y half c.y some (subst (λ (n : ℕ). IsWithin place.at.y n c.y) d i.y) in
    let z =
    half_below place.at.z half c.z some (subst (λ (n : ℕ). IsWithin place.at.z n c.z) d i.z) in
    record {
      octant = (c.x - place.at.x) / half + 2 * ((c.y - place.at.y) / half) + 4 *
          ((c.z - place.at.z) / half);
      below = omega (arith, x, y, z);
      inside = octant_has place c half _ _ _ h refl i refl refl refl;
    }

end_in : (low half i side : ℕ) → side ≡ 2 * half → i < 2 → low + side ≤ 4096
    → low + half * i + half ≤ 4096
end_in low half zero side d lt h = omega arith
end_in low half (suc zero) side d lt h = omega arith
end_in low half (suc (suc i)) side d lt h = absurd (omega arith)

pub octant_lies : (place child : Block) (k : ℕ) → 1 ≤ place.level → k < 8
    → child ≡ octant_of place k → LiesIn 4096 place → LiesIn 4096 child
octant_lies place child k h lt e lies =
    let d = twice place.level h in
    subst (LiesIn 4096) (sym e)
    (record {
      x = end_in place.at.x _ (half_x k) _ d
          (omega arith) lies.x;
      y = end_in place.at.y _ (half_y k) _ d
          (omega arith) lies.y;
      z = end_in place.at.z _ (half_z k) _ d (omega arith) lies.z;
    })

-- the cells of an octant
half_place : (low half i c : ℕ) → i < 2 → low + (i * half + c) ≡ low + half * i + c
half_place low half zero c lt = omega arith
half_place low half (suc zero) c lt = omega arith
half_place low half (suc (suc i)) c lt = absurd (omega arith)

pub octant_passed : (place : Block) (test cells : Cell → Bool) (k : ℕ) → 1 ≤ place.level → k < 8
    → ShowsPassed place test cells
    → ShowsPassed (octant_of place k) (in_octant place.level k test) cells
octant_passed place test cells k h lt shows =
    let half : ℕ = block_side (place.level - 1) in
    record {
      each = λ c i.
          let same : from_corner place (placed half k c) ≡ from_corner (octant_of place k) c =
          same_cell (from_corner place (placed half k c)) _ _ _
          (half_place place.at.x half (half_x k) c.x (omega arith))
          (half_place place.at.y half (half_y k) c.y (omega arith))
          (half_place place.at.z half (half_z k) c.z (omega arith)) in
          shows.each (placed half k c) (placed_in place.level k c h lt i) ∙ ap cells same;
    }

-- what counts in an octant, after a call that changes nothing
pub octant_counts_in : {S : Type 0} (counts : Counting S) (a b : StoreState) (place inner : Block)
    (k : ℕ) (subject child : S) (test : Cell → Bool) → b ≡ a → inner ≡ octant_of place k
    → ((u : Cell → Bool) → counts a.held place.level subject u
    → counts a.held (place.level - 1) child (in_octant place.level k u))
    → counts a.held place.level subject test
    → counts b.held inner.level child (in_octant place.level k test)
octant_counts_in counts a b place inner k subject child test e is down p =
    subst (λ (q : Block). counts b.held q.level child (in_octant place.level k test)) (sym is)
    (subst (λ (s : StoreState). counts s.held (place.level - 1) child (in_octant place.level k test))
    (sym e) (down test p))

pub octant_widens : {S : Type 0} (counts : Counting S) (a b : StoreState) (subject child : S)
    (place inner : Block) (k : ℕ) (old new : Option Boxed) → b ≡ a → 1 ≤ place.level → k < 8
    → inner ≡ octant_of place k
    → ((u : Cell → Bool) → counts a.held place.level subject u
    → counts a.held (place.level - 1) child (in_octant place.level k u))
    → WidensBy counts b.held child inner old new
    → ForCounted counts a.held subject place
    (λ cells. Widens (IsSetIn (octant_of place k) cells) (IsSetIn place cells) old new)
octant_widens counts a b subject child place inner k old new e h lt is down told cells test p shows =
    let told' : WidensBy counts b.held child (octant_of place k) old new =
    subst (λ (q : Block). WidensBy counts b.held child q old new) is told in
    let below : counts b.held (place.level - 1) child (in_octant place.level k test) =
    octant_counts_in counts a b place (octant_of place k) k subject child test e refl down p in
    widens_for _ _ _ _ old new (λ c m. m) (λ c m. octant_set_in place cells k c h lt m)
    (told' cells (in_octant place.level k test) below
    (octant_passed place test cells k h lt shows))

-- what a call for an octant needs
pub child_counts : {S : Type 0} (counts : Counting S) (a b : StoreState) (place inner : Block) (k : ℕ)
    (subject child : S) (test : Cell → Bool) → b ≡ a → inner ≡ octant_of place k
    → ((u : Cell → Bool) → counts a.held place.level subject u
    → counts a.held (place.level - 1) child (in_octant place.level k u))
    → counts a.held place.level subject test
    → (u : Cell → Bool) × counts b.held inner.level child u
child_counts counts a b place inner k subject child test e is down p =
    (in_octant place.level k test, octant_counts_in counts a b place inner k subject child test e is down p)

-- what counts stays while what is seen of the store stays
pub still_counts : {S : Type 0} (counts : Counting S) (a b : StoreState) (level : ℕ) (subject : S)
    (test : Cell → Bool) → b ≡ a → counts a.held level subject test
    → counts b.held level subject test
still_counts counts a b level subject test e p =
    subst (λ (s : StoreState). counts s.held level subject test) (sym e) p

-- an octant that was passed over, and one that wasn't
pub apart_same : (place : Block) (cells : Cell → Bool) (corner octant : ℕ) (old : Option Boxed)
    → (octant ≡ corner) ⊎ (octant ≡ 7 - corner)
    → Widens (IsSetInSome place cells (IsOtherAt corner octant)) (IsSetIn place cells) old old
apart_same place cells corner octant old (inl e) =
    widens_same _ _ old (λ c m. absurd (m.is.apart (m.is.same ∙ e)))
apart_same place cells corner octant old (inr e) =
    widens_same _ _ old (λ c m. absurd (m.is.far (m.is.same ∙ e)))

pub apart_in : (place : Block) (cells : Cell → Bool) (corner octant : ℕ) (old new : Option Boxed)
    → Widens (IsSetIn (octant_of place octant) cells) (IsSetIn place cells) old new
    → Widens (IsSetInSome place cells (IsOtherAt corner octant)) (IsSetIn place cells) old new
apart_in place cells corner octant old new p =
    widens_for _ _ _ _ old new
    (λ c m. subst (λ (k : ℕ). IsSetIn (octant_of place k) cells c) m.is.same m.set_in)
    (λ c m. m) p

-- one more octant
pub others_more : (place : Block) (cells : Cell → Bool) (corner n : ℕ) (old mid new : Option Boxed)
    → Widens (IsSetInSome place cells (IsOther corner n)) (IsSetIn place cells) old mid
    → Widens (IsSetInSome place cells (IsOtherAt corner n)) (IsSetIn place cells) mid new
    → Widens (IsSetInSome place cells (IsOther corner (n + 1))) (IsSetIn place cells) old new
others_more place cells corner n old mid new p q =
    widens_then _ _ _ _ _ _ old mid new
    (λ c m. elim (cases_eq m.octant n) [
      | inl e ↦ inr
          (record {
            octant = m.octant;
            is =
                record { same = e; apart = m.is.apart; far = m.is.far };
            set_in = m.set_in;
          })
      | inr e ↦ inl
          (record {
            octant = m.octant;
            is =
                record {
                  below =
                      (let b = m.is.below in omega arith);
                  apart = m.is.apart;
                  far = m.is.far;
                };
            set_in = m.set_in;
          })
    ])
    (λ c m. m) (λ c m. m) p q

pub others_none : (place : Block) (cells : Cell → Bool) (corner : ℕ) (old : Option Boxed)
    → Widens (IsSetInSome place cells (IsOther corner 0)) (IsSetIn place cells) old old
others_none place cells corner old =
    widens_same _ _ old (λ c m. (let b = m.is.below in absurd (omega arith)))

-- an octant, its opposite and all others are the block
pub all_octants : (place : Block) (cells : Cell → Bool) (corner : ℕ) (old a b new : Option Boxed)
    → 1 ≤ place.level → Widens (IsSetIn (octant_of place corner) cells) (IsSetIn place cells) old a
    → Widens (IsSetIn (octant_of place (7 - corner)) cells) (IsSetIn place cells) a b
    → Widens (IsSetInSome place cells (IsOther corner 8)) (IsSetIn place cells) b new
    → Widens (IsSetIn place cells) (IsSetIn place cells) old new
all_octants place cells corner old a b new h p q r =
    let first : Widens (λ c. IsSetIn (octant_of place corner) cells c ⊎ IsSetIn (octant_of place (7 - corner)) cells c) (IsSetIn place cells) old b = widens_then _ _ _ _ _ _ old a b (λ c m. m) (λ c m. m) (λ c m. m) p q in
    widens_then _ _ _ _ _ _ old b new
    (λ c m.
    let o = has_octant place c h m.inside in
    let here : IsSetIn (octant_of place o.octant) cells c =
    record { inside = o.inside; set = m.set } in
    elim (cases_eq o.octant corner) [
      | inl e ↦ inl (inl (subst (λ (k : ℕ). IsSetIn (octant_of place k) cells c) e here))
      | inr apart ↦ elim (cases_eq o.octant (7 - corner)) [
        | inl e ↦ inl (inr (subst (λ (k : ℕ). IsSetIn (octant_of place k) cells c) e here))
        | inr far ↦ inr
            (record {
              octant = o.octant;
              is =
                  record { below = o.below; apart = apart; far = far };
              set_in = here;
            })
      ]
    ])
    (λ c m. m) (λ c m. m) first r

-- a leaf's cells by their bits
bit_places : (low x side bit : ℕ) → side ≡ 4 → IsWithin low side x → x - low < 4
bit_places low x side bit e w = let l = w.0 in let h = w.1 in omega arith

cell_at_bit : (place : Block) (cells : Cell → Bool) (bit : ℕ) (c : Cell) → place.level ≡ 0
    → IsSetAt place cells (λ n. n ≡ bit) c → c ≡ leaf_cell place bit
cell_at_bit place cells bit c e m =
    let side : block_side place.level ≡ 4 = ap block_side e in
    let i = m.set_in.inside in
    let is = m.is in
    let x0 = i.x.0 in
    let x1 = i.x.1 in
    let y0 = i.y.0 in
    let y1 = i.y.1 in
    let z0 = i.z.0 in
    let z1 = i.z.1 in
    same_cell c _ _ _ (omega arith) (omega arith) (omega arith)

pub bit_tells : (bits bit : ℕ) (place : Block) (cells : Cell → Bool) → bit < 64
    → LeafShows bits place cells → (bit_at bits bit == 1) ≡ cells (leaf_cell place bit)
bit_tells bits bit place cells lt shows =
    let whole : bit ≡ bit_number (bit % 4) (bit / 4 % 4) (bit / 16) = omega arith in
    ap (λ (n : ℕ). bit_at bits n == 1) whole
    ∙ shows.each (bit % 4) (bit / 4 % 4) (bit / 16) (omega arith) (omega arith) (omega arith)

leaf_cell_in : (place : Block) (bit : ℕ) → place.level ≡ 0 → bit < 64
    → IsInBlock place (leaf_cell place bit)
leaf_cell_in place bit e lt =
    let side : block_side place.level ≡ 4 = ap block_side e in
    record {
      x = (omega arith, omega arith);
      y = (omega arith, omega arith);
      z =
          (omega arith, omega arith);
    }

pub bit_unset : (bits bit : ℕ) (place : Block) (old : Option Boxed) (is : Bool) → place.level ≡ 0
    → bit < 64 → is ≡ (bit_at bits bit == 1) → is ≡ false
    → (cells : Cell → Bool) → LeafShows bits place cells
    → Widens (IsSetAt place cells (λ n. n ≡ bit)) (IsSetIn place cells) old old
bit_unset bits bit place old is e lt told unset cells shows =
    widens_same _ _ old
    (λ c m. absurd
    (unset_set (cells c)
    (ap cells (cell_at_bit place cells bit c e m)
    ∙ sym (bit_tells bits bit place cells lt shows) ∙ sym told
    ∙ unset) m.set_in.set))

pub bit_set : (bits bit : ℕ) (place : Block) (found : Cell) (old new : Option Boxed) (is : Bool)
    → place.level ≡ 0 → bit < 64 → is ≡ (bit_at bits bit == 1) → is ≡ true
    → found ≡ leaf_cell place bit → Widens (λ c. c ≡ found) (λ c. c ≡ found) old new
    → (cells : Cell → Bool) → LeafShows bits place cells
    → Widens (IsSetAt place cells (λ n. n ≡ bit)) (IsSetIn place cells) old new
bit_set bits bit place found old new is e lt told set f p cells shows =
    let here : IsSetIn place cells (leaf_cell place bit) =
    record {
      inside = leaf_cell_in place bit e lt;
      set = sym
          (bit_tells bits bit place cells lt shows) ∙ sym told ∙ set;
    } in
    widens_for _ _ _ _ old new (λ c m. cell_at_bit place cells bit c e m ∙ sym f)
    (λ c q. subst (IsSetIn place cells) (sym (q ∙ f)) here) p

pub bits_none : (place : Block) (cells : Cell → Bool) (old : Option Boxed)
    → Widens (IsSetAt place cells (λ n. n < 0)) (IsSetIn place cells) old old
bits_none place cells old = widens_same _ _ old (λ c m. (let b = m.is in absurd (omega arith)))

pub bits_more : (place : Block) (cells : Cell → Bool) (bit : ℕ) (old mid new : Option Boxed)
    → Widens (IsSetAt place cells (λ n. n < bit)) (IsSetIn place cells) old mid
    → Widens (IsSetAt place cells (λ n. n ≡ bit)) (IsSetIn place cells) mid new
    → Widens (IsSetAt place cells (λ n. n < bit + 1)) (IsSetIn place cells) old new
bits_more place cells bit old mid new p q =
    widens_then _ _ _ _ _ _ old mid new
    (λ c m. elim (cases_eq (bit_of place c) bit) [
      | inl e ↦ inr (record { set_in = m.set_in; is = e })
      | inr e ↦ inl (record { set_in = m.set_in; is = (let b = m.is in omega arith) })
    ])
    (λ c m. m) (λ c m. m) p q

pub bits_all : (place : Block) (cells : Cell → Bool) (bit : ℕ) (old new : Option Boxed)
    → place.level ≡ 0 → bit ≡ 64
    → Widens (IsSetAt place cells (λ n. n < bit)) (IsSetIn place cells) old new
    → Widens (IsSetIn place cells) (IsSetIn place cells) old new
bits_all place cells bit old new e f p =
    let side : block_side place.level ≡ 4 = ap block_side e in
    widens_for _ _ _ _ old new
    (λ c m.
    let i = m.inside in
    let x0 = i.x.0 in
    let x1 = i.x.1 in
    let y0 = i.y.0 in
    let y1 = i.y.1 in
    let z0 = i.z.0 in
    let z1 = i.z.1 in
    record { set_in = m; is = omega arith })
    (λ c m. m) p

-- a leaf whose set cells all lie in the box
pub leaf_found : (bits mask : ℕ) (b : Boxed) (place : Block) (found : Option Boxed)
    → place.level ≡ 0 → found ≡ Some b → LeafShows mask place (is_in_box b)
    → bit_and bits mask ≡ bits → (cells : Cell → Bool) → LeafShows bits place cells
    → Widens (IsSetIn place cells) (IsSetIn place cells) found found
leaf_found bits mask b place found e is in_mask all cells shows =
    widens_same _ _ found (λ c m.
    let side : block_side place.level ≡ 4 = ap block_side e in
    let i = m.inside in
    let x : ℕ = c.x - place.at.x in
    let y : ℕ = c.y - place.at.y in
    let z : ℕ = c.z - place.at.z in
    let lx : x < 4 = omega (arith, side, i.x.0, i.x.1) in
    let ly : y < 4 = omega (arith, side, i.y.0, i.y.1) in
    let lz : z < 4 = omega (arith, side, i.z.0, i.z.1) in
    let n : ℕ = bit_number x y z in
    let there : c ≡ cell_at (place.at.x + x) (place.at.y + y) (place.at.z + z) =
    same_cell c _ _ _ (omega (arith, i.x.0)) (omega (arith, i.y.0)) (omega (arith, i.z.0))
    in
    let set : (bit_at bits n == 1) ≡ true = shows.each x y z lx ly lz ∙ ap cells (sym there) ∙ m.set in
    let ones : (bit_at bits n == 1) && (bit_at mask n == 1) ≡ true =
    sym (both (bit_at bits n) (bit_at mask n) (bit_at-lt bits n) (bit_at-lt mask n))
    ∙ sym (ap (λ (w : ℕ). w == 1) (bit_at_and bits mask n))
    ∙ ap (λ (w : ℕ). bit_at w n == 1) all ∙ set
    in
    let inside : is_in_box b c ≡ true =
    ap (is_in_box b) there ∙ sym (in_mask.each x y z lx ly lz)
    ∙ (and_parts (bit_at bits n == 1) (bit_at mask n == 1) ones).1
    in
    subst (λ (f : Option Boxed). IsFound f c) (sym is) (is_in_box_tells b c inside))

-- the box of a whole world
pub shown_root : (level : ℕ) (test : Cell → Bool)
    → ShowsPassed (record { level = level; at = cell_at 0 0 0 }) test test
shown_root level test =
    record {
      each = λ c i. ap test (same_cell c (0 + c.x) (0 + c.y) (0 + c.z) (omega arith) (omega arith)
          (omega arith));
    }

pub root_extent : (side level : ℕ) (cells : Cell → Bool) (new : Option Boxed) → side ≡ block_side level
    → Widens (IsSetIn (record { level = level; at = cell_at 0 0 0 }) cells)
    (IsSetIn (record { level = level; at = cell_at 0 0 0 }) cells) None new
    → IsExtent side cells new
root_extent side level cells None e p = λ c i. elim (cases_Bool (cells c)) [
  | inl set ↦ absurd
      (p.holds c (record {
        inside =
            record {
              x = (omega arith, omega (arith, e, i.x));
              y =
                  (omega arith, omega (arith, e, i.y));
              z =
                  (omega arith, omega (arith, e, i.z));
            };
        set = set;
      }))
  | inr unset ↦ unset
]
root_extent side level cells (Some b) e p =
    let w = p.some b refl refl in
    let at = w.1.inside in
    record {
      some = w.0;
      inside = record {
        x = omega (arith, e, at.x.1);
        y = omega (arith, e, at.y.1);
        z = omega
            (arith, e, at.z.1);
      };
      set = w.1.set;
      holds = record {
        each = λ c i set. p.holds c
            (record {
              inside =
                  record {
                    x = (omega arith, omega (arith, e, i.x));
                    y =
                        (omega arith, omega (arith, e, i.y));
                    z =
                        (omega arith, omega (arith, e, i.z));
                  };
              set = set;
            });
      };
      least = λ d all. p.least d tt
          (λ c m. (let i = m.inside in all.each c
          (record {
            x = omega (arith, e, i.x.1);
            y = omega (arith, e, i.y.1);
            z = omega
                (arith, e, i.z.1);
          }) m.set));
    }

pub block_extent : (held : List Tree) (level : ℕ) (name : Option Name) (new : Option Boxed)
    → ((cells test : Cell → Bool) → PassesSet held level name test
    → ShowsPassed (record { level = level; at = cell_at 0 0 0 }) test cells
    → Widens (IsSetIn (record { level = level; at = cell_at 0 0 0 }) cells)
    (IsSetIn (record { level = level; at = cell_at 0 0 0 }) cells) None new)
    → ForBlock held level name (λ s. IsExtent (block_side level) (cells_of level s) new)
block_extent held level name new widens t o =
    let cells : Cell → Bool = cells_of level (shape_of t) in
    root_extent (block_side level) level cells new refl
    (widens cells cells (block_set held level name t o) (shown_root level cells))

pub world_extent : (held : List Tree) (level side : ℕ) (root name : Option Name)
    (new : Option Boxed) → level ≡ side - 2 → 2 ≤ side → name ≡ root
    → ForBlock held level name (λ s. IsExtent (block_side level) (cells_of level s) new)
    → ForWorld held side root (λ cells. IsExtent (2 ^ side) cells new)
world_extent held level side root name new e h n extent t o =
    let there =
    subst (λ (m : Option Name). IsBlockOf held level m t) (sym n)
    (subst (λ (l : ℕ). IsBlockOf held l root t) (sym e) o) in
    let all =
    subst (λ (s : ℕ). IsExtent s (cells_of level (shape_of t)) new)
    (sym (root_side level side e h)) (extent t there) in
    subst (λ (l : ℕ). IsExtent (2 ^ side) (cells_of l (shape_of t)) new) e all

pub root_lies : (level : ℕ) → level ≤ 10
    → LiesIn 4096 (record { level = level; at = cell_at 0 0 0 })
root_lies level h =
    let side = small_side level h in record
    { x = omega (arith, side); y = omega (arith, side); z = omega (arith, side) }

-- a child's level and block
pub child_level : (place child : Block) (k : ℕ) → child ≡ octant_of place k
    → child.level ≡ place.level - 1
child_level place child k e = ap (λ (b : Block). b.level) e
