-- A walk from clear box to clear box meets the first set cell.
use Rattle.std.proofs.Common.{◌≡◌, ℕ, ◌^◌, ◌≤◌, Bool, true, Option, inl, inr, subst, arith}
use lib.Pow.{pow_mono}
use Rattle.std.proofs.lemmas.Bool.{cases_lt}
use Rattle.vw_cell.specs.declared.cells.Cell.{Cell}
use Rattle.vw_cell.specs.declared.boxes.Boxed.{Boxed}
use Rattle.vw_cell.specs.Places.{block_side, IsInWorld, IsInBox}
use Rattle.node_words.specs.declared.shapes.names.Name.{Name}
use Rattle.node_words.specs.shapes.Tree.{Tree, shape_of}
use Rattle.node_words.specs.Held.{StoreState}
use Rattle.node_words.specs.descent.Roots.{IsBlockOf, HasBlock, cells_of}
use Rattle.node_words.specs.descent.Looks.{IsClearRound}
use Rattle.node_words.specs.descent.Parts.{EndsBy}
use Rattle.node_words.proofs.OfDescent.LookLaws.{block_still}
use Rattle.ray_walk.specs.declared.courses.Course.{Course}
use Rattle.ray_walk.specs.Courses.{IsCourseIn, CourseClearBefore, InBoxUntil, HasLeft, CourseHits, CourseMisses}

-- nothing is met before the beginning
pub clear_at_first : (r : Course) (side : ℕ) (cells : Cell → Bool)
    → CourseClearBefore r side cells 0
clear_at_first r side cells = record { each = λ j c lt. absurd (omega arith) }

-- nor while the course is in a clear box
pub clear_on : (r : Course) (side k next : ℕ) (cells : Cell → Bool) (c : Cell) (b : Boxed)
    → CourseClearBefore r side cells k → IsClearRound side cells c b → InBoxUntil r b k next
    → CourseClearBefore r side cells next
clear_on r side k next cells c b before clear stays = record {
  each = λ j q lt at i. elim
      (cases_lt j k) [
        | inl early ↦ before.each j q early at i
        | inr late ↦ clear.clear q
            (stays.each j q late lt at)
      ];
}

-- nor once the course has left
pub misses : (r : Course) (side k : ℕ) (cells : Cell → Bool) → CourseClearBefore r side cells k
    → HasLeft r side k → CourseMisses r side cells
misses r side k cells before left = record {
  each = λ j q at i. elim
      (cases_lt j k) [
        | inl early ↦ before.each j q early at i
        | inr late ↦ absurd
            (left.each j q late at i)
      ];
}

-- the same of a block, over what is seen of its store
pub block_clear_on : (a b : StoreState) (level : ℕ) (block : Option Name) (r : Course) (k next : ℕ)
    (c : Cell) (clear : Boxed) → b ≡ a
    → ((t : Tree) → IsBlockOf b.held level block t
    → IsClearRound (block_side level) (cells_of level (shape_of t)) c clear)
    → InBoxUntil r clear k next
    → ((t : Tree) → IsBlockOf a.held level block t
    → CourseClearBefore r (block_side level) (cells_of level (shape_of t)) k)
    → (t : Tree) → IsBlockOf a.held level block t
    → CourseClearBefore r (block_side level) (cells_of level (shape_of t)) next
block_clear_on a b level block r k next c clear e told stays before t o =
    clear_on r (block_side level) k next (cells_of level (shape_of t)) c clear (before t o)
    (told t (block_still a b level block t e o)) stays

pub block_first : (a b : StoreState) (level : ℕ) (block : Option Name) (r : Course) (k : ℕ) (c : Cell)
    → b ≡ a → IsCourseIn r k c → IsInWorld (block_side level) c
    → ((t : Tree) → IsBlockOf b.held level block t → cells_of level (shape_of t) c ≡ true)
    → ((t : Tree) → IsBlockOf a.held level block t
    → CourseClearBefore r (block_side level) (cells_of level (shape_of t)) k)
    → (t : Tree) → IsBlockOf a.held level block t
    → CourseHits r (block_side level) (cells_of level (shape_of t)) c
block_first a b level block r k c e at i told before t o =
    record {
      instant = k;
      at = at;
      in_world = i;
      set = told t
          (block_still a b level block t e o);
      before = before t o;
    }

small_side : (level : ℕ) → level ≤ 10 → block_side level ≤ 4096
small_side level h = let bound : 2 ^ level ≤ 2 ^ 10 = pow_mono h in omega (arith, bound)

-- the box around a cell of a block ends in the greatest world
pub ends_in_block : (a b : StoreState) (level : ℕ) (block : Option Name) (c : Cell) (clear : Boxed)
    → b ≡ a → level ≤ 10 → HasBlock a.held level block
    → ((t : Tree) → IsBlockOf b.held level block t
    → IsClearRound (block_side level) (cells_of level (shape_of t)) c clear)
    → EndsBy 4096 clear × IsInBox clear c
ends_in_block a b level block c clear e h has told =
    let is = told has.tree (block_still a b level block has.tree e has.is_block) in
    let side = small_side level h in
    let ends = is.ends in (
      record {
        x = omega (arith, side, ends.x);
        y = omega (arith, side, ends.y);
        z = omega
            (arith, side, ends.z);
      },
      is.around,
    )

-- the walk misses
pub block_misses : (a b : StoreState) (level side : ℕ) (block : Option Name) (r : Course) (k next : ℕ)
    (c : Cell) (clear : Boxed) → b ≡ a → side ≡ block_side level
    → ((t : Tree) → IsBlockOf b.held level block t
    → IsClearRound (block_side level) (cells_of level (shape_of t)) c clear)
    → InBoxUntil r clear k next → HasLeft r side next
    → ((t : Tree) → IsBlockOf a.held level block t
    → CourseClearBefore r (block_side level) (cells_of level (shape_of t)) k)
    → (t : Tree) → IsBlockOf a.held level block t
    → CourseMisses r (block_side level) (cells_of level (shape_of t))
block_misses a b level side block r k next c clear e s told stays left before t o =
    misses r (block_side level) next (cells_of level (shape_of t))
    (block_clear_on a b level block r k next c clear e told stays before t o)
    (subst (λ (n : ℕ). HasLeft r n next) s left)
