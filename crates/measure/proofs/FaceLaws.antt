-- What counts for the faces of a block, of nothing, of a leaf, of an octant and of a world.
use Rattle.std.proofs.Common.{◌≡◌, ℕ, ◌+◌, ◌-◌, ◌^◌, ◌<◌, ◌≤◌, None, Option, List, Bool, true, false, refl, sym, ap, subst, ◌∙◌, arith}
use Rattle.std.specs.Prelude.{◌&&◌, not, nat_lt, if◌then◌else◌, bit_and}
use Rattle.vw_cell.specs.declared.cells.Cell.{Cell}
use Rattle.vw_cell.specs.declared.boxes.Boxed.{Boxed}
use Rattle.vw_cell.specs.Places.{block_side}
use Rattle.vw_cell.specs.Counts.{cell_at, number_in}
use Rattle.node_words.specs.declared.shapes.names.Name.{Name}
use Rattle.node_words.specs.shapes.Shape.{Shape, Clear, bits_of, octant_shape}
use Rattle.node_words.specs.shapes.Tree.{Tree, Gone, shape_of, child_of}
use Rattle.node_words.proofs.OfShapes.ShapeLaws.{has-clear}
use Rattle.node_words.proofs.OfShapes.TreeLaws.{shape_of-child}
use Rattle.node_words.specs.Held.{StoreState}
use Rattle.node_words.specs.descent.Roots.{IsBlockOf, IsOctantOf, HasBlock, ForBlock, ForWorld, cells_of}
use Rattle.node_words.specs.descent.Parts.{EndsBy, placed}
use Rattle.node_words.proofs.OfDescent.BlockLaws.{clear_block, nothing_block}
use Rattle.node_words.proofs.OfDescent.LookLaws.{block_still, root_side}
use Rattle.node_words.proofs.OfDescent.PartLaws.{placed_in}
use Rattle.vw_cell.specs.declared.directions.Direction.{Direction}
use Rattle.vw_cell.specs.declared.directions.Direction.TheVariants.{LowX, HighX, LowY, HighY, LowZ, HighZ}
use Rattle.vw_cell.specs.Faces.{has_next, is_exposed, faces_in}
use Rattle.measure.specs.Leaves.{BitsPassTest}
use Rattle.measure.specs.Tallies.{in_octant, PassesNone}
use Rattle.measure.specs.Exposed.{is_next_set, exposed_of, across, stays, beside_shape, beside_tree, PassesExposed}
use Rattle.measure.proofs.BareLaws.{bare_in}
use Rattle.measure.proofs.BareLeaves.{bare_tells}
use Rattle.measure.proofs.TallyLaws.{number_small, small_side}

pub nothing_bare : (d : Direction) (held : List Tree) (level : ℕ) (block beside : Option Name)
    (test : Cell → Bool) → block ≡ None → PassesExposed d held level block beside test
    → PassesNone level test
nothing_bare d held level block beside test e p = record {
  each = λ c i. p.shows c i
      ∙ ap (λ (s : Shape). cells_of level s c && not (is_next_set d level s (shape_of p.next) c))
      (clear_block held level p.tree
      (subst (λ (n : Option Name). IsBlockOf held level n p.tree) e p.is_block))
      ∙ ap (λ (set : Bool). set && not (is_next_set d level Clear (shape_of p.next) c))
      (has-clear level c.x c.y c.z);
}

pub leaf_bare : (d : Direction) (a b : StoreState) (block beside : Option Name) (bits bits' next word : ℕ)
    (test : Cell → Bool) → b ≡ a → next < 2 ^ 64 → word ≡ 2 ^ 64 - 1 - next
    → ForBlock a.held 0 block (λ s. bits ≡ bits_of s)
    → ForBlock b.held 0 beside (λ s. bits' ≡ bits_of s)
    → ((s u : Shape) → bits ≡ bits_of s → bits' ≡ bits_of u → BitsPassTest next (is_next_set d 0 s u))
    → PassesExposed d a.held 0 block beside test → BitsPassTest (bit_and bits word) test
leaf_bare d a b block beside bits bits' next word test e small w told told' shows p =
    let is = told p.tree p.is_block in
    let is' = told' p.next (block_still a b 0 beside p.next e p.is_beside) in
    let t =
    bare_tells d bits next (shape_of p.tree) (shape_of p.next) small is
    (shows (shape_of p.tree) (shape_of p.next) is is') in
    subst (λ (v : ℕ). BitsPassTest (bit_and bits v) test) (sym w)
    (record {
      each = λ x y z lx ly lz. t.each x y z lx ly lz
          ∙ sym (p.shows (cell_at x y z) (record { x = lx; y = ly; z = lz }));
    })

-- the tree of which the octant across is one
pub from_tree : (v : Bool) (held : List Tree) (level : ℕ) (block beside : Option Name) (t u : Tree)
    → IsBlockOf held level block t → IsBlockOf held level beside u
    → IsBlockOf held level (if v then block else beside) (if v then t else u)
from_tree true held level block beside t u p q = p
from_tree false held level block beside t u p q = q

-- what stands in the block of which it is one
abbrev pub from_there : (d : Direction) (a b : StoreState) (level k : ℕ) (block beside from : Option Name)
    (v : Bool) (test : Cell → Bool) → b ≡ a → v ≡ stays d k → from ≡ (if v then block else beside)
    → PassesExposed d a.held level block beside test → HasBlock b.held level from
from_there d a b level k block beside from v test e w f p = record {
  tree = if v then p.tree else p.next;
  is_block = block_still a b level from (if v then p.tree else p.next) e
      (subst (λ (n : Option Name). IsBlockOf a.held level n (if v then p.tree else p.next)) (sym f)
      (from_tree v a.held level block beside p.tree p.next p.is_block p.is_beside));
}

beside_is : (v : Bool) (t u : Tree) (o : ℕ)
    → shape_of (child_of (if v then t else u) o) ≡ octant_shape
    (if v then shape_of t else shape_of u) o
beside_is true t u o = shape_of-child t o
beside_is false t u o = shape_of-child u o

pub octant_bare : (d : Direction) (a b : StoreState) (level k j : ℕ)
    (block beside from child child' : Option Name) (v : Bool) (test : Cell → Bool) → b ≡ a
    → v ≡ stays d k → from ≡ (if v then block else beside) → j ≡ across d k → 1 ≤ level → k < 8
    → IsOctantOf a.held level block k child → IsOctantOf b.held level from j child'
    → PassesExposed d a.held level block beside test
    → PassesExposed d a.held (level - 1) child child' (in_octant level k test)
octant_bare d a b level k j block beside from child child' v test e w f g h lt down down' p =
    let there =
    from_there d a b level k block beside from (stays d k) test e refl
    (f ∙ ap (λ (u : Bool). if u then block else beside) w) p in
    let next : IsBlockOf b.held (level - 1) child' (beside_tree d p.tree p.next k) =
    subst (λ (i : ℕ). IsBlockOf b.held (level - 1) child'
    (child_of (if stays d k then p.tree else p.next) i)) g
    (down' (if stays d k then p.tree else p.next) there.is_block)
    in
    record {
      tree = child_of p.tree k;
      is_block = down p.tree p.is_block;
      next = beside_tree d p.tree p.next k;
      is_beside = block_still b a (level - 1) child' (beside_tree d p.tree p.next k) (sym e) next;
      shows = λ c i. p.shows (placed (block_side (level - 1)) k c) (placed_in level k c h lt i)
          ∙ bare_in d level (shape_of p.tree) (shape_of p.next) k c h lt i
          ∙ ap
          (λ (s : Shape). exposed_of d (level - 1) s
          (beside_shape d (shape_of p.tree) (shape_of p.next) k) c)
          (sym (shape_of-child p.tree k))
          ∙ ap (λ (s : Shape). exposed_of d (level - 1) (shape_of (child_of p.tree k)) s c)
          (sym (beside_is (stays d k) p.tree p.next (across d k)));
    }

-- beside a world stands nothing
last : (v a n : Bool) → n ≡ false → (v && a) ≡ (if v then a else n)
last true a n e = refl
last false a n e = sym e

next_world : (d : Direction) (level : ℕ) (s : Shape) (c : Cell)
    → has_next d (block_side level) (cells_of level s) c ≡ is_next_set d level s Clear c
next_world LowX level s c = last (nat_lt 0 c.x) _ _ (has-clear level (block_side level - 1) c.y c.z)
next_world HighX level s c =
    last (nat_lt (c.x + 1) (block_side level)) _ _ (has-clear level 0 c.y c.z)
next_world LowY level s c = last (nat_lt 0 c.y) _ _ (has-clear level c.x (block_side level - 1) c.z)
next_world HighY level s c =
    last (nat_lt (c.y + 1) (block_side level)) _ _ (has-clear level c.x 0 c.z)
next_world LowZ level s c = last (nat_lt 0 c.z) _ _ (has-clear level c.x c.y (block_side level - 1))
next_world HighZ level s c =
    last (nat_lt (c.z + 1) (block_side level)) _ _ (has-clear level c.x c.y 0)

-- what is exposed in a world is so in its block, which has nothing beside it
pub world_bare : (d : Direction) (held : List Tree) (level : ℕ) (block : Option Name) (t : Tree)
    → IsBlockOf held level block t
    → PassesExposed d held level block None
    (is_exposed d (block_side level) (cells_of level (shape_of t)))
world_bare d held level block t b =
    let nothing = nothing_block held level in
    record {
      tree = t;
      is_block = b;
      next = Gone;
      is_beside = nothing;
      shows = λ c _. ap (λ (set : Bool). cells_of level (shape_of t) c && not set)
          (next_world d level (shape_of t) c
          ∙ ap (λ (s : Shape). is_next_set d level (shape_of t) s c)
          (sym (clear_block held level Gone nothing)));
    }

pub some_bare : (d : Direction) (held : List Tree) (level : ℕ) (block : Option Name)
    → HasBlock held level block → (test : Cell → Bool) × PassesExposed d held level block None test
some_bare d held level block h = (
  is_exposed d (block_side level)
      (cells_of level (shape_of h.tree)),
  world_bare d held level block h.tree h.is_block,
)

pub number_bare : (d : Direction) (held : List Tree) (level number : ℕ) (block : Option Name)
    (part : Boxed)
    →
    ((test : Cell → Bool) → PassesExposed d held level block None test → number
    ≡ number_in part test)
    → ForBlock held level block
    (λ s. number ≡ number_in part (is_exposed d (block_side level) (cells_of level s)))
number_bare d held level number block part told t b =
    told (is_exposed d (block_side level) (cells_of level (shape_of t)))
    (world_bare d held level block t b)

pub bare_small : (d : Direction) (held : List Tree) (level number : ℕ) (block : Option Name)
    (part : Boxed) → level ≤ 10 → EndsBy (block_side level) part → HasBlock held level block
    →
    ((test : Cell → Bool) → PassesExposed d held level block None test → number
    ≡ number_in part test) → number ≤ 2 ^ 36
bare_small d held level number block part h ends there told =
    let side = small_side level h in
    let some = some_bare d held level block there in
    let is = told some.0 some.1 in
    let small =
    number_small part some.0 (omega (arith, ends.x, side)) (omega (arith, ends.y, side))
    (omega (arith, ends.z, side)) in
    omega (arith, is, small)

-- the faces of the root's block are those of its world
pub faces_in_world : (held : List Tree) (level side number : ℕ) (root name : Option Name)
    (b : Boxed) → level ≡ side - 2 → 2 ≤ side → name ≡ root
    → ForBlock held level name (λ s. number ≡ faces_in (block_side level) (cells_of level s) b)
    → ForWorld held side root (λ cells. number ≡ faces_in (2 ^ side) cells b)
faces_in_world held level side number root name b e h n told t o =
    let there =
    subst (λ (m : Option Name). IsBlockOf held level m t) (sym n)
    (subst (λ (l : ℕ). IsBlockOf held l root t) (sym e) o) in
    told t there
    ∙ ap (λ (w : ℕ). faces_in w (cells_of level (shape_of t)) b) (sym (root_side level side e h))
    ∙ ap (λ (l : ℕ). faces_in (2 ^ side) (cells_of l (shape_of t)) b) e

pub all_six : (a b c d e f a' b' c' d' e' f' : ℕ) → a ≡ a' → b ≡ b' → c ≡ c' → d ≡ d' → e ≡ e'
    → f ≡ f' → a + b + c + d + e + f ≡ a' + b' + c' + d' + e' + f'
all_six a b c d e f a' b' c' d' e' f' p q r s t u = rw (p, q, r, s, t, u) refl
