-- What steps tell for whatever trees the names of a view have: each name has one.
use Rattle.std.proofs.Common.{◌≡◌, ℕ, ◌+◌, ◌<◌, ◌≤◌, Some, None, Option, List, refl, sym, ap, ◌∙◌, subst, arith}
use Rattle.node_words.specs.declared.shapes.names.Name.{Name}
use Rattle.node_words.specs.shapes.Tree.{Tree, root_of, shape_of}
use Rattle.node_words.specs.shapes.Weights.{number_of_trees}
use Rattle.node_words.proofs.OfShapes.TreeLaws.{gone_from_root}
use Rattle.node_words.proofs.OfShapes.WeightLaws.{weight_of-there, weight_below-part, weight_below-same}
use Rattle.node_words.specs.declared.keys.Key as keys
use Rattle.node_words.specs.declared.keys.Key.TheVariants.{Leaf, Node}
use Rattle.node_words.specs.Held.{IsHeld, IsReached, AreHeld, HoldsChildren, ReachesName, name_in, most_before_freeing}
use Rattle.node_words.specs.Plans.{Layout}
use Rattle.node_words.proofs.HeldLaws.{held_reached}
use Rattle.core_laws.specs.places.WordIds.{WordId, key_words}
use Rattle.core_laws.specs.places.Names.{key_child}
use Rattle.core_laws.specs.States.{State}
use Rattle.core_laws.specs.Events.{Rests, Adds, Lowers, Frees}
use Rattle.core_laws.proofs.Trees.{node_at-same}
use Rattle.table_rule.specs.Reading.{book_of}
use Rattle.table_rule.specs.Views.{SeatView, bucket_of, key_word_id, known_at}
use Rattle.table_rule.specs.Rules.{MayWrite}
use Rattle.table_rule.specs.ViewFacts.{ViewFacts, tree_word}
use Rattle.table_rule.specs.Changes.{making, tree_for, children_of_key, meeting, wanted, IsReady, IsFullIn, Published, Lowered, Freed}
use Rattle.table_rule.proofs.Publishing.{MayPublish, publishes}
use Rattle.table_rule.proofs.Loads.{meets, peeks}
use Rattle.table_rule.proofs.Books.{lowers_share, frees_share}

-- a step that tells a fact tells what follows from it
pub told_more : (p : Layout) (seat : ℕ) (v : SeatView) (x : WordId) (f : ℕ → ℕ)
    (E : State → State → Type 0) (A B : ℕ → SeatView → Type 0)
    → ((k : ℕ) (w : SeatView) → A k w → B k w) → MayWrite p seat v x f E A
    → MayWrite p seat v x f E B
told_more p seat v x f E A B more may models mem views r at =
    let t = may models mem views r at in
    record {
      view = t.view;
      rule = t.rule;
      event = t.event;
      same = t.same;
      told = more (mem x) t.view t.told;
    }

pub child_named : (key : keys.Key) (k : ℕ) → key_child key k ≡ name_in (children_of_key key) k
child_named (Leaf bits) k = refl
child_named (Node children) k = refl

-- a tree of a row whose trees are held is held
pub row_reached : (held : List Tree) (children : List (Option Name)) (row : ℕ → Tree) (k : ℕ)
    (n : Name) → k < 8 → AreHeld held children row → root_of (row k) ≡ Some n
    → IsReached held (row k)
row_reached held children row k n lt are root =
    held_reached held (row k)
    (record {
      weighs =
          λ f. (let a = weight_of-there f (row k) n root in
          let b = weight_below-part f row k 8 lt in let h = are.weighs f in omega arith);
    })

one_row : (v : SeatView) (children : List (Option Name)) (row other : ℕ → Tree) → ViewFacts v
    → AreHeld v.held children row → AreHeld v.held children other → (k : ℕ) → k < 8
    → (o : Option Name) → name_in children k ≡ o → row k ≡ other k
one_row v children row other tells a b k lt None e = gone_from_root (row k) (a.names k lt ∙ e)
    ∙ sym (gone_from_root (other k) (b.names k lt ∙ e))
one_row v children row other tells a b k lt (Some n) e =
    let x = a.names k lt ∙ e in let y = b.names k lt ∙ e in
    tells.trees.named (row k) (other k) (row_reached v.held children row k n lt a x)
    (row_reached v.held children other k n lt b y) (x ∙ sym y)

pub rows_agree : (v : SeatView) (children : List (Option Name)) (row other : ℕ → Tree) → ViewFacts v
    → AreHeld v.held children row → AreHeld v.held children other → (k : ℕ) → k < 8
    → row k ≡ other k
rows_agree v children row other tells a b k lt =
    one_row v children row other tells a b k lt (name_in children k) refl

tree_same : (n : Name) (key : keys.Key) (row other : ℕ → Tree)
    → ((k : ℕ) → k < 8 → row k ≡ other k) → tree_for n key row ≡ tree_for n key other
tree_same n (Leaf bits) row other same = refl
tree_same n (Node children) row other same = node_at-same n row other same

-- an entry is added, for whatever trees the children have
pub publishes_any : (p : Layout) (seat : ℕ) (v : SeatView) (n : Name) (key : keys.Key)
    (row : ℕ → Tree) → ViewFacts v → AreHeld v.held (children_of_key key) row
    → MayPublish p v n key row
    → MayWrite p seat v (book_of n) (λ _. 1) (Adds p seat n key)
    (λ _ w. (other : ℕ → Tree) → AreHeld v.held (children_of_key key) other
    → Published v n key other w)
publishes_any p seat v n key row tells are may =
    told_more p seat v (book_of n) (λ _. 1) (Adds p seat n key) (λ _ w. Published v n key row w)
    (λ _ w. (other : ℕ → Tree) → AreHeld v.held (children_of_key key) other
    → Published v n key other w)
    (λ k w e other of. (
    let same = rows_agree v (children_of_key key) row other tells are of in
    let t = tree_same n key row other same in record {
      held = e.held;
      weighs =
          λ f. (let a = e.weighs f in let b = weight_below-same f row other 8 same in
          let c = ap f t in omega arith);
      is = e.is ∙ ap (λ (u : Tree). making v n e.held (shape_of u)) t;
    }))
    (publishes p seat v n key row may)

-- a share goes, for whatever tree it has
pub lowers_any : (p : Layout) (seat : ℕ) (v : SeatView) (t : Tree) (n : Name) (book : ℕ)
    → ViewFacts v
    → v.turn ≡ Some (bucket_of n) → IsHeld v.held t → root_of t ≡ Some n
    → known_at (book_of n) v.words ≡ Some (book + 1) → 0 < book
    → MayWrite p seat v (book_of n) (λ _. book) (Lowers p seat n)
    (λ _ w. (u : Tree) → IsHeld v.held u → root_of u ≡ Some n → Lowered v u n book w)
lowers_any p seat v t n book tells has held root known some =
    told_more p seat v (book_of n) (λ _. book) (Lowers p seat n) (λ _ w. Lowered v t n book w)
    (λ _ w. (u : Tree) → IsHeld v.held u → root_of u ≡ Some n → Lowered v u n book w)
    (λ k w e u h r. subst (λ (x : Tree). Lowered v x n book w)
    (tells.trees.named t u (held_reached v.held t held) (held_reached v.held u h)
    (root ∙ sym r)) e)
    (lowers_share p seat v t n book has held root known some)

pub frees_any : (p : Layout) (seat : ℕ) (v : SeatView) (t : Tree) (n : Name) → ViewFacts v
    → v.turn ≡ Some (bucket_of n) → IsHeld v.held t → root_of t ≡ Some n
    → known_at (book_of n) v.words ≡ Some 1 → number_of_trees v.held ≤ most_before_freeing
    → MayWrite p seat v (book_of n) (λ _. 0) (Frees p seat n)
    (λ _ w. (u : Tree) → IsHeld v.held u → root_of u ≡ Some n → Freed v u n w)
frees_any p seat v t n tells has held root known room =
    told_more p seat v (book_of n) (λ _. 0) (Frees p seat n) (λ _ w. Freed v t n w)
    (λ _ w. (u : Tree) → IsHeld v.held u → root_of u ≡ Some n → Freed v u n w)
    (λ k w e u h r. subst (λ (x : Tree). Freed v x n w)
    (tells.trees.named t u (held_reached v.held t held) (held_reached v.held u h)
    (root ∙ sym r)) e)
    (frees_share p seat v t n has held root known room)

-- what a view knows is enough for a new entry
pub may_publish : (p : Layout) (v : SeatView) (n : Name) (key : keys.Key)
    → v.turn ≡ Some (bucket_of n) → n.slot < p.cap → (r : IsReady p v n key)
    → MayPublish p v n key r.held.row
may_publish p v n key turn slot r = record {
  turn = turn;
  slot = slot;
  free = r.free;
  used = r.used;
  has_key = r.has_key;
  fits = r.fits;
  bucket = r.bucket;
  missing = r.missing;
  names = λ k lt. r.held.are_held.names k lt ∙ sym (child_named key k);
  held = r.held.are_held.weighs;
  room = r.room;
}

pub publishes_ready : (p : Layout) (seat : ℕ) (v : SeatView) (n : Name) (key : keys.Key)
    → ViewFacts v
    → v.turn ≡ Some (bucket_of n) → n.slot < p.cap → IsReady p v n key
    → MayWrite p seat v (book_of n) (λ _. 1) (Adds p seat n key)
    (λ _ w. (row : ℕ → Tree) → AreHeld v.held (children_of_key key) row
    → Published v n key row w)
publishes_ready p seat v n key tells turn slot r =
    publishes_any p seat v n key r.held.row tells r.held.are_held
    (may_publish p v n key turn slot r)

-- the load that notes a full bucket, for the trees of the wanted children
pub meets_any : (p : Layout) (seat : ℕ) (v : SeatView) (x : WordId) (n : Name) (key : keys.Key)
    → ViewFacts v → v.turn ≡ Some (bucket_of n) → IsFullIn v.words (bucket_of n) p.cap
    → HoldsChildren v.held (children_of_key key)
    → MayWrite p seat v x (λ k. k) (Rests p)
    (λ _ w. (row : ℕ → Tree) → AreHeld v.held (children_of_key key) row
    → w ≡ meeting v (wanted n key row))
meets_any p seat v x n key tells turn full h =
    told_more p seat v x (λ k. k) (Rests p) (λ _ w. w ≡ meeting v (wanted n key h.row))
    (λ _ w. (row : ℕ → Tree) → AreHeld v.held (children_of_key key) row
    → w ≡ meeting v (wanted n key row))
    (λ k w e row of. e
    ∙ ap (λ (t : Tree). meeting v
    (record { level = n.level; bucket = n.bucket; shape = shape_of t }))
    (tree_same n key h.row row
    (rows_agree v (children_of_key key) h.row row tells h.are_held of)))
    (meets p seat v (bucket_of n) x (wanted n key h.row) turn full refl refl)

-- a word is read, for whatever tree the name has
pub peeks_any : (p : Layout) (seat : ℕ) (v : SeatView) (n : Name) (i : ℕ) → ViewFacts v
    → ReachesName v.held n → i < key_words n.level
    → MayWrite p seat v (key_word_id n i) (λ k. k) (Rests p)
    (λ k w. (w ≡ v)
    × ((t : Tree) → IsReached v.held t → root_of t ≡ Some n → k ≡ tree_word t i))
peeks_any p seat v n i tells r lt =
    told_more p seat v (key_word_id n i) (λ k. k) (Rests p)
    (λ k w. (w ≡ v) × (k ≡ tree_word r.tree i))
    (λ k w. (w ≡ v)
    × ((t : Tree) → IsReached v.held t → root_of t ≡ Some n → k ≡ tree_word t i))
    (λ k w e. (
      e.0,
      λ t h root. e.1
          ∙ ap (λ (u : Tree). tree_word u i)
          (tells.trees.named r.tree t r.reached h (r.root ∙ sym root)),
    ))
    (peeks p seat v r.tree n i r.reached r.root lt)
