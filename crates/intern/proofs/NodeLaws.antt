-- What comes of asking for a node follows from what the view tells.
use Rattle.std.proofs.Common.{◌≡◌, ℕ, zero, suc, ◌+◌, ◌-◌, ◌*◌, ◌^◌, ◌<◌, ◌≤◌, Some, None, Option, List, ◌∷◌, length, refl, sym, ap, ◌∙◌, subst, inl, inr, arith}
use Rattle.std.specs.Prelude.{slice_index}
use Rattle.std.proofs.lemmas.Option.{same_Some}
use Rattle.node_words.specs.declared.shapes.names.Name.{Name}
use Rattle.node_words.specs.shapes.Shape.{Shape, branch_of, octant_shape}
use Rattle.node_words.specs.shapes.Tree.{Tree, Gone, LeafAt, NodeAt, root_of, child_of, shape_of, node_at, IsTreeAt}
use Rattle.node_words.specs.shapes.Weights.{weigh, number_of_trees}
use Rattle.node_words.specs.shapes.Buckets.{bucket_of_shape}
use Rattle.node_words.proofs.OfShapes.ShapeLaws.{octant_shape-branch_of}
use Rattle.node_words.proofs.OfShapes.TreeEqual.{same_name}
use Rattle.node_words.proofs.OfShapes.TreeLaws.{child_of-node_at, gone_from_root, shape_of-node, shape_of-gone, shape_of-some}
use Rattle.node_words.proofs.OfShapes.WeightLaws.{weigh-cons}
use Rattle.node_words.specs.declared.keys.Key.{Key}
use Rattle.node_words.specs.declared.keys.Key.TheVariants.{Node}
use Rattle.node_words.specs.declared.shares.Full.{Full}
use Rattle.node_words.specs.Gathering.{LosesAll}
use Rattle.node_words.specs.Held.{AreBelow, AreHeld, Gains, HasChild, IsReached, IsSought, Wanted, name_in, most_before_freeing}
use Rattle.node_words.specs.Keys.{ChildFits, bucket_of_key, of_node}
use Rattle.node_words.specs.Plans.{IsPlan, Layout, buckets_at}
use Rattle.node_words.proofs.HeldLaws.{child_level, children_canonical, gains_held, gains_keeps, held_reached, reached_child, reached_levels, reached_more, row_held}
use Rattle.node_words.proofs.KeyLaws.{key_bucket}
use Rattle.core_laws.specs.places.KeyWords.{key_word}
use Rattle.core_laws.specs.places.Names.{IsName, named}
use Rattle.core_laws.specs.places.WordIds.{WordId, key_words}
use Rattle.core_laws.specs.places.Words.{IsChildAt, word_of_child}
use Rattle.core_laws.proofs.OfPlaces.Children.{one_child}
use Rattle.node_table.proofs.PartA.{same_bucket}
use Rattle.node_table.specs.Rules.{SameSession}
use Rattle.node_table.specs.ViewFacts.{ViewFacts, tree_word, pair_of_children}
use Rattle.node_table.specs.Views.{BucketAt, SeatView, bucket_of}
use Rattle.node_table.specs.Changes.{HasKeyWords, PassesBelow, PassesEntry, under_turn, wanted}
use Rattle.node_table.proofs.Answering.{Keeps}
use Rattle.node_table.proofs.OnlyShares.{session_on}
use Rattle.node_table.proofs.ReadLaws.{child_fits, child_small, node_word}
use Rattle.node_table.specs.Acts.{OnlySharesChange, PublishesUnderTurn, RaisesUnderTurn}
use Rattle.node_table.specs.TableStates.{PassState, TableState, bucket_named}
use Rattle.intern.specs.Nodes.{HoldsBelow, IsHeldOver, InternsNode, NodeIsRefused}

-- what is asked of a call for a node
pub record Asks (v : SeatView) (level : ℕ) (names : List (Option Name))
    (row : ℕ → Tree) : Type 0 where
  pub plan : IsPlan v.plan
  pub tells : ViewFacts v
  pub eight : length names ≡ 8
  pub above : 1 ≤ level
  pub some : HasChild names
  pub below : AreBelow level names
  pub are : AreHeld v.held names row

-- what is wanted by the octants of a row
abbrev row_wanted : ℕ → ℕ → (ℕ → Tree) → Wanted
row_wanted level bucket row =
    record { level = level; bucket = bucket; shape = branch_of (λ k. shape_of (row k)) }

-- the words of a node over the row are those of the key of its names
node_words_are : (m : Name) (row : ℕ → Tree) (names : List (Option Name)) (i : ℕ) → i < 4
    → ((k : ℕ) → k < 8 → root_of (row k) ≡ name_in names k)
    → tree_word (node_at m row) i ≡ key_word (Node names) i
node_words_are m row names i lt same =
    let at : (k : ℕ) → k < 8
    → word_of_child (root_of (child_of (node_at m row) k)) ≡ word_of_child (name_in names k) =
    λ k lt. ap word_of_child (ap root_of (child_of-node_at m row k lt) ∙ same k lt) in
    let low = at (2 * i) (omega arith) in let high = at (2 * i + 1) (omega arith) in
    let split : tree_word (node_at m row) i ≡ pair_of_children (node_at m row) i = refl in
    omega (arith, low, high, split)

pair_same : (a b c d : ℕ) → a ≤ 2 ^ 24 → c ≤ 2 ^ 24 → a + 2 ^ 32 * b ≡ c + 2 ^ 32 * d
    → (a ≡ c) × (b ≡ d)
pair_same a b c d low low' e = (omega arith, omega arith)

-- what holds of both octants of each word holds of all eight
from_pairs : (P : ℕ → Type 0) → ((i : ℕ) → i < 4 → P (2 * i) × P (2 * i + 1)) → (k : ℕ) → k < 8
    → P k
from_pairs P h zero lt = (h 0 (omega arith)).0
from_pairs P h (suc zero) lt = (h 0 (omega arith)).1
from_pairs P h (suc (suc zero)) lt = (h 1 (omega arith)).0
from_pairs P h (suc (suc (suc zero))) lt = (h 1 (omega arith)).1
from_pairs P h (suc (suc (suc (suc zero)))) lt = (h 2 (omega arith)).0
from_pairs P h (suc (suc (suc (suc (suc zero))))) lt = (h 2 (omega arith)).1
from_pairs P h (suc (suc (suc (suc (suc (suc zero)))))) lt = (h 3 (omega arith)).0
from_pairs P h (suc (suc (suc (suc (suc (suc (suc zero))))))) lt = (h 3 (omega arith)).1
from_pairs P h (suc (suc (suc (suc (suc (suc (suc (suc k)))))))) lt = absurd (omega arith)

node_from_children : (level : ℕ) (t : Tree) (n : Name) (row : ℕ → Tree) → 1 ≤ level
    → IsTreeAt level t → root_of t ≡ Some n → ((k : ℕ) → k < 8 → child_of t k ≡ row k)
    → t ≡ node_at n row
unfolding IsTreeAt
node_from_children zero t n row above is root same = absurd (omega arith)
node_from_children (suc level) Gone n row above is root same = cc
node_from_children (suc level) (LeafAt m bits) n row above is root same = absurd is.0
node_from_children (suc level) (NodeAt m a b c d e f g h) n row above is root same =
    let name : m ≡ n = same_Some m n root in
    rw (
      name,
      same 0 (omega arith),
      same 1 (omega arith),
      same 2 (omega arith),
      same 3 (omega arith),
      same 4 (omega arith),
      same 5 (omega arith),
      same 6 (omega arith),
      same 7 (omega arith),
    ) refl

level_above : (l : ℕ) (m : Name) (row : ℕ → Tree) → IsTreeAt l (node_at m row) → 1 ≤ l
unfolding IsTreeAt
level_above zero m row is = absurd is
level_above (suc l) m row is = omega arith

pub asks : (v : SeatView) (p : Layout) (level : ℕ) (names children : List (Option Name))
    (row : ℕ → Tree) → IsPlan p → v.plan ≡ p → ViewFacts v → names ≡ children
    → length children ≡ 8 → 1 ≤ level → HasChild children → AreBelow level children
    → AreHeld v.held children row → Asks v level names row
asks v p level names children row plan same tells e eight above some below are = record {
  plan = subst (λ (x : Layout). IsPlan x) (sym same) plan;
  tells = tells;
  eight = ap length e ∙ eight;
  above = above;
  some = subst (λ (cs : List (Option Name)). HasChild cs) (sym e) some;
  below = subst (λ (cs : List (Option Name)). AreBelow level cs) (sym e) below;
  are = subst (λ (cs : List (Option Name)). AreHeld v.held cs row) (sym e) are;
}

module _ (v : SeatView) (level : ℕ) (names : List (Option Name)) (row : ℕ → Tree)
    (q : Asks v level names row) where
  child_reached : (k : ℕ) (m : Name) → k < 8 → name_in names k ≡ Some m → IsReached v.held (row k)
  child_reached k m lt e =
      held_reached v.held (row k) (row_held v.held names row k m q.are lt (q.are.names k lt ∙ e))

  child_name : (k : ℕ) (m : Name) → k < 8 → name_in names k ≡ Some m → IsName v.plan m
  child_name k m lt e =
      q.tells.names (row k) m (child_reached k m lt e) (q.are.names k lt ∙ e)

  names_small : (k : ℕ) → k < 8 → word_of_child (name_in names k) ≤ 2 ^ 24
  names_small k lt =
      child_small v.plan (name_in names k) q.plan (λ m e. child_name k m lt e)

  names_fit : (k : ℕ) → k < 8 → IsChildAt (level - 1) (name_in names k)
  names_fit k lt =
      child_fits v.plan (level - 1) (name_in names k) q.plan (λ m e. child_name k m lt e)
      (λ m e. (let l = q.below.each k m lt e in let a = q.above in omega arith))

  -- what an octant contains
  octant_is : (k : ℕ) → k < 8
      → octant_shape (branch_of (λ j. shape_of (row j))) k ≡ shape_of (row k)
  octant_is k lt = octant_shape-branch_of (λ j. shape_of (row j)) k lt

  fits_at : (l k : ℕ) → level ≡ suc l → k < 8 → (o : Option Name) → name_in names k ≡ o
      → ChildFits v.plan.buckets l (octant_shape (branch_of (λ j. shape_of (row j))) k) o
  fits_at l k up lt None e = record {
    clear = λ c. octant_is k lt
        ∙ ap shape_of (gone_from_root (row k) (q.are.names k lt ∙ e)) ∙ shape_of-gone;
    there = λ n c. (let no : ⊥ = cc in absurd no);
    bucket = λ n c. (let no : ⊥ = cc in absurd no);
  }
  fits_at l k up lt (Some m) e = record {
    clear = λ c. (let no : ⊥ = cc in absurd no);
    there = λ n c none. shape_of-some (row k)
        (λ r. (let some : None ≡ Some m = sym r ∙ q.are.names k lt ∙ e in
        let no : ⊥ = cc in no)) (sym (octant_is k lt) ∙ none);
    bucket = λ n c. (let low = q.below.each k m lt e in
        let at : m.level ≡ l = omega arith in
        ap (λ (x : Name). x.bucket) (sym (same_Some m n c))
        ∙ q.tells.buckets (row k) m (child_reached k m lt e) (q.are.names k lt ∙ e)
        ∙ ap (λ (x : ℕ). bucket_of_shape v.plan.buckets x (shape_of (row k))) at
        ∙ ap (bucket_of_shape v.plan.buckets l) (sym (octant_is k lt)));
  }

  -- the key's bucket is that of the shape
  pub bucket_is : bucket_of_key (Node names) (slice_index v.plan.buckets level)
      ≡ bucket_of_shape v.plan.buckets level (branch_of (λ j. shape_of (row j)))
  bucket_is =
      let up : level ≡ suc (level - 1) = (let a = q.above in omega arith) in
      let back : level - 1 + 1 ≡ level = (let a = q.above in omega arith) in
      subst (λ (l : ℕ). bucket_of_key (Node names) (slice_index v.plan.buckets l)
      ≡ bucket_of_shape v.plan.buckets l (branch_of (λ j. shape_of (row j)))) back
      (key_bucket v.plan.buckets (level - 1 + 1) (branch_of (λ j. shape_of (row j))) (Node names)
      (of_node (level - 1) (branch_of (λ j. shape_of (row j))) names
      (λ k lt. fits_at (level - 1) k up lt (name_in names k) refl)))

  -- the node that is wanted
  pub node_sought : (bucket : ℕ)
      → bucket ≡ bucket_of_key (Node names) (slice_index v.plan.buckets level)
      → bucket < buckets_at v.plan level
      → IsSought v.plan (row_wanted level bucket row)
  node_sought bucket is low = record {
    canonical = children_canonical level v.held names row q.tells.canonical q.above q.some
        q.below q.are;
    some = λ e. (let no : ⊥ = cc in no);
    bucket_is = is ∙ bucket_is;
    bucket_in = low;
  }

  -- a node over the row that is reached has the level
  node_level : (m : Name) → IsReached v.held (node_at m row) → m.level ≡ level
  node_level m r =
      let at = reached_levels v.plan.side v.held (node_at m row) m q.tells.trees r refl in
      go (name_in names q.some.octant) refl (level_above m.level m row at.levels)
    where
      go : (o : Option Name) → name_in names q.some.octant ≡ o → 1 ≤ m.level → m.level ≡ level
      go None e above = absurd (q.some.there e)
      go (Some c) e above =
          (let k = q.some.octant in let lt = q.some.below in
          let root = ap root_of (child_of-node_at m row k lt) ∙ q.are.names k lt ∙ e in
          let high = child_level v.plan.side v.held (node_at m row) k m c q.tells.trees r refl root
          above in
          let low = q.below.each k c lt e in omega arith)

words_of_node : (l : ℕ) → 1 ≤ l → key_words l ≡ 4
words_of_node zero h = absurd (omega arith)
words_of_node (suc l) h = refl

-- where no slot of the bucket has the key, no such node is reached
pub absent : (v u : SeatView) (level bucket : ℕ) (names : List (Option Name)) (row : ℕ → Tree)
    → Asks v level names row → ViewFacts u → u.held ≡ v.held
    → u.turn ≡ Some (bucket_named level bucket)
    → bucket ≡ bucket_of_key (Node names) (slice_index v.plan.buckets level)
    → PassesBelow u.words (Node names) (bucket_named level bucket) v.plan.cap
    → (m : Name) → ¬ IsReached v.held (node_at m row)
absent v u level bucket names row q tells held turn is none m r =
    let there : IsReached u.held (node_at m row) =
    subst (λ ts. IsReached ts (node_at m row)) (sym held) r in
    let at : m.level ≡ level = node_level v level names row q m r in
    let name = q.tells.names (node_at m row) m r refl in
    let here : m.bucket ≡ bucket =
    q.tells.buckets (node_at m row) m r refl
    ∙ ap (λ (l : ℕ). bucket_of_shape v.plan.buckets l (shape_of (node_at m row))) at
    ∙ ap (bucket_of_shape v.plan.buckets level) (shape_of-node m row)
    ∙ sym (bucket_is v level names row q) ∙ sym is in
    let b : BucketAt = bucket_named level bucket in
    let same : b ≡ bucket_of m = same_bucket b (bucket_of m) (sym at) (sym here) in
    let agrees =
    tells.agrees (node_at m row) m there refl (turn ∙ ap (λ (x : BucketAt). Some x) same) in
    let slot : named level bucket m.slot ≡ m =
    same_name (named level bucket m.slot) m (sym at) (sym here) refl in
    let passes = subst (λ (x : Name). PassesEntry u.words (Node names) x) slot
    (none.each m.slot name.slot_in) in
    elim passes [
      | inl free ↦ (let some = agrees.book 0 free in absurd (omega arith))
      | inr o ↦
          (let four = words_of_node m.level (let a = q.above in omega arith) in
          let inside = o.inside in
          absurd (o.other (agrees.key o.word o.found o.inside o.known
          ∙ node_words_are m row names o.word (omega arith) q.are.names)))
    ]

-- the view after the search, by that before it
pub record NodeSearched (v u : SeatView) (level bucket : ℕ) : Type 0 where
  pub session : SameSession v u
  pub turn : u.turn ≡ Some (bucket_named level bucket)
  pub held : u.held ≡ v.held
  pub made : u.made ≡ v.made
  pub log : u.log ≡ v.log

-- a live entry had the key
module _ (v u w : SeatView) (level bucket : ℕ) (names : List (Option Name)) (row : ℕ → Tree)
    (n : Name) (q : Asks v level names row) (s : NodeSearched v u level bucket)
    (at : n.level ≡ level) (has : HasKeyWords u.words (Node names) n) (r : RaisesUnderTurn u n w)
    (tells : ViewFacts w) where
  above : 1 ≤ n.level
  above = (let a = q.above in omega arith)

  now_held : w.held ≡ r.tree ∷ v.held
  now_held = ap (λ (x : SeatView). x.held) r.is ∙ ap (λ ts. r.tree ∷ ts) s.held

  gains : Gains v.held r.tree w.held
  gains = record { weighs = λ f. ap (λ ts. weigh f ts) now_held ∙ weigh-cons f r.tree v.held }

  reached : IsReached w.held r.tree
  reached = held_reached w.held r.tree (gains_held v.held r.tree w.held gains)

  same_plan : w.plan ≡ v.plan
  same_plan = ap (λ (x : SeatView). x.plan) r.is ∙ s.session.plan

  levels : IsTreeAt n.level r.tree
  levels = (reached_levels w.plan.side w.held r.tree n tells.trees reached r.root).levels

  abbrev child : ℕ → Option Name
  child k = root_of (child_of r.tree k)

  child_is_name : (k : ℕ) (m : Name) → child k ≡ Some m → IsName v.plan m
  child_is_name k m e =
      subst (λ (p : Layout). IsName p m) same_plan
      (tells.names (child_of r.tree k) m (reached_child w.held r.tree k reached) e)

  small : (k : ℕ) → word_of_child (child k) ≤ 2 ^ 24
  small k = child_small v.plan (child k) q.plan (child_is_name k)

  fit : (k : ℕ) → IsChildAt (level - 1) (child k)
  fit k =
      child_fits v.plan (level - 1) (child k) q.plan (child_is_name k)
      (λ m e. (let l = child_level w.plan.side w.held r.tree k n m tells.trees reached r.root e
      above in omega arith))

  word_is : (i : ℕ) → i < 4 → pair_of_children r.tree i ≡ key_word (Node names) i
  word_is i lt =
      let four = words_of_node n.level above in let inside : i < key_words n.level = omega arith in
      sym (node_word n.level r.tree n i above levels r.root)
      ∙ sym (r.words i (key_word (Node names) i) inside (has.each i inside))

  two_children : (i : ℕ) → i < 4
      → (child (2 * i) ≡ name_in names (2 * i)) × (child (2 * i + 1) ≡ name_in names (2 * i + 1))
  two_children i lt =
      let same = pair_same (word_of_child (child (2 * i))) (word_of_child (child (2 * i + 1)))
      (word_of_child (name_in names (2 * i))) (word_of_child (name_in names (2 * i + 1)))
      (small (2 * i)) (names_small v level names row q (2 * i) (omega arith)) (word_is i lt) in (
        one_child (level - 1) (child (2 * i)) (name_in names (2 * i)) (fit (2 * i))
            (names_fit v level names row q (2 * i) (omega arith)) same.0,
        one_child (level - 1) (child (2 * i + 1)) (name_in names (2 * i + 1)) (fit (2 * i + 1))
            (names_fit v level names row q (2 * i + 1) (omega arith)) same.1,
      )

  children_are : (k : ℕ) → k < 8 → child k ≡ name_in names k
  children_are = from_pairs (λ k. child k ≡ name_in names k) two_children

  octant : (k : ℕ) → k < 8 → child_of r.tree k ≡ row k
  octant k lt = go (name_in names k) refl
    where
      go : (o : Option Name) → name_in names k ≡ o → child_of r.tree k ≡ row k
      go None e =
          gone_from_root (child_of r.tree k) (children_are k lt ∙ e)
          ∙ sym (gone_from_root (row k) (q.are.names k lt ∙ e))
      go (Some m) e =
          tells.trees.named (child_of r.tree k) (row k) (reached_child w.held r.tree k reached)
          (reached_more v.held w.held (row k) (gains_keeps v.held r.tree w.held gains)
          (child_reached v level names row q k m lt e))
          (children_are k lt ∙ sym (q.are.names k lt))

  -- the tree that came is the node over the row
  tree_is : r.tree ≡ node_at n row
  tree_is = node_from_children n.level r.tree n row above levels r.root octant

  -- it is held besides the shares of the row
  pub held_over : IsHeldOver w.held row
  held_over = record {
    over = r.tree;
    children = octant;
    weighs = λ f. (let a = gains.weighs f in let b = q.are.weighs f in omega arith);
  }

  pub row_kept : AreHeld w.held names row
  row_kept = record {
    names = q.are.names;
    weighs = λ f. (let a = gains.weighs f in let b = q.are.weighs f in omega arith);
  }

  pub raised_number : number_of_trees w.held ≡ number_of_trees v.held + 1
  raised_number = (let a = gains.weighs (λ _. 1) in omega arith)

  -- and then the shares of the row went
  pub shared : (z : SeatView) → u.met ≡ v.met → OnlySharesChange w z → LosesAll w.held row 8 z.held
      → InternsNode v level row n z
  shared z met only gone =
      let is = r.is in
      let session = session_on v w z
      (session_on v u w s.session (record {
        alive = ap (λ (x : SeatView). x.alive) is;
        plan = ap (λ (x : SeatView). x.plan) is;
        models = ap (λ (x : SeatView). x.models) is;
        numbers = ap (λ (x : SeatView). x.numbers) is;
      })) only.session in
      let made : z.made ≡ v.made = only.made ∙ ap (λ (x : SeatView). x.made) is ∙ s.made in
      record {
        session = session;
        turn = only.turn;
        log = only.log ∙ ap (λ (x : SeatView). x.log) is ∙ s.log;
        level_is = at;
        joins = record {
          weighs = λ f. (let a = gone.weighs f in let b = gains.weighs f in let c = ap f tree_is in
              omega arith);
        };
        grants = record {
          plan = session.plan;
          made = inl made;
          met = only.met ∙ ap (λ (x : SeatView). x.met) is ∙ met;
        };
        hit = λ m h. (
          tells.once r.tree n reached r.root (node_at m row) m
              (reached_more v.held w.held (node_at m row)
              (gains_keeps v.held r.tree w.held gains) h)
              refl
              (at ∙ sym (node_level v level names row q m h))
              (ap shape_of tree_is ∙ shape_of-node n row ∙ sym (shape_of-node m row)),
          made,
        );
      }

-- the same of the view that is left
module _ (v u w x : SeatView) (level bucket : ℕ) (names children : List (Option Name))
    (row : ℕ → Tree) (n : Name) (q : Asks v level names row) (s : NodeSearched v u level bucket)
    (at : n.level ≡ level) (has : HasKeyWords u.words (Node names) n) (r : RaisesUnderTurn u n w)
    (now : x ≡ w) (tells : ViewFacts x) (e : names ≡ children) where
  tells_then : ViewFacts w
  tells_then = subst ViewFacts now tells

  are_then : AreHeld w.held children row
  are_then =
      subst (λ (cs : List (Option Name)). AreHeld w.held cs row) e
      (row_kept v u w level bucket names row n q s at has r tells_then)

  pub kept_now : HoldsBelow x.held children
  kept_now = subst (λ (y : SeatView). HoldsBelow y.held children) (sym now) (record {
    row = row;
    are_held = are_then;
    over = held_over v u w level bucket names row n q s at has r tells_then;
  })

  pub room_now : number_of_trees v.held ≤ 4088 → number_of_trees x.held ≤ most_before_freeing
  room_now le =
      (let one = raised_number v u w level bucket names row n q s at has r tells_then in
      let same = ap (λ (y : SeatView). number_of_trees y.held) now in omega arith)

  pub shared_now : (m : Name) (z : SeatView) → m ≡ n → u.met ≡ v.met → OnlySharesChange x z
      → (AreHeld x.held children row → LosesAll x.held row 8 z.held) → InternsNode v level row m z
  shared_now m z name met only gone =
      subst (λ (k : Name). InternsNode v level row k z) (sym name)
      (shared v u w level bucket names row n q s at has r tells_then z met
      (subst (λ (y : SeatView). OnlySharesChange y z) now only)
      (subst (λ (y : SeatView). LosesAll y.held row 8 z.held) now
      (gone (subst (λ (y : SeatView). AreHeld y.held children row) (sym now) are_then))))

-- no entry had the key, and one was added
pub added : (v u w : SeatView) (level bucket : ℕ) (names : List (Option Name)) (row : ℕ → Tree)
    (n : Name) → NodeSearched v u level bucket → u.met ≡ v.met → n.level ≡ level
    → ((m : Name) → ¬ IsReached v.held (node_at m row))
    → PublishesUnderTurn u n (Node names) row w → InternsNode v level row n w
added v u w level bucket names row n s met at none p =
    let is = p.is in
    let session = session_on v u w s.session (record {
      alive = ap (λ (x : SeatView). x.alive) is;
      plan = ap (λ (x : SeatView). x.plan) is;
      models = ap (λ (x : SeatView). x.models) is;
      numbers = ap (λ (x : SeatView). x.numbers) is;
    }) in
    record {
      session = session;
      turn = ap (λ (x : SeatView). x.turn) is;
      log = ap (λ (x : SeatView). x.log) is ∙ s.log;
      level_is = at;
      joins = record {
        weighs = λ f. (let e = p.weighs f in
            let a = ap (λ (x : SeatView). weigh f x.held) is in
            let b = ap (λ ts. weigh f ts) s.held in omega arith);
      };
      grants = record {
        plan = session.plan;
        made = inr (ap (λ (x : SeatView). x.made) is ∙ λ i. shape_of-node n row i ∷ s.made i);
        met = ap (λ (x : SeatView). x.met) is ∙ met;
      };
      hit = λ m h. absurd (none m h);
    }

pub added_now : (v u w x : SeatView) (level bucket : ℕ) (names : List (Option Name))
    (row : ℕ → Tree) (m n : Name) → NodeSearched v u level bucket → u.met ≡ v.met
    → n.level ≡ level → ((k : Name) → ¬ IsReached v.held (node_at k row))
    → PublishesUnderTurn u n (Node names) row w → x ≡ w → m ≡ n → InternsNode v level row m x
added_now v u w x level bucket names row m n s met at none p now name =
    subst (λ (y : SeatView × Name). InternsNode v level row y.1 y.0) (λ i. (sym now i, sym name i))
    (added v u w level bucket names row n s met at none p)

-- a full bucket was met
pub refused : (v u w : SeatView) (level bucket : ℕ) (row : ℕ → Tree) (full : Full)
    → NodeSearched v u level bucket → ((m : Name) → ¬ IsReached v.held (node_at m row))
    → u.met ≡ row_wanted level bucket row ∷ v.met
    → full.level ≡ level → full.bucket ≡ bucket → w ≡ under_turn u None
    → IsSought v.plan (row_wanted level bucket row)
    → NodeIsRefused v level row full w
refused v u w level bucket row full s none met at here is sought =
    let shape : Shape = branch_of (λ k. shape_of (row k)) in
    let session = session_on v u w s.session (record {
      alive = ap (λ (x : SeatView). x.alive) is;
      plan = ap (λ (x : SeatView). x.plan) is;
      models = ap (λ (x : SeatView). x.models) is;
      numbers = ap (λ (x : SeatView). x.numbers) is;
    }) in
    record {
      session = session;
      turn = ap (λ (x : SeatView). x.turn) is;
      log = ap (λ (x : SeatView). x.log) is ∙ s.log;
      at_level = at;
      meets = record {
        sought = subst (λ (z : ℕ × ℕ). IsSought v.plan (row_wanted z.0 z.1 row))
            (λ i. (sym at i, sym here i)) sought;
        plan = session.plan;
        held = ap (λ (x : SeatView). x.held) is ∙ s.held;
        made = ap (λ (x : SeatView). x.made) is ∙ s.made;
        met = ap (λ (x : SeatView). x.met) is ∙ met
            ∙ (λ i. record { level = sym at i; bucket = sym here i; shape = shape } ∷ v.met);
      };
      unreached = none;
    }

pub refused_now : (v u w x : SeatView) (level bucket : ℕ) (row : ℕ → Tree) (full : Full)
    → NodeSearched v u level bucket → ((m : Name) → ¬ IsReached v.held (node_at m row))
    → u.met ≡ row_wanted level bucket row ∷ v.met
    → full.level ≡ level → full.bucket ≡ bucket → w ≡ under_turn u None
    → IsSought v.plan (row_wanted level bucket row)
    → x ≡ w → NodeIsRefused v level row full x
refused_now v u w x level bucket row full s none met at here is sought now =
    subst (λ (y : SeatView). NodeIsRefused v level row full y) (sym now)
    (refused v u w level bucket row full s none met at here is sought)

-- the key's bucket, by the plan of the view
pub is_bucket : (v : SeatView) (t : TableState) (key : Key) (level bucket buckets : ℕ)
    → v.plan ≡ t.plan → bucket ≡ bucket_of_key key buckets → buckets ≡ buckets_at t.plan level
    → bucket ≡ bucket_of_key key (slice_index v.plan.buckets level)
is_bucket v t key level bucket buckets plan is number =
    is ∙ ap (bucket_of_key key) number
    ∙ ap (λ (p : Layout). bucket_of_key key (slice_index p.buckets level)) (sym plan)

pub low_bucket : (v : SeatView) (t : TableState) (level bucket buckets : ℕ) → v.plan ≡ t.plan
    → bucket < buckets → buckets ≡ buckets_at t.plan level → bucket < buckets_at v.plan level
low_bucket v t level bucket buckets plan low number =
    subst (λ (n : ℕ). bucket < n)
    (number ∙ ap (λ (p : Layout). slice_index p.buckets level) (sym plan)) low

pub passes_here : (v : SeatView) (t u : TableState) (l b level bucket : ℕ)
    (words : List (WordId × ℕ)) (names : List (Option Name)) → l ≡ level → b ≡ bucket → u ≡ t
    → v.plan ≡ t.plan → PassesBelow words (Node names) (bucket_named l b) u.plan.cap
    → PassesBelow words (Node names) (bucket_named level bucket) v.plan.cap
passes_here v t u l b level bucket words names at here same plan h =
    subst (λ (x : ℕ × ℕ × Layout). PassesBelow words (Node names) (bucket_named x.0 x.1) x.2.cap)
    (λ i. (at i, here i, (ap (λ (x : TableState). x.plan) same ∙ sym plan) i)) h

-- a search leaves all but words, and what met a full bucket
pub node_searched : (v : SeatView) (s t : PassState) (level bucket : ℕ)
    → s.view ≡ under_turn v (Some (bucket_named level bucket)) → Keeps s t
    → NodeSearched v t.view level bucket
node_searched v s t level bucket is k = record {
  session = session_on v s.view t.view (record {
    alive = ap (λ (x : SeatView). x.alive) is;
    plan = ap (λ (x : SeatView). x.plan) is;
    models = ap (λ (x : SeatView). x.models) is;
    numbers = ap (λ (x : SeatView). x.numbers) is;
  }) k.same.session;
  turn = k.turn ∙ ap (λ (x : SeatView). x.turn) is;
  held = k.held ∙ ap (λ (x : SeatView). x.held) is;
  made = k.made ∙ ap (λ (x : SeatView). x.made) is;
  log = k.log ∙ ap (λ (x : SeatView). x.log) is;
}

-- what a full bucket refused is the node over the row
pub met_node : (l b level bucket : ℕ) (names : List (Option Name)) (row : ℕ → Tree)
    (old met : List Wanted) → l ≡ level → b ≡ bucket → old ≡ met
    → wanted (named l b 0) (Node names) row ∷ old
    ≡ row_wanted level bucket row ∷ met
met_node l b level bucket names row old met at here same =
    λ i. record {
      level = at i;
      bucket = here i;
      shape = shape_of-node (named l b 0) row i;
    } ∷ same i
