-- The trees that a store holds, as the state of a core sees them.
use Rattle.std.proofs.Common.{◌≡◌, ◌≢◌, ℕ, zero, suc, ◌+◌, ◌-◌, ◌<◌, ◌≤◌, ◌⊎◌, Some, None, Option, List, [], ◌∷◌, refl, sym, ◌∙◌, ap, subst, arith, inl, inr, sum_by}
use Rattle.std.proofs.lemmas.List.Sums.{sum_by-cons}
use Rattle.std.proofs.lemmas.Option.{same_Some, none-some}
use Rattle.vw_cell.specs.Sums.{sum_below, sum_below-at, sum_below-suc, sum_below-zero, sum_below-le}
use Rattle.node_words.specs.declared.shapes.names.Name.{Name}
use Rattle.node_words.specs.shapes.Tree.{Tree, Gone, LeafAt, NodeAt, root_of}
use Rattle.node_words.specs.shapes.Weights.{weigh, weight_of, weight_below}
use Rattle.node_words.proofs.OfShapes.TreeEqual.{Name-discrete}
use Rattle.node_words.proofs.OfShapes.WeightLaws.{weigh-nil, weigh-cons}
use Rattle.node_words.specs.declared.keys.Key.{Key}
use Rattle.node_words.specs.Held.{IsHeld}
use Rattle.node_words.specs.Plans.{Layout}
use Rattle.core_laws.specs.places.Names.{IsName, key_child}
use Rattle.core_laws.specs.States.{State, IsLive, Holds, tree_at, tree_of}
use Rattle.core_laws.specs.Counting.{weight, children_weight, holdings}
use Rattle.core_laws.specs.Events.{Trades, KeysStay}
use Rattle.core_laws.specs.Soundness.{SoundEntries}
use Rattle.core_laws.specs.LiveTrees.{IsLiveTree, IsLiveOrGone, AreLiveTrees}
use Rattle.core_laws.proofs.Lives.{child_lives, child_level, held_lives}
use Rattle.core_laws.proofs.SeenNodes.{gone_tree}
use Rattle.core_laws.proofs.StepLaws.{tree_kept}
use Rattle.core_laws.proofs.Sums.{is_name, weight_there}
use Rattle.one_store.specs.Known.{Known, core_of, root_names, with_name, trees_below}

-- how much the name weighs at which a tree begins
abbrev pub root_weight : (Name → ℕ) → Tree → ℕ
root_weight f t = weight f (root_of t)

with_name-sum : (f : Name → ℕ) (o : Option Name) (names : List Name)
    → sum_by f (with_name o names) ≡ weight f o + sum_by f names
with_name-sum f None names = omega arith
with_name-sum f (Some n) names = sum_by-cons f n names

pub names-weigh : (f : Name → ℕ) (ts : List Tree)
    → sum_by f (root_names ts) ≡ weigh (root_weight f) ts
names-weigh f [] = sym (weigh-nil (root_weight f))
names-weigh f (t ∷ ts) =
    omega (
      arith,
      with_name-sum f (root_of t) (root_names ts),
      names-weigh f ts,
      weigh-cons
          (root_weight f) t ts,
    )

pub holdings-one : (f : Name → ℕ) (ts : List Tree)
    → holdings f (root_names ts ∷ []) ≡ weigh (root_weight f) ts
unfolding holdings
holdings-one f ts =
    omega (
      arith,
      sum_by-cons (λ (names : List Name). sum_by f names)
          (root_names ts) [],
      names-weigh f ts,
    )

-- what is held changes as the names do at which the trees begin
pub trade : (old new : List Tree) (gives takes : (Name → ℕ) → ℕ)
    → ((f : Name → ℕ) → gives f ≤ weigh (root_weight f) old)
    → ((f : Name → ℕ) → weigh (root_weight f) new + gives f ≡ weigh (root_weight f) old + takes f)
    → Trades (root_names old ∷ []) 0 gives takes (root_names new ∷ [])
trade old new gives takes h w = record {
  before = root_names old;
  after = root_names new;
  had = refl;
  has = refl;
  holds = λ f. omega (arith, h f, names-weigh f old);
  weighs = λ f. omega (arith, w f, names-weigh f old, names-weigh f new);
}

pub tree_root : (key : Name → Key) (level : ℕ) (n : Name)
    → root_of (tree_at key level (Some n)) ≡ Some n
unfolding tree_at
tree_root key zero n = refl
tree_root key (suc level) n = refl

pub row_root : (key : Name → Key) (level : ℕ) (o : Option Name) → root_of (tree_at key level o) ≡ o
row_root key level None = ap root_of (gone_tree key level)
row_root key level (Some n) = tree_root key level n

weight_root : (f : Name → ℕ) (t : Tree) → weight_of (root_weight f) t ≡ weight f (root_of t)
unfolding weight_of
weight_root f Gone = refl
weight_root f (LeafAt n b) = refl
weight_root f (NodeAt n a b c d e f' g h) = refl

row_sum : (f : Name → ℕ) (row : ℕ → Tree) (g : ℕ → Option Name) (n : ℕ)
    → ((k : ℕ) → k < n → root_of (row k) ≡ g k)
    → weight_below (root_weight f) row n ≡ sum_below n (λ k. weight f (g k))
row_sum f row g zero h = sym (sum_below-zero (λ k. weight f (g k)))
row_sum f row g (suc n) h =
    omega (
      arith,
      row_sum f row g n (λ k lt. h k (omega arith)),
      sum_below-suc n
          (λ k. weight f (g k)),
      weight_root f (row n),
      ap (weight f) (h n (omega arith)),
    )

-- the row of a key's children weighs as the key does
pub row_weighs : (f : Name → ℕ) (key : Name → Key) (level : ℕ) (k : Key)
    → weight_below (root_weight f) (trees_below key level k) 8 ≡ children_weight f k
unfolding children_weight
row_weighs f key level k =
    row_sum f (trees_below key level k) (λ i. key_child k i) 8
    (λ i lt. row_root key level (key_child k i))

one_each : (t : Tree) → weight_of (λ _. 1) t ≡ weight_of (root_weight (λ _. 1)) t
unfolding weight_of
one_each Gone = refl
one_each (LeafAt n b) = refl
one_each (NodeAt n a b c d e f g h) = refl

ones : (row : ℕ → Tree) (k : ℕ)
    → weight_below (λ _. 1) row k ≡ weight_below (root_weight (λ _. 1)) row k
ones row zero = refl
ones row (suc k) = omega (arith, one_each (row k), ones row k)

-- how many children a key has
pub row_number : (key : Name → Key) (level : ℕ) (k : Key)
    → weight_below (λ _. 1) (trees_below key level k) 8 ≡ children_weight (λ _. 1) k
row_number key level k = ones (trees_below key level k) 8 ∙ row_weighs (λ _. 1) key level k

one_name : (o : Option Name) → weight (λ _. 1) o ≤ 1
one_name None = omega arith
one_name (Some n) = omega arith

pub key_few : (k : Key) → children_weight (λ _. 1) k ≤ 8
unfolding children_weight
key_few k =
    omega (
      arith,
      sum_below-le 8 1 (λ i. weight (λ _. 1) (key_child k i))
          (λ i lt. one_name (key_child k i)),
    )

-- a child weighs something among the children
pub child_weighs : (k : Key) (m : Name) (j : ℕ) → j < 8 → key_child k j ≡ Some m
    → 0 < children_weight (is_name m) k
unfolding children_weight
child_weighs k m j lt e =
    let at : weight (is_name m) (key_child k j) ≤ sum_below 8 (λ i. weight (is_name m) (key_child k i)) = sum_below-at 8 j (λ i. weight (is_name m) (key_child k i)) lt in
    let some : 0 < weight (is_name m) (key_child k j) = weight_there m (key_child k j) e in
    omega arith

-- a held tree's name is held
held_names : (ts : List Tree) (t : Tree) (n : Name) → IsHeld ts t → root_of t ≡ Some n
    → Holds (root_names ts ∷ []) 0 n
held_names ts t n h e = record {
  names = root_names ts;
  at = refl;
  weighs = λ f. let same : root_weight f t
      ≡ f n = ap (weight f) e in omega (arith, h.weighs (root_weight f), names-weigh f ts, same);
}

pub live_held : (p : Layout) (v : Known) (t : Tree) (n : Name) → SoundEntries p (core_of v)
    → IsHeld v.told.held t → root_of t ≡ Some n → IsLive p (core_of v) n
live_held p v t n s h e = held_lives p (core_of v) 0 n s (held_names v.told.held t n h e)

pub root_stands : (p : Layout) (state : State) (t : Tree) (s : IsLiveTree p state t)
    → root_of t ≡ Some s.name
root_stands p state t s = ap root_of (sym s.tree) ∙ tree_root state.key s.name.level s.name

-- the name at which a standing tree begins, with its tree
pub standing_at : (p : Layout) (state : State) (t : Tree) (n : Name) → IsLiveOrGone p state t
    → root_of t ≡ Some n → IsLive p state n × (tree_of state n ≡ t)
standing_at p state t n (inl gone) e = absurd (none-some n (ap root_of (sym gone) ∙ e))
standing_at p state t n (inr s) e =
    let same : s.name ≡ n = same_Some s.name n (sym (root_stands p state t s) ∙ e) in (
      subst (λ (m : Name). IsLive p state m) same s.live,
      ap (λ (m : Name). tree_of state m)
          (sym same) ∙ s.tree,
    )

-- what is held after a step stands where it stood before or stands now
pub stand_again : (p : Layout) (old new : Known) → SoundEntries p (core_of old)
    → SoundEntries p (core_of new) → KeysStay p (core_of old) (core_of new)
    → ((t : Tree) → IsHeld new.told.held t → IsLiveTree p (core_of old) t ⊎ IsLiveTree p (core_of new) t)
    → AreLiveTrees p (core_of new) new.told.held
stand_again p old new so sn keys h = record {
  each = λ t i. elim (h t i) [
    | inl s ↦ (let live = live_held p new t s.name sn i (root_stands p (core_of old) t s) in
        record {
          name = s.name;
          live = live;
          tree = tree_kept p (core_of old)
              (core_of new) s.name so sn keys s.live live ∙ s.tree;
        })
    | inr s ↦ s
  ];
}

-- a child of a live entry stands
child_stands : (p : Layout) (state : State) (n : Name) (k : ℕ) (o : Option Name)
    → SoundEntries p state → IsLive p state n → k < 8 → key_child (state.key n) k ≡ o
    → tree_at state.key (n.level - 1) o ≢ Gone → IsLiveTree p state (tree_at state.key (n.level - 1) o)
child_stands p state n k None s live lt e some = absurd (some (gone_tree state.key (n.level - 1)))
child_stands p state n k (Some m) s live lt e some =
    let lower = child_level n.level (state.key n) m k (s.fits n live) lt e in
    let level : m.level ≡ n.level - 1 = omega arith in
    record {
      name = m;
      live = child_lives p state n m k s live lt e;
      tree = ap
          (λ (l : ℕ). tree_at state.key l (Some m)) level;
    }

pub octant_stands : (p : Layout) (state : State) (n : Name) (k : ℕ) (t : Tree)
    → SoundEntries p state → IsLive p state n → k < 8
    → t ≡ trees_below state.key (n.level - 1) (state.key n) k → t ≢ Gone → IsLiveTree p state t
octant_stands p state n k t s live lt e some =
    subst (λ (u : Tree). IsLiveTree p state u) (sym e)
    (child_stands p state n k (key_child (state.key n) k) s live lt refl (λ g. some (e ∙ g)))

-- where one book changes, what is live was live, if its own name was
pub was_live_too : (p : Layout) (old new : State) (n : Name) → IsLive p old n
    → ((m : Name) → IsName p m → m ≢ n → new.book m ≡ old.book m) → (m : Name) → IsLive p new m
    → IsLive p old m
was_live_too p old new n live others m l = elim (Name-discrete m n) [
  | yes e ↦ subst (λ (x : Name). IsLive p old x) (sym e) live
  | no ne ↦ (let b = others m l.name ne in let some = l.book in
      record { name = l.name; book = omega arith })
]
