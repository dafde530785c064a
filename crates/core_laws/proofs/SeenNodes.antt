-- A new node takes its children's trees in, and an entry that is freed gives them back.
use Rattle.std.proofs.Common.{◌≡◌, ℕ, zero, suc, ◌<◌, ◌≤◌, refl, sym, ◌∙◌, ap, arith, Some, None, Option}
use Rattle.vw_cell.specs.Sums.{sum_below, sum_below-at, sum_below-le}
use Rattle.node_words.specs.declared.shapes.names.Name.{Name}
use Rattle.node_words.specs.shapes.Tree.{Tree, Gone, LeafAt, node_at}
use Rattle.node_words.specs.shapes.Weights.{weight_of, weight_below}
use Rattle.node_words.specs.declared.keys.Key.{Key}
use Rattle.node_words.specs.declared.keys.Key.TheVariants.{Leaf}
use Rattle.node_words.specs.Held.{Gains, Joins}
use Rattle.node_words.specs.Plans.{Layout}
use Rattle.core_laws.specs.States.{State, IsLive, tree_at, tree_of, trees_of}
use Rattle.core_laws.specs.places.Names.{key_bits, key_child}
use Rattle.core_laws.specs.Counting.{weight, children_weight}
use Rattle.core_laws.specs.Soundness.{SoundEntries}
use Rattle.core_laws.specs.Events.{Adds, Frees, children_named, one_name}
use Rattle.core_laws.proofs.Sums.{is_name, weight_there}
use Rattle.core_laws.proofs.Lives.{child_level, child_lives}
use Rattle.core_laws.specs.Events.{KeysStay}
use Rattle.core_laws.proofs.Trees.{tree_stays, node_at-same}
use Rattle.core_laws.proofs.EntrySteps.{given_lives, add_entries, add_keys, free_entries, free_keys}
use Rattle.core_laws.proofs.SeenTrades.{seen_trades}

pub gone_tree : (key : Name → Key) (level : ℕ) → tree_at key level None ≡ Gone
unfolding tree_at
gone_tree key zero = refl
gone_tree key (suc level) = refl

pub leaf_tree : (key : Name → Key) (level : ℕ) (n : Name) → level ≡ 0
    → tree_at key level (Some n) ≡ LeafAt n (key_bits (key n))
unfolding tree_at
leaf_tree key level n e = ap (λ (l : ℕ). tree_at key l (Some n)) e

pub node_tree : (key : Name → Key) (up level : ℕ) (n : Name) → up ≡ suc level
    → tree_at key up (Some n) ≡ node_at n (λ k. tree_at key level (key_child (key n) k))
unfolding tree_at
node_tree key up level n e = ap (λ (l : ℕ). tree_at key l (Some n)) e

there_weighs : (f : Tree → ℕ) (key : Name → Key) (level : ℕ) (n : Name)
    → weight_of f (tree_at key level (Some n)) ≡ f (tree_at key level (Some n))
unfolding tree_at weight_of
there_weighs f key zero n = refl
there_weighs f key (suc level) n = refl

gone_weighs : (f : Tree → ℕ) → weight_of f Gone ≡ 0
unfolding weight_of
gone_weighs f = refl

row_weighs : (f : Tree → ℕ) (h : ℕ → ℕ) (row : ℕ → Tree) (n : ℕ)
    → ((k : ℕ) → k < n → h k ≡ weight_of f (row k)) → sum_below n h ≡ weight_below f row n
unfolding sum_below
row_weighs f h row zero same = refl
row_weighs f h row (suc n) same = let below =
    row_weighs f h row n (λ k lt. same k (omega arith)) in let last = same n (omega arith) in
    omega arith

-- a child weighs by its tree, where its name does
child_weighs : (f : Tree → ℕ) (g : Name → ℕ) (state : State) (level : ℕ) (o : Option Name)
    → ((m : Name) → o ≡ Some m → (g m ≡ f (tree_of state m)) × (m.level ≡ level))
    → weight g o ≡ weight_of f (tree_at state.key level o)
child_weighs f g state level None each =
    sym (ap (weight_of f) (gone_tree state.key level) ∙ gone_weighs f)
child_weighs f g state level (Some m) each = let e = each m refl in
    e.0 ∙ ap (λ (l : ℕ). f (tree_at state.key l (Some m))) e.1
    ∙ sym (there_weighs f state.key level m)

-- the children of a key that a holder gives are live
given_child : (p : Layout) (holder : ℕ) (n : Name) (key : Key) (old new : State) (k : ℕ) (m : Name)
    → SoundEntries p old → Adds p holder n key old new → k < 8 → key_child key k ≡ Some m
    → IsLive p old m
unfolding children_weight
given_child p holder n key old new k m s e lt at =
    let here : 0 < weight (is_name m) (key_child key k) = weight_there m (key_child key k) at in
    let all : weight (is_name m) (key_child key k) ≤ children_weight (is_name m) key =
    sum_below-at 8 k (λ j. weight (is_name m) (key_child key j)) lt in
    given_lives p old holder (children_named key) (one_name n) new.held m s e.held (omega arith)

children_by_trees : (p : Layout) (f : Tree → ℕ) (g : Name → ℕ) (state : State) (level : ℕ)
    (key : Key)
    → ((k : ℕ) (m : Name) → k < 8 → key_child key k ≡ Some m → (g m ≡ f (tree_of state m))
    × (m.level ≡ level))
    → children_weight g key
    ≡ weight_below f (λ k. tree_at state.key level (key_child key k)) 8
unfolding children_weight
children_by_trees p f g state level key each =
    row_weighs f _ _ 8
    (λ k lt. child_weighs f g state level (key_child key k) (λ m e. each k m lt e))

-- a new node takes the trees of its children in
pub add_joins : (p : Layout) (holder : ℕ) (n : Name) (key : Key) (old new : State) (level : ℕ)
    → SoundEntries p old → n.level ≡ suc level → (e : Adds p holder n key old new)
    → Joins (trees_of old e.held.before)
    (λ k. tree_at old.key level (key_child key k)) n (trees_of new e.held.after)
add_joins p holder n key old new level s up e =
    let t : SoundEntries p new = add_entries p holder n key old new s e in
    let keys : KeysStay p old new = add_keys p holder n key old new e in
    let book = e.book in
    let live : IsLive p new n = record { name = e.name; book = omega arith } in
    let low : (k : ℕ) (m : Name) → k < 8 → key_child key k ≡ Some m
    → m.level ≡ level =
    (λ k m lt at. (let lower = child_level n.level key m k e.fits lt at in omega arith)) in
    let rows : (k : ℕ) → k < 8
    → tree_at new.key level (key_child (new.key n) k)
    ≡ tree_at old.key level (key_child key k) =
    (λ k lt. ap (λ (x : Key). tree_at new.key level (key_child x k)) e.new_key
    ∙ tree_stays p old new s t keys level (key_child key k)
    (λ m at.
    record {
      same_level = low k m lt at;
      before = given_child p holder n key old new k m s e lt at;
      after = child_lives p new n m k t live lt
          (ap (λ (x : Key). key_child x k) e.new_key ∙ at);
    }))
    in
    let tree : tree_of new n ≡ node_at n (λ k. tree_at old.key level (key_child key k)) =
    node_tree new.key n.level level n up ∙ node_at-same n _ _ rows in
    record {
      weighs = λ f. (
          let r =
          seen_trades p holder (children_named key) (one_name n) old new f s t keys e.held in
          let all = r.weighs in
          let of_n = r.is_weight.after n live ∙ ap f tree in
          let of_children =
          children_by_trees p f r.weight old level key
          (λ k m lt at. (
            r.is_weight.before m (given_child p holder n key old new k m s e lt at),
            low k m lt at,
          )) in
          omega (arith, all, of_n, of_children));
    }

leaf_has_none : (g : Name → ℕ) (bits : ℕ) → children_weight g (Leaf bits) ≡ 0
unfolding children_weight
leaf_has_none g bits = let bound =
    sum_below-le 8 0 (λ k. weight g (key_child (Leaf bits) k)) (λ k _. omega arith) in omega arith

-- a new leaf is gained
pub add_gains : (p : Layout) (holder : ℕ) (n : Name) (bits : ℕ) (old new : State)
    → SoundEntries p old → n.level ≡ 0 → (e : Adds p holder n (Leaf bits) old new)
    → Gains (trees_of old e.held.before) (LeafAt n bits) (trees_of new e.held.after)
add_gains p holder n bits old new s low e =
    let t : SoundEntries p new = add_entries p holder n (Leaf bits) old new s e in
    let keys : KeysStay p old new = add_keys p holder n (Leaf bits) old new e in
    let book = e.book in
    let tree : tree_of new n ≡ LeafAt n bits = leaf_tree new.key n.level n low
    ∙ ap (λ (x : Key). LeafAt n (key_bits x)) e.new_key in
    record {
      weighs = λ f. (
          let r = seen_trades p holder (children_named (Leaf bits))
          (one_name n) old new f s t keys e.held in
          let all = r.weighs in
          let of_n = r.is_weight.after n (record { name = e.name; book = omega arith })
          ∙ ap f tree in
          let none = leaf_has_none r.weight bits in
          omega (arith, all, of_n, none));
    }

-- a node that is freed gives the trees of its children back
pub free_parts : (p : Layout) (holder : ℕ) (n : Name) (old new : State) (level : ℕ)
    → SoundEntries p old → n.level ≡ suc level → (e : Frees p holder n old new)
    → Joins (trees_of new e.held.after)
    (λ k. tree_at old.key level (key_child (old.key n) k)) n (trees_of old e.held.before)
free_parts p holder n old new level s up e =
    let t : SoundEntries p new = free_entries p holder n old new s e in
    let keys : KeysStay p old new = free_keys p holder n old new e in
    let book = e.last in
    let live : IsLive p old n = record { name = e.name; book = omega arith } in
    let tree : tree_of old n ≡ node_at n (λ k. tree_at old.key level (key_child (old.key n) k)) =
    node_tree old.key n.level level n up in
    record {
      weighs = λ f. (
          let r = seen_trades p holder (one_name n)
          (children_named (old.key n)) old new f s t keys e.held in
          let all = r.weighs in
          let of_n = r.is_weight.before n live ∙ ap f tree in
          let of_children =
          children_by_trees p f r.weight old level (old.key n)
          (λ k m lt at. (
            r.is_weight.before m (child_lives p old n m k s live lt at),
            (let lower = child_level n.level (old.key n) m k (s.fits n live) lt at in
                omega arith),
          )) in
          omega (arith, all, of_n, of_children));
    }
