-- What is reached from a tree that stands in a sound state stands in it too.
use Rattle.std.proofs.Common.{◌≡◌, ℕ, zero, suc, ◌<◌, Some, None, Option, List, refl, sym, ◌∙◌, ap, subst, inl, inr, arith}
use Rattle.std.proofs.lemmas.Bool.{cases_lt}
use Rattle.std.proofs.lemmas.Option.{same_Some, none-some}
use Rattle.node_words.specs.declared.shapes.names.Name.{Name}
use Rattle.node_words.specs.shapes.Shape.{IsCanonical}
use Rattle.node_words.specs.shapes.Tree.{Tree, root_of, child_of, shape_of, IsSubtree, itself, below, IsTreeAt}
use Rattle.node_words.proofs.OfShapes.TreeLaws.{child_of-gone, child_of-node_at, child_of-node_at_past, gone_at, leaf_at, node_levels}
use Rattle.node_words.specs.declared.keys.Key.{Key}
use Rattle.node_words.specs.Plans.{Layout}
use Rattle.node_words.specs.Held.{IsHeld, IsReached, IsTree, AreTrees, AreCanonical}
use Rattle.core_laws.specs.places.Names.{key_bits, key_child}
use Rattle.core_laws.specs.States.{State, IsLive, tree_at, tree_of}
use Rattle.core_laws.specs.LiveTrees.{IsLiveTree, IsLiveOrGone, AreLiveTrees}
use Rattle.core_laws.specs.Soundness.{SoundEntries}
use Rattle.core_laws.proofs.Lives.{child_lives, child_level}
use Rattle.core_laws.proofs.SeenNodes.{gone_tree, leaf_tree, node_tree}
use Rattle.core_laws.proofs.OneShape.{canonical_of}

root_at : (key : Name → Key) (level : ℕ) (n : Name) → root_of (tree_at key level (Some n)) ≡ Some n
unfolding tree_at
root_at key zero n = refl
root_at key (suc level) n = refl

root_stands : (p : Layout) (state : State) (t : Tree) (s : IsLiveTree p state t)
    → root_of t ≡ Some s.name
root_stands p state t s = ap root_of (sym s.tree) ∙ root_at state.key s.name.level s.name

-- the tree of a name that a tree has as its root, where that stands or is gone
standing_at : (p : Layout) (state : State) (t : Tree) (n : Name) → IsLiveOrGone p state t
    → root_of t ≡ Some n → IsLive p state n × (tree_of state n ≡ t)
standing_at p state t n (inl gone) e = absurd (none-some n (ap root_of (sym gone) ∙ e))
standing_at p state t n (inr s) e =
    let same : s.name ≡ n = same_Some s.name n (sym (root_stands p state t s) ∙ e) in (
      subst (λ (m : Name). IsLive p state m) same s.live,
      ap (λ (m : Name). tree_of state m) (sym same) ∙ s.tree,
    )

module _ (p : Layout) (state : State) (sound : SoundEntries p state) where
  at_child : (level : ℕ) (n : Name) (k : ℕ) (o : Option Name) → IsLive p state n
      → n.level ≡ suc level → k < 8 → key_child (state.key n) k ≡ o
      → IsLiveOrGone p state (tree_at state.key level o)
  at_child level n k None live of lt e = inl (gone_tree state.key level)
  at_child level n k (Some m) live of lt e =
      let lower = child_level n.level (state.key n) m k (sound.fits n live) lt e in
      let same : m.level ≡ level = omega arith in
      inr (record {
        name = m;
        live = child_lives p state n m k sound live lt e;
        tree = ap (λ (l : ℕ). tree_at state.key l (Some m)) same;
      })

  child_stands : (k level : ℕ) (n : Name) → IsLive p state n → n.level ≡ level
      → IsLiveOrGone p state (child_of (tree_of state n) k)
  child_stands k zero n live of =
      inl (ap (λ (t : Tree). child_of t k) (leaf_tree state.key n.level n of) ∙ refl)
  child_stands k (suc level) n live of =
      let node = ap (λ (t : Tree). child_of t k) (node_tree state.key n.level level n of) in
      elim (cases_lt k 8) [
        | inl lt ↦
            subst (λ (t : Tree). IsLiveOrGone p state t)
            (sym (node
            ∙ child_of-node_at n
            (λ j. tree_at state.key level (key_child (state.key n) j)) k lt))
            (at_child level n k (key_child (state.key n) k) live of lt refl)
        | inr past ↦
            inl (node
            ∙ child_of-node_at_past n
            (λ j. tree_at state.key level (key_child (state.key n) j)) k past)
      ]

  standing_child : (t : Tree) (k : ℕ) → IsLiveOrGone p state t → IsLiveOrGone p state (child_of t k)
  standing_child t k (inl gone) = inl (ap (λ (u : Tree). child_of u k) gone ∙ child_of-gone k)
  standing_child t k (inr s) =
      subst (λ (u : Tree). IsLiveOrGone p state (child_of u k)) s.tree
      (child_stands k s.name.level s.name s.live refl)

  pub parts_stand : (t u : Tree) → IsSubtree t u → IsLiveOrGone p state u → IsLiveOrGone p state t
  parts_stand t u itself s = s
  parts_stand t u (below k more) s = parts_stand t (child_of u k) more (standing_child u k s)

  levels_at : (level : ℕ) (o : Option Name)
      → ((n : Name) → o ≡ Some n → IsLive p state n × (n.level ≡ level))
      → IsTreeAt level (tree_at state.key level o)
  levels_at level None live =
      subst (λ (t : Tree). IsTreeAt level t) (sym (gone_tree state.key level)) (gone_at level)
  levels_at zero (Some n) live =
      subst (λ (t : Tree). IsTreeAt 0 t) (sym (leaf_tree state.key 0 n refl))
      (leaf_at n (key_bits (state.key n)) (live n refl).1)
  levels_at (suc level) (Some n) live =
      let l = live n refl in
      subst (λ (t : Tree). IsTreeAt (suc level) t)
      (sym (node_tree state.key (suc level) level n refl))
      (node_levels level n _ l.1
      (λ k lt. levels_at level (key_child (state.key n) k)
      (λ m e. (
        child_lives p state n m k sound l.0 lt e,
        (let lower = child_level n.level (state.key n) m k (sound.fits n l.0) lt e in
            let of = l.1 in omega arith),
      ))))

  -- each name of a live entry's tree has the level of its depth
  pub levels_of : (n : Name) → IsLive p state n → IsTreeAt n.level (tree_of state n)
  levels_of n live =
      levels_at n.level (Some n)
      (λ m e. (let same : n ≡ m = same_Some n m e in (
        subst (λ (x : Name). IsLive p state x) same live,
        ap (λ (x : Name). x.level) (sym same),
      )))

  tree_stands : (held : List Tree) → AreLiveTrees p state held → (t : Tree) → IsHeld held t
      → IsTree p.side t
  tree_stands held all t h =
      let s = all.each t h in
      let low = s.live.name.level_in in
      record {
        name = s.name;
        root = root_stands p state t s;
        in_world = omega arith;
        levels = subst (λ (u : Tree). IsTreeAt s.name.level u) s.tree (levels_of s.name s.live);
      }

  reached_stands : (held : List Tree) → AreLiveTrees p state held → (t : Tree) → IsReached held t
      → IsLiveOrGone p state t
  reached_stands held all t r = parts_stand t r.over r.stands (inr (all.each r.over r.is_held))

  one_tree : (t u : Tree) → IsLiveOrGone p state t → IsLiveOrGone p state u → root_of t ≡ root_of u
      → t ≡ u
  one_tree t u (inl gone) (inl none) same = gone ∙ sym none
  one_tree t u (inl gone) (inr s) same =
      absurd (none-some s.name (ap root_of (sym gone) ∙ same ∙ root_stands p state u s))
  one_tree t u (inr s) over same = sym s.tree
      ∙ (standing_at p state u s.name over (sym same ∙ root_stands p state t s)).1

  -- trees that stand are trees of the world, one for each name
  pub standing_trees : (held : List Tree) → AreLiveTrees p state held → AreTrees p.side held
  standing_trees held all = record {
    each = tree_stands held all;
    named = λ t u of_t of_u same. one_tree t u (reached_stands held all t of_t)
        (reached_stands held all u of_u) same;
  }

  -- their shapes are canonical
  pub standing_canonical : (held : List Tree) → AreLiveTrees p state held → AreCanonical held
  standing_canonical held all = record {
    each = λ t n h e. (
        let r = standing_at p state t n (inr (all.each t h)) e in
        subst (λ (u : Tree). IsCanonical n.level (shape_of u)) r.1
        (canonical_of p state sound n r.0));
  }
