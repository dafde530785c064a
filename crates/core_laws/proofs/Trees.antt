-- Trees of names that stay live stay.
use Rattle.std.proofs.Common.{◌≡◌, ℕ, zero, suc, ◌<◌, refl, ◌∙◌, ap, arith, Some, None, Option}
use Rattle.node_words.specs.declared.shapes.names.Name.{Name}
use Rattle.node_words.specs.shapes.Tree.{Tree, LeafAt, NodeAt, node_at}
use Rattle.node_words.specs.declared.keys.Key.{Key}
use Rattle.node_words.specs.Plans.{Layout}
use Rattle.core_laws.specs.States.{State, IsLive, tree_at, IsUnder, itself, below}
use Rattle.core_laws.specs.places.Names.{key_bits, key_child}
use Rattle.core_laws.specs.Soundness.{SoundEntries}
use Rattle.core_laws.specs.Events.{KeysStay}
use Rattle.core_laws.proofs.Lives.{child_lives, child_level}

pub node_at-same : (n : Name) (row others : ℕ → Tree) → ((k : ℕ) → k < 8 → row k ≡ others k)
    → node_at n row ≡ node_at n others
node_at-same n u v same =
    let a = same 0 (omega arith) in let b = same 1 (omega arith) in let c = same 2 (omega arith) in
    let d = same 3 (omega arith) in
    let e = same 4 (omega arith) in let f = same 5 (omega arith) in let g = same 6 (omega arith) in
    let h = same 7 (omega arith) in
    λ i. NodeAt n (a i) (b i) (c i) (d i) (e i) (f i) (g i) (h i)

-- the name of this level is live before and after
pub record StaysLive (p : Layout) (old new : State) (level : ℕ) (n : Name) : Type 0 where
  pub same_level : n.level ≡ level
  pub before : IsLive p old n
  pub after : IsLive p new n

module _ (p : Layout) (old new : State) (s : SoundEntries p old) (t : SoundEntries p new)
    (keys : KeysStay p old new) where
  child_stays : (level : ℕ) (m n : Name) (k : ℕ) → k < 8 → StaysLive p old new (suc level) m
      → key_child (old.key m) k ≡ Some n → StaysLive p old new level n
  child_stays level m n k lt live child =
      let lower = child_level m.level (old.key m) n k (s.fits m live.before) lt child in
      let of = live.same_level in
      let same : key_child (new.key m) k ≡ Some n =
      ap (λ (x : Key). key_child x k) (keys.key m live.before live.after) ∙ child in
      record {
        same_level = omega arith;
        before = child_lives p old m n k s live.before lt child;
        after = child_lives p new m n k t live.after lt same;
      }

  pub tree_stays : (level : ℕ) (o : Option Name)
      → ((n : Name) → o ≡ Some n → StaysLive p old new level n)
      → tree_at new.key level o ≡ tree_at old.key level o
  unfolding tree_at
  tree_stays zero None live = refl
  tree_stays zero (Some n) live = let l = live n refl in
      ap (λ (x : Key). LeafAt n (key_bits x)) (keys.key n l.before l.after)
  tree_stays (suc level) None live = refl
  tree_stays (suc level) (Some n) live =
      let l = live n refl in
      let same : new.key n ≡ old.key n = keys.key n l.before l.after in
      ap (λ (x : Key). node_at n (λ k. tree_at new.key level (key_child x k))) same
      ∙ node_at-same n _ _
      (λ k lt. tree_stays level (key_child (old.key n) k)
      (λ m e. child_stays level n m k lt l e))

  -- what stands below a name that stays live is the same before and after
  pub under_stays : (m n : Name) → IsLive p old n → IsLive p new n → IsUnder old.key m n
      → IsUnder new.key m n
  under_stays m n before after itself = itself
  under_stays m n before after (below k child lt at more) =
      let same : key_child (new.key n) k ≡ Some child =
      ap (λ (x : Key). key_child x k) (keys.key n before after) ∙ at in
      below k child lt same
      (under_stays m child (child_lives p old n child k s before lt at)
      (child_lives p new n child k t after lt same) more)
