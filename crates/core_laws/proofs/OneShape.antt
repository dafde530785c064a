-- No two live entries have one shape, and each part of a live entry's shape is that of a live
-- entry.
use Rattle.std.proofs.Common.{◌≡◌, ◌≢◌, ℕ, zero, suc, refl, sym, ◌∙◌, ap, subst, inl, inr, Some, None, Option}
use Rattle.std.proofs.lemmas.Bool.{cases_lt}
use Rattle.std.proofs.lemmas.Option.{same_Some}
use Rattle.node_words.specs.declared.shapes.names.Name.{Name}
use Rattle.node_words.specs.shapes.Shape.{Shape, Clear, octant_shape, IsCanonical, IsPart, whole, within}
use Rattle.node_words.specs.shapes.Tree.{shape_of}
use Rattle.node_words.proofs.OfShapes.ShapeLaws.{octant_shape-clear, octant_shape-past, one_level}
use Rattle.node_words.specs.declared.keys.Key.{Key}
use Rattle.node_words.specs.Plans.{Layout}
use Rattle.core_laws.specs.places.Names.{key_child}
use Rattle.core_laws.specs.States.{State, IsLive, tree_at, shape_in}
use Rattle.core_laws.specs.Soundness.{SoundEntries}
use Rattle.core_laws.specs.Returning.{IsShapeStored}
use Rattle.core_laws.proofs.LiveShapes.{LivesAt, AreLive, one_lives, octant_at, clear_at, not_clear_at, children_live, shape_once, canonical_at}

-- a clear shape has no part
partless : {r s : Shape} → IsPart r s → s ≡ Clear → ⊥
partless (whole some) e = some e
partless (within k more) e =
    partless more (ap (λ (x : Shape). octant_shape x k) e ∙ octant_shape-clear k)

leaf_octants : (key : Name → Key) (n : Name) (k : ℕ)
    → octant_shape (shape_of (tree_at key 0 (Some n))) k ≡ Clear
unfolding tree_at shape_of
leaf_octants key n zero = refl
leaf_octants key n (suc k) = refl

module _ (p : Layout) (state : State) (s : SoundEntries p state) where
  alive : (n : Name) → IsLive p state n → AreLive p state n.level (Some n)
  alive n live = one_lives p state n.level n (record { live = live; same_level = refl })

  pub canonical_of : (n : Name) → IsLive p state n → IsCanonical n.level (shape_in state n)
  canonical_of n live = canonical_at p state s n.level (Some n) (alive n live)

  -- live entries of one shape are one, whatever their levels
  pub one_shape : (m n : Name) → IsLive p state m → IsLive p state n
      → shape_in state m ≡ shape_in state n → m ≡ n
  one_shape m n of_m of_n same =
      let some : shape_in state m ≢ Clear = not_clear_at state.key m.level m in
      let of_n' = subst (λ (x : Shape). IsCanonical n.level x) (sym same) (canonical_of n of_n) in
      let level : m.level ≡ n.level =
      one_level m.level n.level (shape_in state m) some (canonical_of m of_m) of_n' in
      same_Some m n
      (shape_once p state s n.level (Some m) (Some n)
      (one_lives p state n.level m (record { live = of_m; same_level = level })) (alive n of_n)
      (ap (λ (l : ℕ). shape_of (tree_at state.key l (Some m))) (sym level) ∙ same))

  octant_stored : (level : ℕ) (r : Shape) (o : Option Name) {t : Shape} → AreLive p state level o
      → t ≡ shape_of (tree_at state.key level o) → IsPart r t
      → ((m : Name) → LivesAt p state level m → t ≡ shape_of (tree_at state.key level (Some m))
      → IsShapeStored p state.key state.book r)
      → IsShapeStored p state.key state.book r
  octant_stored level r None live e part next = absurd
      (partless part (e ∙ clear_at state.key level))
  octant_stored level r (Some m) live e part next = next m (live m refl) e

  -- each part of a live entry's shape is stored
  pub part_stored : (level : ℕ) (n : Name) {r t : Shape} → LivesAt p state level n → IsPart r t
      → t ≡ shape_of (tree_at state.key level (Some n)) → IsShapeStored p state.key state.book r
  part_stored level n l (whole some) e = record {
    name = n;
    is_name = l.live.name;
    live = l.live.book;
    shape = ap (λ (k : ℕ). shape_of (tree_at state.key k (Some n))) l.same_level ∙ sym e;
  }
  part_stored zero n l (within k more) e =
      absurd (partless more (ap (λ (x : Shape). octant_shape x k) e ∙ leaf_octants state.key n k))
  part_stored (suc level) n l (within k more) e =
      let o = ap (λ (x : Shape). octant_shape x k) e in
      elim (cases_lt k 8) [
        | inr past ↦ absurd (partless more (o ∙ octant_shape-past _ k past))
        | inl lt ↦
            octant_stored level _ (key_child (state.key n) k)
            (children_live p state s level n k lt l)
            (o ∙ octant_at state.key level n k lt) more
            (λ m of_m same. part_stored level m of_m more same)
      ]
