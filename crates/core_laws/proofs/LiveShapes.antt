-- Live entries of a level have different shapes, which are canonical and have their entries'
-- buckets.
use Rattle.std.proofs.Common.{◌≡◌, ◌≢◌, ℕ, zero, suc, ◌+◌, ◌<◌, ◌^◌, refl, sym, ◌∙◌, ap, subst, arith, inl, inr, Some, None, Option}
use Rattle.std.specs.Prelude.{slice_index}
use Rattle.std.proofs.lemmas.Bool.{cases_lt}
use Rattle.std.proofs.lemmas.Option.{same_Some, none-some}
use Rattle.std.proofs.lemmas.List.{ext_get_or}
use Rattle.node_words.specs.declared.shapes.names.Name.{Name}
use Rattle.node_words.specs.shapes.Shape.{Shape, Clear, Branch, octant_shape, IsCanonical, IsBranchShape}
use Rattle.node_words.specs.shapes.Shape as shape
use Rattle.node_words.specs.shapes.Buckets.{node_bucket, octant_term, bucket_of_shape}
use Rattle.node_words.specs.shapes.Tree.{LeafAt, shape_of}
use Rattle.node_words.proofs.OfShapes.TreeLaws.{shape_of-child, child_of-node_at}
use Rattle.node_words.proofs.OfShapes.ShapeLaws.{octant_shape-past}
use Rattle.node_words.proofs.OfShapes.BucketLaws.{node_bucket-same, octant_term-clear, octant_term-there, bucket_of_shape-leaf, bucket_of_shape-node}
use Rattle.node_words.specs.declared.keys.Key.{Key}
use Rattle.node_words.specs.declared.keys.Key.TheVariants.{Leaf, Node}
use Rattle.node_words.specs.Keys.{child_term, bucket_of_key}
use Rattle.node_words.specs.Plans.{Layout}
use Rattle.core_laws.specs.States.{State, IsLive, tree_at}
use Rattle.core_laws.specs.places.Names.{key_bits, key_child}
use Rattle.core_laws.specs.Soundness.{FitsLevel, SoundEntries}
use Rattle.core_laws.proofs.Lives.{child_lives, child_level}

-- a live entry of this level
pub record LivesAt (p : Layout) (state : State) (level : ℕ) (n : Name) : Type 0 where
  pub live : IsLive p state n
  pub same_level : n.level ≡ level

-- where there is a name, it is a live one of this level
abbrev pub AreLive : Layout → State → ℕ → Option Name → Type 0
AreLive p c level o = (n : Name) → o ≡ Some n → LivesAt p c level n

pub one_lives : (p : Layout) (state : State) (level : ℕ) (n : Name) → LivesAt p state level n
    → AreLive p state level (Some n)
one_lives p state level n l m e = subst (λ (k : Name). LivesAt p state level k) (same_Some n m e) l

-- the octant of a node's shape is the shape of its child
pub octant_at : (key : Name → Key) (level : ℕ) (n : Name) (k : ℕ) → k < 8
    → octant_shape (shape_of (tree_at key (suc level) (Some n))) k
    ≡ shape_of (tree_at key level (key_child (key n) k))
unfolding tree_at
octant_at key level n k lt = sym (shape_of-child (tree_at key (suc level) (Some n)) k)
    ∙ ap shape_of (child_of-node_at n (λ j. tree_at key level (key_child (key n) j)) k lt)

-- a shape is clear just where there is no name
pub not_clear_at : (key : Name → Key) (level : ℕ) (n : Name)
    → shape_of (tree_at key level (Some n)) ≢ Clear
unfolding tree_at shape_of
not_clear_at key zero n e = cc
not_clear_at key (suc level) n e = cc

pub clear_at : (key : Name → Key) (level : ℕ) → shape_of (tree_at key level None) ≡ Clear
unfolding tree_at shape_of
clear_at key zero = refl
clear_at key (suc level) = refl

-- keys of nodes with the same children are one
same_children : (level : ℕ) (x y : Key) → FitsLevel (suc level) x → FitsLevel (suc level) y
    → ((k : ℕ) → k < 8 → key_child x k ≡ key_child y k) → x ≡ y
same_children level (Leaf b) y fx fy same = absurd fx
same_children level (Node cs) (Leaf b) fx fy same = absurd fy
same_children level (Node cs) (Node ds) fx fy same =
    let of_x = fx.0 in let of_y = fy.0 in
    ap Node (ext_get_or None cs ds (of_x ∙ sym of_y) (λ i lt. same i (omega arith)))

same_bits : (x y : Key) → FitsLevel 0 x → FitsLevel 0 y → key_bits x ≡ key_bits y → x ≡ y
same_bits (Leaf a) (Leaf b) fx fy same = ap Leaf same
same_bits (Leaf a) (Node ds) fx fy same = absurd fy
same_bits (Node cs) y fx fy same = absurd fx

leaf_bits : (m n : Name) (a b : ℕ) → shape_of (LeafAt m a) ≡ shape_of (LeafAt n b) → a ≡ b
unfolding shape_of
leaf_bits m n a b e = cc

pub bits_at : (key : Name → Key) (m n : Name)
    → shape_of (tree_at key 0 (Some m)) ≡ shape_of (tree_at key 0 (Some n))
    → key_bits (key m) ≡ key_bits (key n)
unfolding tree_at
bits_at key m n e = leaf_bits m n _ _ e

clear_octant : (level k : ℕ) → IsCanonical level (octant_shape Clear k)
unfolding IsCanonical
clear_octant zero zero = tt
clear_octant zero (suc k) = tt
clear_octant (suc level) zero = (tt, λ k. clear_octant level k)
clear_octant (suc level) (suc j) = (tt, λ k. clear_octant level k)

module _ (p : Layout) (state : State) (s : SoundEntries p state) where
  pub children_live : (level : ℕ) (n : Name) (k : ℕ) → k < 8 → LivesAt p state (suc level) n
      → AreLive p state level (key_child (state.key n) k)
  children_live level n k lt l m e =
      let lower = child_level n.level (state.key n) m k (s.fits n l.live) lt e in
      let of = l.same_level in
      record { live = child_lives p state n m k s l.live lt e; same_level = omega arith }

  pub fits_at : (level : ℕ) (n : Name) → LivesAt p state level n → FitsLevel level (state.key n)
  fits_at level n l = subst (λ (k : ℕ). FitsLevel k (state.key n)) l.same_level (s.fits n l.live)

  -- live entries of one level and one shape are one
  pub shape_once : (level : ℕ) (a b : Option Name) → AreLive p state level a
      → AreLive p state level b
      → shape_of (tree_at state.key level a) ≡ shape_of (tree_at state.key level b) → a ≡ b
  shape_once level None None la lb e = refl
  shape_once level None (Some n) la lb e =
      absurd (not_clear_at state.key level n (sym e ∙ clear_at state.key level))
  shape_once level (Some m) None la lb e =
      absurd (not_clear_at state.key level m (e ∙ clear_at state.key level))
  shape_once zero (Some m) (Some n) la lb e =
      ap Some (s.once m n (la m refl).live (lb n refl).live
      ((la m refl).same_level ∙ sym (lb n refl).same_level)
      (same_bits (state.key m) (state.key n) (fits_at 0 m (la m refl))
      (fits_at 0 n (lb n refl)) (bits_at state.key m n e)))
  shape_once (suc level) (Some m) (Some n) la lb e =
      ap Some (s.once m n (la m refl).live (lb n refl).live
      ((la m refl).same_level ∙ sym (lb n refl).same_level)
      (same_children level (state.key m) (state.key n) (fits_at (suc level) m (la m refl))
      (fits_at (suc level) n (lb n refl))
      (λ k lt. shape_once level (key_child (state.key m) k) (key_child (state.key n) k)
      (children_live level m k lt (la m refl)) (children_live level n k lt (lb n refl))
      (sym (octant_at state.key level m k lt) ∙ ap (λ (x : Shape). octant_shape x k) e
      ∙ octant_at state.key level n k lt))))

  -- the shape of a live entry is canonical
  some_octant : (level : ℕ) (n : Name) (key : Key) → state.key n ≡ key → FitsLevel (suc level) key
      → (k : ℕ) × (k < 8) × (key_child key k ≢ None)
  some_octant level n (Leaf b) same fits = absurd fits
  some_octant level n (Node cs) same fits = (fits.2.octant, fits.2.below, fits.2.there)

  there_at : (level : ℕ) (o : Option Name) → o ≢ None → shape_of (tree_at state.key level o) ≢ Clear
  there_at level None some = absurd (some refl)
  there_at level (Some n) some = not_clear_at state.key level n

  branch_at : (level : ℕ) (n : Name) (t : Shape)
      → t ≡ shape_of (tree_at state.key (suc level) (Some n))
      → ((k : ℕ) × (k < 8) × (octant_shape t k ≢ Clear)) → IsBranchShape t
  unfolding tree_at shape_of
  branch_at level n Clear e some = tt
  branch_at level n (shape.Leaf b) e some = absurd (let no : ⊥ = cc in no)
  branch_at level n (Branch a b c' d e' f g h) e some = some

  leaf_at : (n : Name) (key : Key) → state.key n ≡ key → FitsLevel 0 key
      → IsCanonical 0 (shape_of (tree_at state.key 0 (Some n)))
  unfolding tree_at shape_of IsCanonical
  leaf_at n (Leaf bits) same fits =
      (let b : bits ≡ key_bits (state.key n) = ap key_bits (sym same) in
      (subst (λ (x : ℕ). 0 < x) b fits.0, subst (λ (x : ℕ). x < 2 ^ 64) b fits.1))
  leaf_at n (Node cs) same fits = absurd fits

  pub canonical_at : (level : ℕ) (o : Option Name) → AreLive p state level o
      → IsCanonical level (shape_of (tree_at state.key level o))
  unfolding IsCanonical
  canonical_at zero None l = subst (λ (t : Shape). IsCanonical 0 t) (sym (clear_at state.key 0)) tt
  canonical_at zero (Some n) l = leaf_at n (state.key n) refl (fits_at 0 n (l n refl))
  canonical_at (suc level) None l =
      subst (λ (t : Shape). IsCanonical (suc level) t) (sym (clear_at state.key (suc level)))
      (tt, λ k. clear_octant level k)
  canonical_at (suc level) (Some n) l =
      let live = l n refl in
      let some = some_octant level n (state.key n) refl (fits_at (suc level) n live) in
      let there : octant_shape (shape_of (tree_at state.key (suc level) (Some n))) some.0 ≢ Clear =
      (λ e. there_at level (key_child (state.key n) some.0) some.2
      (sym (octant_at state.key level n some.0 some.1) ∙ e)) in (
        branch_at level n _ refl (some.0, some.1, there),
        λ k. elim (cases_lt k 8) [
          | inl lt ↦
              subst (λ (t : Shape). IsCanonical level t) (sym (octant_at state.key level n k lt))
              (canonical_at level (key_child (state.key n) k) (children_live level n k lt live))
          | inr past ↦
              subst (λ (t : Shape). IsCanonical level t)
              (clear_at state.key level ∙ sym (octant_shape-past _ k past))
              (canonical_at level None (λ m e. absurd (none-some m e)))
        ],
      )

  leaf_bucket_at : (n : Name) (key : Key) → state.key n ≡ key → FitsLevel 0 key
      → bucket_of_key (state.key n) (slice_index p.buckets 0)
      ≡ bucket_of_shape p.buckets 0 (shape_of (tree_at state.key 0 (Some n)))
  unfolding tree_at shape_of
  leaf_bucket_at n (Leaf bits) same fits =
      ap (λ (k : Key). bucket_of_key k (slice_index p.buckets 0)) same
      ∙ sym (bucket_of_shape-leaf p.buckets bits)
      ∙ ap (λ (k : Key). bucket_of_shape p.buckets 0 (shape.Leaf (key_bits k))) (sym same)
  leaf_bucket_at n (Node cs) same fits = absurd fits

  node_key : (level : ℕ) (key : Key) → FitsLevel (suc level) key
      → bucket_of_key key (slice_index p.buckets (suc level))
      ≡ node_bucket (λ k. child_term (key_child key k)) (slice_index p.buckets (suc level))
  node_key level (Leaf b) fits = absurd fits
  node_key level (Node cs) fits = refl

  -- what stands for a child in its parent's hash, where its bucket is that of its shape
  term : (level : ℕ) (o : Option Name) (u : Shape) → u ≡ shape_of (tree_at state.key level o)
      → ((m : Name) → o ≡ Some m
      → m.bucket ≡ bucket_of_shape p.buckets level (shape_of (tree_at state.key level (Some m))))
      → child_term o ≡ octant_term u (bucket_of_shape p.buckets level u)
  term level None u e bucket = sym (octant_term-clear u _ (e ∙ clear_at state.key level))
  term level (Some m) u e bucket =
      ap (λ (b : ℕ). 1 + b) (bucket m refl ∙ ap (bucket_of_shape p.buckets level) (sym e))
      ∙ sym (octant_term-there u _ (λ none. not_clear_at state.key level m (sym e ∙ none)))

  placed_at : (level : ℕ) (n : Name) → LivesAt p state level n
      → n.bucket ≡ bucket_of_key (state.key n) (slice_index p.buckets level)
  placed_at level n l = s.placed n l.live
      ∙ ap (λ (k : ℕ). bucket_of_key (state.key n) (slice_index p.buckets k)) l.same_level

  -- the bucket of a live entry is that of its shape
  pub bucket_at : (level : ℕ) (n : Name) → LivesAt p state level n
      → n.bucket ≡ bucket_of_shape p.buckets level (shape_of (tree_at state.key level (Some n)))
  bucket_at zero n l = placed_at 0 n l ∙ leaf_bucket_at n (state.key n) refl (fits_at 0 n l)
  bucket_at (suc level) n l =
      let t : Shape = shape_of (tree_at state.key (suc level) (Some n)) in
      placed_at (suc level) n l
      ∙ node_key level (state.key n) (fits_at (suc level) n l)
      ∙ node_bucket-same (λ k. child_term (key_child (state.key n) k))
      (λ k. octant_term (octant_shape t k)
      (bucket_of_shape p.buckets level (octant_shape t k)))
      (slice_index p.buckets (suc level))
      (λ k lt. term level (key_child (state.key n) k) (octant_shape t k)
      (octant_at state.key level n k lt)
      (λ m e. bucket_at level m (children_live level n k lt l m e)))
      ∙ sym (bucket_of_shape-node p.buckets level t)
