-- The least of some entries, one after the other.
use Rattle.std.proofs.Common.{◌≡◌, ℕ, ◌+◌, ◌<◌, ◌≤◌, Bool, true, false, length-take, take_all, List, [], ◌∷◌, ◌++◌, length, take, map, get_or, refl, sym, ap, subst, ◌∙◌, inl, inr, ◌⊎◌, arith, ℤ, ◌≤ℤ◌}
use Rattle.std.specs.Prelude.{slice_index_or}
use Rattle.std.specs.List.{Contains}
use Rattle.std.proofs.lemmas.Int.{ints}
use Rattle.std.proofs.lemmas.List.{take_more}
use Rattle.std.proofs.lemmas.List.{length-map, map-append}
use Rattle.std.proofs.lemmas.List.Elements.{All-push, All-nil, Contains-push, Contains-append_left}
use Rattle.vox_read.specs.Contents.{Content}
use Rattle.vox_scene.specs.declared.rotations.Axis.{Axis}
use Rattle.vox_scene.specs.Rotations.{entry_on}
use Rattle.vox_scene.specs.Placing.{SceneInstance, IndexedInstance, instance_at, IsLeast, IsLesser}

pub least_none : (entry : SceneInstance → ℤ) (d : ℤ) → IsLeast entry [] d
least_none entry d = record { below = All-nil (λ s. d ≤ℤ entry s); met = inl refl }

le_trans : (a b c : ℤ) → a ≤ℤ b → b ≤ℤ c → a ≤ℤ c
le_trans a b c ab bc = omega (arith, ints)

le_itself : (a : ℤ) → a ≤ℤ a
le_itself a = omega (arith, ints)

-- a new one that is no greater
pub least_lower : (entry : SceneInstance → ℤ) (xs : List SceneInstance) (least : ℤ) (s : SceneInstance)
    → IsLeast entry xs least
    → entry s ≤ℤ least → IsLeast entry (xs ++ s ∷ []) (entry s)
least_lower entry xs least s is lower = record {
  below = All-push (λ t. entry s ≤ℤ entry t) xs s
      (λ k d lt. le_trans (entry s) least (entry (slice_index_or xs k d)) lower (is.below k d lt))
      (le_itself (entry s));
  met = inr (s, Contains-push xs s, refl);
}

-- the first one
pub least_first : (entry : SceneInstance → ℤ) (xs : List SceneInstance) (s : SceneInstance) → length xs ≡ 0
    → IsLeast entry (xs ++ s ∷ []) (entry s)
least_first entry xs s none = record {
  below = All-push (λ t. entry s ≤ℤ entry t) xs s (λ k d lt. absurd (omega (arith, lt, none)))
      (le_itself (entry s));
  met = inr (s, Contains-push xs s, refl);
}

-- a new one that is no less, behind some
pub least_stays : (entry : SceneInstance → ℤ) (xs : List SceneInstance) (least : ℤ) (s : SceneInstance)
    → IsLeast entry xs least
    → least ≤ℤ entry s → (length xs ≡ 0 → ⊥) → IsLeast entry (xs ++ s ∷ []) least
least_stays entry xs least s is higher some = record {
  below = All-push (λ t. least ≤ℤ entry t) xs s is.below higher;
  met = stays is.met;
}
  where
    stays : (xs ≡ []) ⊎ ((t : SceneInstance) × Contains xs t × (entry t ≡ least))
        → (xs ++ s ∷ [] ≡ []) ⊎ ((t : SceneInstance) × Contains (xs ++ s ∷ []) t × (entry t ≡ least))
    stays (inl none) = absurd (some (ap (λ (ys : List SceneInstance). length ys) none))
    stays (inr (t, listed, same)) = inr (t, Contains-append_left xs (s ∷ []) t listed, same)

chosen : (entry : SceneInstance → ℤ) (xs : List SceneInstance) (least now : ℤ) (s : SceneInstance) → IsLeast entry xs least
    → (length xs ≡ 0 → ⊥)
    → ((now ≡ entry s) × (entry s ≤ℤ least)) ⊎ ((now ≡ least) × (least ≤ℤ entry s))
    → IsLeast entry (xs ++ s ∷ []) now
chosen entry xs least now s is some (inl low) =
    subst (λ (d : ℤ). IsLeast entry (xs ++ s ∷ []) d) (sym low.0)
    (least_lower entry xs least s is low.1)
chosen entry xs least now s is some (inr high) =
    subst (λ (d : ℤ). IsLeast entry (xs ++ s ∷ []) d) (sym high.0)
    (least_stays entry xs least s is high.1 some)

least_next : (entry : SceneInstance → ℤ) (xs : List SceneInstance) (least now : ℤ) (s : SceneInstance) (any : Bool)
    → (any ≡ false → length xs ≡ 0) → (any ≡ true → 1 ≤ length xs) → IsLeast entry xs least
    → IsLesser any least (entry s) now → IsLeast entry (xs ++ s ∷ []) now
least_next entry xs least now s false none some is lesser =
    subst (λ (d : ℤ). IsLeast entry (xs ++ s ∷ []) d) (sym lesser)
    (least_first entry xs s (none refl))
least_next entry xs least now s true none some is lesser =
    chosen entry xs least now s is
    (λ zero. (let more = some refl in omega (arith, zero, more))) lesser

pub mapped_more : (f : IndexedInstance → SceneInstance) (l : List IndexedInstance) (i : ℕ) (d : IndexedInstance)
    → i < length l
    → map f (take (i + 1) l) ≡ map f (take i l) ++ f (get_or l i d) ∷ []
mapped_more f l i d lt =
    ap (λ (ys : List IndexedInstance). map f ys) (take_more l i d lt)
    ∙ map-append f (take i l) (get_or l i d ∷ [])

-- one more of the instances
pub least_taken : (axis : Axis) (models : List Content) (instanced : List IndexedInstance) (i : ℕ)
    (one : IndexedInstance) (least now : ℤ) (any : Bool) → i < length instanced → one
    ≡ get_or instanced i one
    → (any ≡ false → i ≡ 0) → (any ≡ true → 1 ≤ i)
    → IsLeast (λ s. entry_on axis s.corner) (map (instance_at models) (take i instanced)) least
    → IsLesser any least (entry_on axis one.corner) now
    → IsLeast (λ s. entry_on axis s.corner) (map (instance_at models) (take (i + 1) instanced)) now
least_taken axis models instanced i one least now any lt is none some so_far lesser =
    let long : length (map (instance_at models) (take i instanced)) ≡ i =
    length-map (take i instanced) (instance_at models)
    ∙ (let h = length-take i instanced in omega (arith, h, lt)) in
    subst (λ (xs : List SceneInstance). IsLeast (λ s. entry_on axis s.corner) xs now)
    (ap (λ (x : IndexedInstance). map (instance_at models)
    (take i instanced) ++ instance_at models x ∷ []) is
    ∙ sym (mapped_more (instance_at models) instanced i one lt))
    (least_next (λ s. entry_on axis s.corner) (map (instance_at models) (take i instanced)) least now
    (instance_at models one) any (λ e. long ∙ none e)
    (λ e. let one_more = some e in omega (arith, long, one_more))
    so_far lesser)

pub least_all : (axis : Axis) (models : List Content) (instanced : List IndexedInstance) (i : ℕ)
    (least : ℤ)
    → length instanced ≤ i
    → IsLeast (λ s. entry_on axis s.corner) (map (instance_at models) (take i instanced)) least
    → IsLeast (λ s. entry_on axis s.corner) (map (instance_at models) instanced) least
least_all axis models instanced i least far so_far =
    subst (λ (l : List IndexedInstance). IsLeast (λ s. entry_on axis s.corner)
    (map (instance_at models) l) least)
    (take_all i instanced far) so_far
