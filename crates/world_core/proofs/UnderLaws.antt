-- Names at and below a live name.
use Rattle.std.proofs.Common.{◌≡◌, ◌≢◌, ℕ, zero, suc, ◌-◌, ◌<◌, ◌≤◌, refl, sym, ◌∙◌, ap, subst, arith, Some, Option, List, [], ◌∷◌, length, get_or, sum_by}
use Rattle.std.specs.List.{slice_get}
use Rattle.std.proofs.Common.{inl, inr}
use Rattle.std.proofs.lemmas.Bool.{cases_lt}
use Rattle.std.proofs.lemmas.List.Sums.{sum_by-cons, get_or-le-sum_by}
use Rattle.std.proofs.lemmas.Option.{slice_get-get_or}
use Rattle.core_laws.proofs.Sums.{is_name, is_name-self, is_name-some}
use Rattle.node_words.specs.declared.shapes.names.Name.{Name}
use Rattle.node_words.specs.declared.keys.Key.{Key}
use Rattle.node_words.specs.declared.keys.Key.TheVariants.{Leaf, Node}
use Rattle.node_words.specs.Held.{name_in}
use Rattle.core_laws.specs.places.Names.{key_child}
use Rattle.core_laws.specs.Soundness.{FitsLevel}
use Rattle.core_laws.specs.States.{IsLive, IsUnder, itself, below}
use Rattle.core_laws.proofs.Lives.{child_lives, child_level}
use Rattle.world_core.specs.Answering.{children_in}
use Rattle.world_core.specs.Lawful.{HoldsShares, Reaches}
use Rattle.world_core.specs.Stored.{Stored, IsStored, stored_state}
use Rattle.world_core.proofs.Keeping.{one_weight}
use Rattle.world_core.proofs.LowerLaws.{has_of}

row_child : (level : ℕ) (key : Key) (k : ℕ) → FitsLevel level key → 1 ≤ level
    → name_in (children_in key) k ≡ key_child key k
row_child zero key k fits le = absurd (omega arith)
row_child (suc level) (Leaf bits) k fits le = absurd fits
row_child (suc level) (Node children) k fits le = refl

pub under_same : (key : Name → Key) (m n : Name) → m ≡ n → IsUnder key m n
under_same key m n same = subst (λ (x : Name). IsUnder key m x) same itself

module _ (s : Stored) (n : Name) (level : ℕ) (is : IsStored s)
    (live : IsLive s.plan (stored_state s) n)
    (same : n.level ≡ level) where
  pub leaf_alone : (m : Name) → level ≡ 0 → m ≢ n → IsUnder (stored_state s).key m n → ⊥
  leaf_alone m low other itself = other refl
  leaf_alone m low other (below k child lt at more) =
      let up =
      child_level n.level ((stored_state s).key n) child k
      (is.sound.entries.fits n live) lt at in omega arith

  -- the children's names as a row
  its_child : (children : List (Option Name)) (k : ℕ) (child : Name) → 1 ≤ level
      → children ≡ children_in ((stored_state s).key n) → name_in children k ≡ Some child
      → key_child ((stored_state s).key n) k ≡ Some child
  its_child children k child le row at =
      sym (row_child n.level ((stored_state s).key n) k (is.sound.entries.fits n live)
      (omega arith))
      ∙ ap (λ (cs : List (Option Name)). name_in cs k) (sym row) ∙ at

  pub child_live : (children : List (Option Name)) (k : ℕ) (child : Name) → 1 ≤ level → k < 8
      → children ≡ children_in ((stored_state s).key n) → name_in children k ≡ Some child
      → IsLive s.plan (stored_state s) child × (child.level ≡ level - 1)
  child_live children k child le lt row at =
      let it = its_child children k child le row at in
      let up =
      child_level n.level ((stored_state s).key n) child k
      (is.sound.entries.fits n live) lt it in
      (child_lives s.plan (stored_state s) n child k is.sound.entries live lt it, omega arith)

  pub under_child : (children : List (Option Name)) (k : ℕ) (child m : Name) → 1 ≤ level → k < 8
      → children ≡ children_in ((stored_state s).key n) → name_in children k ≡ Some child
      → IsUnder (stored_state s).key m child → IsUnder (stored_state s).key m n
  under_child children k child m le lt row at more = below k child lt
      (its_child children k child le row at) more

  pub not_under : (children : List (Option Name)) (m : Name) → 1 ≤ level → m ≢ n
      → children ≡ children_in ((stored_state s).key n)
      → ((j : ℕ) (child : Name) → j < 8 → name_in children j ≡ Some child
      → IsUnder (stored_state s).key m child → ⊥)
      → IsUnder (stored_state s).key m n → ⊥
  not_under children m le other row none itself = other refl
  not_under children m le other row none (below k child lt at more) =
      none k child lt (ap (λ (cs : List (Option Name)). name_in cs k) row
      ∙ row_child n.level ((stored_state s).key n) k (is.sound.entries.fits n live) (omega arith)
      ∙ at) more

-- each name that a session holds is held once
pub one_held : (s : Stored) (session : ℕ) (names : List Name) (k : ℕ) (d : Name)
    → slice_get s.held session ≡ Some names → k < length names
    → HoldsShares (stored_state s) session (Some (get_or names k d) ∷ [])
one_held s session names k d at lt = record {
  names = names;
  at = at;
  has = record {
    weighs = λ f.
        (let one = one_weight
        (Some (get_or names k d)) f in let le = get_or-le-sum_by f names k d lt in omega arith);
  };
}

-- where a name is in a list that has it
record Place (m : Name) (names : List Name) : Type 0 where
  pub at : ℕ
  pub below : at < length names
  pub is : (d : Name) → get_or names at d ≡ m

place_of : (m : Name) (names : List Name) → 0 < sum_by (is_name m) names → Place m names
place_of m [] h = absurd (omega arith)
place_of m (n ∷ ns) h = elim (cases_lt 0 (is_name m n)) [
  | inl some ↦ record { at = 0; below = omega arith; is = λ d. sym (is_name-some m n some) }
  | inr none ↦ (let all = sum_by-cons (is_name m) n ns in
      let rest = place_of m ns (omega arith) in
      let below = rest.below in
      record { at = suc rest.at; below = omega arith; is = rest.is })
]

pub seat_names : (held : List (List Name)) (session at : ℕ) (names : List Name) → at ≡ session
    → at < length held → names ≡ get_or held at names → slice_get held session ≡ Some names
seat_names held session at names same lt found =
    subst (λ (k : ℕ). slice_get held k ≡ Some names) same
    (slice_get-get_or held at names lt ∙ ap Some (sym found))

-- a share that a session holds, or one above it, is of one of its names
pub not_reached : (s : Stored) (session : ℕ) (names : List Name) (n : Name)
    → slice_get s.held session ≡ Some names
    → ((j : ℕ) (d : Name) → j < length names → IsUnder (stored_state s).key n (get_or names j d)
    → ⊥)
    → Reaches (stored_state s) session n → ⊥
not_reached s session names n at none reached =
    let f : Name → ℕ = is_name reached.over in
    let has = has_of s session (Some reached.over ∷ []) names reached.held at in
    let le = has.weighs f in
    let one = one_weight (Some reached.over) f in
    let self = is_name-self reached.over in
    let place = place_of reached.over names (omega arith) in
    none place.at n place.below
    (subst (λ (x : Name). IsUnder (stored_state s).key n x) (sym (place.is n)) reached.under)
