-- Whatever is named in a sound state is live: each book counts, so who is named has a book.
use Rattle.std.proofs.Common.{◌≡◌, ℕ, zero, suc, ◌+◌, ◌*◌, ◌<◌, ◌≤◌, sym, ap, subst, arith, Some, List, [], ◌∷◌, sum_by}
use Rattle.std.specs.List.{slice_get}
use Rattle.std.proofs.lemmas.List.Sums.{sum_by-cons}
use Rattle.std.proofs.lemmas.Option.{same_Some, none-some}
use Rattle.vw_cell.specs.Sums.{sum_below-at}
use Rattle.node_words.specs.declared.shapes.names.Name.{Name}
use Rattle.node_words.specs.declared.keys.Key.{Key}
use Rattle.node_words.specs.declared.keys.Key.TheVariants.{Leaf, Node}
use Rattle.node_words.specs.Plans.{Layout}
use Rattle.core_laws.specs.places.WordIds.{versions}
use Rattle.core_laws.specs.States.{State, IsLive, Holds, IsUnder, itself, below}
use Rattle.core_laws.specs.places.Names.{key_child}
use Rattle.core_laws.specs.Counting.{weight, children_weight, entry_weight, booked, parented, rooted, holdings}
use Rattle.core_laws.specs.Soundness.{FitsLevel, SoundEntries}
use Rattle.core_laws.proofs.Sums.{sum_names-at, SomeName, sum_names_some, is_name, is_name-self, is_name-some, weight_there, factors, if_live_live}

-- a name that weighs something among all that are named is live
pub named_lives : (p : Layout) (state : State) (n : Name) → SoundEntries p state
    → 0 < parented p (is_name n) state + rooted (is_name n) state + holdings (is_name n) state.held
    → IsLive p state n
unfolding booked
named_lives p state n s some =
    let count = s.counted (is_name n) in
    let found : SomeName p (λ m. state.book m * is_name n m) =
    sum_names_some p (λ m. state.book m * is_name n m) (omega arith) in
    let parts = factors (state.book found.at) (is_name n found.at) found.some in
    let same : found.at ≡ n = sym (is_name-some n found.at parts.1) in
    let P : Name → Type 0 = λ m. IsLive p state m in
    subst P same (record { name = found.name; book = parts.0 })

-- the children of a live entry are live
pub child_lives : (p : Layout) (state : State) (m n : Name) (k : ℕ) → SoundEntries p state
    → IsLive p state m → k < 8 → key_child (state.key m) k ≡ Some n → IsLive p state n
unfolding children_weight parented
child_lives p state m n k s live lt child =
    let here : 0 < weight (is_name n) (key_child (state.key m) k) =
    weight_there n (key_child (state.key m) k) child in
    let of_key : weight (is_name n) (key_child (state.key m) k) ≤ children_weight (is_name n)
    (state.key m) = sum_below-at 8 k (λ j. weight (is_name n) (key_child (state.key m) j)) lt in
    let of_entry : entry_weight (is_name n) state m ≡ children_weight (is_name n) (state.key m) =
    if_live_live (state.book m) (children_weight (is_name n) (state.key m)) live.book in
    let of_all : entry_weight (is_name n) state m ≤ parented p (is_name n) state =
    sum_names-at p m (entry_weight (is_name n) state) live.name in
    named_lives p state n s (omega arith)

-- a root that is kept is live
pub root_lives : (p : Layout) (state : State) (v : ℕ) (n : Name) → SoundEntries p state
    → v < versions → state.root v ≡ Some n → IsLive p state n
unfolding rooted
root_lives p state v n s lt root =
    let here : 0 < weight (is_name n) (state.root v) = weight_there n (state.root v) root in
    let of_all : weight (is_name n) (state.root v) ≤ rooted (is_name n) state =
    sum_below-at versions v (λ w. weight (is_name n) (state.root w)) lt in
    named_lives p state n s (omega arith)

-- what one holder holds is a part of all holdings
pub holdings-at : (f : Name → ℕ) (held : List (List Name)) (holder : ℕ) (names : List Name)
    → slice_get held holder ≡ Some names → sum_by f names ≤ holdings f held
unfolding holdings
holdings-at f [] holder names e = absurd (none-some names e)
holdings-at f (h ∷ held) zero names e =
    let same : sum_by f h ≡ sum_by f names =
    ap (λ (xs : List Name). sum_by f xs) (same_Some h names e) in
    let all = sum_by-cons (λ (xs : List Name). sum_by f xs) h held in omega (arith, same, all)
holdings-at f (h ∷ held) (suc holder) names e =
    let more = holdings-at f held holder names e in
    let all = sum_by-cons (λ (xs : List Name). sum_by f xs) h held in omega (arith, more, all)

-- what is held is live
pub held_lives : (p : Layout) (state : State) (holder : ℕ) (n : Name) → SoundEntries p state
    → Holds state.held holder n → IsLive p state n
held_lives p state holder n s h =
    let one = h.weighs (is_name n) in
    let self = is_name-self n in
    let part = holdings-at (is_name n) state.held holder h.names h.at in
    named_lives p state n s (omega arith)

-- a child is one level below
pub child_level : (level : ℕ) (key : Key) (n : Name) (k : ℕ) → FitsLevel level key → k < 8
    → key_child key k ≡ Some n → n.level + 1 ≡ level
child_level zero (Leaf bits) n k fits lt child = absurd (none-some n child)
child_level zero (Node children) n k fits lt child = absurd fits
child_level (suc level) (Leaf bits) n k fits lt child = absurd fits
child_level (suc level) (Node children) n k fits lt child = fits.1.each k n lt child

-- what stands below a live entry is live
pub under_lives : (p : Layout) (state : State) (m n : Name) → SoundEntries p state
    → IsLive p state n → IsUnder state.key m n → IsLive p state m
under_lives p state m n s live itself = live
under_lives p state m n s live (below k child lt at more) =
    under_lives p state m child s (child_lives p state n child k s live lt at) more
