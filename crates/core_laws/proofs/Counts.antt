-- Each event keeps the books the numbers of references.
use Rattle.std.proofs.Common.{◌≡◌, ◌≢◌, ℕ, zero, suc, ◌+◌, ◌*◌, ◌<◌, sym, ap, arith, Some, List, [], ◌∷◌, set, sum_by}
use Rattle.std.specs.List.{slice_get}
use Rattle.std.proofs.lemmas.List.Sums.{sum_by-cons}
use Rattle.std.proofs.lemmas.Option.{same_Some, none-some}
use Rattle.vw_cell.specs.Sums.{sum_below-same, sum_below-change}
use Rattle.node_words.specs.declared.shapes.names.Name.{Name}
use Rattle.node_words.specs.Plans.{Layout}
use Rattle.core_laws.specs.places.WordIds.{versions}
use Rattle.core_laws.specs.States.{State}
use Rattle.core_laws.specs.places.Names.{IsName}
use Rattle.core_laws.specs.Counting.{weight, children_weight, entry_weight, booked, parented, rooted, holdings}
use Rattle.core_laws.specs.Events.{Trades, EntriesStay, OthersStay, RootsStay}
use Rattle.core_laws.proofs.Sums.{sum_names-same, sum_names-change, if_live-same}

-- all holdings change as one holder's do
traded_in : (f : Name → ℕ) (held : List (List Name)) (holder : ℕ) (old new : List Name)
    → slice_get held holder ≡ Some old
    → holdings f (set held holder new) + sum_by f old ≡ holdings f held + sum_by f new
unfolding holdings
traded_in f [] holder old new e = absurd (none-some old e)
traded_in f (h ∷ held) zero old new e =
    let same : sum_by f h ≡ sum_by f old =
    ap (λ (xs : List Name). sum_by f xs) (same_Some h old e) in
    let before = sum_by-cons (λ (xs : List Name). sum_by f xs) h held in
    let after = sum_by-cons (λ (xs : List Name). sum_by f xs) new held in
    omega (arith, same, before, after)
traded_in f (h ∷ held) (suc holder) old new e =
    let more = traded_in f held holder old new e in
    let before = sum_by-cons (λ (xs : List Name). sum_by f xs) h held in
    let after = sum_by-cons (λ (xs : List Name). sum_by f xs) h (set held holder new) in
    omega (arith, more, before, after)

pub traded : (f : Name → ℕ) (old new : List (List Name)) (holder : ℕ)
    (gives takes : (Name → ℕ) → ℕ) → Trades old holder gives takes new
    → holdings f new + gives f ≡ holdings f old + takes f
traded f old new holder gives takes t =
    let all = traded_in f old holder t.before t.after t.had in
    let same : holdings f new ≡ holdings f (set old holder t.after) = ap (holdings f) t.has in
    let mine = t.weighs f in
    omega (arith, all, same, mine)

-- where all entries stay, the books and the children weigh the same
pub booked-same : (p : Layout) (f : Name → ℕ) (old new : State) → EntriesStay p old new
    → booked p f new ≡ booked p f old
unfolding booked
booked-same p f old new same =
    sum_names-same p _ _ (λ n is. ap (λ (b : ℕ). b * f n) (same.book n is))

pub parented-same : (p : Layout) (f : Name → ℕ) (old new : State) → EntriesStay p old new
    → parented p f new ≡ parented p f old
unfolding parented
parented-same p f old new same =
    sum_names-same p (entry_weight f new) (entry_weight f old)
    (λ n is. if_live-same (old.book n) (new.book n) _ _ (same.book n is)
    (λ live. ap (children_weight f) (same.key n (record { name = is; book = live }))))

-- where all entries but one stay, they change as that one does
pub booked-change : (p : Layout) (f : Name → ℕ) (n : Name) (old new : State) → IsName p n
    → OthersStay p n old new → booked p f new + old.book n * f n ≡ booked p f old + new.book n * f n
unfolding booked
booked-change p f n old new is same =
    sum_names-change p n (λ m. old.book m * f m)
    (λ m. new.book m * f m) is
    (λ m is_m other. ap (λ (b : ℕ). b * f m) (sym (same.book m is_m other)))

pub parented-change : (p : Layout) (f : Name → ℕ) (n : Name) (old new : State) → IsName p n
    → OthersStay p n old new
    → parented p f new + entry_weight f old n ≡ parented p f old + entry_weight f new n
unfolding parented
parented-change p f n old new is same =
    sum_names-change p n (entry_weight f old) (entry_weight f new) is
    (λ m is_m other. sym
    (if_live-same (old.book m) (new.book m) _ _ (same.book m is_m other)
    (λ live. ap (children_weight f)
    (same.key m (record { name = is_m; book = live }) other))))

-- where all roots stay, they weigh the same
pub rooted-same : (f : Name → ℕ) (old new : State) → RootsStay old new → rooted f new ≡ rooted f old
unfolding rooted
rooted-same f old new same = sum_below-same versions _ _ (λ v lt. ap (weight f) (same v))

-- where all roots but one stay, they change as that one does
pub rooted-change : (f : Name → ℕ) (old new : State) (place : ℕ) → place < versions
    → ((v : ℕ) → v ≢ place → new.root v ≡ old.root v)
    → rooted f new + weight f (old.root place) ≡ rooted f old + weight f (new.root place)
unfolding rooted
rooted-change f old new place lt same =
    sum_below-change versions place (λ v. weight f (old.root v))
    (λ v. weight f (new.root v)) lt (λ v _ other. ap (weight f) (sym (same v other)))
