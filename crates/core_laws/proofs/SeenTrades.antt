-- What a holder is seen to hold, as trees, changes as its names do.
use Rattle.std.proofs.Common.{◌≡◌, ℕ, zero, suc, ◌+◌, ◌<◌, ◌≤◌, refl, ◌∙◌, ap, arith, inl, inr, Some, List, [], ◌∷◌, length, set, sum_by, get_or}
use Rattle.std.specs.Prelude.{All}
use Rattle.std.specs.List.{slice_get}
use Rattle.std.proofs.lemmas.Bool.{cases_lt}
use Rattle.std.proofs.lemmas.List.Elements.{All-head, All-tail}
use Rattle.std.proofs.lemmas.List.Sums.{sum_by-cons}
use Rattle.std.proofs.lemmas.Option.{none-some}
use Rattle.node_words.specs.declared.shapes.names.Name.{Name}
use Rattle.node_words.specs.shapes.Tree.{Tree}
use Rattle.node_words.specs.shapes.Weights.{weigh}
use Rattle.node_words.specs.Plans.{Layout}
use Rattle.core_laws.specs.States.{State, IsLive, tree_of, trees_of}
use Rattle.core_laws.specs.Soundness.{SoundEntries}
use Rattle.core_laws.specs.Events.{Trades, Raises, Lowers, no_weight, one_name}
use Rattle.node_words.specs.Held.{Gains}
use Rattle.core_laws.proofs.EntrySteps.{raise_entries, raise_keys, lower_entries, lower_keys}
use Rattle.core_laws.proofs.Lives.{held_lives}
use Rattle.core_laws.specs.Events.{KeysStay}
use Rattle.core_laws.proofs.StepLaws.{tree_kept}

sum_by-at : (f : Name → ℕ) (names : List Name) (k : ℕ) (n : Name) → k < length names
    → f (get_or names k n) ≤ sum_by f names
sum_by-at f [] k n lt = absurd (omega arith)
sum_by-at f (m ∷ names) zero n lt = let all = sum_by-cons f m names in omega (arith, all)
sum_by-at f (m ∷ names) (suc k) n lt = let more = sum_by-at f names k n (omega arith) in
    let all = sum_by-cons f m names in omega (arith, more, all)

sum_by-same : (f g : Name → ℕ) (names : List Name) → All (λ n. f n ≡ g n) names
    → sum_by f names ≡ sum_by g names
sum_by-same f g [] same = refl
sum_by-same f g (n ∷ names) same =
    let here : f n ≡ g n = All-head (λ m. f m ≡ g m) n names same in
    let more = sum_by-same f g names (All-tail (λ m. f m ≡ g m) n names same) in
    let a = sum_by-cons f n names in let b = sum_by-cons g n names in
    omega (arith, here, more, a, b)

weigh-trees : (f : Tree → ℕ) (state : State) (names : List Name)
    → weigh f (trees_of state names) ≡ sum_by (λ n. f (tree_of state n)) names
unfolding weigh
weigh-trees f state [] = refl
weigh-trees f state (n ∷ names) =
    let more = weigh-trees f state names in
    let a = sum_by-cons f (tree_of state n) (trees_of state names) in
    let b = sum_by-cons (λ m. f (tree_of state m)) n names in omega (arith, more, a, b)

-- all names that a holder holds are live
pub names_live : (p : Layout) (state : State) (holder : ℕ) (names : List Name)
    → SoundEntries p state → slice_get state.held holder ≡ Some names → All (IsLive p state) names
names_live p state holder names s at =
    λ k n lt. held_lives p state holder (get_or names k n) s
    (record { names = names; at = at; weighs = λ f. sum_by-at f names k n lt })

get-set_same : {X : Type 0} (xs : List X) (i : ℕ) (x y : X) → slice_get xs i ≡ Some y
    → slice_get (set xs i x) i ≡ Some x
get-set_same [] i x y e = absurd (none-some y e)
get-set_same (w ∷ xs) zero x y e = refl
get-set_same (w ∷ xs) (suc i) x y e = get-set_same xs i x y e

-- a weight of names by their trees, before or after
pub record TreeWeight (p : Layout) (old new : State) (f : Tree → ℕ) (g : Name → ℕ) : Type 0 where
  pub before : (n : Name) → IsLive p old n → g n ≡ f (tree_of old n)
  pub after : (n : Name) → IsLive p new n → g n ≡ f (tree_of new n)

-- f of the tree after, where the name has a book then, and before, where it has none
either : ℕ → ℕ → ℕ → ℕ
either zero then_none then_some = then_none
either (suc book) then_none then_some = then_some

tree_weight : (f : Tree → ℕ) (old new : State) → Name → ℕ
tree_weight f old new n = either (new.book n) (f (tree_of old n)) (f (tree_of new n))

either-some : (book a b : ℕ) → 0 < book → either book a b ≡ b
unfolding either
either-some zero a b h = absurd (omega arith)
either-some (suc book) a b h = refl

either-none : (book a b : ℕ) → book ≤ 0 → either book a b ≡ a
unfolding either
either-none zero a b h = refl
either-none (suc book) a b h = absurd (omega arith)

tree_weights : (p : Layout) (old new : State) (f : Tree → ℕ) → SoundEntries p old
    → SoundEntries p new → KeysStay p old new → TreeWeight p old new f (tree_weight f old new)
unfolding tree_weight
tree_weights p old new f s t keys = record {
  before = λ n live. elim (cases_lt 0 (new.book n)) [
    | inl some ↦
        either-some (new.book n) _ _ some
        ∙ ap f (tree_kept p old new n s t keys live (record { name = live.name; book = some }))
    | inr gone ↦ either-none (new.book n) _ _ gone
  ];
  after = λ n live. either-some (new.book n) _ _ live.book;
}

-- the trees that the holder is seen to hold, before and after
pub record SeenTrades (p : Layout) (f : Tree → ℕ) (gives takes : (Name → ℕ) → ℕ)
    (earlier latest : List Name) (old new : State) : Type 0 where
  pub weight : Name → ℕ
  pub is_weight : TreeWeight p old new f weight
  pub weighs : weigh f (trees_of new latest) + gives weight
      ≡ weigh f (trees_of old earlier) + takes weight

pub seen_trades : (p : Layout) (holder : ℕ) (gives takes : (Name → ℕ) → ℕ) (old new : State)
    (f : Tree → ℕ) → SoundEntries p old → SoundEntries p new → KeysStay p old new
    → (t : Trades old.held holder gives takes new.held)
    → SeenTrades p f gives takes t.before t.after old new
seen_trades p holder gives takes old new f s t keys trade =
    let g : Name → ℕ = tree_weight f old new in
    let w : TreeWeight p old new f g = tree_weights p old new f s t keys in
    let at : slice_get new.held holder ≡ Some trade.after =
    ap (λ (held : List (List Name)). slice_get held holder) trade.has
    ∙ get-set_same old.held holder trade.after trade.before trade.had in
    let earlier = weigh-trees f old trade.before in
    let latest = weigh-trees f new trade.after in
    let of_old =
    sum_by-same g (λ n. f (tree_of old n)) trade.before
    (λ k n lt. w.before _ (names_live p old holder trade.before s trade.had k n lt)) in
    let of_new =
    sum_by-same g (λ n. f (tree_of new n)) trade.after
    (λ k n lt. w.after _ (names_live p new holder trade.after t at k n lt)) in
    let names = trade.weighs g in
    record {
      weight = g;
      is_weight = w;
      weighs = omega (arith, earlier, latest, of_old, of_new, names);
    }

pub raise_gains : (p : Layout) (holder : ℕ) (n : Name) (old new : State) → SoundEntries p old
    → (e : Raises p holder n old new)
    → Gains (trees_of old e.held.before) (tree_of old n) (trees_of new e.held.after)
raise_gains p holder n old new s e = record {
  weighs = λ f. (
      let r = seen_trades p holder no_weight (one_name n) old new f s
      (raise_entries p holder n old new s e) (raise_keys p holder n old new e) e.held in
      let all = r.weighs in
      let tree = r.is_weight.before n e.live in
      omega arith);
}

pub lower_gains : (p : Layout) (holder : ℕ) (n : Name) (old new : State) → SoundEntries p old
    → (e : Lowers p holder n old new)
    → Gains (trees_of new e.held.after) (tree_of old n) (trees_of old e.held.before)
lower_gains p holder n old new s e = record {
  weighs = λ f. (
      let r = seen_trades p holder (one_name n) no_weight old new f s
      (lower_entries p holder n old new s e) (lower_keys p holder n old new e) e.held in
      let all = r.weighs in
      let left = e.left in let b = e.book in
      let tree = r.is_weight.before n (record { name = e.name; book = omega arith }) in
      omega arith);
}
