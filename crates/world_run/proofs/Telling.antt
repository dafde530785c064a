-- A closed table tells what its last state does.
use Rattle.std.proofs.Common.{◌≡◌, ◌≢◌, ℕ, zero, suc, ◌+◌, ◌<◌, ◌≤◌, ◌==◌, Bool, true, false, Option, List, [], ◌∷◌, length, take, map, refl, ap, sym, subst, ◌∙◌, arith, inl, inr, eq-eqb}
use Rattle.std.specs.Prelude.{All, if◌then◌else◌, slice_index}
use Rattle.std.specs.List.{Contains}
use Rattle.std.proofs.lemmas.Bool.{cases_eq, eqb-true}
use Rattle.std.proofs.lemmas.List.Elements.{All-cons, All-contains, All-head, All-nil, All-tail, Contains-append_cases}
use Rattle.std.proofs.lemmas.List.{take_all}
use Rattle.history_model.specs.Contents.{Content}
use Rattle.history_model.specs.Logs.{Log}
use Rattle.node_words.specs.declared.shapes.names.Name.{Name}
use Rattle.core_laws.specs.places.WordIds.{levels}
use Rattle.core_laws.specs.contents.Aligned.{top}
use Rattle.core_laws.specs.contents.Versions.{HoldsVersion}
use Rattle.node_table.specs.States.{State}
use Rattle.report.specs.Numbers.{AreNumbers}
use Rattle.report.specs.Roots.{RootsNameWorlds, root_in_list}
use Rattle.report.proofs.NumberLaws.{numbers_told}
use Rattle.report.proofs.RootLaws.{sound_roots}
use Rattle.node_table.specs.Closing.{EndsTable}
use Rattle.node_table.specs.TableStates.{TableState}
use Rattle.node_table.specs.Closed.{Closed}
use Rattle.node_table.specs.Root.{Root}

-- the numbers of the world's own levels
abbrev pub live_numbers : TableState → Closed → List ℕ
live_numbers t closed = take (levels t.plan) closed.live

-- the roots of the history's versions tell which of them have the same cells, and the numbers of
-- live nodes are those of its different contents
pub record TellsHistory (models : List Content) (log : Log) (roots : List Root)
    (numbers : List ℕ) : Type 0 where
  pub roots_tell : RootsNameWorlds models log (root_in_list roots)
  pub are_numbers : AreNumbers models log numbers

-- the root that is listed for a version
found_here : (r : Root) (roots : List Root) (v : ℕ) → r.version ≡ v
    → root_in_list (r ∷ roots) v ≡ r.name
found_here r roots v e =
    ap (λ (b : Bool). if b then r.name else root_in_list roots v) (eq-eqb r.version v e)

bool_false : (b : Bool) → (b ≡ true → ⊥) → b ≡ false
bool_false true h = absurd (h refl)
bool_false false h = refl

found_later : (r : Root) (roots : List Root) (v : ℕ) → r.version ≢ v
    → root_in_list (r ∷ roots) v ≡ root_in_list roots v
found_later r roots v other =
    ap (λ (b : Bool). if b then r.name else root_in_list roots v)
    (bool_false (r.version == v) (λ e. other (eqb-true r.version v e)))

named_root : (root : ℕ → Option Name) (roots : List Root) (v : ℕ)
    → All (λ r. r.name ≡ root r.version) roots → Contains (map (λ r. r.version) roots) v
    → root_in_list roots v ≡ root v
named_root root [] v named (k, lt, e) = absurd (omega arith)
named_root root (r ∷ roots) v named listed = elim (cases_eq r.version v) [
  | inl same ↦ found_here r roots v same ∙ All-head (λ s. s.name ≡ root s.version) r roots named
      ∙ ap root same
  | inr other ↦ elim
      (Contains-append_cases (r.version ∷ []) (map (λ r. r.version) roots) v listed) [
        | inl here ↦ absurd (other (only here))
        | inr there ↦ found_later r roots v other
            ∙ named_root root roots v (All-tail (λ s. s.name ≡ root s.version) r roots named) there
      ]
]
  where
    only : Contains (r.version ∷ []) v → r.version ≡ v
    only there = All-contains (λ (n : ℕ). r.version ≡ n) (r.version ∷ []) v
        (All-cons (λ (n : ℕ). r.version ≡ n) r.version [] refl
        (All-nil (λ (n : ℕ). r.version ≡ n))) there

-- roots that are the same for kept versions tell the same
module _ (models : List Content) (log : Log) (root listed : ℕ → Option Name)
    (same : (v : ℕ) → HoldsVersion log v → listed v ≡ root v) where
  tell_same : RootsNameWorlds models log root → RootsNameWorlds models log listed
  tell_same tells = record {
    no_cell = λ v kept e. tells.no_cell v kept (sym (same v kept) ∙ e);
    no_root = λ v kept none. same v kept ∙ tells.no_root v kept none;
    same_cells = λ v w first second e. tells.same_cells v w first second
        (sym (same v first) ∙ e ∙ same w second);
    same_root = λ v w first second cells. same v first ∙ tells.same_root v w first second cells
        ∙ sym (same w second);
  }

-- the first numbers of a list
first_numbers : (live : List ℕ) (n i : ℕ) → i < n → slice_index (take n live) i ≡ slice_index live i
first_numbers [] n i lt =
    ap (λ (xs : List ℕ). slice_index xs i)
    (let none : take n [] ≡ [] = take_all n [] (omega arith) in none)
first_numbers (x ∷ live) zero i lt = absurd (omega arith)
first_numbers (x ∷ live) (suc n) zero lt = refl
first_numbers (x ∷ live) (suc n) (suc i) lt = first_numbers live n i (omega arith)

number_taken : (live : List ℕ) (n : ℕ) → n ≤ length live → length (take n live) ≡ n
number_taken [] zero le = refl
number_taken [] (suc n) le = absurd (omega arith)
number_taken (x ∷ live) zero le = refl
number_taken (x ∷ live) (suc n) le = (let rest = number_taken live n (omega arith) in omega arith)

pub closed_tells : (t : TableState) (closed : Closed) → 2 ≤ t.plan.side → t.plan.side ≤ 12
    → EndsTable t closed
    → TellsHistory t.models closed.history closed.roots.items (live_numbers t closed)
closed_tells t closed low high ends =
    let state : State = ends.state in
    let tells : RootsNameWorlds t.models state.log state.root =
    sound_roots t.plan t.models state low ends.sound in
    let roots : RootsNameWorlds t.models state.log (root_in_list closed.roots.items) =
    tell_same t.models state.log state.root (root_in_list closed.roots.items)
    (λ v kept. named_root state.root closed.roots.items v ends.roots.named
    (ends.roots.all v kept)) tells
    in
    let many = ends.live.as_many in
    let number : length (live_numbers t closed) ≡ top t.plan.side + 1 =
    (let taken = number_taken closed.live (levels t.plan) (omega arith) in omega arith) in
    let numbers : AreNumbers t.models state.log (live_numbers t closed) =
    numbers_told t.plan t.models state (live_numbers t closed) low ends.sound ends.idle number
    (λ level le. first_numbers closed.live (levels t.plan) level (omega arith)
    ∙ ends.live.each level (omega arith))
    in
    record {
      roots_tell = subst
          (λ (log : Log). RootsNameWorlds t.models log (root_in_list closed.roots.items))
          (sym ends.history) roots;
      are_numbers = subst (λ (log : Log). AreNumbers t.models log (live_numbers t closed))
          (sym ends.history) numbers;
    }
