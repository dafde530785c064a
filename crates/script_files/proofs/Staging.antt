-- Outputs that are written one after the other, in stages.
use Rattle.std.proofs.Common.{◌≡◌, ℕ, zero, suc, ◌+◌, ◌≤◌, List, [], ◌∷◌, ◌++◌, length, take, drop, map, Some, Result, Ok, sym, ap, subst, ◌∙◌, arith}
use Rattle.std.specs.List.{slice_get}
use Rattle.std.proofs.lemmas.Option.{none-some, get_or_from_slice_get}
use Rattle.std.proofs.lemmas.List.{take-append-drop, take-take, drop-take, take_all}
use Rattle.vw_io.specs.Outside.{ShelfState}
use Rattle.vw_io.specs.Outputs.{Named, AreWritten}
use Rattle.vw_io.proofs.Written.{none_yet}
use Rattle.commands.specs.declared.refusals.NamedOutputRefused.{NamedOutputRefused}
use Rattle.commands.specs.Putting.{StopsAmong, Writes}
use Rattle.commands.proofs.Putting.{among_after, among_before}
use Rattle.commands.proofs.Writing.{both_written}

-- the first k outputs are written
pub record IsWrittenTo (outputs : List Named) (k : ℕ) (old now : ShelfState) : Type 0 where
  pub whole : AreWritten (take k outputs) old.files now.files
  pub never_falls : old.faults ≤ now.faults

pub none_written : (outputs : List Named) (old : ShelfState) → IsWrittenTo outputs 0 old old
none_written outputs old = record { whole = none_yet old.files; never_falls = omega arith }

one_more : (outputs : List Named) (k : ℕ)
    → take (k + 1) outputs ≡ take k outputs ++ take 1 (drop k outputs)
one_more outputs k =
    sym (take-append-drop k (take (k + 1) outputs))
    ∙ (λ i. take-take k (k + 1) outputs (omega arith) i ++ drop-take k 1 outputs i)

pub next_output : {X : Type 0} (outputs : List Named) (k : ℕ) (x : X) (old mid new : ShelfState)
    → IsWrittenTo outputs k old mid → Writes (Ok x) (take 1 (drop k outputs)) mid new
    → IsWrittenTo outputs (k + 1) old new
next_output outputs k x old mid new so_far writes = record {
  whole = subst (λ (os : List Named). AreWritten os old.files new.files) (sym (one_more outputs k))
      (both_written (take k outputs) (take 1 (drop k outputs)) old.files mid.files new.files
      so_far.whole writes.0);
  never_falls =
      (let first = so_far.never_falls in let more = writes.1 in omega (arith, first, more));
}

pub next_stops : (r : NamedOutputRefused) (outputs : List Named) (k : ℕ) (old mid new : ShelfState)
    → IsWrittenTo outputs k old mid → StopsAmong r (take 1 (drop k outputs)) mid new
    → StopsAmong r outputs old new
next_stops r outputs k old mid new so_far s =
    let rest = drop k outputs in
    let others : StopsAmong r rest mid new =
    subst (λ (os : List Named). StopsAmong r os mid new) (take-append-drop 1 rest)
    (among_before r (take 1 rest) (drop 1 rest) mid new s) in
    subst (λ (os : List Named). StopsAmong r os old new) (take-append-drop k outputs)
    (among_after r (take k outputs) rest old mid new so_far.whole so_far.never_falls others)

pub all_outputs : (outputs : List Named) (k : ℕ) (old new : ShelfState) → length outputs ≤ k
    → IsWrittenTo outputs k old new → Writes {X = Unit {0}} (Ok tt) outputs old new
all_outputs outputs k old new past so_far = (
  subst (λ (os : List Named). AreWritten os old.files new.files) (take_all k outputs past)
      so_far.whole,
  so_far.never_falls,
)

-- ---- one write

one_output : {X : Type 0} (f : X → Named) (xs : List X) (k : ℕ) (x : X) → slice_get xs k ≡ Some x
    → take 1 (drop k (map f xs)) ≡ f x ∷ []
one_output f [] k x is = absurd (none-some x is)
one_output {X =
    X} f (y ∷ xs) zero x is = ap (λ (z : X). f z ∷ []) (get_or_from_slice_get (y ∷ xs) 0 x y is)
one_output f (y ∷ xs) (suc k) x is = one_output f xs k x is

-- what was put out under a name is that of this number
pub output_put : {X : Type 0} (f : X → Named) (xs : List X) (k : ℕ) (x : X) (name bytes : List ℕ)
    (result : Result (Unit {0}) NamedOutputRefused) (old new : ShelfState) → slice_get xs k ≡ Some x
    → name ≡ (f x).name → bytes ≡ (f x).bytes
    → Writes result (record { name = name; bytes = bytes } ∷ []) old new
    → Writes result (take 1 (drop k (map f xs))) old new
output_put f xs k x name bytes result old new at named of_bytes writes =
    subst (λ (os : List Named). Writes result os old new)
    ((λ i. record { name = named i; bytes = of_bytes i } ∷ []) ∙ sym (one_output f xs k x at)) writes
