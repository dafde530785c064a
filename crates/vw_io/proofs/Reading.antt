-- One input after the other.
use Rattle.std.proofs.Common.{◌≡◌, ℕ, ◌+◌, ◌<◌, ◌≤◌, zero, suc, List, [], ◌∷◌, ◌++◌, Option, length, take, drop, get_or, refl, sym, ap, subst, ◌∙◌, take_all, arith}
use Rattle.std.proofs.lemmas.List.{take_more, drop_more, take-append-drop}
use Rattle.vw_io.specs.declared.shelves.ReadRefused.{ReadRefused}
use Rattle.vw_io.specs.Outside.{Files}
use Rattle.vw_io.specs.Inputs.{WantedInput, Taken, AreTaken, KeepsText, RefusesInput, StopsAt}

one_taken : (files : Option Files) (inputs : List WantedInput) (input : WantedInput)
    (texts : List (List ℕ)) (bytes : List ℕ) → AreTaken files inputs texts → Taken files input bytes
    → AreTaken files (inputs ++ input ∷ []) (texts ++ bytes ∷ [])
one_taken files [] input [] bytes all taken = (taken, tt)
one_taken files [] input (text ∷ texts) bytes all taken = absurd all
one_taken files (first ∷ inputs) input [] bytes all taken = absurd all
one_taken files (first ∷ inputs) input (text ∷ texts) bytes all taken =
    (all.0, one_taken files inputs input texts bytes all.1 taken)

pub next_taken : (files mid : Option Files) (inputs : List WantedInput) (input : WantedInput)
    (k : ℕ) (old new : List (List ℕ)) → k < length inputs → input ≡ get_or inputs k input
    → mid ≡ files
    → AreTaken files (take k inputs) old → KeepsText mid input old new
    → AreTaken files (take (k + 1) inputs) new
next_taken files mid inputs input k old new within at same taken keeps =
    let more : take (k + 1) inputs ≡ take k inputs ++ input ∷ [] =
    take_more inputs k input within ∙ ap (λ i. take k inputs ++ i ∷ []) (sym at) in
    subst (λ (is : List WantedInput). AreTaken files is new) (sym more)
    (subst (λ (texts : List (List ℕ)). AreTaken files (take k inputs ++ input ∷ []) texts)
    (sym keeps.kept)
    (one_taken files (take k inputs) input old keeps.bytes taken
    (subst (λ (f : Option Files). Taken f input keeps.bytes) same keeps.taken)))

-- some list is its first k, its item at k, and the others
pub parted : {X : Type 0} → (xs : List X) (x d : X) (k : ℕ) → k < length xs → x ≡ get_or xs k d
    → xs ≡ take k xs ++ x ∷ drop (k + 1) xs
parted xs x d k within at =
    sym (take-append-drop k xs)
    ∙ ap (λ others. take k xs ++ others)
    (drop_more xs k d within ∙ ap (λ i. i ∷ drop (k + 1) xs) (sym at))

-- where none of some first items is there, they are the first 0
none_before : {X : Type 0} → (xs : List X) (k : ℕ) → k < length xs → take k xs ≡ [] → k ≡ 0
none_before xs zero within none = refl
none_before [] (suc k) within none = absurd (omega (arith, within))
none_before (x ∷ xs) (suc k) within none =
    absurd (let some : suc (length (take k xs)) ≡ 0 = ap length none in omega (arith, some))

pub stops_at : (why : ReadRefused) (name : List ℕ) (files mid : Option Files)
    (inputs : List WantedInput) (input : WantedInput) (k : ℕ) (texts : List (List ℕ))
    (faults calm risen : ℕ) → k < length inputs → input ≡ get_or inputs k input
    → name ≡ input.name → mid ≡ files → faults ≤ calm → (k ≡ 0 → calm ≡ faults)
    → AreTaken files (take k inputs) texts
    → RefusesInput why mid input calm risen → calm ≤ risen
    → StopsAt why name inputs files faults risen
stops_at why name files mid inputs input k texts faults calm risen within at named same grown start taken refuses behind =
    record {
      input = input;
      named = named;
      reached = record {
        before = take k inputs;
        after = drop
            (k + 1) inputs;
        parts = parted inputs input input k within at;
        texts = texts;
        taken = taken;
      };
      at_read = calm;
      before = grown;
      first = λ none. start (none_before inputs k within none);
      cause = subst (λ (f : Option Files). RefusesInput why f input calm risen) same refuses;
      behind = behind;
    }

-- after the last input
pub all_taken : (files : Option Files) (inputs : List WantedInput) (k : ℕ) (texts : List (List ℕ))
    → length inputs ≤ k → AreTaken files (take k inputs) texts → AreTaken files inputs texts
all_taken files inputs k texts past taken =
    subst (λ (is : List WantedInput). AreTaken files is texts) (take_all k inputs past) taken

pub same_length : (files : Option Files) (inputs : List WantedInput) (texts : List (List ℕ))
    → AreTaken files inputs texts → length texts ≡ length inputs
same_length files [] [] taken = refl
same_length files [] (text ∷ texts) taken = absurd taken
same_length files (input ∷ inputs) [] taken = absurd taken
same_length files (input ∷ inputs) (text ∷ texts) taken =
    ap suc (same_length files inputs texts taken.1)
