-- A row that grows by empty items reads as before.
use Rattle.std.proofs.Common.{inl, inr, ◌≡◌, ℕ, zero, suc, ◌<◌, List, [], ◌∷◌, ◌++◌, length, set, get_or, refl, ap, sym, ◌∙◌, get_or-set_same, get_or-set_other}
use Rattle.std.proofs.lemmas.Bool.{cases_eq}
use Rattle.std.proofs.lemmas.List.{length-set}
use Rattle.one_store.specs.entries.Rows.{PutsItem, PutsIn, item_in}

pub push_empty : {A : Type 0} (xs : List A) (empty : A) (j : ℕ)
    → get_or (xs ++ empty ∷ []) j empty ≡ get_or xs j empty
push_empty [] empty zero = refl
push_empty [] empty (suc j) = refl
push_empty (x ∷ xs) empty zero = refl
push_empty (x ∷ xs) empty (suc j) = push_empty xs empty j

-- an item that is put where the row reaches
pub puts_item : {A : Type 0} (empty : A) (old row : List A) (i : ℕ) (item : A)
    → ((j : ℕ) → get_or row j empty ≡ get_or old j empty) → i < length row
    → PutsItem empty old i item (set row i item)
puts_item empty old row i item same inside = record {
  here = get_or-set_same row i item empty inside;
  others = λ j ne. get_or-set_other row i j item empty ne ∙ same j;
}

-- an item that is put into one of several rows
pub puts_in : {A : Type 0} (empty : A) (old : List (List A)) (row : List A) (k i : ℕ) (item : A)
    → k < length old → PutsItem empty (get_or old k []) i item row
    → PutsIn empty old k i item (set old k row)
puts_in empty old row k i item inside puts = record {
  here = ap (λ r. get_or r i empty) (get_or-set_same old k row [] inside) ∙ puts.here;
  others = λ l j ne. elim (cases_eq l k) [
    | inl q ↦ ap (λ r. get_or r j empty)
        (ap (λ x. get_or (set old k row) x []) q ∙ get_or-set_same old k row [] inside)
        ∙ puts.others j (ne q) ∙ ap (λ x. item_in empty old x j) (sym q)
    | inr away ↦ ap (λ r. get_or r j empty) (get_or-set_other old k l row [] away)
  ];
  rows = length-set old k row;
}
