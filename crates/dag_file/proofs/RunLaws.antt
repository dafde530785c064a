-- Pieces that stand in bytes, one after the other, and the numbers read of them.
use Rattle.std.proofs.Common.{◌≡◌, ℕ, zero, suc, ◌+◌, ◌*◌, ◌^◌, ◌<◌, List, [], ◌∷◌, ◌++◌, length, drop, refl, sym, ap, ◌∙◌, arith}
use Rattle.std.specs.Prelude.{slice_index_or}
use Rattle.std.specs.List.{flat_map}
use Rattle.std.proofs.lemmas.List.{append-nil, append_assoc, length-append, drop_at}
use Rattle.byteorder.specs.Endian.{little_bytes, little_number}
use Rattle.byteorder.specs.Numbers.{little_number-reads_back}
use Rattle.dag_file.specs.Places.{number_at, leaf_at}

-- a piece stands in bytes at a place
pub record HasPieceAt (bytes : List ℕ) (place : ℕ) (piece : List ℕ) : Type 0 where
  pub before : List ℕ
  pub after : List ℕ
  pub is : bytes ≡ before ++ (piece ++ after)
  pub at : length before ≡ place

pub first_part : (a b : List ℕ) → HasPieceAt (a ++ b) 0 a
first_part a b = record { before = []; after = b; is = refl; at = refl }

pub second_part : (a b : List ℕ) (n : ℕ) → length a ≡ n → HasPieceAt (a ++ b) n b
second_part a b n e =
    record { before = a; after = []; is = ap (λ (l : List ℕ). a ++ l) (sym (append-nil b)); at = e }

-- a piece of a piece
pub further : (w q s : List ℕ) (p r t : ℕ) → HasPieceAt w p q → HasPieceAt q r s → p + r ≡ t
    → HasPieceAt w t s
further w q s p r t x y e = record {
  before = x.before ++ y.before;
  after = y.after ++ x.after;
  is = x.is
      ∙ ap (λ (l : List ℕ). x.before ++ (l ++ x.after)) y.is
      ∙ ap (λ (l : List ℕ). x.before ++ l)
      (append_assoc y.before (s ++ y.after) x.after
      ∙ ap (λ (l : List ℕ). y.before ++ l) (append_assoc s y.after x.after))
      ∙ sym (append_assoc x.before y.before (s ++ (y.after ++ x.after)));
  at = (let l = length-append x.before y.before in let a = x.at in let b = y.at in omega
      (arith, l, a, b, e));
}

-- the numbers that were put are read back
pub number_there : (w : List ℕ) (p n : ℕ) → HasPieceAt w p (little_bytes 4 n) → n < 256 ^ 4
    → number_at w p ≡ n
unfolding number_at
number_there w p n x fits =
    ap (λ (l : List ℕ). little_number 4 l)
    (ap (λ (l : List ℕ). drop p l) x.is ∙ drop_at x.before (little_bytes 4 n ++ x.after) p x.at)
    ∙ little_number-reads_back 4 n x.after fits

pub leaf_there : (w : List ℕ) (p n : ℕ) → HasPieceAt w p (little_bytes 8 n) → n < 256 ^ 8
    → leaf_at w p ≡ n
unfolding leaf_at
leaf_there w p n x fits =
    ap (λ (l : List ℕ). little_number 8 l)
    (ap (λ (l : List ℕ). drop p l) x.is ∙ drop_at x.before (little_bytes 8 n ++ x.after) p x.at)
    ∙ little_number-reads_back 8 n x.after fits

-- where pieces of one length stand that were put one after the other
module _ {X : Type 0} (f : X → List ℕ) (c : ℕ) (d : X) where
  AreAlike : List X → Type 0
  AreAlike xs = (j : ℕ) → j < length xs → length (f (slice_index_or xs j d)) ≡ c

  pub item_there : (xs : List X) (i : ℕ)
      → ((j : ℕ) → j < length xs → length (f (slice_index_or xs j d)) ≡ c) → i < length xs
      → HasPieceAt (flat_map f xs) (c * i) (f (slice_index_or xs i d))
  item_there [] i each lt = absurd (omega (arith, lt))
  item_there (x ∷ xs) zero each lt =
      record { before = []; after = flat_map f xs; is = refl; at = omega arith }
  item_there (x ∷ xs) (suc i) each lt =
      let rest = item_there xs i (λ j l. each (suc j) (omega (arith, l))) (omega (arith, lt)) in
      record {
        before = f x ++ rest.before;
        after = rest.after;
        is = ap (λ (l : List ℕ). f x ++ l) rest.is
            ∙ sym (append_assoc (f x) rest.before (f (slice_index_or xs i d) ++ rest.after));
        at = (let here : length (f x)
            ≡ c = each 0 (omega arith) in let l = length-append
            (f x) rest.before in let r = rest.at in omega (arith, here, l, r));
      }

  pub items_length : (xs : List X)
      → ((j : ℕ) → j < length xs → length (f (slice_index_or xs j d)) ≡ c)
      → length (flat_map f xs) ≡ c * length xs
  items_length [] each = omega arith
  items_length (x ∷ xs) each =
      let rest = items_length xs (λ j l. each (suc j) (omega (arith, l))) in
      let here : length (f x) ≡ c = each 0 (omega arith) in
      let l = length-append (f x) (flat_map f xs) in
      omega (arith, rest, here, l)
