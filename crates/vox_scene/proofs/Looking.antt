-- A value is looked up pair by pair.
use Rattle.std.proofs.Common.{◌≡◌, ℕ, ◌+◌, true, false, List, [], Option, Some, None, refl, sym, ap, ◌∙◌, add-one}
use Rattle.std.specs.Prelude.{is_some}
use Rattle.std.specs.Str.{bytes_eq}
use Rattle.vox_scene.specs.Dicts.{Pair, PairCut, Pairs, pair_in, dict_pairs, pairs_of, behind_pair, with_pair, value_of}

-- no pair
pub pairs_none : (bytes : List ℕ) → dict_pairs 0 bytes ≡ Some (record { list = []; rest = bytes })
unfolding dict_pairs
pairs_none bytes = refl

-- one pair and the others
pub pairs_more : (n k : ℕ) (bytes : List ℕ) → n ≡ k + 1
    → dict_pairs n bytes ≡ behind_pair (pair_in bytes) (λ rest. dict_pairs k rest)
unfolding dict_pairs
pairs_more n k bytes is = rw (is, add-one) refl

pub pairs_next : (n k : ℕ) (bytes : List ℕ) (first : PairCut) → n ≡ k + 1
    → pair_in bytes ≡ Some first
    → dict_pairs n bytes ≡ with_pair first (dict_pairs k first.rest)
pairs_next n k bytes first is cut = pairs_more n k bytes is ∙ rw cut refl

pub pairs_stop : (n k : ℕ) (bytes : List ℕ) → n ≡ k + 1 → pair_in bytes ≡ None
    → dict_pairs n bytes ≡ None
pairs_stop n k bytes is cut = pairs_more n k bytes is ∙ rw cut refl

-- behind the first pair there are the others
others_are : (first : PairCut) (more : Option Pairs) → is_some (with_pair first more) ≡ true
    → is_some more ≡ true
others_are first None is = is
others_are first (Some more) is = refl

other_value : (key : List ℕ) (first : PairCut) (more : Option Pairs)
    → bytes_eq first.key key ≡ false
    → value_of key (pairs_of (with_pair first more)) ≡ value_of key (pairs_of more)
other_value key first None apart = refl
other_value key first (Some more) apart = rw apart refl

first_value : (key : List ℕ) (first : PairCut) (more : Option Pairs)
    → is_some (with_pair first more) ≡ true → bytes_eq first.key key ≡ true
    → value_of key (pairs_of (with_pair first more)) ≡ Some first.value
first_value key first None is same = absurd (let no : ⊥ = cc in no)
first_value key first (Some more) is same = rw same refl

-- how far the look-up has come: this many pairs of these bytes are left
pub record IsSought (key : List ℕ) (all : List Pair) (left : ℕ) (bytes : List ℕ) : Type 0 where
  pub there : is_some (dict_pairs left bytes) ≡ true
  pub same : value_of key (pairs_of (dict_pairs left bytes)) ≡ value_of key all

pub sought_first : (key : List ℕ) (all : List Pair) (n : ℕ) (bytes : List ℕ)
    → is_some (dict_pairs n bytes) ≡ true → all ≡ pairs_of (dict_pairs n bytes)
    → IsSought key all n bytes
sought_first key all n bytes there are =
    record { there = there; same = ap (value_of key) (sym are) }

pub sought_next : (key : List ℕ) (all : List Pair) (n k : ℕ) (bytes : List ℕ) (first : PairCut)
    → IsSought key all n bytes → n ≡ k + 1 → pair_in bytes ≡ Some first
    → bytes_eq first.key key ≡ false → IsSought key all k first.rest
sought_next key all n k bytes first so_far is cut apart =
    let next = pairs_next n k bytes first is cut in
    record {
      there = others_are first (dict_pairs k first.rest) (ap is_some (sym next) ∙ so_far.there);
      same = sym (other_value key first (dict_pairs k first.rest) apart)
          ∙ ap (λ p. value_of key (pairs_of p)) (sym next) ∙ so_far.same;
    }

pub sought_found : (key : List ℕ) (all : List Pair) (n k : ℕ) (bytes : List ℕ) (first : PairCut)
    → IsSought key all n bytes → n ≡ k + 1 → pair_in bytes ≡ Some first
    → bytes_eq first.key key ≡ true → value_of key all ≡ Some first.value
sought_found key all n k bytes first so_far is cut same =
    let next = pairs_next n k bytes first is cut in
    sym so_far.same ∙ ap (λ p. value_of key (pairs_of p)) next
    ∙ first_value key first (dict_pairs k first.rest) (ap is_some (sym next) ∙ so_far.there) same

pub sought_all : (key : List ℕ) (all : List Pair) (n : ℕ) (bytes : List ℕ)
    → IsSought key all n bytes
    → n ≡ 0 → value_of key all ≡ None
sought_all key all n bytes so_far is =
    sym so_far.same ∙ ap (λ m. value_of key (pairs_of (dict_pairs m bytes))) is
    ∙ ap (λ p. value_of key (pairs_of p)) (pairs_none bytes)

-- a pair is there where some are left
pub sought_none : (key : List ℕ) (all : List Pair) (n k : ℕ) (bytes : List ℕ)
    → IsSought key all n bytes → n ≡ k + 1 → pair_in bytes ≡ None → ⊥
sought_none key all n k bytes so_far is cut =
    let there = so_far.there in
    let stop = pairs_stop n k bytes is cut in
    let no : is_some {T = Pairs} None ≡ true = ap is_some (sym stop) ∙ there in
    cc
