-- What stands behind so many pairs, DICTs and numbers with DICTs is found one by one.
use Rattle.std.proofs.Common.{◌≡◌, ◌≢◌, arith, inl, inr, ◌⊎◌, ◌-◌, ℕ, ◌+◌, ◌≤◌, ◌<◌, if◌then◌else◌, Bool, true, List, length, drop, Option, Some, None, refl, ap, ◌∙◌, add-one}
use Rattle.std.specs.Prelude.{nat_le, is_some}
use Rattle.std.proofs.lemmas.Bool.{le-leb, lt-leb, cases_order}
use Rattle.vox_scene.specs.Dicts.{PairCut, Pairs, pair_in, dict_pairs, dict_in, with_pair, rest_behind}
use Rattle.vox_scene.specs.Nodes.{if_found, dicts_end, shown_end}
use Rattle.vox_scene.proofs.Looking.{pairs_none, pairs_next, pairs_stop}

-- pairs

behind_first : (first : PairCut) (more : Option Pairs)
    → rest_behind (with_pair first more) ≡ rest_behind more
behind_first first None = refl
behind_first first (Some more) = refl

pub pair_skipped : (n k : ℕ) (bytes : List ℕ) (first : PairCut) → n ≡ k + 1
    → pair_in bytes ≡ Some first
    → rest_behind (dict_pairs n bytes) ≡ rest_behind (dict_pairs k first.rest)
pair_skipped n k bytes first is cut =
    ap rest_behind (pairs_next n k bytes first is cut)
    ∙ behind_first first (dict_pairs k first.rest)

pub pair_lacks : (n k : ℕ) (bytes : List ℕ) → n ≡ k + 1 → pair_in bytes ≡ None
    → rest_behind (dict_pairs n bytes) ≡ None
pair_lacks n k bytes is cut = ap rest_behind (pairs_stop n k bytes is cut)

pub pairs_skipped : (n : ℕ) (bytes : List ℕ) → n ≡ 0 → rest_behind (dict_pairs n bytes) ≡ Some bytes
pairs_skipped n bytes is =
    ap (λ m. rest_behind (dict_pairs m bytes)) is ∙ ap rest_behind (pairs_none bytes)

-- DICTs

dicts_more : (n k : ℕ) (bytes : List ℕ) → n ≡ k + 1
    → dicts_end n bytes ≡ if_found (dict_in bytes) (λ d. dicts_end k d.rest)
unfolding dicts_end
dicts_more n k bytes is = rw (is, add-one) refl

pub dict_skipped : (n k : ℕ) (bytes : List ℕ) (first : Pairs) → n ≡ k + 1
    → dict_in bytes ≡ Some first
    → dicts_end n bytes ≡ dicts_end k first.rest
dict_skipped n k bytes first is cut = dicts_more n k bytes is
    ∙ ap (λ d. if_found d (λ e. dicts_end k e.rest)) cut

pub dict_lacks : (n k : ℕ) (bytes : List ℕ) → n ≡ k + 1 → dict_in bytes ≡ None
    → dicts_end n bytes ≡ None
dict_lacks n k bytes is cut = dicts_more n k bytes is
    ∙ ap (λ d. if_found d (λ e. dicts_end k e.rest)) cut

pub dicts_skipped : (n : ℕ) (bytes : List ℕ) → n ≡ 0 → dicts_end n bytes ≡ Some bytes
unfolding dicts_end
dicts_skipped n bytes is = rw is refl

-- numbers, each with its DICT

shown_more : (n k : ℕ) (bytes : List ℕ) → n ≡ k + 1 → shown_end n bytes
    ≡ (if nat_le 4 (length bytes) then if_found (dict_in (drop 4 bytes)) (λ d. shown_end k d.rest)
    else None)
unfolding shown_end
shown_more n k bytes is = rw (is, add-one) refl

pub shown_skipped : (n k : ℕ) (bytes : List ℕ) (first : Pairs) → n ≡ k + 1 → 4 ≤ length bytes
    → dict_in (drop 4 bytes) ≡ Some first → shown_end n bytes ≡ shown_end k first.rest
shown_skipped n k bytes first is long cut = shown_more n k bytes is
    ∙ ap
    (λ (b : Bool). if b then if_found (dict_in (drop 4 bytes)) (λ d. shown_end k d.rest)
    else None)
    (le-leb 4 (length bytes) long)
    ∙ ap (λ d. if_found d (λ e. shown_end k e.rest)) cut

pub shown_lacks : (n k : ℕ) (bytes : List ℕ) → n ≡ k + 1 → 4 ≤ length bytes
    → dict_in (drop 4 bytes) ≡ None → shown_end n bytes ≡ None
shown_lacks n k bytes is long cut = shown_more n k bytes is
    ∙ ap
    (λ (b : Bool). if b then if_found (dict_in (drop 4 bytes)) (λ d. shown_end k d.rest)
    else None)
    (le-leb 4 (length bytes) long)
    ∙ ap (λ d. if_found d (λ e. shown_end k e.rest)) cut

pub shown_short : (n k : ℕ) (bytes : List ℕ) → n ≡ k + 1 → length bytes < 4
    → shown_end n bytes ≡ None
shown_short n k bytes is short = shown_more n k bytes is
    ∙ ap
    (λ (b : Bool). if b then if_found (dict_in (drop 4 bytes)) (λ d. shown_end k d.rest)
    else None)
    (lt-leb 4 (length bytes) short)

pub all_skipped : (n : ℕ) (bytes : List ℕ) → n ≡ 0 → shown_end n bytes ≡ Some bytes
unfolding shown_end
all_skipped n bytes is = rw is refl

cases_long : (n : ℕ) (bytes : List ℕ) → n ≢ 0 → is_some (shown_end n bytes) ≡ true
    → (4 ≡ length bytes) ⊎ ((4 < length bytes) ⊎ (length bytes < 4)) → 4 ≤ length bytes
cases_long n bytes some is (inl long) = omega (arith, long)
cases_long n bytes some is (inr (inl long)) = omega (arith, long)
cases_long n bytes some is (inr (inr short)) =
    let none = shown_short n (n - 1) bytes (omega (arith, some)) short in
    absurd (let no : ⊥ = cc in no)

pub shown_long : (n : ℕ) (bytes : List ℕ) → n ≢ 0 → is_some (shown_end n bytes) ≡ true
    → 4 ≤ length bytes
shown_long n bytes some is = cases_long n bytes some is (cases_order 4 (length bytes))
