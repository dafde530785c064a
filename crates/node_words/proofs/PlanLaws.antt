-- How many buckets a plan has on a level.
use Rattle.std.proofs.Common.{ℕ, zero, suc, ◌<◌, ◌≤◌, Bool, true, false, ◌&&◌, if◌then◌else◌, List, [], ◌∷◌, get_or, length, refl, arith}
use Rattle.std.specs.Prelude.{nat_le, IsTrue}
use Rattle.std.specs.List.{list_all}
use Rattle.std.proofs.lemmas.Bool.{leb-true}
use Rattle.node_words.specs.Plans.{Layout, IsPlan, is_number_of_buckets, buckets_at}

both : (a b : Bool) → IsTrue (a && b) → IsTrue a × IsTrue b
both true true h = (refl, refl)
both true false h = absurd (let no : ⊥ = cc in no)
both false b h = absurd (let no : ⊥ = cc in no)

last : (a b : Bool) → IsTrue (if a then b else false) → IsTrue b
last true b h = h
last false b h = absurd (let no : ⊥ = cc in no)

first : (a b : Bool) → IsTrue (if a then b else false) → IsTrue a
first true b h = refl
first false b h = absurd (let no : ⊥ = cc in no)

few : (xs : List ℕ) → IsTrue (list_all is_number_of_buckets xs) → (k : ℕ) → get_or xs k 0 ≤ 4096
few [] h k = omega arith
few (x ∷ xs) h zero =
    leb-true x 4096
    (last (nat_le 1 x) (nat_le x 4096)
    (both (is_number_of_buckets x) (list_all is_number_of_buckets xs) h).0)
few (x ∷ xs) h (suc k) =
    few xs (both (is_number_of_buckets x) (list_all is_number_of_buckets xs) h).1 k

some : (xs : List ℕ) → IsTrue (list_all is_number_of_buckets xs) → (k : ℕ) → k < length xs
    → 1 ≤ get_or xs k 0
some [] h k lt = absurd (omega arith)
some (x ∷ xs) h zero lt =
    leb-true 1 x
    (first (nat_le 1 x) (nat_le x 4096)
    (both (is_number_of_buckets x) (list_all is_number_of_buckets xs) h).0)
some (x ∷ xs) h (suc k) lt =
    some xs (both (is_number_of_buckets x) (list_all is_number_of_buckets xs) h).1 k (omega arith)

pub some_buckets : (p : Layout) (level : ℕ) → IsPlan p → level ≤ 10 → 1 ≤ buckets_at p level
some_buckets p level plan le = some p.buckets plan.buckets level (omega (arith, plan.levels, le))

pub few_buckets : (p : Layout) (level : ℕ) → IsPlan p → buckets_at p level ≤ 4096
few_buckets p level plan = few p.buckets plan.buckets level
