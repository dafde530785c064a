-- Where the levels begin.
use Rattle.std.proofs.Common.{ℕ, ◌<◌, ◌≤◌, ◌^◌, List, get_or, arith}
use Rattle.core_laws.proofs.OfPlaces.Prefixes.{EndsTo, ends_small}

pub buckets_end_small : (n : ℕ) (buckets ends : List ℕ) (k : ℕ)
    → EndsTo n 0 (λ level. get_or buckets level 0) ends → k ≤ n → n ≤ 11
    → ((i : ℕ) → get_or buckets i 0 ≤ 65535) → get_or ends k 0 < 2 ^ 20
buckets_end_small n buckets ends k to le few b =
    omega (arith, ends_small n 0 65535 (λ level. get_or buckets level 0) ends k to le few b)
