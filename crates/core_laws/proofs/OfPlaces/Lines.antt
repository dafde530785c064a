-- Words up to whole lines of memory.
use Rattle.std.proofs.Common.{◌≡◌, ◌≢◌, ℕ, zero, suc, ◌+◌, ◌*◌, ◌^◌, ◌<◌, ◌≤◌, refl, arith}
use Rattle.std.proofs.lemmas.Nat.{mul-le}
use Rattle.node_words.specs.Plans.{Layout}
use Rattle.core_laws.specs.places.WordIds.{whole_lines, key_words, bucket_words}

-- they have room for the words, and for seven more at most
pub lines_low : (n : ℕ) → n ≤ whole_lines n
unfolding whole_lines
lines_low n = omega arith

pub lines_high : (n : ℕ) → whole_lines n ≤ n + 7
unfolding whole_lines
lines_high n = omega arith

-- bounds of the words of a bucket, and of those of a level
pub keys_small : (level cap m : ℕ) → cap ≤ m → key_words level * cap ≤ 4 * m
keys_small zero cap m of_cap = mul-le 1 cap 4 m (omega arith) of_cap
keys_small (suc level) cap m of_cap = mul-le 4 cap 4 m (omega arith) of_cap

pub bucket_small : (level cap m : ℕ) → cap ≤ m
    → whole_lines (cap + 2) + whole_lines (key_words level * cap) ≤ 5 * m + 16
bucket_small level cap m of_cap =
    let head = lines_high (cap + 2) in let keys = lines_high (key_words level * cap) in
    let small = keys_small level cap m of_cap in omega (arith, head, keys, small)

pub keys_few : (level cap : ℕ) → cap ≤ 65535 → key_words level * cap < 2 ^ 19
keys_few level cap of_cap = let small = keys_small level cap 65535 of_cap in omega (arith, small)

pub bucket_few : (level cap : ℕ) → cap ≤ 65535
    → whole_lines (cap + 2) + whole_lines (key_words level * cap) < 2 ^ 20
bucket_few level cap of_cap =
    let small = bucket_small level cap 65535 of_cap in omega (arith, small)

pub level_small : (level cap buckets : ℕ) → cap ≤ 65535 → buckets ≤ 65535
    → (whole_lines (cap + 2) + whole_lines (key_words level * cap)) * buckets ≤ 327691 * 65535
level_small level cap buckets of_cap of_buckets =
    mul-le (whole_lines (cap + 2) + whole_lines (key_words level * cap)) buckets 327691 65535
    (bucket_small level cap 65535 of_cap) of_buckets

-- all buckets of nodes have as many words
pub nodes_alike : (p : Layout) (level : ℕ) → level ≢ 0 → bucket_words p 1 ≡ bucket_words p level
nodes_alike p zero some = absurd (some refl)
nodes_alike p (suc level) some = refl
