-- Different words stand at different places.
use Rattle.std.proofs.Common.{◌≡◌, ℕ, zero, suc, ◌+◌, ◌-◌, ◌*◌, ◌<◌, ◌≤◌, inl, inr, refl, ap, sym, subst, ◌∙◌, arith}
use Rattle.std.proofs.lemmas.Bool.{cases_order}
use Rattle.std.proofs.lemmas.Nat.{mul-add-lt, same_from_place}
use Rattle.node_words.specs.Sums.{sum_below, sum_below-suc}
use Rattle.node_words.specs.Plans.{Layout}
use Rattle.core_laws.specs.places.WordIds.{WordId, Sessions, LogTurn, LogLength, Version, Turn, Used, Key, Book, place, width, IsWordId, IsSlot, levels, buckets_at, head_words, bucket_words, level_words, key_words, first_bucket, word_place, version_words, versions}
use Rattle.core_laws.proofs.OfPlaces.Lines.{lines_low}

-- a longer sum is no less
sum_grows : (f : ℕ → ℕ) (l d : ℕ) → sum_below l f ≤ sum_below (l + d) f
sum_grows f l zero = let same : l + 0 ≡ l = omega arith in rw same (omega arith)
sum_grows f l (suc d) =
    let more : l + suc d ≡ suc (l + d) = omega arith in
    let step = sum_below-suc (l + d) f in
    let so_far = sum_grows f l d in
    rw more (omega (arith, step, so_far))

-- what stands in a part of a sum ends before the parts behind it
part_ends : (f : ℕ → ℕ) (l m i : ℕ) → l < m → i < f l → sum_below l f + i < sum_below m f
part_ends f l m i before inside =
    let d : ℕ = m - suc l in
    let whole : suc l + d ≡ m = omega arith in
    let grown : sum_below (suc l) f ≤ sum_below (suc l + d) f = sum_grows f (suc l) d in
    let reached : sum_below (suc l) f ≤ sum_below m f =
    subst (λ (n : ℕ). sum_below (suc l) f ≤ sum_below n f) whole grown in
    let step = sum_below-suc l f in
    omega (arith, reached, step, inside)

-- parts of a sum are apart
parts : (f : ℕ → ℕ) (l m i j : ℕ) → i < f l → j < f m → sum_below l f + i ≡ sum_below m f + j
    → (l ≡ m) × (i ≡ j)
parts f l m i j of_l of_m same =
    elim (cases_order l m) [
      | inl e ↦ (let at : sum_below l f
          ≡ sum_below m f = ap (λ (n : ℕ). sum_below n f) e in (e, omega (arith, at, same)))
      | inr other ↦
          elim other [
            | inl less ↦
                (let ends = part_ends f l m i less of_l in absurd (omega (arith, ends, same)))
            | inr more ↦
                (let ends = part_ends f m l j more of_m in absurd (omega (arith, ends, same)))
          ]
    ]

-- a word of a bucket, by its number there
record IsWordOf (p : Layout) (l b i : ℕ) : Type 0 where
  level_in : l < levels p
  bucket_in : b < buckets_at p l
  inside : i < bucket_words p l

head_long : (p : Layout) → p.cap + 2 ≤ head_words p
head_long p = lines_low (p.cap + 2)

head_in : (p : Layout) (l b i : ℕ) → l < levels p → b < buckets_at p l → i < p.cap + 2
    → IsWordOf p l b i
head_in p l b i of_l of_b small = record {
  level_in = of_l;
  bucket_in = of_b;
  inside = (let long = head_long p in omega (arith, long, small));
}

book_in : (p : Layout) (l b s : ℕ) → IsSlot p l b s → IsWordOf p l b (2 + s)
book_in p l b s is =
    head_in p l b (2 + s) is.level_in is.bucket_in (let low = is.slot_in in omega (arith, low))

key_in : (p : Layout) (l b s k : ℕ) → IsSlot p l b s → k < key_words l
    → IsWordOf p l b (head_words p + (s * key_words l + k))
key_in p l b s k is of_k = record {
  level_in = is.level_in;
  bucket_in = is.bucket_in;
  inside = (let there = mul-add-lt s (key_words l) k p.cap is.slot_in of_k in
      let long = lines_low (key_words l * p.cap) in omega (arith, there, long));
}

-- the bucket's words stand in its level's
in_level : (p : Layout) (l b i : ℕ) → IsWordOf p l b i → b * bucket_words p l + i < level_words p l
in_level p l b i is = mul-add-lt b (bucket_words p l) i (buckets_at p l) is.bucket_in is.inside

-- where the words lie
version_low : (v k : ℕ) → v < versions → k < version_words
    → 3 + (v * version_words + k) < first_bucket
version_low v k of_v of_k =
    let inside = mul-add-lt v version_words k versions of_v of_k in omega (arith, inside)

word_low : (p : Layout) (l b i : ℕ) → IsWordOf p l b i → word_place p l b i < width p
word_low p l b i is =
    let ends =
    part_ends (level_words p) l (levels p) (b * bucket_words p l + i) is.level_in
    (in_level p l b i is) in
    omega (arith, ends)

pub place_low : (p : Layout) (s : WordId) → IsWordId p s → place p s < width p
place_low p Sessions is = omega arith
place_low p LogTurn is = omega arith
place_low p LogLength is = omega arith
place_low p (Version v k) is = let low = version_low v k is.0 is.1 in omega (arith, low)
place_low p (Turn l b) is = word_low p l b 0 (head_in p l b 0 is.0 is.1 (omega arith))
place_low p (Used l b) is = word_low p l b 1 (head_in p l b 1 is.0 is.1 (omega arith))
place_low p (Key l b s k) is =
    word_low p l b (head_words p + (s * key_words l + k)) (key_in p l b s k is.0 is.1)
place_low p (Book l b s) is = word_low p l b (2 + s) (book_in p l b s is)

-- one place of buckets is one word of one bucket
record SameWord (l b i l' b' i' : ℕ) : Type 0 where
  level : l ≡ l'
  bucket : b ≡ b'
  number : i ≡ i'

same_word : (p : Layout) (l b i l' b' i' : ℕ) → IsWordOf p l b i → IsWordOf p l' b' i'
    → word_place p l b i ≡ word_place p l' b' i' → SameWord l b i l' b' i'
same_word p l b i l' b' i' is is' e =
    let offsets : sum_below l (level_words p) + (b * bucket_words p l + i)
    ≡ sum_below l' (level_words p) + (b' * bucket_words p l' + i') = omega (arith, e) in
    let level =
    parts (level_words p) l l' (b * bucket_words p l + i) (b' * bucket_words p l' + i')
    (in_level p l b i is) (in_level p l' b' i' is') offsets in
    let words : bucket_words p l' ≡ bucket_words p l =
    ap (λ (m : ℕ). bucket_words p m) (sym level.0) in
    let same : b * bucket_words p l + i ≡ b' * bucket_words p l + i' =
    level.1 ∙ ap (λ (w : ℕ). b' * w + i') words in
    let small : i' < bucket_words p l = subst (λ (w : ℕ). i' < w) words is'.inside in
    let inner = same_from_place b i b' i' (bucket_words p l) is.inside small same in
    record { level = level.0; bucket = inner.0; number = inner.1 }

-- one word of one key
same_key : (p : Layout) (l b s k l' b' s' k' : ℕ) → IsSlot p l b s → k < key_words l
    → IsSlot p l' b' s' → k' < key_words l'
    → place p (Key l b s k) ≡ place p (Key l' b' s' k') → Key l b s k ≡ Key l' b' s' k'
same_key p l b s k l' b' s' k' is of_k is' of_k' e =
    let w =
    same_word p l b (head_words p + (s * key_words l + k)) l' b'
    (head_words p + (s' * key_words l' + k')) (key_in p l b s k is of_k)
    (key_in p l' b' s' k' is' of_k') e in
    let inside : s * key_words l + k ≡ s' * key_words l' + k' = omega (arith, w.number) in
    let words : key_words l' ≡ key_words l = ap (λ (m : ℕ). key_words m) (sym w.level) in
    let same : s * key_words l + k ≡ s' * key_words l + k' =
    inside ∙ ap (λ (n : ℕ). s' * n + k') words in
    let small : k' < key_words l = subst (λ (n : ℕ). k' < n) words of_k' in
    let inner = same_from_place s k s' k' (key_words l) of_k small same in
    rw (w.level, w.bucket, inner.0, inner.1) refl

pub place_one : (p : Layout) (s t : WordId) → IsWordId p s → IsWordId p t → place p s ≡ place p t → s ≡ t
place_one p Sessions Sessions of_s of_t e = refl
place_one p Sessions LogTurn of_s of_t e = absurd (omega (arith, e))
place_one p Sessions LogLength of_s of_t e = absurd (omega (arith, e))
place_one p Sessions (Version v' k') of_s of_t e =
    let low1 = version_low v' k' of_t.0 of_t.1 in absurd (omega (arith, e, low1))
place_one p Sessions (Turn l' b') of_s of_t e = absurd (omega (arith, e))
place_one p Sessions (Used l' b') of_s of_t e = absurd (omega (arith, e))
place_one p Sessions (Key l' b' s' k') of_s of_t e = absurd (omega (arith, e))
place_one p Sessions (Book l' b' s') of_s of_t e = absurd (omega (arith, e))
place_one p LogTurn Sessions of_s of_t e = absurd (omega (arith, e))
place_one p LogTurn LogTurn of_s of_t e = refl
place_one p LogTurn LogLength of_s of_t e = absurd (omega (arith, e))
place_one p LogTurn (Version v' k') of_s of_t e =
    let low1 = version_low v' k' of_t.0 of_t.1 in absurd (omega (arith, e, low1))
place_one p LogTurn (Turn l' b') of_s of_t e = absurd (omega (arith, e))
place_one p LogTurn (Used l' b') of_s of_t e = absurd (omega (arith, e))
place_one p LogTurn (Key l' b' s' k') of_s of_t e = absurd (omega (arith, e))
place_one p LogTurn (Book l' b' s') of_s of_t e = absurd (omega (arith, e))
place_one p LogLength Sessions of_s of_t e = absurd (omega (arith, e))
place_one p LogLength LogTurn of_s of_t e = absurd (omega (arith, e))
place_one p LogLength LogLength of_s of_t e = refl
place_one p LogLength (Version v' k') of_s of_t e =
    let low1 = version_low v' k' of_t.0 of_t.1 in absurd (omega (arith, e, low1))
place_one p LogLength (Turn l' b') of_s of_t e = absurd (omega (arith, e))
place_one p LogLength (Used l' b') of_s of_t e = absurd (omega (arith, e))
place_one p LogLength (Key l' b' s' k') of_s of_t e = absurd (omega (arith, e))
place_one p LogLength (Book l' b' s') of_s of_t e = absurd (omega (arith, e))
place_one p (Version v k) Sessions of_s of_t e =
    let low0 = version_low v k of_s.0 of_s.1 in absurd (omega (arith, e, low0))
place_one p (Version v k) LogTurn of_s of_t e =
    let low0 = version_low v k of_s.0 of_s.1 in absurd (omega (arith, e, low0))
place_one p (Version v k) LogLength of_s of_t e =
    let low0 = version_low v k of_s.0 of_s.1 in absurd (omega (arith, e, low0))
place_one p (Version v k) (Version v' k') of_s of_t e =
    let same = same_from_place v k v' k' version_words of_s.1 of_t.1 (omega (arith, e)) in
    rw (same.0, same.1) refl
place_one p (Version v k) (Turn l' b') of_s of_t e =
    let low0 = version_low v k of_s.0 of_s.1 in absurd (omega (arith, e, low0))
place_one p (Version v k) (Used l' b') of_s of_t e =
    let low0 = version_low v k of_s.0 of_s.1 in absurd (omega (arith, e, low0))
place_one p (Version v k) (Key l' b' s' k') of_s of_t e =
    let low0 = version_low v k of_s.0 of_s.1 in absurd (omega (arith, e, low0))
place_one p (Version v k) (Book l' b' s') of_s of_t e =
    let low0 = version_low v k of_s.0 of_s.1 in absurd (omega (arith, e, low0))
place_one p (Turn l b) Sessions of_s of_t e = absurd (omega (arith, e))
place_one p (Turn l b) LogTurn of_s of_t e = absurd (omega (arith, e))
place_one p (Turn l b) LogLength of_s of_t e = absurd (omega (arith, e))
place_one p (Turn l b) (Version v' k') of_s of_t e =
    let low1 = version_low v' k' of_t.0 of_t.1 in absurd (omega (arith, e, low1))
place_one p (Turn l b) (Turn l' b') of_s of_t e =
    let w =
    same_word p l b 0 l' b' 0
    (head_in p l b 0 of_s.0 of_s.1 (omega arith))
    (head_in p l' b' 0 of_t.0 of_t.1 (omega arith)) e in
    rw (w.level, w.bucket) refl
place_one p (Turn l b) (Used l' b') of_s of_t e =
    let w =
    same_word p l b 0 l' b' 1
    (head_in p l b 0 of_s.0 of_s.1 (omega arith))
    (head_in p l' b' 1 of_t.0 of_t.1 (omega arith)) e in
    absurd (omega (arith, w.number))
place_one p (Turn l b) (Key l' b' s' k') of_s of_t e =
    let w =
    same_word p l b 0 l' b' (head_words p + (s' * key_words l' + k'))
    (head_in p l b 0 of_s.0 of_s.1 (omega arith)) (key_in p l' b' s' k' of_t.0 of_t.1) e in
    let long = head_long p in absurd (omega (arith, w.number, long))
place_one p (Turn l b) (Book l' b' s') of_s of_t e =
    let w =
    same_word p l b 0 l' b' (2 + s')
    (head_in p l b 0 of_s.0 of_s.1 (omega arith)) (book_in p l' b' s' of_t) e in
    absurd (omega (arith, w.number))
place_one p (Used l b) Sessions of_s of_t e = absurd (omega (arith, e))
place_one p (Used l b) LogTurn of_s of_t e = absurd (omega (arith, e))
place_one p (Used l b) LogLength of_s of_t e = absurd (omega (arith, e))
place_one p (Used l b) (Version v' k') of_s of_t e =
    let low1 = version_low v' k' of_t.0 of_t.1 in absurd (omega (arith, e, low1))
place_one p (Used l b) (Turn l' b') of_s of_t e =
    let w =
    same_word p l b 1 l' b' 0
    (head_in p l b 1 of_s.0 of_s.1 (omega arith))
    (head_in p l' b' 0 of_t.0 of_t.1 (omega arith)) e in
    absurd (omega (arith, w.number))
place_one p (Used l b) (Used l' b') of_s of_t e =
    let w =
    same_word p l b 1 l' b' 1
    (head_in p l b 1 of_s.0 of_s.1 (omega arith))
    (head_in p l' b' 1 of_t.0 of_t.1 (omega arith)) e in
    rw (w.level, w.bucket) refl
place_one p (Used l b) (Key l' b' s' k') of_s of_t e =
    let w =
    same_word p l b 1 l' b' (head_words p + (s' * key_words l' + k'))
    (head_in p l b 1 of_s.0 of_s.1 (omega arith)) (key_in p l' b' s' k' of_t.0 of_t.1) e in
    let long = head_long p in absurd (omega (arith, w.number, long))
place_one p (Used l b) (Book l' b' s') of_s of_t e =
    let w =
    same_word p l b 1 l' b' (2 + s')
    (head_in p l b 1 of_s.0 of_s.1 (omega arith)) (book_in p l' b' s' of_t) e in
    absurd (omega (arith, w.number))
place_one p (Key l b s k) Sessions of_s of_t e = absurd (omega (arith, e))
place_one p (Key l b s k) LogTurn of_s of_t e = absurd (omega (arith, e))
place_one p (Key l b s k) LogLength of_s of_t e = absurd (omega (arith, e))
place_one p (Key l b s k) (Version v' k') of_s of_t e =
    let low1 = version_low v' k' of_t.0 of_t.1 in absurd (omega (arith, e, low1))
place_one p (Key l b s k) (Turn l' b') of_s of_t e =
    let w =
    same_word p l b (head_words p + (s * key_words l + k)) l' b' 0
    (key_in p l b s k of_s.0 of_s.1) (head_in p l' b' 0 of_t.0 of_t.1 (omega arith)) e in
    let long = head_long p in absurd (omega (arith, w.number, long))
place_one p (Key l b s k) (Used l' b') of_s of_t e =
    let w =
    same_word p l b (head_words p + (s * key_words l + k)) l' b' 1
    (key_in p l b s k of_s.0 of_s.1) (head_in p l' b' 1 of_t.0 of_t.1 (omega arith)) e in
    let long = head_long p in absurd (omega (arith, w.number, long))
place_one p (Key l b s k) (Key l' b' s' k') of_s of_t e =
    same_key p l b s k l' b' s' k' of_s.0 of_s.1 of_t.0 of_t.1 e
place_one p (Key l b s k) (Book l' b' s') of_s of_t e =
    let w =
    same_word p l b (head_words p + (s * key_words l + k)) l' b' (2 + s')
    (key_in p l b s k of_s.0 of_s.1) (book_in p l' b' s' of_t) e in
    let long = head_long p in let low = of_t.slot_in in absurd (omega (arith, w.number, long, low))
place_one p (Book l b s) Sessions of_s of_t e = absurd (omega (arith, e))
place_one p (Book l b s) LogTurn of_s of_t e = absurd (omega (arith, e))
place_one p (Book l b s) LogLength of_s of_t e = absurd (omega (arith, e))
place_one p (Book l b s) (Version v' k') of_s of_t e =
    let low1 = version_low v' k' of_t.0 of_t.1 in absurd (omega (arith, e, low1))
place_one p (Book l b s) (Turn l' b') of_s of_t e =
    let w =
    same_word p l b (2 + s) l' b' 0
    (book_in p l b s of_s) (head_in p l' b' 0 of_t.0 of_t.1 (omega arith)) e in
    absurd (omega (arith, w.number))
place_one p (Book l b s) (Used l' b') of_s of_t e =
    let w =
    same_word p l b (2 + s) l' b' 1
    (book_in p l b s of_s) (head_in p l' b' 1 of_t.0 of_t.1 (omega arith)) e in
    absurd (omega (arith, w.number))
place_one p (Book l b s) (Key l' b' s' k') of_s of_t e =
    let w =
    same_word p l b (2 + s) l' b' (head_words p + (s' * key_words l' + k'))
    (book_in p l b s of_s) (key_in p l' b' s' k' of_t.0 of_t.1) e in
    let long = head_long p in let low = of_s.slot_in in absurd (omega (arith, w.number, long, low))
place_one p (Book l b s) (Book l' b' s') of_s of_t e =
    let w =
    same_word p l b (2 + s) l' b' (2 + s')
    (book_in p l b s of_s) (book_in p l' b' s' of_t) e in
    let slot : s ≡ s' = omega (arith, w.number) in rw (w.level, w.bucket, slot) refl
