-- Words of one more record, and of the first of some records.
use Rattle.std.proofs.Common.{◌≡◌, ℕ, ◌+◌, ◌-◌, ◌*◌, ◌^◌, ◌<◌, ◌≤◌, inl, inr, cond, List, [], ◌∷◌, ◌++◌, length, take, get_or, refl, ap, sym, ◌∙◌, arith, length-append}
use Rattle.std.proofs.Math.Nat.{eq-or-lt_of_le}
use Rattle.std.proofs.Math.Seq.{get_or-append_seam}
use Rattle.std.proofs.lemmas.List.{get_or_append_left, get_or_default, length-take-le, take_more}
use Rattle.history_model.specs.declared.acts.Act.TheVariants.{Undo}
use Rattle.history_model.specs.declared.histories.Record.{Record}
use Rattle.history_model.specs.Packing.{packed, log_words, last_edit, last_edit_from}
use Rattle.history_model.specs.Positions.{Position, position_after}
use Rattle.history_model.specs.PositionLaws.{names_below}
use Rattle.history_model.specs.Worlds.{is_edit}
use Rattle.undo.specs.Targets.{record_at, words_at}
use Rattle.undo.proofs.Chains.{threads}
use Rattle.tests_texts.specs.undos.Kept.{AreFirstWords}

one_more_at : (records : List Record) (words : List (List ℕ)) (more : List ℕ)
    → AreFirstWords records words → more ≡ words_at records (length words + 1)
    → (k : ℕ) → k < length (words ++ more ∷ [])
    → get_or (words ++ more ∷ []) k [] ≡ words_at records (k + 1)
one_more_at records words more first same k lt =
    let low : k ≤ length words = omega (arith, lt, length-append words (more ∷ [])) in
    elim (eq-or-lt_of_le low) [
      | inl at ↦ ap (λ (j : ℕ). get_or (words ++ more ∷ []) j []) at
          ∙ get_or-append_seam words more [] [] ∙ same
          ∙ ap (λ (j : ℕ). words_at records (j + 1)) (sym at)
      | inr before ↦ get_or_append_left words (more ∷ []) [] k before ∙ first.each k before
    ]

-- one more list of words
pub one_more : (records : List Record) (words : List (List ℕ)) (more : List ℕ)
    → AreFirstWords records words → more ≡ words_at records (length words + 1)
    → AreFirstWords records (words ++ more ∷ [])
one_more records words more first same =
    record { each = λ k lt. one_more_at records words more first same k lt }

pub one_longer : (words : List (List ℕ)) (more : List ℕ) (n : ℕ) → length words ≡ n
    → length (words ++ more ∷ []) ≡ n + 1
one_longer words more n number = omega (arith, number, length-append words (more ∷ []))

-- the last edit with one more record
last_of_next : (n earlier : ℕ) (records : List Record) (r : Record)
    → last_edit_from n earlier (records ++ r ∷ []) ≡ cond (is_edit r.act) (n + length records)
    (last_edit_from n earlier records)
last_of_next n earlier [] r = let same : n + 0 ≡ n = omega arith in rw same refl
last_of_next n earlier (s ∷ more) r =
    let number : (n + 1) + length more ≡ n + length (s ∷ more) = omega arith in
    last_of_next (n + 1) (cond (is_edit s.act) n earlier) more r
    ∙ ap (λ (k : ℕ). cond (is_edit r.act) k
    (last_edit_from (n + 1) (cond (is_edit s.act) n earlier) more)) number

abbrev none : Record
none = record { session = 0; line = 0; act = Undo }

-- the version that stands behind the first records
pub now_small : (records : List Record) (n : ℕ) (at : Position) → n ≤ length records
    → length records ≤ 65535 → at ≡ position_after (take n records) → at.now ≤ 65535
now_small records n at le few here =
    let below = (names_below (take n records)).now in
    let size : length (take n records) ≡ n = length-take-le n records le in
    let same : at.now ≡ (position_after (take n records)).now = ap (λ (p : Position). p.now) here in
    omega (arith, below, size, same, le, few)

-- the last edit of one record more
pub next_last : (records : List Record) (d : Record) (k : ℕ) (before after : ℕ) → k < length records
    → before ≡ last_edit (take k records)
    → after ≡ cond (is_edit (get_or records k d).act) (k + 1) before
    → after ≡ last_edit (take (k + 1) records)
next_last records d k before after lt here next =
    let r : Record = get_or records k d in
    let more : take (k + 1) records ≡ take k records ++ r ∷ [] = take_more records k d lt in
    let size : 1 + length (take k records) ≡ k + 1 =
    omega (arith, length-take-le k records (omega (arith, lt))) in
    next ∙ ap (cond (is_edit r.act) (k + 1)) here
    ∙ ap (λ (n : ℕ). cond (is_edit r.act) n (last_edit (take k records))) (sym size)
    ∙ sym (last_of_next 1 0 (take k records) r) ∙ ap last_edit (sym more)

pub last_small : (records : List Record) (n after : ℕ) → n ≤ length records → length records ≤ 65535
    → after ≡ last_edit (take n records) → after ≤ 65535
last_small records n after le few same =
    let below = (threads (take n records)).1 in
    let size : length (take n records) ≡ n = length-take-le n records le in
    omega (arith, below, size, same, le, few)

-- these are the words of record k + 1
pub next_words : (records : List Record) (d : Record) (k now last : ℕ) → k < length records
    → now ≡ (position_after (take (k + 1) records)).now → last ≡ last_edit (take (k + 1) records)
    → (get_or (packed (get_or records k d).act) 0 0 + 2 ^ 8 * now + 2 ^ 32 * last)
    ∷ get_or (packed (get_or records k d).act) 1 0 ∷ get_or
    (packed (get_or records k d).act) 2 0 ∷ get_or (packed (get_or records k d).act) 3 0
    ∷ ((get_or records k d).session + 2 ^ 16 * (get_or records k d).line) ∷ []
    ≡ words_at records (k + 1)
next_words records d k now last lt here there =
    let at : k ≡ k + 1 - 1 = omega arith in
    let same : get_or records k d ≡ record_at records (k + 1) =
    get_or_default records k d none lt ∙ ap (λ (j : ℕ). get_or records j none) at in
    rw (here, there) (ap (log_words (take (k + 1) records)) same)
