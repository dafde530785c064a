-- The log is read from its own words alone.
use Rattle.std.proofs.Common.{◌≡◌, ◌≢◌, ℕ, zero, suc, ◌^◌, ◌%◌, ◌/◌, ◌<◌, ◌≤◌, Some, List, [], ◌∷◌, ◌++◌, length, take, get_or, refl, sym, ap, ◌∙◌, subst, ⊎_elim, inl, inr, arith, length-append, false}
use Rattle.std.specs.Prelude.{slice_index}
use Rattle.std.specs.List.{slice_get, Contains}
use Rattle.std.proofs.lemmas.Bool.{cases_eq}
use Rattle.std.proofs.lemmas.List.{take-append-le, take_all}
use Rattle.std.proofs.lemmas.List.Elements.{Contains-append_left, Contains-append_right, Contains-append_cases}
use Rattle.core_laws.specs.contents.Versions.{IsUnmarked}
use Rattle.node_words.specs.Plans.{Layout}
use Rattle.core_laws.specs.places.WordIds.{WordId, LogTurn, LogLength, Version, versions}
use Rattle.retain.specs.Mark.{Mark}
use Rattle.retain.specs.Packing.{log_words}
use Rattle.table_rule.specs.LogWords.{record_of_words, word_in, mark_of_words, records_in, if_marked, marks_in, log_in, act_of_words, IsLogWritten}

-- the words of the log are as before
pub record LogStays (old new : WordId → ℕ) : Type 0 where
  pub turn : new LogTurn ≡ old LogTurn
  pub length : new LogLength ≡ old LogLength
  pub version : (v i : ℕ) → new (Version v i) ≡ old (Version v i)

pub record_same : (a b : ℕ → ℕ) → ((i : ℕ) → i < 5 → a i ≡ b i)
    → record_of_words a ≡ record_of_words b
record_same a b same =
    let e0 = same 0 (omega arith) in let e1 = same 1 (omega arith) in
    let e2 = same 2 (omega arith) in let e3 = same 3 (omega arith) in
    let e4 = same 4 (omega arith) in
    λ j. record {
      session = e4 j % 2 ^ 16;
      line = e4 j / 2 ^ 16 % 2 ^ 32;
      act = act_of_words (e0 j % 2 ^ 8) (e1 j) (e2 j) (e3 j);
    }

-- the first records, by the first five words of each
pub records_kept : (old new : WordId → ℕ) (n : ℕ)
    → ((v i : ℕ) → v < n → i < 5 → new (Version (suc v) i) ≡ old (Version (suc v) i))
    → records_in new n ≡ records_in old n
unfolding records_in
records_kept old new zero same = refl
records_kept old new (suc n) same =
    let more = records_kept old new n (λ v i lt low. same v i (omega arith) low) in
    let last =
    record_same (word_in new (suc n)) (word_in old (suc n)) (λ i low. same n i (omega arith) low) in
    λ j. more j ++ last j ∷ []

mark_same : (v mark who who' : ℕ) → (mark ≢ 0 → who' ≡ who)
    → if_marked v mark who' ≡ if_marked v mark who
mark_same v zero who who' same = refl
mark_same v (suc at) who who' same =
    ap (λ (k : ℕ). mark_of_words v at k ∷ []) (same (λ e. omega arith))

-- the marks of the first versions, by the last two words of each
pub marks_kept : (old new : WordId → ℕ) (n : ℕ)
    → ((v : ℕ) → v < n → new (Version v 6) ≡ old (Version v 6))
    → ((v : ℕ) → v < n → old (Version v 6) ≢ 0 → new (Version v 7) ≡ old (Version v 7))
    → marks_in new n ≡ marks_in old n
unfolding marks_in
marks_kept old new zero mark who = refl
marks_kept old new (suc n) mark who =
    let more =
    marks_kept old new n (λ v lt. mark v (omega arith)) (λ v lt ne. who v (omega arith) ne) in
    let six = mark n (omega arith) in
    let last : if_marked n (new (Version n 6)) (new (Version n 7))
    ≡ if_marked n (old (Version n 6)) (old (Version n 7)) =
    ap (λ (k : ℕ). if_marked n k (new (Version n 7))) six
    ∙ mark_same n (old (Version n 6)) _ _ (λ ne. who n (omega arith) ne) in
    λ j. more j ++ last j

-- the words of the log alone tell the log
pub log_reads : (p : Layout) (old new : WordId → ℕ) → new LogLength ≡ old LogLength
    → ((v i : ℕ) → new (Version v i) ≡ old (Version v i)) → log_in p new ≡ log_in p old
log_reads p old new long version =
    let records : records_in new (new LogLength) ≡ records_in old (old LogLength) =
    ap (records_in new) long
    ∙ records_kept old new (old LogLength) (λ v i lt low. version (suc v) i) in
    let marks : marks_in new versions ≡ marks_in old versions =
    marks_kept old new versions (λ v lt. version v 6) (λ v lt ne. version v 7) in
    λ j. record { side = p.side; coloured = false; records = records j; marks = marks j }

pub log_same : (p : Layout) (old new : WordId → ℕ) → LogStays old new → log_in p new ≡ log_in p old
log_same p old new l = log_reads p old new l.length l.version

-- each record's words are those that a log keeps of it still
pub written_stays : (old new : WordId → ℕ) (n : ℕ)
    → ((v i : ℕ) → v < n → i < 5 → new (Version (suc v) i) ≡ old (Version (suc v) i))
    → ((v i : ℕ) → v < n → i < 5 → old (Version (suc v) i) ≡ slice_index
    (log_words (records_in old (suc v)) (record_of_words (word_in old (suc v)))) i)
    → (v i : ℕ) → v < n → i < 5 → new (Version (suc v) i) ≡ slice_index
    (log_words (records_in new (suc v)) (record_of_words (word_in new (suc v)))) i
written_stays old new n same written v i lt low =
    let rs = records_kept old new (suc v) (λ u k less few. same u k (omega arith) few) in
    let r =
    record_same (word_in new (suc v)) (word_in old (suc v)) (λ k few. same v k lt few) in
    same v i lt low ∙ written v i lt low ∙ (λ j. slice_index (log_words (sym rs j) (sym r j)) i)

pub written_reads : (old new : WordId → ℕ) → new LogLength ≡ old LogLength
    → ((v i : ℕ) → new (Version v i) ≡ old (Version v i)) → IsLogWritten old → IsLogWritten new
written_reads old new long version w = record {
  words = λ n i lt low.
      written_stays old new (old LogLength) (λ v k _ _. version (suc v) k)
      (λ v k less few. w.words v k less few) n i (subst (λ (k : ℕ). n < k) long lt) low;
}

pub written_same : (old new : WordId → ℕ) → LogStays old new → IsLogWritten old → IsLogWritten new
written_same old new l w = written_reads old new l.length l.version w

pub records_suc : (mem : WordId → ℕ) (n : ℕ)
    → records_in mem (suc n) ≡ records_in mem n ++ record_of_words (word_in mem (suc n)) ∷ []
unfolding records_in
records_suc mem n = refl

-- as many records are read as are asked for, each of them from its version
pub length_records : (mem : WordId → ℕ) (n : ℕ) → length (records_in mem n) ≡ n
unfolding records_in
length_records mem zero = refl
length_records mem (suc n) =
    let more = length_records mem n in
    let all = length-append (records_in mem n) (record_of_words (word_in mem (suc n)) ∷ []) in
    omega arith

pub take_records : (mem : WordId → ℕ) (k n : ℕ) → k ≤ n → take k (records_in mem n) ≡ records_in mem k
unfolding records_in
take_records mem zero n le = refl
take_records mem (suc k) zero le = absurd (omega arith)
take_records mem (suc k) (suc n) le = elim (cases_eq k n) [
  | inl same ↦
      (let long = length_records mem (suc n) in
      take_all (suc k) (records_in mem (suc n)) (omega arith)
      ∙ ap (λ (m : ℕ). records_in mem (suc m)) (sym same))
  | inr other ↦
      (let long = length_records mem n in
      take-append-le (suc k) (records_in mem n) (record_of_words (word_in mem (suc n)) ∷ [])
      (omega arith)
      ∙ take_records mem (suc k) n (omega arith))
]

get_last : {A : Type 0} (xs : List A) (x : A) → slice_get (xs ++ x ∷ []) (length xs) ≡ Some x
get_last [] x = refl
get_last (y ∷ xs) x = get_last xs x

pub get_before : {A : Type 0} (xs ys : List A) (k : ℕ) → k < length xs
    → slice_get (xs ++ ys) k ≡ slice_get xs k
get_before [] ys k lt = absurd (omega arith)
get_before (x ∷ xs) ys zero lt = refl
get_before (x ∷ xs) ys (suc k) lt = get_before xs ys k (omega arith)

pub get_record : (mem : WordId → ℕ) (k n : ℕ) → k < n
    → slice_get (records_in mem n) k ≡ Some (record_of_words (word_in mem (suc k)))
unfolding records_in
get_record mem k zero lt = absurd (omega arith)
get_record mem k (suc n) lt =
    let long = length_records mem n in
    let last = record_of_words (word_in mem (suc n)) ∷ [] in
    elim (cases_eq k n) [
      | inl same ↦
          ap (slice_get (records_in mem n ++ last)) (same ∙ sym long)
          ∙ get_last (records_in mem n) (record_of_words (word_in mem (suc n)))
          ∙ ap (λ (m : ℕ). Some (record_of_words (word_in mem (suc m)))) (sym same)
      | inr other ↦
          get_before (records_in mem n) last k (omega arith) ∙ get_record mem k n (omega arith)
    ]

pub marks_suc : (mem : WordId → ℕ) (v : ℕ) → marks_in mem (suc v)
    ≡ marks_in mem v ++ if_marked v (mem (Version v 6)) (mem (Version v 7))
unfolding marks_in
marks_suc mem v = refl

-- the mark of a version stands in the list just where its word isn't 0
pub record MarkRead (mem : WordId → ℕ) (n : ℕ) (m : Mark) : Type 0 where
  pub below : m.version < n
  pub word : mem (Version m.version 6) ≡ suc m.at
  pub is : m ≡ mark_of_words m.version m.at (mem (Version m.version 7))

read_one : (mem : WordId → ℕ) (v : ℕ) (m : Mark) (word : ℕ) → mem (Version v 6) ≡ word
    → Contains (if_marked v word (mem (Version v 7))) m → MarkRead mem (suc v) m
read_one mem v m zero e c = absurd (let k = c.1 in omega arith)
read_one mem v m (suc at) e c = go c.0 c.1 c.2
  where
    go : (k : ℕ) → k < 1 → get_or (mark_of_words v at (mem (Version v 7)) ∷ []) k m ≡ m
        → MarkRead mem (suc v) m
    go zero lt same =
        subst (MarkRead mem (suc v)) same
        (record { below = omega arith; word = e; is = refl })
    go (suc k) lt same = absurd (omega arith)

pub mark_read : (mem : WordId → ℕ) (n : ℕ) (m : Mark) → Contains (marks_in mem n) m → MarkRead mem n m
unfolding marks_in
mark_read mem zero m c = absurd (let k = c.1 in omega arith)
mark_read mem (suc n) m c = ⊎_elim
    (λ l. let r = mark_read mem n m l in
    record { below = (let b = r.below in omega arith); word = r.word; is = r.is })
    (λ r. read_one mem n m (mem (Version n 6)) refl r)
    (Contains-append_cases (marks_in mem n) _ m c)

pub mark_stands : (mem : WordId → ℕ) (n v at : ℕ) → v < n → mem (Version v 6) ≡ suc at
    → Contains (marks_in mem n) (mark_of_words v at (mem (Version v 7)))
unfolding marks_in
mark_stands mem zero v at lt e = absurd (omega arith)
mark_stands mem (suc n) v at lt e = elim (cases_eq v n) [
  | inl same ↦
      Contains-append_right (marks_in mem n) _ _
      (subst (λ (k : ℕ). Contains (if_marked n k (mem (Version n 7)))
      (mark_of_words v at (mem (Version v 7))))
      (sym (ap (λ (u : ℕ). mem (Version u 6)) (sym same) ∙ e))
      (subst (λ (u : ℕ). Contains (mark_of_words u at (mem (Version u 7)) ∷ [])
      (mark_of_words v at (mem (Version v 7)))) same (0, omega arith, refl)))
  | inr other ↦
      Contains-append_left (marks_in mem n) _ _ (mark_stands mem n v at (omega arith) e)
]

-- a version whose word is 0 has no mark
pub no_mark : (mem : WordId → ℕ) (n v : ℕ) → mem (Version v 6) ≡ 0 → IsUnmarked (marks_in mem n) v
no_mark mem n v none k d lt same =
    let m : Mark = get_or (marks_in mem n) k d in
    let r = mark_read mem n m (k, lt, again (marks_in mem n) k d lt) in
    let w = r.word in let e = ap (λ (u : ℕ). mem (Version u 6)) same in omega arith
  where
    again : (xs : List Mark) (k : ℕ) (d : Mark) → k < length xs
        → get_or xs k (get_or xs k d) ≡ get_or xs k d
    again [] k d lt = absurd (omega arith)
    again (x ∷ xs) zero d lt = refl
    again (x ∷ xs) (suc k) d lt = again xs k d (omega arith)

-- a table of words that are 0 has the empty log
pub empty_marks : (mem : WordId → ℕ) (n : ℕ) → ((x : WordId) → mem x ≡ 0) → marks_in mem n ≡ []
unfolding marks_in
empty_marks mem zero none = refl
empty_marks mem (suc n) none =
    let more = empty_marks mem n none in let six = none (Version n 6) in
    λ i. more i ++ if_marked n (six i) (mem (Version n 7))

pub empty_log : (p : Layout) (mem : WordId → ℕ) → ((x : WordId) → mem x ≡ 0)
    → log_in p mem ≡ record { side = p.side; coloured = false; records = []; marks = [] }
unfolding records_in
empty_log p mem none =
    let records : records_in mem (mem LogLength) ≡ [] = ap (records_in mem) (none LogLength) in
    let marks = empty_marks mem versions none in
    λ i. record { side = p.side; coloured = false; records = records i; marks = marks i }
