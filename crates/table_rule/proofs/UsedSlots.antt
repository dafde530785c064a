-- The number of a bucket's used slots is loaded, and grows.
use Rattle.std.proofs.Common.{◌≡◌, ℕ, zero, suc, ◌+◌, ◌-◌, ◌<◌, ◌≤◌, Some, List, ◌∷◌, set, refl, sym, ap, ◌∙◌, subst, ⊎_elim, inl, inr, arith}
use Rattle.std.specs.List.{slice_get}
use Rattle.std.proofs.lemmas.Bool.{cases_eq}
use Rattle.vox_read.specs.Contents.{Content}
use Rattle.node_words.specs.Plans.{Layout}
use Rattle.core_laws.specs.places.WordIds.{WordId, LogTurn, LogLength, Version, Sessions, Book}
use Rattle.core_laws.specs.Events.{Rests}
use Rattle.table_rule.specs.Reading.{Wrote}
use Rattle.table_rule.specs.Views.{SeatView, BucketAt, known_at, word_id_same}
use Rattle.table_rule.specs.TurnRules.{IsOf, used_of}
use Rattle.table_rule.specs.Rules.{KeepsRule, table_state, MayWrite}
use Rattle.table_rule.proofs.KnownWords.{known_now, known_else, known_cases}
use Rattle.table_rule.proofs.PartA.{word_step, words_step, same_seat}
use Rattle.table_rule.proofs.StateSteps.{quiet, entries_same, same_mem, no_change}
use Rattle.table_rule.proofs.LogKept.{same_log}
use Rattle.table_rule.specs.Changes.{knowing, Counted}
use Rattle.table_rule.proofs.Loads.{entries_rest, log_rests}
use Rattle.table_rule.proofs.Unused.{unused_more}

-- these words, and that so many slots of the bucket from this one on are free
free_books : BucketAt → ℕ → ℕ → List (WordId × ℕ) → List (WordId × ℕ)
free_books b from zero words = words
free_books b from (suc n) words =
    (Book b.level b.bucket (from + n), 0) ∷ free_books b from n words

-- they are so where the slots are free
free_so : (mem : WordId → ℕ) (b : BucketAt) (from n : ℕ) (words : List (WordId × ℕ)) (y : WordId) (m : ℕ)
    → ((slot : ℕ) → from ≤ slot → mem (Book b.level b.bucket slot) ≡ 0)
    → (known_at y words ≡ Some m → mem y ≡ m) → known_at y (free_books b from n words) ≡ Some m
    → mem y ≡ m
unfolding free_books
free_so mem b from zero words y m free so is = so is
free_so mem b from (suc n) words y m free so is = ⊎_elim
    (λ (t : (y ≡ Book b.level b.bucket (from + n)) × (0 ≡ m)). ap mem t.0
    ∙ free (from + n) (omega arith) ∙ t.1)
    (λ t. free_so mem b from n words y m free so t.1)
    (known_cases (Book b.level b.bucket (from + n)) y 0 m (free_books b from n words) is)

free_known : (b : BucketAt) (from n : ℕ) (words : List (WordId × ℕ)) (slot : ℕ) → from ≤ slot
    → slot < from + n → known_at (Book b.level b.bucket slot) (free_books b from n words) ≡ Some 0
unfolding free_books
free_known b from zero words slot low high = absurd (omega arith)
free_known b from (suc n) words slot low high =
    let x : WordId = Book b.level b.bucket (from + n) in
    let more : List (WordId × ℕ) = free_books b from n words in
    elim (cases_eq slot (from + n)) [
      | inl e ↦
          ap (λ s. known_at (Book b.level b.bucket s) ((x, 0) ∷ more)) e ∙ known_now x 0 more
      | inr other ↦
          known_else x (Book b.level b.bucket slot) 0 more
          (λ e. other (let same : slot ≡ from + n = cc in same))
          ∙ free_known b from n words slot low (omega arith)
    ]

-- what was known stays known, where the books among it are 0
free_stays : (b : BucketAt) (from n : ℕ) (words : List (WordId × ℕ)) (y : WordId) (m : ℕ)
    → ((slot : ℕ) → from ≤ slot → y ≡ Book b.level b.bucket slot → 0 ≡ m)
    → known_at y words ≡ Some m → known_at y (free_books b from n words) ≡ Some m
unfolding free_books
free_stays b from zero words y m free is = is
free_stays b from (suc n) words y m free is =
    let x : WordId = Book b.level b.bucket (from + n) in
    let more : List (WordId × ℕ) = free_books b from n words in
    elim (word_id_same y x) [
      | yes e ↦
          ap (λ z. known_at z ((x, 0) ∷ more)) e
          ∙ (known_now x 0 more ∙ ap Some (free (from + n) (omega arith) e))
      | no other ↦ known_else x y 0 more other ∙ free_stays b from n words y m free is
    ]

module _ (p : Layout) (models : List Content) (old : WordId → ℕ) (views : List SeatView) (seat : ℕ)
    (v : SeatView) (b : BucketAt) (has : v.turn ≡ Some b) (r : KeepsRule p models old views)
    (at : slice_get views seat ≡ Some v) where
  abbrev k : ℕ
  k = old (used_of b)

  abbrev counted : List (WordId × ℕ)
  counted = (used_of b, k) ∷ v.words

  abbrev learned : List (WordId × ℕ)
  learned = free_books b k (p.cap - k) counted

  abbrev w : SeatView
  w = record v { words = learned }

  knows : (c : BucketAt) (y : WordId) (m : ℕ) → v.turn ≡ Some c → IsOf c y
      → known_at y learned ≡ Some m → old y ≡ m
  knows c y m h of is =
      free_so old b k (p.cap - k) counted y m (λ slot le. r.turns.unused b slot le)
      (λ l. ⊎_elim
      (λ (t : (y ≡ used_of b) × (k ≡ m)). ap old t.0 ∙ t.1)
      (λ t. r.turns.known seat v at c y m h of t.1)
      (known_cases (used_of b) y k m v.words l)) is

  -- a known book of an unused slot is 0
  book_known : (x : WordId) (n slot : ℕ) → known_at x v.words ≡ Some n → k ≤ slot
      → x ≡ Book b.level b.bucket slot → 0 ≡ n
  book_known x n slot is le e =
      let so =
      r.turns.known seat v at b (Book b.level b.bucket slot) n has (refl, refl)
      (ap (λ z. known_at z v.words) (sym e) ∙ is) in
      sym (r.turns.unused b slot le) ∙ so

  counted_stays : (x : WordId) (n : ℕ) → known_at x v.words ≡ Some n → known_at x counted ≡ Some n
  counted_stays x n is = elim (word_id_same x (used_of b)) [
    | yes e ↦
        ap (λ z. known_at z counted) e
        ∙ (known_now (used_of b) k v.words
        ∙ ap Some (r.turns.known seat v at b (used_of b) n has (refl, refl)
        (ap (λ z. known_at z v.words) (sym e) ∙ is)))
    | no other ↦ known_else (used_of b) x k v.words other ∙ is
  ]

  learns : Counted v b p.cap k w
  learns = record {
    words = learned;
    is = refl;
    stays = λ x n is.
        free_stays b k (p.cap - k) counted x n (λ slot le e. book_known x n slot is le e)
        (counted_stays x n is);
    known = free_stays b k (p.cap - k) counted (used_of b) k
        (λ slot le e. absurd (let no : ⊥ = cc in no)) (known_now (used_of b) k v.words);
    free = record {
      each = λ slot le lt. free_known b k (p.cap - k) counted slot le (omega arith);
    };
  }

  abbrev after : List SeatView
  after = set views seat w

  rested : KeepsRule p models old after
      × Rests p (table_state p old views) (table_state p old after)
  rested =
      quiet p models old old views seat v w r at (entries_rest p old views after) (log_rests old)
      refl (same_log v w refl refl)
      (words_step p old views r.turns seat v at old w (same_seat v w refl refl refl) refl b
      (used_of b) k has (refl, refl) (no_change old (used_of b)) refl knows r.turns.unused)
      refl refl refl refl refl (λ m h. inl h)

-- the number of used slots is loaded under its turn
pub counts_used : (p : Layout) (seat : ℕ) (v : SeatView) (b : BucketAt) → v.turn ≡ Some b
    → MayWrite p seat v (used_of b) (λ k. k) (Rests p) (λ k w. Counted v b p.cap k w)
counts_used p seat v b has models old views r at =
    let u : SeatView = w p models old views seat v b has r at in
    let same = λ (new : WordId → ℕ) (wrote : Wrote old (used_of b) (old (used_of b)) new).
    sym (same_mem old new (used_of b) wrote) in
    let all = rested p models old views seat v b has r at in
    record {
      view = u;
      rule = λ new wrote. subst (λ m. KeepsRule p models m (set views seat u))
          (same new wrote) all.0;
      event = λ new wrote. subst (λ m. Rests p (table_state p old views)
          (table_state p m (set views seat u))) (same new wrote) all.1;
      same = record { alive = refl; plan = refl; models = refl; numbers = refl };
      told = learns p models old views seat v b has r at;
    }

-- it grows
pub raises_used : (p : Layout) (seat : ℕ) (v : SeatView) (b : BucketAt) (number more : ℕ)
    → v.turn ≡ Some b → known_at (used_of b) v.words ≡ Some number → number ≤ more
    → MayWrite p seat v (used_of b) (λ _. more) (Rests p) (λ _ w. w ≡ knowing v (used_of b) more)
raises_used p seat v b number more has known le models old views r at =
    let x : WordId = used_of b in
    let w : SeatView = knowing v x more in
    let was : old x ≡ number = r.turns.known seat v at b x number has (refl, refl) known in
    let after : List SeatView = set views seat w in
    let both : (new : WordId → ℕ) → Wrote old x more new → KeepsRule p models new after
    × Rests p (table_state p old views) (table_state p new after) =
    λ new wrote. quiet p models old new views seat v w r at
    (entries_same p models old new views seat v w r at x more wrote
    (λ m e. (let no : ⊥ = cc in no)) (λ m i e. (let no : ⊥ = cc in no)))
    (record {
      turn = wrote.others LogTurn (λ e. (let no : ⊥ = cc in no));
      length = wrote.others LogLength (λ e. (let no : ⊥ = cc in no));
      version = λ u j. wrote.others (Version u j) (λ e. (let no : ⊥ = cc in no));
    })
    (wrote.others Sessions (λ e. (let no : ⊥ = cc in no))) (same_log v w refl refl)
    (word_step p old views r.turns seat v at new w (same_seat v w refl refl refl)
    (wrote.others Sessions (λ e. (let no : ⊥ = cc in no))) b x more has (refl, refl) wrote
    refl refl (unused_more old new b more wrote (omega arith) r.turns.unused))
    refl refl refl refl refl (λ m h. inl h) in
    record {
      view = w;
      rule = λ new wrote. (both new wrote).0;
      event = λ new wrote. (both new wrote).1;
      same = record { alive = refl; plan = refl; models = refl; numbers = refl };
      told = refl;
    }
