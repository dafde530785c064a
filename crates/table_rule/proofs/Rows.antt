-- A word of the row that is written is one word of the table.
use Rattle.std.proofs.Common.{◌≡◌, ℕ, ◌∙◌, arith, List, length, set, get_or}
use Rattle.std.proofs.lemmas.List.{get_or-set_same, get_or-set_other}
use Rattle.core_laws.specs.Plans.{Layout}
use Rattle.core_laws.specs.places.WordIds.{WordId, IsWordId, place, width}
use Rattle.core_laws.proofs.OfPlaces.SpotTests.{word_id_dec}
use Rattle.core_laws.proofs.OfPlaces.Apart.{place_low, place_one}
use Rattle.table_rule.specs.Reading.{Wrote, where_there, stored_at}

there : {A : Type 0} (d : Dec A) (n : ℕ) → A → where_there d n ≡ n
there (yes h) n a = λ i. n
there (no absent) n a = absurd (absent a)

-- a word is as before where its place, if it has one, has the same
same_word : {A : Type 0} (d : Dec A) (m n : ℕ) → (A → m ≡ n) → where_there d m ≡ where_there d n
same_word (yes h) m n same = same h
same_word (no absent) m n same = λ i. 0

pub row_written : (p : Layout) (words : List ℕ) (x : WordId) (n : ℕ) → length words ≡ width p
    → IsWordId p x → Wrote (stored_at p words) x n (stored_at p (set words (place p x) n))
unfolding stored_at
row_written p words x n wide is =
    let low = place_low p x is in
    record {
      here = there (word_id_dec p x) (get_or (set words (place p x) n) (place p x) 0) is
          ∙ get_or-set_same words (place p x) n 0 (omega arith);
      others =
          λ y other. same_word (word_id_dec p y) _ _
          (λ of_y. get_or-set_other words (place p x)
          (place p y) n 0 (λ same. other (place_one p y x of_y is same)));
    }
