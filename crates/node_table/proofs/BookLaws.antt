-- What is known of a book's word, and of the words that are stored behind it.
use Rattle.std.proofs.Common.{◌≡◌, ◌≢◌, ◌⊎◌, ℕ, zero, suc, ◌+◌, ◌-◌, ◌*◌, ◌/◌, ◌%◌, ◌^◌, ◌<◌, ◌≤◌, Some, List, sym, ap, ◌∙◌, subst, inl, inr, arith}
use Rattle.std.specs.Prelude.{slice_index}
use Rattle.std.proofs.Math.Nat.{mod-add-div}
use Rattle.std.proofs.lemmas.Bool.{cases_eq}
use Rattle.node_words.specs.declared.shapes.names.Name.{Name}
use Rattle.node_words.specs.declared.keys.Key as keys
use Rattle.core_laws.specs.places.KeyWords.{key_word}
use Rattle.core_laws.specs.places.WordIds.{WordId, key_words}
use Rattle.table_rule.specs.Reading.{book_of}
use Rattle.table_rule.specs.Views.{SeatView, known_at}
use Rattle.table_rule.specs.Tags.{key_tag, ShowsTag, ShowsBook}
use Rattle.table_rule.specs.Changes.{BookFound, HasKeyWords, HasOther}
use Rattle.table_rule.proofs.Tags.{one_more, one_less, first_share, tag_same}
use Rattle.node_table.specs.Finding.{AreWordsOf}
use Rattle.node_table.specs.Learning.{WordsStay, Learns, IsBooked, KnowsBook}
use Rattle.node_table.specs.TableStates.{PassState, SamePass}

pub learn_book : (s t : PassState) (n : Name) (book : ℕ) → SamePass s t
    → BookFound s.view n book t.view → Learns s t
learn_book s t n book same found =
    let words : t.view.words ≡ found.words = ap (λ (v : SeatView). v.words) found.is in record {
      same = same;
      grows = subst (λ ws. WordsStay s.view.words ws) (sym words) (record { stays = found.stays });
      else_is = found.is
          ∙ ap (λ ws. (let v : SeatView = record s.view { words = ws } in v)) (sym words);
    }

pub book_known : (v w : SeatView) (n : Name) (book : ℕ) → BookFound v n book w
    → KnowsBook w.words n book
book_known v w n book found =
    let words : w.words ≡ found.words = ap (λ (u : SeatView). u.words) found.is in
    subst (λ ws. KnowsBook ws n book) (sym words)
    (record { known = found.known; shows = found.shows; small = found.small })

-- a tag by an equal number
tag_by : (words : List (WordId × ℕ)) (n : Name) (tag other : ℕ) → other ≡ tag
    → ShowsTag words n tag → ShowsTag words n other
tag_by words n tag other same shows =
    subst (λ (k : ℕ). ShowsTag words n k) (sym same) shows

some_shown : (words : List (WordId × ℕ)) (n : Name) (book : ℕ) → 0 < book % 2 ^ 40
    → ShowsBook words n book → ShowsTag words n (book / 2 ^ 40)
some_shown words n book some (inl none) =
    absurd (let e : book % 2 ^ 40 ≡ 0 = ap (λ (k : ℕ). k % 2 ^ 40) none in omega (arith, e, some))
some_shown words n book some (inr (live, tag)) = tag

-- one share more
pub shows_more : (words : List (WordId × ℕ)) (n : Name) (book : ℕ) → 0 < book % 2 ^ 40
    → KnowsBook words n book → ShowsBook words n (book + 1)
shows_more words n book some knows =
    let more = one_more book knows.small in
    inr (
      (let e = more.0 in omega (arith, e)),
      tag_by words n (book / 2 ^ 40) ((book + 1) / 2 ^ 40) more.1
          (some_shown words n book some knows.shows),
    )

-- its word is one of 64 bits
pub book_room : (book : ℕ) → book % 2 ^ 40 < 2 ^ 39 → book < 2 ^ 64 → book + 1 < 2 ^ 64
book_room book low fits =
    let parts = mod-add-div book (2 ^ 40) in omega (arith, parts, low, fits)

-- one share less, where there are more
pub shows_less : (words : List (WordId × ℕ)) (n : Name) (book : ℕ) → 1 < book % 2 ^ 40
    → KnowsBook words n book → ShowsBook words n (book - 1)
shows_less words n book some knows =
    let less = one_less book (omega (arith, some)) knows.small in
    inr (
      (let e = less.0 in omega (arith, e, some)),
      tag_by words n (book / 2 ^ 40) ((book - 1) / 2 ^ 40) less.1
          (some_shown words n book (omega (arith, some)) knows.shows),
    )

pub known_less : (words : List (WordId × ℕ)) (n : Name) (book : ℕ) → 1 < book % 2 ^ 40
    → KnowsBook words n book → known_at (book_of n) words ≡ Some ((book - 1) % 2 ^ 40 + 1)
known_less words n book some knows =
    knows.known ∙ ap (λ (k : ℕ). Some k) (one_less book (omega (arith, some)) knows.small).0

pub less_live : (words : List (WordId × ℕ)) (n : Name) (book : ℕ) → 1 < book % 2 ^ 40
    → KnowsBook words n book → 0 < (book - 1) % 2 ^ 40
less_live words n book some knows =
    let e = (one_less book (omega (arith, some)) knows.small).0 in omega (arith, e, some)

-- the first share of an entry with the key's words
pub shows_first : (words : List (WordId × ℕ)) (n : Name) (key : keys.Key) (tag : ℕ)
    → HasKeyWords words key n → tag ≡ key_tag n.level (key_word key)
    → ShowsBook words n (tag * 2 ^ 40 + 1)
shows_first words n key tag has is =
    let first = first_share tag in
    inr (
      (let e = first.0 in omega (arith, e)),
      record { found = key_word key; known = has.each; is = first.1 ∙ is },
    )

-- of two rows of so many words one differs, or none does
differ : (k : ℕ) (words others : ℕ → ℕ)
    → ((i : ℕ) → i < k → words i ≡ others i)
    ⊎ ((i : ℕ) × (i < k) × (words i ≢ others i))
differ zero words others = inl (λ i lt. absurd (omega arith))
differ (suc k) words others = elim (differ k words others) [
  | inr d ↦ inr (d.0, omega (arith, d.1), d.2)
  | inl same ↦ elim (cases_eq (words k) (others k)) [
    | inr other ↦ inr (k, omega arith, other)
    | inl here ↦ inl (λ i lt. elim (cases_eq i k) [
      | inl e ↦ ap words e ∙ here ∙ ap others (sym e)
      | inr ne ↦ same i (omega arith)
    ])
  ]
]

-- another tag is another key's
pub other_tag : (words : List (WordId × ℕ)) (n : Name) (key : keys.Key) (tag : ℕ)
    → ShowsTag words n tag → tag ≢ key_tag n.level (key_word key) → HasOther words key n
other_tag words n key tag shows other =
    elim (differ (key_words n.level) shows.found (key_word key)) [
      | inl same ↦ absurd (other (shows.is ∙ tag_same n.level shows.found (key_word key) same))
      | inr d ↦ record {
        word = d.0;
        inside = d.1;
        found = shows.found d.0;
        known = shows.known d.0 d.1;
        other = d.2;
      }
    ]

pub booked : (words : List (WordId × ℕ)) (n : Name) (book : ℕ) → 0 < book % 2 ^ 40
    → KnowsBook words n book → IsBooked words n
booked words n book some knows =
    record { book = book % 2 ^ 40; live = some; known = knows.known }

-- a word that isn't 0 is a live entry's
pub some_live : (words : List (WordId × ℕ)) (n : Name) (book : ℕ) → book ≢ 0
    → ShowsBook words n book → (0 < book % 2 ^ 40) × ShowsTag words n (book / 2 ^ 40)
some_live words n book other (inl none) = absurd (other none)
some_live words n book other (inr live) = live

pub none_known : (words : List (WordId × ℕ)) (n : Name) (book : ℕ) → book ≡ 0
    → KnowsBook words n book → known_at (book_of n) words ≡ Some 0
none_known words n book none knows =
    knows.known ∙ ap (λ (k : ℕ). Some (k % 2 ^ 40)) none

few_words : (level : ℕ) → key_words level ≤ 4
few_words zero = omega arith
few_words (suc level) = omega arith

-- the tag of a key's words is the key's
pub sought_tag : (level : ℕ) (key : keys.Key) (words : List ℕ) → AreWordsOf key words
    → key_tag level (slice_index words) ≡ key_tag level (key_word key)
sought_tag level key words are =
    tag_same level (slice_index words) (key_word key)
    (λ i lt. are i (let few = few_words level in omega (arith, lt, few)))
