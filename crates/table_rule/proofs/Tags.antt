-- Books keep their tags, whatever word is stored.
use Rattle.std.proofs.Common.{◌≡◌, ◌≢◌, ℕ, zero, suc, ◌+◌, ◌-◌, ◌*◌, ◌/◌, ◌%◌, ◌^◌, ◌<◌, Some, List, ◌∷◌, set, refl, sym, ap, ◌∙◌, subst, ⊎_elim, inl, inr, arith}
use Rattle.std.specs.List.{slice_get}
use Rattle.std.proofs.Math.Nat.{mod-add-div}
use Rattle.std.proofs.lemmas.Nat.{div-mul-add, mod-mul-add}
use Rattle.std.proofs.lemmas.Bool.{cases_eq}
use Rattle.vox_read.specs.Contents.{Content}
use Rattle.node_words.specs.declared.shapes.names.Name.{Name}
use Rattle.node_words.proofs.OfShapes.TreeEqual.{Name-discrete}
use Rattle.node_words.specs.Plans.{Layout}
use Rattle.core_laws.specs.places.Names.{IsName}
use Rattle.core_laws.specs.places.WordIds.{WordId, Sessions, LogTurn, LogLength, Version, Turn, Used, Key, Book, IsWordId, key_words}
use Rattle.core_laws.specs.States.{State}
use Rattle.core_laws.specs.Events.{Rests}
use Rattle.table_rule.specs.Reading.{Wrote, book_of, said, saying}
use Rattle.table_rule.specs.Views.{SeatView, BucketAt, bucket_of, key_word_id, known_at, word_id_same}
use Rattle.table_rule.specs.TurnRules.{IsOf}
use Rattle.table_rule.specs.Tags.{mixed_words, key_tag, IsBookWord, AreTagged, ShowsBook}
use Rattle.table_rule.specs.Rules.{KeepsOn, KeepsRule, KeepsTags, table_state, MayWrite, MayStore, IsOutside}
use Rattle.table_rule.specs.Changes.{BookFound}
use Rattle.table_rule.proofs.Readings.{book_apart}
use Rattle.table_rule.proofs.KnownWords.{known_now, known_else, known_cases}
use Rattle.table_rule.proofs.PartA.{words_step, same_seat}
use Rattle.table_rule.proofs.StateSteps.{quiet, same_mem, no_change}
use Rattle.table_rule.proofs.LogKept.{same_log}
use Rattle.table_rule.proofs.Loads.{entries_rest, log_rests}
use Rattle.table_rule.proofs.Small.{small}

-- what is stored is written, and so is what it says
pub wrote_said : (stored new : WordId → ℕ) (x : WordId) (n : ℕ) → Wrote stored x n new
    → Wrote (saying stored) x (said x n) (saying new)
wrote_said stored new x n wrote = record {
  here = ap (said x) wrote.here;
  others = λ y other. ap (said y) (wrote.others y other);
}

pub outside_word : (p : Layout) (x : WordId) → IsOutside p x → IsWordId p x
outside_word p Sessions is = is
outside_word p LogTurn is = is
outside_word p LogLength is = is
outside_word p (Version version word) is = is
outside_word p (Turn level bucket) is = is
outside_word p (Used level bucket) is = is
outside_word p (Key level bucket slot word) is = absurd is
outside_word p (Book level bucket slot) is = absurd is

outside_said : (p : Layout) (x : WordId) (n : ℕ) → IsOutside p x → said x n ≡ n
outside_said p Sessions n is = refl
outside_said p LogTurn n is = refl
outside_said p LogLength n is = refl
outside_said p (Version version word) n is = refl
outside_said p (Turn level bucket) n is = refl
outside_said p (Used level bucket) n is = refl
outside_said p (Key level bucket slot word) n is = absurd is
outside_said p (Book level bucket slot) n is = absurd is

outside_book : (p : Layout) (x : WordId) (m : Name) → IsOutside p x → book_of m ≢ x
outside_book p Sessions m is e = (let no : ⊥ = cc in no)
outside_book p LogTurn m is e = (let no : ⊥ = cc in no)
outside_book p LogLength m is e = (let no : ⊥ = cc in no)
outside_book p (Version version word) m is e = (let no : ⊥ = cc in no)
outside_book p (Turn level bucket) m is e = (let no : ⊥ = cc in no)
outside_book p (Used level bucket) m is e = (let no : ⊥ = cc in no)
outside_book p (Key level bucket slot word) m is e = absurd is
outside_book p (Book level bucket slot) m is e = absurd is

outside_key : (p : Layout) (x : WordId) (m : Name) (i : ℕ) → IsOutside p x → key_word_id m i ≢ x
outside_key p Sessions m i is e = (let no : ⊥ = cc in no)
outside_key p LogTurn m i is e = (let no : ⊥ = cc in no)
outside_key p LogLength m i is e = (let no : ⊥ = cc in no)
outside_key p (Version version word) m i is e = (let no : ⊥ = cc in no)
outside_key p (Turn level bucket) m i is e = (let no : ⊥ = cc in no)
outside_key p (Used level bucket) m i is e = (let no : ⊥ = cc in no)
outside_key p (Key level bucket slot word) m i is e = absurd is
outside_key p (Book level bucket slot) m i is e = absurd is

-- an entry whose words stay stays tagged
entry_stays : (stored new : WordId → ℕ) (m : Name)
    → ((i : ℕ) → new (key_word_id m i) ≡ stored (key_word_id m i))
    → new (book_of m) ≡ stored (book_of m)
    → IsBookWord m.level (λ i. stored (key_word_id m i)) (stored (book_of m))
    → IsBookWord m.level (λ i. new (key_word_id m i)) (new (book_of m))
entry_stays stored new m keys book was =
    subst (λ (z : (ℕ → ℕ) × ℕ). IsBookWord m.level z.0 z.1)
    (λ j. ((λ i. sym (keys i) j), sym book j)) was

-- a word of no entry is stored
pub tags_outside : (p : Layout) (stored new : WordId → ℕ) (x : WordId) (n : ℕ) → IsOutside p x
    → Wrote stored x n new → AreTagged stored → AreTagged new
tags_outside p stored new x n is wrote tagged m =
    entry_stays stored new m
    (λ i. wrote.others (key_word_id m i) (outside_key p x m i is))
    (wrote.others (book_of m) (outside_book p x m is)) (tagged m)

-- nothing changes
pub tags_same : (stored new : WordId → ℕ) (x : WordId) → Wrote stored x (stored x) new
    → AreTagged stored → AreTagged new
tags_same stored new x wrote tagged =
    subst AreTagged (sym (same_mem stored new x wrote)) tagged

-- a word of a free entry's key is stored
pub tags_key : (stored new : WordId → ℕ) (n : Name) (i k : ℕ) → Wrote stored (key_word_id n i) k new
    → stored (book_of n) ≡ 0 → AreTagged stored → AreTagged new
tags_key stored new n i k wrote free tagged m =
    let book : new (book_of m) ≡ stored (book_of m) =
    wrote.others (book_of m) (λ e. (let no : ⊥ = cc in no)) in
    elim (Name-discrete m n) [
      | yes same ↦ inl (book ∙ ap (λ (x : Name). stored (book_of x)) same ∙ free)
      | no other ↦
          entry_stays stored new m
          (λ j. wrote.others (key_word_id m j) (λ e. other (same_entry m n j i e))) book (tagged m)
    ]
  where
    same_entry : (m n : Name) (j i : ℕ) → key_word_id m j ≡ key_word_id n i → m ≡ n
    same_entry m n j i e =
        let l : m.level ≡ n.level = cc in
        let b : m.bucket ≡ n.bucket = cc in
        let s : m.slot ≡ n.slot = cc in
        Rattle.node_words.proofs.OfShapes.TreeEqual.same_name m n l b s

-- a book's word is stored that has the tag
pub tags_book : (stored new : WordId → ℕ) (n : Name) (k : ℕ) → Wrote stored (book_of n) k new
    → IsBookWord n.level (λ i. stored (key_word_id n i)) k → AreTagged stored → AreTagged new
tags_book stored new n k wrote is tagged m =
    let keys = λ (x : Name) (i : ℕ). wrote.others (key_word_id x i) (λ e. (let no : ⊥ = cc in no)) in
    elim (Name-discrete m n) [
      | yes same ↦
          subst (λ (x : Name). IsBookWord x.level (λ i. new (key_word_id x i)) (new (book_of x)))
          (sym same)
          (subst (λ (z : (ℕ → ℕ) × ℕ). IsBookWord n.level z.0 z.1)
          (λ j. ((λ i. sym (keys n i) j), sym wrote.here j)) is)
      | no other ↦
          entry_stays stored new m (keys m)
          (wrote.others (book_of m) (book_apart m n other)) (tagged m)
    ]

-- equal words have equal tags
pub tag_same : (level : ℕ) (words others : ℕ → ℕ)
    → ((i : ℕ) → i < key_words level → words i ≡ others i)
    → key_tag level words ≡ key_tag level others
unfolding mixed_words
tag_same zero words others same = rw (same 0 (omega arith)) refl
tag_same (suc level) words others same =
    rw (
      same 0 (omega arith),
      same 1 (omega arith),
      same 2 (omega arith),
      same 3 (omega arith),
    ) refl

-- what a view knows of a book's word is so
book_so : (p : Layout) (models : List Content) (stored : WordId → ℕ) (views : List SeatView)
    (seat : ℕ) (v : SeatView) (n : Name) (word : ℕ) → KeepsRule p models (saying stored) views
    → slice_get views seat ≡ Some v → v.turn ≡ Some (bucket_of n) → ShowsBook v.words n word
    → IsBookWord n.level (λ i. stored (key_word_id n i)) word
book_so p models stored views seat v n word r at has (inl none) = inl none
book_so p models stored views seat v n word r at has (inr (some, tag)) =
    inr (
      some,
      tag.is ∙ tag_same n.level tag.found (λ i. stored (key_word_id n i))
          (λ i lt. sym (r.turns.known seat v at (bucket_of n) (key_word_id n i) (tag.found i) has
          (refl, refl) (tag.known i lt))),
    )

-- a free entry's book is stored as 0
free_bare : (level book : ℕ) (words : ℕ → ℕ) → IsBookWord level words book → book % 2 ^ 40 ≡ 0
    → book ≡ 0
free_bare level book words (inl none) e = none
free_bare level book words (inr (some, is)) e = absurd (omega arith)

-- a step on a word of no entry keeps books tagged
pub keeps_outside : (p : Layout) (models : List Content) (seat : ℕ) (stored : WordId → ℕ)
    (views : List SeatView) (v : SeatView) (x : WordId) (f : ℕ → ℕ)
    (happens : State → State → Type 0) (tells : ℕ → SeatView → Type 0) → IsOutside p x
    → AreTagged stored
    → KeepsOn p models seat (saying stored) views v x (f (saying stored x)) happens
    (tells (saying stored x))
    → KeepsTags p models seat stored views v x (f (stored x)) happens (tells (stored x))
keeps_outside p models seat stored views v x f happens tells is tagged t =
    let k : ℕ = stored x in
    let here : said x k ≡ k = outside_said p x k is in
    let again : said x (f k) ≡ f (said x k) = outside_said p x (f k) is ∙ ap f (sym here) in
    record {
      on = record {
        view = t.view;
        rule = λ new wrote. t.rule new
            (subst (λ (n : ℕ). Wrote (saying stored) x n new) again wrote);
        event = λ new wrote. t.event new
            (subst (λ (n : ℕ). Wrote (saying stored) x n new) again wrote);
        same = t.same;
        told = subst (λ (n : ℕ). tells n t.view) here t.told;
      };
      tags = λ new wrote. tags_outside p stored new x (f k) is wrote tagged;
    }

module _ (p : Layout) (seat : ℕ) (v : SeatView) where
  pub stores_outside : (x : WordId) (f : ℕ → ℕ) (happens : State → State → Type 0)
      (tells : ℕ → SeatView → Type 0) → IsOutside p x → MayWrite p seat v x f happens tells
      → MayStore p seat v x f happens tells
  stores_outside x f happens tells is may models stored views r tagged at =
      keeps_outside p models seat stored views v x f happens tells is tagged
      (may models (saying stored) views r at)

  -- a word of a key is loaded
  pub loads_key : (n : Name) (i : ℕ) (happens : State → State → Type 0)
      (tells : ℕ → SeatView → Type 0)
      → MayWrite p seat v (key_word_id n i) (λ k. k) happens tells
      → MayStore p seat v (key_word_id n i) (λ k. k) happens tells
  loads_key n i happens tells may models stored views r tagged at = record {
    on = may models (saying stored) views r at;
    tags = λ new wrote. tags_same stored new (key_word_id n i) wrote tagged;
  }

  -- a word of a free entry's key is stored
  pub stores_key : (n : Name) (i word : ℕ) (happens : State → State → Type 0)
      (tells : SeatView → Type 0) → v.turn ≡ Some (bucket_of n)
      → known_at (book_of n) v.words ≡ Some 0
      → MayWrite p seat v (key_word_id n i) (λ _. word) happens (λ _ w. tells w)
      → MayStore p seat v (key_word_id n i) (λ _. word) happens (λ _ w. tells w)
  stores_key n i word happens tells has free may models stored views r tagged at = record {
    on = may models (saying stored) views r at;
    tags = λ new wrote. tags_key stored new n i word wrote
        (free_bare n.level (stored (book_of n)) (λ j. stored (key_word_id n j)) (tagged n)
        (r.turns.known seat v at (bucket_of n) (book_of n) 0 has (refl, refl) free)) tagged;
  }

  -- a book's word is stored
  pub stores_book : (n : Name) (word shares : ℕ) (happens : State → State → Type 0)
      (tells : SeatView → Type 0) → v.turn ≡ Some (bucket_of n) → ShowsBook v.words n word
      → word % 2 ^ 40 ≡ shares
      → MayWrite p seat v (book_of n) (λ _. shares) happens (λ _ w. tells w)
      → MayStore p seat v (book_of n) (λ _. word) happens (λ _ w. tells w)
  stores_book n word shares happens tells has shows is may models stored views r tagged at =
      let t = may models (saying stored) views r at in
      record {
        on = record {
          view = t.view;
          rule = λ new wrote. t.rule new
              (subst (λ (k : ℕ). Wrote (saying stored) (book_of n) k new) is wrote);
          event = λ new wrote. t.event new
              (subst (λ (k : ℕ). Wrote (saying stored) (book_of n) k new) is wrote);
          same = t.same;
          told = t.told;
        };
        tags = λ new wrote. tags_book stored new n word wrote
            (book_so p models stored views seat v n word r at has shows) tagged;
      }

-- these words, and the first words of the entry's key
key_learned : (WordId → ℕ) → Name → ℕ → List (WordId × ℕ) → List (WordId × ℕ)
key_learned mem n zero words = words
key_learned mem n (suc k) words =
    (key_word_id n k, mem (key_word_id n k)) ∷ key_learned mem n k words

key_so : (mem : WordId → ℕ) (n : Name) (k : ℕ) (words : List (WordId × ℕ)) (y : WordId) (m : ℕ)
    → (known_at y words ≡ Some m → mem y ≡ m) → known_at y (key_learned mem n k words) ≡ Some m
    → mem y ≡ m
unfolding key_learned
key_so mem n zero words y m so is = so is
key_so mem n (suc k) words y m so is = ⊎_elim
    (λ (t : (y ≡ key_word_id n k) × (mem (key_word_id n k) ≡ m)). ap mem t.0 ∙ t.1)
    (λ t. key_so mem n k words y m so t.1)
    (known_cases (key_word_id n k) y (mem (key_word_id n k)) m (key_learned mem n k words) is)

key_known : (mem : WordId → ℕ) (n : Name) (k : ℕ) (words : List (WordId × ℕ)) (i : ℕ) → i < k
    → known_at (key_word_id n i) (key_learned mem n k words) ≡ Some (mem (key_word_id n i))
unfolding key_learned
key_known mem n zero words i lt = absurd (omega arith)
key_known mem n (suc k) words i lt =
    let more : List (WordId × ℕ) = key_learned mem n k words in
    elim (cases_eq i k) [
      | inl e ↦
          subst (λ (j : ℕ). known_at (key_word_id n j)
          ((key_word_id n k, mem (key_word_id n k)) ∷ more) ≡ Some (mem (key_word_id n j))) (sym e)
          (known_now (key_word_id n k) (mem (key_word_id n k)) more)
      | inr other ↦
          known_else (key_word_id n k) (key_word_id n i) (mem (key_word_id n k)) more
          (λ e. other (let same : i ≡ k = cc in same))
          ∙ key_known mem n k words i (omega arith)
    ]

-- what was known stays known, where it is so
key_stays : (mem : WordId → ℕ) (n : Name) (k : ℕ) (words : List (WordId × ℕ)) (y : WordId) (m : ℕ)
    → ((i : ℕ) → y ≡ key_word_id n i → mem y ≡ m) → known_at y words ≡ Some m
    → known_at y (key_learned mem n k words) ≡ Some m
unfolding key_learned
key_stays mem n zero words y m so is = is
key_stays mem n (suc k) words y m so is =
    let x : WordId = key_word_id n k in
    let more : List (WordId × ℕ) = key_learned mem n k words in
    elim (word_id_same y x) [
      | yes e ↦
          ap (λ z. known_at z ((x, mem x) ∷ more)) e
          ∙ (known_now x (mem x) more ∙ ap Some (ap mem (sym e) ∙ so k e))
      | no other ↦ known_else x y (mem x) more other ∙ key_stays mem n k words y m so is
    ]

module _ (p : Layout) (models : List Content) (stored : WordId → ℕ) (views : List SeatView)
    (seat : ℕ) (v : SeatView) (n : Name) (has : v.turn ≡ Some (bucket_of n)) (is : IsName p n)
    (r : KeepsRule p models (saying stored) views) (tagged : AreTagged stored)
    (at : slice_get views seat ≡ Some v) where
  abbrev old : WordId → ℕ
  old = saying stored

  abbrev shares : ℕ
  shares = old (book_of n)

  abbrev counted : List (WordId × ℕ)
  counted = (book_of n, shares) ∷ v.words

  abbrev learned : List (WordId × ℕ)
  learned = key_learned old n (key_words n.level) counted

  abbrev w : SeatView
  w = record v { words = learned }

  knows : (c : BucketAt) (y : WordId) (m : ℕ) → v.turn ≡ Some c → IsOf c y
      → known_at y learned ≡ Some m → old y ≡ m
  knows c y m h of l =
      key_so old n (key_words n.level) counted y m
      (λ l'. ⊎_elim
      (λ (t : (y ≡ book_of n) × (shares ≡ m)). ap old t.0 ∙ t.1)
      (λ t. r.turns.known seat v at c y m h of t.1)
      (known_cases (book_of n) y shares m v.words l')) l

  book_stays : (x : WordId) (k : ℕ) → known_at x v.words ≡ Some k → known_at x counted ≡ Some k
  book_stays x k l = elim (word_id_same x (book_of n)) [
    | yes e ↦
        ap (λ z. known_at z counted) e
        ∙ (known_now (book_of n) shares v.words
        ∙ ap Some (r.turns.known seat v at (bucket_of n) (book_of n) k has (refl, refl)
        (ap (λ z. known_at z v.words) (sym e) ∙ l)))
    | no other ↦ known_else (book_of n) x shares v.words other ∙ l
  ]

  shows : IsBookWord n.level (λ i. stored (key_word_id n i)) (stored (book_of n))
      → ShowsBook learned n (stored (book_of n))
  shows (inl none) = inl none
  shows (inr (some, tag)) = inr (
    some,
    record {
      found = λ i. stored (key_word_id n i);
      known = λ i lt. key_known old n (key_words n.level) counted i lt;
      is = tag;
    },
  )

  key_word_so : (x : WordId) (k i : ℕ) → known_at x v.words ≡ Some k → x ≡ key_word_id n i
      → old x ≡ k
  key_word_so x k i l e =
      ap old e ∙ r.turns.known seat v at (bucket_of n) (key_word_id n i) k has (refl, refl)
      (ap (λ z. known_at z v.words) (sym e) ∙ l)

  found : BookFound v n (stored (book_of n)) w
  found = record {
    words = learned;
    is = refl;
    stays = λ x k l. key_stays old n (key_words n.level) counted x k
        (λ i e. key_word_so x k i l e) (book_stays x k l);
    known = key_stays old n (key_words n.level) counted (book_of n) shares (λ i e. refl)
        (known_now (book_of n) shares v.words);
    shows = shows (tagged n);
    small = small p models old views n r is;
  }

  abbrev after : List SeatView
  after = set views seat w

  rested : KeepsRule p models old after
      × Rests p (table_state p old views) (table_state p old after)
  rested =
      quiet p models old old views seat v w r at (entries_rest p old views after) (log_rests old)
      refl (same_log v w refl refl)
      (words_step p old views r.turns seat v at old w (same_seat v w refl refl refl) refl
      (bucket_of n) (book_of n) shares has (refl, refl) (no_change old (book_of n)) refl knows
      r.turns.unused)
      refl refl refl refl refl (λ m h. inl h)

-- a book is loaded
pub looks_book : (p : Layout) (seat : ℕ) (v : SeatView) (n : Name) → v.turn ≡ Some (bucket_of n)
    → IsName p n → MayStore p seat v (book_of n) (λ k. k) (Rests p) (λ k w. BookFound v n k w)
looks_book p seat v n has is models stored views r tagged at =
    let u : SeatView = w p models stored views seat v n has is r tagged at in
    let mem : WordId → ℕ = saying stored in
    let same = λ (new : WordId → ℕ) (wrote : Wrote mem (book_of n) (mem (book_of n)) new).
    sym (same_mem mem new (book_of n) wrote) in
    let all = rested p models stored views seat v n has is r tagged at in
    record {
      on = record {
        view = u;
        rule = λ new wrote. subst (λ m. KeepsRule p models m (set views seat u))
            (same new wrote) all.0;
        event = λ new wrote. subst (λ m. Rests p (table_state p mem views)
            (table_state p m (set views seat u))) (same new wrote) all.1;
        same = record { alive = refl; plan = refl; models = refl; numbers = refl };
        told = found p models stored views seat v n has is r tagged at;
      };
      tags = λ new wrote. tags_same stored new (book_of n) wrote tagged;
    }

-- one share more leaves the tag
pub one_more : (book : ℕ) → book % 2 ^ 40 < 2 ^ 39
    → ((book + 1) % 2 ^ 40 ≡ book % 2 ^ 40 + 1) × ((book + 1) / 2 ^ 40 ≡ book / 2 ^ 40)
one_more book low =
    let r : ℕ = book % 2 ^ 40 in let q : ℕ = book / 2 ^ 40 in
    let parts : r + 2 ^ 40 * q ≡ book = mod-add-div book (2 ^ 40) in
    let more : book + 1 ≡ q * 2 ^ 40 + (r + 1) = omega (arith, parts) in
    let lt : r + 1 < 2 ^ 40 = omega (arith, low) in (
      ap (λ (x : ℕ). x % 2 ^ 40) more ∙ mod-mul-add q (2 ^ 40) (r + 1) lt,
      ap (λ (x : ℕ). x / 2 ^ 40) more ∙ div-mul-add q (2 ^ 40) (r + 1) lt,
    )

-- so does one share less
pub one_less : (book : ℕ) → 0 < book % 2 ^ 40 → book % 2 ^ 40 < 2 ^ 39
    → (book % 2 ^ 40 ≡ (book - 1) % 2 ^ 40 + 1) × ((book - 1) / 2 ^ 40 ≡ book / 2 ^ 40)
one_less book some low =
    let r : ℕ = book % 2 ^ 40 in let q : ℕ = book / 2 ^ 40 in
    let parts : r + 2 ^ 40 * q ≡ book = mod-add-div book (2 ^ 40) in
    let less : book - 1 ≡ q * 2 ^ 40 + (r - 1) = omega (arith, parts, some) in
    let lt : r - 1 < 2 ^ 40 = omega (arith, low) in
    let rest : (book - 1) % 2 ^ 40 ≡ r - 1 =
    ap (λ (x : ℕ). x % 2 ^ 40) less ∙ mod-mul-add q (2 ^ 40) (r - 1) lt in (
      omega (arith, some, rest),
      ap (λ (x : ℕ). x / 2 ^ 40) less ∙ div-mul-add q (2 ^ 40) (r - 1) lt,
    )

-- a first share with a tag
pub first_share : (tag : ℕ)
    → ((tag * 2 ^ 40 + 1) % 2 ^ 40 ≡ 1) × ((tag * 2 ^ 40 + 1) / 2 ^ 40 ≡ tag)
first_share tag =
    (mod-mul-add tag (2 ^ 40) 1 (omega arith), div-mul-add tag (2 ^ 40) 1 (omega arith))
