-- A list of bytes keeps all rules of a DAG file, or has a first fault.
use Rattle.std.proofs.Common.{◌≡◌, ◌≢◌, ℕ, zero, suc, ◌+◌, ◌-◌, ◌^◌, ◌<◌, ◌≤◌, ◌⊎◌, inl, inr, Bool, true, false, List, [], ◌∷◌, length, take, refl, ap, sym, subst, ◌∙◌, arith}
use Rattle.std.specs.Prelude.{◌==◌, IsTrue, codes}
use Rattle.std.specs.List.{list_any}
use Rattle.std.proofs.lemmas.Bool.{cases_lt, cases_eq, or_cases, false≢true, eqb-true}
use Rattle.vw_cell.specs.Sides.{is_side}
use Rattle.dag_file.specs.Places.{number_at, leaf_at, node_word_at, side_in, versions_in, count_place, count_in, entry_place, version_place, version_number, version_root_word, versions_end}
use Rattle.dag_file.specs.Trees.{HasVersion}
use Rattle.dag_file.proofs.ReadLaws.{ends_within}
use Rattle.dag_file.specs.Rules.{IsMarked, HasOne, HasSide, HasVersions, HasCount, IsLeafRight, SortsBefore, HasWord, IsNodeRight, IsEntryRight, IsNumberRight, IsRootRight, IsHeaderRight, AreCountsRight, AreEntriesRight, AreLevelsRight, AreVersionsRight, IsNamedAbove, IsRooted, IsNamed, AreEntriesNamed, AreLevelsNamed, HasLevels, IsRight, IsDagFile, FirstFault, no_mark, no_one, no_side, no_versions, no_count, no_entry, no_number, no_root, unnamed, trailing}

-- ---- what can be decided

abbrev pub Decided : Type 0 → Type 0
Decided P = P ⊎ (P → ⊥)

by : {P Q : Type 0} → (P → Q) → (Q → P) → Decided P → Decided Q
by to from (inl is) = inl (to is)
by to from (inr not) = inr (λ q. not (from q))

both : {P Q : Type 0} → Decided P → Decided Q → Decided (P × Q)
both (inl p) (inl q) = inl (p, q)
both (inl p) (inr q) = inr (λ a. q a.1)
both (inr p) q = inr (λ a. p a.0)

either : {P Q : Type 0} → Decided P → Decided Q → Decided (P ⊎ Q)
either (inl p) q = inl (inl p)
either (inr p) (inl q) = inl (inr q)
either (inr p) (inr q) = inr (λ a. elim a [ inl is ↦ p is | inr is ↦ q is ])

other : {P : Type 0} → Decided P → Decided (P → ⊥)
other (inl p) = inr (λ a. a p)
other (inr p) = inl p

follows : {P Q : Type 0} → Decided P → Decided Q → Decided (P → Q)
follows p (inl q) = inl (λ a. q)
follows (inl p) (inr q) = inr (λ a. q (a p))
follows (inr p) (inr q) = inl (λ a. absurd (p a))

is_less : (a b : ℕ) → Decided (a < b)
is_less a b =
    elim (cases_lt a b) [ inl less ↦ inl less | inr more ↦ inr (λ l. omega (arith, l, more)) ]

is_most : (a b : ℕ) → Decided (a ≤ b)
is_most a b =
    elim (cases_lt b a) [ inl less ↦ inr (λ l. omega (arith, l, less)) | inr more ↦ inl more ]

is_true : (b : Bool) → Decided (IsTrue b)
is_true true = inl refl
is_true false = inr (λ e. false≢true e)

abbrev head_or : List ℕ → ℕ
head_or [] = 0
head_or (x ∷ xs) = x

abbrev tail_or : List ℕ → List ℕ
tail_or [] = []
tail_or (x ∷ xs) = xs

abbrev is_some_list : List ℕ → Bool
is_some_list [] = false
is_some_list (x ∷ xs) = true

same_list : (xs ys : List ℕ) → Decided (xs ≡ ys)
same_list [] [] = inl refl
same_list [] (y ∷ ys) = inr (λ e. false≢true (ap is_some_list e))
same_list (x ∷ xs) [] = inr (λ e. false≢true (sym (ap is_some_list e)))
same_list (x ∷ xs) (y ∷ ys) =
    elim (cases_eq x y) [
      | inr differ ↦ inr (λ e. differ (ap head_or e))
      | inl first ↦ elim (same_list xs ys) [
        | inr differ ↦ inr (λ e. differ (ap tail_or e))
        | inl rest ↦ inl (ap (λ (n : ℕ). n ∷ xs) first ∙ ap (λ (l : List ℕ). y ∷ l) rest)
      ]
    ]

-- ---- the first of some at which a rule is broken

record FirstBroken (P : ℕ → Type 0) (n : ℕ) : Type 0 where
  i : ℕ
  below : i < n
  before : (j : ℕ) → j < i → P j
  broken : P i → ⊥

one_more : (P : ℕ → Type 0) (n : ℕ) → ((i : ℕ) → i < n → P i) → P n → (i : ℕ) → i < suc n → P i
one_more P n all last i lt =
    elim (cases_eq i n) [
      | inl e ↦ subst P (sym e) last
      | inr differ ↦ all i
          (omega (arith, lt, differ))
    ]

search_on : (P : ℕ → Type 0) (n : ℕ) → Decided (P n)
    → ((i : ℕ) → i < n → P i) ⊎ FirstBroken P n
    → ((i : ℕ) → i < suc n → P i) ⊎ FirstBroken P (suc n)
search_on P n last (inr f) =
    inr (record {
      i = f.i;
      below =
          (let lt = f.below in omega (arith, lt));
      before = f.before;
      broken = f.broken;
    })
search_on P n (inl is) (inl all) = inl (one_more P n all is)
search_on P n (inr fails) (inl all) =
    inr (record { i = n; below = omega arith; before = all; broken = fails })

first_of : (P : ℕ → Type 0) → ((i : ℕ) → Decided (P i)) → (n : ℕ)
    → ((i : ℕ) → i < n → P i) ⊎ FirstBroken P n
first_of P decide zero = inl (λ i lt. absurd (omega (arith, lt)))
first_of P decide (suc n) = search_on P n (decide n) (first_of P decide n)

all_of : (P : ℕ → Type 0) → ((i : ℕ) → Decided (P i)) → (n : ℕ) → Decided ((i : ℕ) → i < n → P i)
all_of P decide n =
    elim (first_of P decide n) [
      | inl all ↦ inl all
      | inr f ↦ inr
          (λ all. f.broken (all f.i f.below))
    ]

record SomeOf (P : ℕ → Type 0) (n : ℕ) : Type 0 where
  i : ℕ
  below : i < n
  is : P i

not_not : {P : Type 0} → Decided P → ((P → ⊥) → ⊥) → P
not_not (inl p) twice = p
not_not (inr p) twice = absurd (twice p)

some_of : (P : ℕ → Type 0) → ((i : ℕ) → Decided (P i)) → (n : ℕ) → Decided (SomeOf P n)
some_of P decide n =
    elim (first_of (λ i. P i → ⊥) (λ i. other (decide i)) n) [
      | inl none ↦ inr (λ s. none s.i s.below s.is)
      | inr f ↦ inl (record { i = f.i; below = f.below; is = not_not (decide f.i) f.broken })
    ]

-- ---- the rules

module _ (bytes : List ℕ) where
  leaf_decided : (place i : ℕ) → Decided (IsLeafRight bytes place i)
  leaf_decided place i =
      by (λ a. record { fits = a.0; some = a.1.0; rises = a.1.1 })
      (λ r. (r.fits, (r.some, r.rises)))
      (both (is_most (place + 8) (length bytes))
      (both (other (cases_eq (leaf_at bytes place) 0))
      (follows (is_less 0 i) (is_less (leaf_at bytes (place - 8)) (leaf_at bytes place)))))

  before_decided : (a b : ℕ) → Decided (SortsBefore bytes a b)
  before_decided a b =
      by (λ s. record { k = s.i; below = s.below; same = s.is.0; less = s.is.1 })
      (λ r. record { i = r.k; below = r.below; is = (r.same, r.less) })
      (some_of (λ k. ((j : ℕ) → j < k → node_word_at bytes a j ≡ node_word_at bytes b j)
      × (node_word_at bytes a k < node_word_at bytes b k))
      (λ k. both (all_of (λ j. node_word_at bytes a j ≡ node_word_at bytes b j)
      (λ j. cases_eq (node_word_at bytes a j) (node_word_at bytes b j)) k)
      (is_less (node_word_at bytes a k) (node_word_at bytes b k))) 8)

  word_decided : (place : ℕ) → Decided (HasWord bytes place)
  word_decided place =
      by (λ s. record { k = s.i; below = s.below; there = s.is })
      (λ r. record { i = r.k; below = r.below; is = r.there })
      (some_of (λ k. node_word_at bytes place k ≢ 0)
      (λ k. other (cases_eq (node_word_at bytes place k) 0)) 8)

  node_decided : (place i most : ℕ) → Decided (IsNodeRight bytes place i most)
  node_decided place i most =
      by (λ a. record { fits = a.0; some = a.1.0; known = a.1.1.0; rises = a.1.1.1 })
      (λ r. (r.fits, (r.some, (r.known, r.rises))))
      (both (is_most (place + 32) (length bytes))
      (both (word_decided place)
      (both (all_of (λ k. node_word_at bytes place k ≤ most)
      (λ k. is_most (node_word_at bytes place k) most) 8)
      (follows (is_less 0 i) (before_decided (place - 32) place)))))

  entry_decided : (levels level i : ℕ) → Decided (IsEntryRight bytes levels level i)
  entry_decided levels zero i = leaf_decided (entry_place bytes levels 0 i) i
  entry_decided levels (suc level) i =
      node_decided (entry_place bytes levels (suc level) i) i (count_in bytes level)

  number_decided : (place v : ℕ) → Decided (IsNumberRight bytes place v)
  number_decided place v =
      by (λ a. record { fits = a.0; few = a.1.0; rises = a.1.1 }) (λ r. (r.fits, (r.few, r.rises)))
      (both (is_most (place + 4) (length bytes))
      (both (is_most (number_at bytes place) 65535)
      (follows (is_less 0 v) (is_less (number_at bytes (place - 8)) (number_at bytes place)))))

  root_decided : (place most : ℕ) → Decided (IsRootRight bytes place most)
  root_decided place most =
      by (λ a. record { fits = a.0; known = a.1 }) (λ r. (r.fits, r.known))
      (both (is_most (place + 8) (length bytes)) (is_most (number_at bytes (place + 4)) most))

  above_decided : (levels level i : ℕ) → Decided (IsNamedAbove bytes levels level i)
  above_decided levels level i =
      by (λ s. record { node = s.i; below = s.below; k = s.is.i; octant = s.is.below; names = s.is.is })
      (λ r. record {
        i = r.node;
        below = r.below;
        is =
            record { i = r.k; below = r.octant; is = r.names };
      })
      (some_of (λ node. SomeOf
      (λ k. node_word_at bytes (entry_place bytes levels (suc level) node) k ≡ i + 1) 8)
      (λ node. some_of
      (λ k. node_word_at bytes (entry_place bytes levels (suc level) node) k ≡ i + 1)
      (λ k. cases_eq (node_word_at bytes (entry_place bytes levels (suc level) node) k) (i + 1)) 8)
      (count_in bytes (suc level)))

  rooted_decided : (levels i : ℕ) → Decided (IsRooted bytes levels i)
  rooted_decided levels i =
      by (λ s. record { version = s.i; below = s.below; names = s.is })
      (λ r. record { i = r.version; below = r.below; is = r.names })
      (some_of (λ v. version_root_word bytes levels v ≡ i + 1)
      (λ v. cases_eq (version_root_word bytes levels v) (i + 1)) (versions_in bytes))

  named_decided : (levels level i : ℕ) → Decided (IsNamed bytes levels level i)
  named_decided levels level i =
      by (λ a. record { by = a }) (λ r. r.by)
      (either (both (is_less (suc level) levels) (above_decided levels level i))
      (both (cases_eq (suc level) levels) (rooted_decided levels i)))

  -- ---- how many levels there are

  pick : (l x : ℕ) (xs : List ℕ) → x ≡ 2 ^ (l + 1) → 1 ≤ l → l ≤ 11
      → (list_any (λ side. side == side_in bytes) xs ≡ true → (levels : ℕ) × HasLevels bytes levels)
      → list_any (λ side. side == side_in bytes) (x ∷ xs) ≡ true
      → (levels : ℕ) × HasLevels bytes levels
  pick l x xs is low few rest e =
      elim (or_cases (x == side_in bytes) (list_any (λ side. side == side_in bytes) xs) e) [
        | inl here ↦
            (l, record { some = (low, few); side = sym (eqb-true x (side_in bytes) here) ∙ is })
        | inr later ↦ rest later
      ]

  levels_in : IsTrue (is_side (side_in bytes)) → (levels : ℕ) × HasLevels bytes levels
  levels_in e =
      pick 1 4 (8 ∷ 16 ∷ 32 ∷ 64 ∷ 128 ∷ 256 ∷ 512 ∷ 1024 ∷ 2048 ∷ 4096 ∷ []) refl (omega arith)
      (omega arith)
      (pick 2 8 (16 ∷ 32 ∷ 64 ∷ 128 ∷ 256 ∷ 512 ∷ 1024 ∷ 2048 ∷ 4096 ∷ []) refl
      (omega arith) (omega arith)
      (pick 3 16 (32 ∷ 64 ∷ 128 ∷ 256 ∷ 512 ∷ 1024 ∷ 2048 ∷ 4096 ∷ []) refl (omega arith)
      (omega arith)
      (pick 4 32 (64 ∷ 128 ∷ 256 ∷ 512 ∷ 1024 ∷ 2048 ∷ 4096 ∷ []) refl (omega arith)
      (omega arith)
      (pick 5 64 (128 ∷ 256 ∷ 512 ∷ 1024 ∷ 2048 ∷ 4096 ∷ []) refl (omega arith) (omega arith)
      (pick 6 128 (256 ∷ 512 ∷ 1024 ∷ 2048 ∷ 4096 ∷ []) refl (omega arith) (omega arith)
      (pick 7 256 (512 ∷ 1024 ∷ 2048 ∷ 4096 ∷ []) refl (omega arith) (omega arith)
      (pick 8 512 (1024 ∷ 2048 ∷ 4096 ∷ []) refl (omega arith) (omega arith)
      (pick 9 1024 (2048 ∷ 4096 ∷ []) refl (omega arith) (omega arith)
      (pick 10 2048 (4096 ∷ []) refl (omega arith) (omega arith)
      (pick 11 4096 [] refl (omega arith) (omega arith)
      (λ none. absurd (false≢true none)))))))))))) e

  -- ---- a right file, or a fault

  abbrev IsAFile : Type 0
  IsAFile = (levels : ℕ) × IsDagFile bytes levels

  abbrev HasFault : Type 0
  HasFault = (place : ℕ) × FirstFault bytes place

  module _ (levels : ℕ) (header : IsHeaderRight bytes) (has : HasLevels bytes levels) where
    after_names : (right : IsRight bytes levels) → AreLevelsNamed bytes levels levels
        → IsAFile ⊎ HasFault
    after_names right named =
        let within = ends_within bytes levels right in
        elim (cases_lt (versions_end bytes levels) (length bytes)) [
          | inl more ↦ inr (versions_end bytes levels, trailing levels right named more)
          | inr no_more ↦ inl (
            levels,
            record {
              right = right;
              named = named;
              ends = omega
                  (arith, within, no_more);
            },
          )
        ]

    after_versions : (right : IsRight bytes levels) → IsAFile ⊎ HasFault
    after_versions right =
        elim (first_of (λ level. AreEntriesNamed bytes levels level (count_in bytes level))
        (λ level. all_of (λ i. IsNamed bytes levels level i) (named_decided levels level)
        (count_in bytes level)) levels) [
          | inl named ↦ after_names right named
          | inr f ↦ elim
              (first_of (λ i. IsNamed bytes levels f.i i) (named_decided levels f.i)
              (count_in bytes f.i)) [
                | inl all ↦ absurd (f.broken all)
                | inr g ↦ inr
                    (entry_place bytes levels f.i g.i, unnamed levels f.i g.i right f.below f.before g.below g.before g.broken)
              ]
        ]

    abbrev Version : ℕ → Type 0
    Version v = IsNumberRight bytes (version_place bytes levels v) v
        × IsRootRight bytes (version_place bytes levels v) (count_in bytes (levels - 1))

    version_fails : (counts : AreCountsRight bytes levels)
        (entries : AreLevelsRight bytes levels levels)
        (f : FirstBroken Version (versions_in bytes)) → HasFault
    version_fails counts entries f =
        let before : AreVersionsRight bytes levels f.i =
        record { numbers = λ v lt. (f.before v lt).0; roots = λ v lt. (f.before v lt).1 } in
        elim (number_decided (version_place bytes levels f.i) f.i) [
          | inr broken ↦
              (version_place bytes levels f.i, no_number levels f.i header has counts entries f.below before broken)
          | inl number ↦ (
            version_place bytes levels f.i + 4,
            no_root levels f.i header has counts entries f.below before number
                (λ root. f.broken (number, root)),
          )
        ]

    after_entries : AreCountsRight bytes levels → AreLevelsRight bytes levels levels
        → IsAFile ⊎ HasFault
    after_entries counts entries =
        elim (first_of Version (λ v. both (number_decided (version_place bytes levels v) v)
        (root_decided (version_place bytes levels v) (count_in bytes (levels - 1))))
        (versions_in bytes)) [
          | inl all ↦ after_versions (record {
            header = header;
            levels_in = has;
            counts = counts;
            entries = entries;
            versions = record { numbers = λ v lt. (all v lt).0; roots = λ v lt. (all v lt).1 };
          })
          | inr f ↦ inr (version_fails counts entries f)
        ]

    after_counts : AreCountsRight bytes levels → IsAFile ⊎ HasFault
    after_counts counts =
        elim (first_of (λ level. AreEntriesRight bytes levels level (count_in bytes level))
        (λ level. all_of (λ i. IsEntryRight bytes levels level i) (entry_decided levels level)
        (count_in bytes level)) levels) [
          | inl entries ↦ after_entries counts entries
          | inr f ↦ elim
              (first_of (λ i. IsEntryRight bytes levels f.i i) (entry_decided levels f.i)
              (count_in bytes f.i)) [
                | inl all ↦ absurd (f.broken all)
                | inr g ↦ inr
                    (entry_place bytes levels f.i g.i, no_entry levels f.i g.i header has counts f.below f.before g.below g.before g.broken)
              ]
        ]

    after_header : IsAFile ⊎ HasFault
    after_header =
        elim (first_of (HasCount bytes)
        (λ level. both (is_most (count_place level + 4) (length bytes))
        (is_most (count_in bytes level) (2 ^ 24))) levels) [
          | inl counts ↦ after_counts counts
          | inr f ↦ inr (count_place f.i, no_count levels f.i header has f.below f.before f.broken)
        ]

  with_versions : IsMarked bytes → HasOne bytes → (side : HasSide bytes)
      → Decided (HasVersions bytes) → IsAFile ⊎ HasFault
  with_versions mark one side (inr broken) = inr (12, no_versions mark one side broken)
  with_versions mark one side (inl versions) =
      let levels = levels_in side.1 in
      after_header levels.0
      (record { marked = mark; one = one; side = side; versions = versions }) levels.1

  with_side : IsMarked bytes → HasOne bytes → Decided (HasSide bytes) → IsAFile ⊎ HasFault
  with_side mark one (inr broken) = inr (8, no_side mark one broken)
  with_side mark one (inl side) =
      with_versions mark one side
      (both (is_most 16 (length bytes)) (is_most (versions_in bytes) 65536))

  with_one : IsMarked bytes → Decided (HasOne bytes) → IsAFile ⊎ HasFault
  with_one mark (inr broken) = inr (4, no_one mark broken)
  with_one mark (inl one) =
      with_side mark one (both (is_most 12 (length bytes)) (is_true (is_side (side_in bytes))))

  with_mark : Decided (IsMarked bytes) → IsAFile ⊎ HasFault
  with_mark (inr broken) = inr (0, no_mark broken)
  with_mark (inl mark) = with_one mark
      (both (is_most 8 (length bytes)) (cases_eq (number_at bytes 4) 1))

pub right_or_faulty : (bytes : List ℕ)
    → ((levels : ℕ) × IsDagFile bytes levels) ⊎ ((place : ℕ) × FirstFault bytes place)
right_or_faulty bytes = with_mark bytes (same_list (take 4 bytes) (codes "VDAG"))

-- a version of a file is there, or not
pub version_decided : (bytes : List ℕ) (levels number : ℕ)
    → HasVersion bytes levels number ⊎ (HasVersion bytes levels number → ⊥)
version_decided bytes levels number =
    by (λ s. (s.i, record { below = s.below; is = s.is }))
    (λ h. record { i = h.0; below = h.1.below; is = h.1.is })
    (some_of (λ v. version_number bytes levels v ≡ number)
    (λ v. cases_eq (version_number bytes levels v) number) (versions_in bytes))
