-- The marks of the versions that records push out, one record after another.
use Rattle.std.proofs.Common.{◌≡◌, ◌≢◌, ℕ, zero, suc, ◌+◌, ◌-◌, ◌<◌, ◌≤◌, ◌⊎◌, ◌||◌, Bool, true, false, not, List, [], ◌∷◌, ◌++◌, length, filter, Option, refl, ap, sym, ◌∙◌, inl, inr, arith, append-nil}
use Rattle.std.specs.Prelude.{All, ◌==◌, nat_le, cond, if◌then◌else◌, sum_by}
use Rattle.std.specs.List.{Contains, list_any}
use Rattle.std.proofs.lemmas.Bool.{cases_lt, le-leb, lt-leb, ne_eqb}
use Rattle.std.proofs.lemmas.List.Elements.{All-nil, All-cons, All-append, All-contains, All-contains_itself, All-filter, All-head, All-tail, All-weaker, Contains-append_right, filter-append}
use Rattle.std.proofs.lemmas.List.Folds.{list_any-append, list_any_none}
use Rattle.std.proofs.lemmas.List.Sums.{sum_by-append, sum_by-cons}
use Rattle.history_model.specs.declared.histories.Mark.{Mark}
use Rattle.history_model.specs.declared.histories.Record.{Record}
use Rattle.retain.specs.Retained.{falls_out, fallen_by, fallen_from, unnamed_by, with_fallen}
use Rattle.retain.proofs.Merging.{falls, falls_not}
use Rattle.conformance.specs.Shown.{Accepted, SameItems, numbered}
use Rattle.conformance.specs.Running.{pushed, pushed_by, with_pushed}
use Rattle.conformance.proofs.OfSessions.Items.{same_contains, kept_if, where_so}

-- ---- one record

-- a record behind the first ones pushes out what it pushes out of all
pub pushed_later : (since keep : ℕ) (c : Accepted) → since < c.at
    → pushed since keep c ≡ fallen_by c.at c.entry (falls_out c.at keep)
pushed_later since keep c later =
    let off : nat_le c.at since ≡ false = lt-leb c.at since later in rw off refl

pushed_early : (since keep : ℕ) (c : Accepted) → c.at ≤ since → pushed since keep c ≡ []
pushed_early since keep c early =
    let on : nat_le c.at since ≡ true = le-leb c.at since early in rw on refl

pushed_all : (P : Mark → Type 0) (since keep : ℕ) (c : Accepted)
    → All P (fallen_by c.at c.entry (falls_out c.at keep)) → All P (pushed since keep c)
pushed_all P since keep c all = go (nat_le c.at since)
  where
    go : (b : Bool)
        → All P (if b then [] else fallen_by c.at c.entry (falls_out c.at keep))
    go true = All-nil P
    go false = all

fallen_lies : (n keep : ℕ) (r : Record)
    → All (λ m. m.version + keep ≡ n) (fallen_by n r (falls_out n keep))
fallen_lies n zero r = All-nil (λ m. m.version + 0 ≡ n)
fallen_lies n (suc k) r = elim (cases_lt n (suc k)) [
  | inl early ↦
      let none = falls_not n (suc k) early in rw none (All-nil (λ m. m.version + suc k ≡ n))
  | inr late ↦
      let one = falls n (suc k) (omega arith) late in
      let m : Mark =
      record { version = n - suc k; at = n; session = r.session; line = r.line } in
      rw one (All-cons (λ m. m.version + suc k ≡ n) m [] (omega (arith, late))
      (All-nil (λ m. m.version + suc k ≡ n)))
]

-- ---- records in a row

pushed_by_all : (P : Mark → Type 0) (since keep : ℕ) (xs : List Accepted)
    → All (λ c. All P (pushed since keep c)) xs → All P (pushed_by since keep xs)
pushed_by_all P since keep [] all = All-nil P
pushed_by_all P since keep (c ∷ more) all =
    All-append P (pushed since keep c) (pushed_by since keep more)
    (All-head (λ d. All P (pushed since keep d)) c more all)
    (pushed_by_all P since keep more (All-tail (λ d. All P (pushed since keep d)) c more all))

pushed_low : (count since keep : ℕ) (xs : List Accepted) → All (λ c. c.at ≤ count) xs
    → All (λ m. m.version + keep ≤ count) (pushed_by since keep xs)
pushed_low count since keep xs low =
    pushed_by_all (λ m. m.version + keep ≤ count) since keep xs
    (All-weaker (λ (c : Accepted). c.at ≤ count)
    (λ (c : Accepted). All (λ m. m.version + keep ≤ count) (pushed since keep c))
    (λ c le. pushed_all (λ m. m.version + keep ≤ count) since keep c
    (All-weaker (λ (m : Mark). m.version + keep ≡ c.at)
    (λ (m : Mark). m.version + keep ≤ count) (λ m is. omega (arith, is, le))
    (fallen_by c.at c.entry (falls_out c.at keep)) (fallen_lies c.at keep c.entry))) xs low)

pushed_high : (count since keep : ℕ) (xs : List Accepted) → All (λ c. count < c.at) xs
    → All (λ m. count < m.version + keep) (pushed_by since keep xs)
pushed_high count since keep xs high =
    pushed_by_all (λ m. count < m.version + keep) since keep xs
    (All-weaker (λ (c : Accepted). count < c.at)
    (λ (c : Accepted). All (λ m. count < m.version + keep) (pushed since keep c))
    (λ c lt. pushed_all (λ m. count < m.version + keep) since keep c
    (All-weaker (λ (m : Mark). m.version + keep ≡ c.at)
    (λ (m : Mark). count < m.version + keep) (λ m is. omega (arith, is, lt))
    (fallen_by c.at c.entry (falls_out c.at keep)) (fallen_lies c.at keep c.entry))) xs high)

-- behind the first ones it is all the same how many these are
pushed_as : (since keep : ℕ) (xs : List Accepted) → All (λ c. since < c.at) xs
    → pushed_by 0 keep xs ≡ pushed_by since keep xs
pushed_as since keep [] later = refl
pushed_as since keep (c ∷ more) later =
    let here = All-head (λ (d : Accepted). since < d.at) c more later in
    let one : pushed 0 keep c ≡ pushed since keep c =
    pushed_later 0 keep c (omega (arith, here)) ∙ sym (pushed_later since keep c here) in
    ap (λ (ms : List Mark). ms ++ pushed_by 0 keep more) one
    ∙ ap (λ (ms : List Mark). pushed since keep c ++ ms)
    (pushed_as since keep more (All-tail (λ (d : Accepted). since < d.at) c more later))

-- and the first ones push none out
pushed_none : (since keep : ℕ) (xs : List Accepted) → All (λ c. c.at ≤ since) xs
    → pushed_by since keep xs ≡ []
pushed_none since keep [] early = refl
pushed_none since keep (c ∷ more) early =
    ap (λ (ms : List Mark). ms ++ pushed_by since keep more)
    (pushed_early since keep c (All-head (λ (d : Accepted). d.at ≤ since) c more early))
    ∙ pushed_none since keep more (All-tail (λ (d : Accepted). d.at ≤ since) c more early)

with_none : (since keep : ℕ) (xs : List Accepted) (forgot : List Mark)
    → pushed_by since keep xs ≡ [] → with_pushed since keep xs forgot ≡ forgot
with_none since keep xs forgot none =
    ap (λ (ms : List Mark). forgot ++ unnamed_by forgot ms) none ∙ append-nil forgot

-- with 0 all are held
held : (since : ℕ) (c : Accepted) → pushed since 0 c ≡ []
held since c = go (nat_le c.at since)
  where
    go : (b : Bool) → (if b then [] else fallen_by c.at c.entry (falls_out c.at 0)) ≡ []
    go true = refl
    go false = refl

all_held : (since : ℕ) (xs : List Accepted) → pushed_by since 0 xs ≡ []
all_held since [] = refl
all_held since (c ∷ more) =
    ap (λ (ms : List Mark). ms ++ pushed_by since 0 more) (held since c) ∙ all_held since more

pub none_pushed : (since : ℕ) (records : List Accepted) (forgot : List Mark)
    → with_pushed since 0 records forgot ≡ forgot
none_pushed since records forgot = with_none since 0 records forgot (all_held since records)

numbered_low : (n count : ℕ) (records : List Record) → n + length records ≤ count + 1
    → All (λ c. c.at ≤ count) (numbered n records)
numbered_low n count [] few = All-nil (λ c. c.at ≤ count)
numbered_low n count (r ∷ more) few =
    All-cons (λ c. c.at ≤ count) (record { at = n; entry = r }) (numbered (n + 1) more)
    (omega (arith, few)) (numbered_low (n + 1) count more (omega (arith, few)))

pub all_low : (records : List Record) → All (λ c. c.at ≤ length records) (numbered 1 records)
all_low records = numbered_low 1 (length records) records (omega arith)

pub pushes_from_here : (keep : ℕ) (records : List Record) (forgot : List Mark)
    → with_pushed (length records) keep (numbered 1 records) forgot ≡ forgot
pushes_from_here keep records forgot =
    with_none (length records) keep (numbered 1 records) forgot
    (pushed_none (length records) keep (numbered 1 records) (all_low records))

-- all records push out what falls out
fallen_all : (keep n : ℕ) (records : List Record) → 1 ≤ n
    → pushed_by 0 keep (numbered n records) ≡ fallen_from keep n records
fallen_all keep n [] first = refl
fallen_all keep n (r ∷ more) first =
    ap (λ (ms : List Mark). ms ++ pushed_by 0 keep (numbered (n + 1) more))
    (pushed_later 0 keep (record { at = n; entry = r }) (omega (arith, first)))
    ∙ ap (λ (ms : List Mark). fallen_by n r (falls_out n keep) ++ ms)
    (fallen_all keep (n + 1) more (omega arith))

pub with_all : (keep : ℕ) (records : List Record) (forgot : List Mark)
    → with_pushed 0 keep (numbered 1 records) forgot ≡ with_fallen keep records forgot
with_all zero records forgot = none_pushed 0 (numbered 1 records) forgot
with_all (suc k) records forgot =
    ap (λ (ms : List Mark). forgot ++ unnamed_by forgot ms)
    (fallen_all (suc k) 1 records (omega arith))

-- what one record pushes out
pub one_pushed : (keep : ℕ) (c : Accepted) (o : Option ℕ) → 0 < c.at → falls_out c.at keep ≡ o
    → pushed_by 0 keep (c ∷ []) ≡ fallen_by c.at c.entry o
one_pushed keep c o first falls =
    append-nil (pushed 0 keep c) ∙ pushed_later 0 keep c first
    ∙ ap (λ (v : Option ℕ). fallen_by c.at c.entry v) falls

-- ---- weights

sum_pushed : (f : Mark → ℕ) (test : Mark → Bool) (since keep : ℕ) (xs : List Accepted)
    → sum_by f (filter test (pushed_by since keep xs))
    ≡ sum_by (λ c. sum_by f (filter test (pushed since keep c))) xs
sum_pushed f test since keep [] = refl
sum_pushed f test since keep (c ∷ more) =
    let a : sum_by f (filter test (pushed since keep c ++ pushed_by since keep more))
    ≡ sum_by f (filter test (pushed since keep c) ++ filter test (pushed_by since keep more)) =
    ap (sum_by f) (filter-append test (pushed since keep c) (pushed_by since keep more)) in
    let b =
    sum_by-append f (filter test (pushed since keep c))
    (filter test (pushed_by since keep more)) in
    let d = sum_by-cons (λ e. sum_by f (filter test (pushed since keep e))) c more in
    let rest = sum_pushed f test since keep more in
    omega arith

-- lists with the same items have one that passes, or none
any_weighs : (p : Mark → Bool) (xs : List Mark)
    → list_any p xs ≡ nat_le 1 (sum_by (λ m. where_so (p m) 1) xs)
any_weighs p [] = refl
any_weighs p (x ∷ xs) = go (p x) refl (any_weighs p xs)
  where
    go : (b : Bool) → p x ≡ b
        → list_any p xs ≡ nat_le 1 (sum_by (λ m. where_so (p m) 1) xs)
        → (p x || list_any p xs) ≡ nat_le 1 (sum_by (λ m. where_so (p m) 1) (x ∷ xs))
    go true e rest =
        let both = sum_by-cons (λ m. where_so (p m) 1) x xs in
        let one : where_so (p x) 1 ≡ 1 = ap (λ (b : Bool). where_so b 1) e in
        let some : nat_le 1 (sum_by (λ m. where_so (p m) 1) (x ∷ xs)) ≡ true =
        le-leb 1 (sum_by (λ m. where_so (p m) 1) (x ∷ xs)) (omega arith) in
        ap (λ (b : Bool). b || list_any p xs) e ∙ sym some
    go false e rest =
        let both = sum_by-cons (λ m. where_so (p m) 1) x xs in
        let none : where_so (p x) 1 ≡ 0 = ap (λ (b : Bool). where_so b 1) e in
        let same : sum_by (λ m. where_so (p m) 1) xs
        ≡ sum_by (λ m. where_so (p m) 1) (x ∷ xs) = omega arith in
        ap (λ (b : Bool). b || list_any p xs) e ∙ rest
        ∙ ap (λ (n : ℕ). nat_le 1 n) same

any_same : (p : Mark → Bool) (xs ys : List Mark) → SameItems xs ys → list_any p xs ≡ list_any p ys
any_same p xs ys same =
    any_weighs p xs ∙ ap (λ (n : ℕ). nat_le 1 n) (same.weighs (λ m. where_so (p m) 1))
    ∙ sym (any_weighs p ys)

-- ---- marks by hand that name the same

abbrev pub named : List Mark → ℕ → Bool
named marks v = list_any (λ o. o.version == v) marks

pub unnamed_as : (xs ys ps : List Mark) → All (λ m. named xs m.version ≡ named ys m.version) ps
    → unnamed_by xs ps ≡ unnamed_by ys ps
unnamed_as xs ys [] alike = refl
unnamed_as xs ys (m ∷ ps) alike =
    ap (λ (b : Bool). cond (not b) (m ∷ unnamed_by xs ps) (unnamed_by xs ps))
    (All-head (λ (k : Mark). named xs k.version ≡ named ys k.version) m ps alike)
    ∙ ap (λ (rest : List Mark). cond (not (named ys m.version)) (m ∷ rest) rest)
    (unnamed_as xs ys ps
    (All-tail (λ (k : Mark). named xs k.version ≡ named ys k.version) m ps alike))

pub unnamed_of : (marks : List Mark) (v : ℕ) → All (λ o. o.version ≢ v) marks
    → named marks v ≡ false
unnamed_of marks v others =
    list_any_none (λ o. o.version == v) marks
    (All-weaker (λ (o : Mark). o.version ≢ v) (λ (o : Mark). (o.version == v) ≡ false)
    (λ o other. ne_eqb o.version v other) marks others)

or_none : (a b : Bool) → b ≡ false → (a || b) ≡ a
or_none true b off = refl
or_none false b off = off

pub none_named : (marks : List Mark) (xs : List Accepted)
    → unnamed_by marks (pushed_by 0 0 xs) ≡ []
none_named marks xs = ap (λ (ms : List Mark). unnamed_by marks ms) (all_held 0 xs)

-- of one mark
pub unnamed_alone : (marks : List Mark) (m : Mark) → named marks m.version ≡ false
    → unnamed_by marks (m ∷ []) ≡ m ∷ []
unnamed_alone marks m off = rw off refl

pub named_alone : (marks : List Mark) (m : Mark) → named marks m.version ≡ true
    → unnamed_by marks (m ∷ []) ≡ []
named_alone marks m on = rw on refl

-- what is forgotten by hand had no mark, so none of the versions that were pushed out is named anew
module _ (old_marks hand by_hand ps : List Mark)
    (so_far : SameItems old_marks (hand ++ unnamed_by hand ps))
    (unmarked : All (λ m. All (λ o. o.version ≢ m.version) old_marks) by_hand) where
  not_by_hand : (m : Mark) → Contains ps m → named hand m.version ≡ false
      → named by_hand m.version ≡ false
  not_by_hand m there off =
      let test : Mark → Bool = λ k. not (named hand k.version) in
      let passes : test m ≡ true = ap (λ (b : Bool). not b) off in
      let listed : Contains old_marks m =
      same_contains (hand ++ unnamed_by hand ps) old_marks m
      (record { weighs = λ f. sym (so_far.weighs f) })
      (Contains-append_right hand (unnamed_by hand ps) m (kept_if test ps m there passes)) in
      unnamed_of by_hand m.version
      (All-weaker (λ (k : Mark). All (λ o. o.version ≢ k.version) old_marks)
      (λ (k : Mark). k.version ≢ m.version)
      (λ k apart same. All-contains (λ (o : Mark). o.version ≢ k.version) old_marks m apart listed
      (sym same)) by_hand unmarked)

  hand_names_as : unnamed_by (hand ++ by_hand) ps ≡ unnamed_by hand ps
  hand_names_as =
      unnamed_as (hand ++ by_hand) hand ps
      (All-weaker (Contains ps)
      (λ (m : Mark). named (hand ++ by_hand) m.version ≡ named hand m.version)
      (λ m there. go m there (named hand m.version) refl) ps (All-contains_itself ps))
    where
      go : (m : Mark) → Contains ps m → (b : Bool) → named hand m.version ≡ b
          → named (hand ++ by_hand) m.version ≡ named hand m.version
      go m there true e =
          list_any-append (λ (o : Mark). o.version == m.version) hand by_hand
          ∙ ap (λ (b : Bool). b || named by_hand m.version) e ∙ sym e
      go m there false e =
          list_any-append (λ (o : Mark). o.version == m.version) hand by_hand
          ∙ or_none (named hand m.version) (named by_hand m.version) (not_by_hand m there e)

-- what is pushed out later is named by hand where it has a mark
later_names : (count keep : ℕ) (old_marks hand ps qs : List Mark)
    → SameItems old_marks (hand ++ unnamed_by hand ps)
    → All (λ m. m.version + keep ≤ count) ps → All (λ m. count < m.version + keep) qs
    → unnamed_by hand qs ≡ unnamed_by old_marks qs
later_names count keep old_marks hand ps qs so_far low high =
    unnamed_as hand old_marks qs
    (All-weaker (λ (m : Mark). count < m.version + keep)
    (λ (m : Mark). named hand m.version ≡ named old_marks m.version)
    (λ m late. (
    let test : Mark → Bool = λ k. not (named hand k.version) in
    let others : All (λ o. o.version ≢ m.version) (unnamed_by hand ps) =
    All-weaker (λ (o : Mark). o.version + keep ≤ count) (λ (o : Mark). o.version ≢ m.version)
    (λ o early same. omega (arith, early, late, same)) (unnamed_by hand ps)
    (All-filter test (λ (o : Mark). o.version + keep ≤ count) ps low) in
    sym (any_same (λ o. o.version == m.version) old_marks (hand ++ unnamed_by hand ps) so_far
    ∙ list_any-append (λ (o : Mark). o.version == m.version) hand (unnamed_by hand ps)
    ∙ or_none (named hand m.version) (named (unnamed_by hand ps) m.version)
    (unnamed_of (unnamed_by hand ps) m.version others)))) qs high)

-- ---- one more line

module _ (since keep count : ℕ) (old_marks new_marks hand by_hand : List Mark)
    (olds news acc : List Accepted)
    (so_far : SameItems old_marks (with_pushed since keep olds hand))
    (step : SameItems new_marks
    (old_marks ++ by_hand ++ unnamed_by old_marks (pushed_by 0 keep acc)))
    (records : SameItems news (olds ++ acc))
    (unmarked : All (λ m. All (λ o. o.version ≢ m.version) old_marks) by_hand)
    (low : All (λ c. c.at ≤ count) olds) (high : All (λ c. count < c.at) acc)
    (within : since ≤ count) (apart : (by_hand ≡ []) ⊎ (acc ≡ [])) where
  later_as : unnamed_by (hand ++ by_hand) (pushed_by since keep acc)
      ≡ unnamed_by old_marks (pushed_by 0 keep acc)
  later_as = elim apart [
    | inl none ↦
        ap (λ (ms : List Mark). unnamed_by (hand ++ ms) (pushed_by since keep acc)) none
        ∙ ap (λ (ms : List Mark). unnamed_by ms (pushed_by since keep acc)) (append-nil hand)
        ∙ later_names count keep old_marks hand (pushed_by since keep olds)
        (pushed_by since keep acc) so_far (pushed_low count since keep olds low)
        (pushed_high count since keep acc high)
        ∙ ap (λ (ms : List Mark). unnamed_by old_marks ms)
        (sym (pushed_as since keep acc
        (All-weaker (λ (c : Accepted). count < c.at) (λ (c : Accepted). since < c.at)
        (λ c lt. omega (arith, lt, within)) acc high)))
    | inr none ↦
        ap (λ (cs : List Accepted). unnamed_by (hand ++ by_hand) (pushed_by since keep cs)) none
        ∙ ap (λ (cs : List Accepted). unnamed_by old_marks (pushed_by 0 keep cs)) (sym none)
  ]

  pub marks_step : SameItems new_marks (with_pushed since keep news (hand ++ by_hand))
  marks_step = record {
    weighs = λ f. (
        let test : Mark → Bool = λ m. not (named (hand ++ by_hand) m.version) in
        let w : Accepted → ℕ = λ c. sum_by f (filter test (pushed since keep c)) in
        let rest : List Mark = unnamed_by old_marks (pushed_by 0 keep acc) in
        let a = step.weighs f in
        let b = so_far.weighs f in
        let c = sum_by-append f (old_marks ++ by_hand) rest in
        let d = sum_by-append f old_marks by_hand in
        let e = sum_by-append f hand (unnamed_by hand (pushed_by since keep olds)) in
        let g =
        sum_by-append f (hand ++ by_hand)
        (unnamed_by (hand ++ by_hand) (pushed_by since keep news)) in
        let h = sum_by-append f hand by_hand in
        let i = sum_pushed f test since keep news in
        let j = records.weighs w in
        let k = sum_by-append w olds acc in
        let l = sum_pushed f test since keep olds in
        let n = sum_pushed f test since keep acc in
        let before : sum_by f (unnamed_by (hand ++ by_hand) (pushed_by since keep olds))
        ≡ sum_by f (unnamed_by hand (pushed_by since keep olds)) =
        ap (sum_by f)
        (hand_names_as old_marks hand by_hand (pushed_by since keep olds) so_far unmarked) in
        let later : sum_by f (unnamed_by (hand ++ by_hand) (pushed_by since keep acc))
        ≡ sum_by f rest = ap (sum_by f) later_as in
        omega arith);
  }
