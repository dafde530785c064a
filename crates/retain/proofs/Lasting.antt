-- Where the marks of a history that holds its last versions alone lie.
use Rattle.std.proofs.Common.{◌≡◌, ℕ, zero, suc, ◌+◌, ◌-◌, ◌<◌, ◌≤◌, inl, inr, Bool, true, false, not, cond, ◌||◌, ◌&&◌, List, [], ◌∷◌, ◌++◌, length, refl, sym, ◌∙◌, subst, arith}
use Rattle.std.specs.Prelude.{All, ◌==◌, nat_le}
use Rattle.std.specs.List.{list_any}
use Rattle.std.proofs.lemmas.Bool.{eqb-true, eq-eqb, le-leb, cases_eq, cases_lt, cases_Bool, or_left, or_right}
use Rattle.std.proofs.lemmas.List.Elements.{All-nil, All-cons, All-append, All-filter, All-tail}
use Rattle.std.proofs.lemmas.List.Folds.{list_any-append}
use Rattle.std.proofs.lemmas.List.Sorted.{All-permutation, list_any-IsPermutation}
use Rattle.history_model.specs.declared.histories.Record.{Record}
use Rattle.history_model.specs.declared.histories.Mark.{Mark}
use Rattle.history_model.specs.Logs.{Log}
use Rattle.retain.specs.Retained.{KeepsLast, fallen_from, unnamed_by, with_fallen, is_marked_by}
use Rattle.retain.specs.Statements.{AllMarksLieWithin, AllMarksKeepLast}
use Rattle.retain.proofs.Merging.{falls, falls_not}

-- ---- behind their versions, within the history

abbrev LiesWithin : ℕ → Mark → Type 0
LiesWithin count m = (m.version < m.at) × (m.at ≤ count)

fallen_lie : (keep n count : ℕ) (records : List Record) → 1 ≤ keep → 1 ≤ n
    → n + length records ≤ count + 1
    → All (LiesWithin count) (fallen_from keep n records)
fallen_lie keep n count [] some first long = All-nil (LiesWithin count)
fallen_lie keep n count (r ∷ more) some first long =
    let rest = fallen_lie keep (n + 1) count more some (omega arith) (omega (arith, long)) in
    elim (cases_lt n keep) [
      | inl early ↦ let none = falls_not n keep early in rw none rest
      | inr late ↦
          let one = falls n keep some late in
          let m : Mark =
          record { version = n - keep; at = n; session = r.session; line = r.line } in
          rw one (All-cons (LiesWithin count) m (fallen_from keep (n + 1) more)
          (omega (arith, some, late, first), omega (arith, long)) rest)
    ]

pub lie_within : AllMarksLieWithin
lie_within zero records forgot marks within all =
    All-permutation (LiesWithin (length records)) forgot marks all.items within
lie_within (suc k) records forgot marks within all =
    let of_fallen =
    fallen_lie (suc k) 1 (length records) records (omega arith) (omega arith) (omega arith) in
    let of_unnamed =
    All-filter (λ m. not (list_any (λ o. o.version == m.version) forgot))
    (LiesWithin (length records)) (fallen_from (suc k) 1 records) of_fallen in
    All-permutation (LiesWithin (length records))
    (with_fallen (suc k) records forgot) marks all.items
    (All-append (LiesWithin (length records)) forgot
    (unnamed_by forgot (fallen_from (suc k) 1 records)) within of_unnamed)

-- ---- the last versions alone

abbrev names : ℕ → ℕ → Mark → Bool
names n v m = (m.version == v) && nat_le m.at n

-- a version that a mark by hand names, made before it fell out
named_by_then : (keep n v : ℕ) (marks : List Mark) → v + keep ≡ n
    → All (λ m. m.at ≤ m.version + keep) marks
    → list_any (λ m. m.version == v) marks ≡ true → is_marked_by n v marks ≡ true
named_by_then keep n v [] at early named = named
named_by_then keep n v (m ∷ more) at early named =
    go (m.version == v) refl
    (named_by_then keep n v more at
    (All-tail (λ x. x.at ≤ x.version + keep) m more early)) named
  where
    go : (b : Bool) → (m.version == v) ≡ b
        → (list_any (λ x. x.version == v) more ≡ true → is_marked_by n v more ≡ true)
        → (b || list_any (λ x. x.version == v) more) ≡ true
        → ((b && nat_le m.at n) || is_marked_by n v more) ≡ true
    go true is rest named =
        let same = eqb-true m.version v is in
        let by_then : nat_le m.at n ≡ true =
        le-leb m.at n (let e = early 0 m (omega arith) in omega (arith, e, same, at)) in
        rw by_then refl
    go false is rest named = rest named

either : (b : Bool) (m : Mark) (rest : List Mark) (n v : ℕ) → is_marked_by n v rest ≡ true
    → is_marked_by n v (cond (not b) (m ∷ rest) rest) ≡ true
either true m rest n v there = there
either false m rest n v there = or_right (names n v m) (is_marked_by n v rest) there

-- a version that fell out and that none by hand names
fallen_by_then : (keep m n : ℕ) (others : List Mark) (records : List Record) → 1 ≤ keep → keep ≤ n
    → m ≤ n → n < m + length records
    → list_any (λ o. o.version == (n - keep)) others ≡ false
    → is_marked_by n (n - keep) (unnamed_by others (fallen_from keep m records)) ≡ true
fallen_by_then keep m n others [] some late low high unnamed = absurd (omega arith)
fallen_by_then keep m n others (r ∷ more) some late low high unnamed = elim (cases_lt m keep) [
  | inl early ↦
      let none = falls_not m keep early in
      let rest =
      fallen_by_then keep (m + 1) n others more some late (omega (arith, early, late))
      (omega (arith, high)) unnamed in
      rw none rest
  | inr fallen ↦
      let one = falls m keep some fallen in
      let here : Mark = record { version = m - keep; at = m; session = r.session; line = r.line } in
      let rest : List Mark = unnamed_by others (fallen_from keep (m + 1) more) in
      let shown : is_marked_by n (n - keep) (cond (not (list_any (λ o. o.version == (m - keep)) others)) (here ∷ rest) rest) ≡ true =
      elim (cases_eq m n) [
        | inl now ↦
            let off : list_any (λ o. o.version == (m - keep)) others ≡ false = subst (λ (k : ℕ). list_any (λ o. o.version == (k - keep)) others ≡ false) (sym now) unnamed in
            let same : ((m - keep) == (n - keep)) ≡ true = eq-eqb (m - keep) (n - keep) (omega (arith, now)) in
            let by_then : nat_le m n ≡ true = le-leb m n low in
            rw (off, same, by_then) refl
        | inr not_yet ↦
            let behind =
            fallen_by_then keep (m + 1) n others more some late (omega (arith, low, not_yet))
            (omega (arith, high)) unnamed in
            either (list_any (λ o. o.version == (m - keep)) others) here rest n (n - keep) behind
      ] in
      rw one shown
]

-- where all versions are held, none falls out
pub keeps_all : (log : Log) → KeepsLast 0 log
keeps_all log = record { marked = λ n some late within. absurd (omega (arith, some)) }

pub keep_last : AllMarksKeepLast
keep_last zero log forgot early all =
    record { marked = λ n some late within. absurd (omega (arith, some)) }
keep_last (suc k) log forgot early all =
    record {
      marked = λ n some late within. (
          let keep : ℕ = suc k in
          let fallen : List Mark = unnamed_by forgot (fallen_from keep 1 log.records) in
          let same =
          list_any-IsPermutation (names n (n - keep)) (forgot ++ fallen) log.marks all.items in
          let parts = list_any-append (names n (n - keep)) forgot fallen in
          let either_way : (is_marked_by n (n - keep) forgot || is_marked_by n (n - keep) fallen) ≡ true =
          elim (cases_Bool (list_any (λ m. m.version == (n - keep)) forgot)) [
            | inl named ↦ or_left (is_marked_by n (n - keep) forgot)
                (is_marked_by n (n - keep) fallen)
                (named_by_then keep n (n - keep) forgot (omega (arith, late)) early named)
            | inr unnamed ↦ or_right (is_marked_by n (n - keep) forgot)
                (is_marked_by n (n - keep) fallen)
                (fallen_by_then keep 1 n forgot log.records some late (omega (arith, some, late))
                (omega (arith, within)) unnamed)
          ] in
          sym same ∙ parts ∙ either_way);
    }
