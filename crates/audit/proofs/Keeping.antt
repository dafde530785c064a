-- That the last versions alone are held, told by the mark of each version.
use Rattle.std.proofs.Common.{◌≡◌, ℕ, ◌+◌, ◌-◌, ◌<◌, ◌≤◌, Bool, true, ◌&&◌, List, length, Option, Some, None, IsTrue, ◌↔◌, refl, sym, subst, inl, inr, arith}
use Rattle.std.specs.Prelude.{nat_le, ◌==◌, slice_index_or}
use Rattle.std.proofs.lemmas.Bool.{and_parts, cases_eq, eq-eqb, eqb-true, le-leb, leb-true}
use Rattle.history_model.specs.declared.histories.Mark.{Mark}
use Rattle.history_model.specs.Logs.{Log}
use Rattle.retain.specs.Retained.{KeepsLast, is_marked_by}
use Rattle.retain.proofs.Lasting.{keeps_all}
use Rattle.audit.specs.Marks.{IsOnlyMarkOrNone, TellsMarks, MarkedBy}
use Rattle.audit.proofs.Counting.{listed, contained, any_of, one_of}

abbrev names : ℕ → ℕ → Mark → Bool
names n version m = (m.version == version) && nat_le m.at n

marked_is : (all : List Mark) (version n : ℕ) (mark : Option Mark)
    → IsOnlyMarkOrNone all version mark
    → MarkedBy mark n ↔ IsTrue (is_marked_by n version all)
marked_is all version n None is = (
  λ no. absurd no,
  λ any. (
      let found = one_of (names n version) all any in
      let both = and_parts (found.0.version == version) (nat_le found.0.at n) found.2 in
      absurd (is found.0 (listed all found.0 found.1) (eqb-true found.0.version version both.0))),
)
marked_is all version n (Some m) is = (
  λ le. any_of (names n version) all m (contained all m is.listed)
      (both_pass (m.version == version) (nat_le m.at n) (eq-eqb m.version version is.same)
      (le-leb m.at n le)),
  λ any. (
      let found = one_of (names n version) all any in
      let both = and_parts (found.0.version == version) (nat_le found.0.at n) found.2 in
      let one : found.0 ≡ m =
      is.only found.0 (listed all found.0 found.1) (eqb-true found.0.version version both.0) in
      subst (λ (x : Mark). x.at ≤ n) one (leb-true found.0.at n both.1)),
)
  where
    both_pass : (a b : Bool) → a ≡ true → b ≡ true → a && b ≡ true
    both_pass a b first second = rw (first, second) refl

-- so many versions have their marks
abbrev pub KeepSoFar : ℕ → List (Option Mark) → ℕ → Type 0
KeepSoFar keep table count = (v : ℕ) → v < count → MarkedBy (slice_index_or table v None) (v + keep)

pub keep_one : (keep : ℕ) (table : List (Option Mark)) (count : ℕ) → KeepSoFar keep table count
    → MarkedBy (slice_index_or table count None) (count + keep) → KeepSoFar keep table (count + 1)
keep_one keep table count so_far one v lt = elim (cases_eq v count) [
  | inl last ↦ subst (λ (w : ℕ). MarkedBy (slice_index_or table w None) (w + keep)) (sym last) one
  | inr other ↦ so_far v (omega (arith, lt, other))
]

pub all_kept : (keep : ℕ) (log : Log) (table : List (Option Mark)) (count : ℕ)
    → TellsMarks log.marks table
    → length log.records + 1 - keep ≤ count → KeepSoFar keep table count → KeepsLast keep log
all_kept keep log table count tells all so_far = record {
  marked = λ n some late within. (
      let there = so_far (n - keep) (omega (arith, some, late, within, all)) in
      let number : n - keep + keep ≡ n = omega (arith, late) in
      let by_then =
      subst (λ (k : ℕ). MarkedBy (slice_index_or table (n - keep) None) k) number there in
      (marked_is log.marks (n - keep) n (slice_index_or table (n - keep) None)
      (tells.each (n - keep))).0 by_then);
}

pub one_lost : (keep : ℕ) (log : Log) (table : List (Option Mark)) (v : ℕ)
    → TellsMarks log.marks table
    → 1 ≤ keep → v < length log.records + 1 - keep
    → (MarkedBy (slice_index_or table v None) (v + keep) → ⊥)
    → KeepsLast keep log → ⊥
one_lost keep log table v tells some lt lost last =
    let any = last.marked (v + keep) some (omega arith) (omega (arith, lt)) in
    let number : v + keep - keep ≡ v = omega arith in
    let named = subst (λ (w : ℕ). IsTrue (is_marked_by (v + keep) w log.marks)) number any in
    lost ((marked_is log.marks v (v + keep) (slice_index_or table v None) (tells.each v)).1 named)

pub none_falls : (keep : ℕ) (log : Log) → keep ≡ 0 → KeepsLast keep log
none_falls keep log none = subst (λ (k : ℕ). KeepsLast k log) (sym none) (keeps_all log)
