-- The marks of a history that a journal tells are legal, and it suits a store.
use Rattle.std.proofs.Common.{◌≡◌, Bool, true, false, refl, ℕ, ◌+◌, ◌<◌, ◌≤◌, List, [], ◌∷◌, length, arith}
use Rattle.std.specs.Prelude.{All}
use Rattle.std.specs.List.{AllPairs, AllByRecursion}
use Rattle.std.proofs.lemmas.List.Elements.{All-nil, All-cons, All-weaker, All-from_recursion}
use Rattle.std.proofs.lemmas.List.Kept.{AllPairs-cons}
use Rattle.history_model.specs.declared.histories.Mark.{Mark}
use Rattle.history_model.specs.declared.histories.Record.{Record}
use Rattle.history_model.specs.Entries.{AreMarks, HasJournal, IsRecord}
use Rattle.history_model.specs.Logs.{Log, SuitsTints, suits_tints}
use Rattle.store_run.specs.Kept.{IsLargeStore}
use Rattle.store_run.specs.Marked.{AreLegalMarks}

abbrev Over : ℕ → Mark → Type 0
Over least m = least ≤ m.version

abbrev Fits : ℕ → Mark → Type 0
Fits count m = (m.version < m.at) × (m.at ≤ count)

over : (count least : ℕ) (ms : List Mark) → AreMarks count least ms → All (Over least) ms
over count least [] are = All-nil (Over least)
over count least (m ∷ ms) are =
    All-cons (Over least) m ms are.0
    (All-weaker (Over (m.version + 1)) (Over least)
    (λ x up. let low = are.0 in omega (arith, up, low)) ms (over count (m.version + 1) ms are.2))

rise : (count least : ℕ) (ms : List Mark) → AreMarks count least ms
    → AllPairs (λ (a b : Mark). a.version < b.version) ms
rise count least [] are = λ i j d lt within. absurd (omega (arith, within))
rise count least (m ∷ ms) are =
    AllPairs-cons (λ (a b : Mark). a.version < b.version) m ms
    (All-weaker (Over (m.version + 1)) (λ (x : Mark). m.version < x.version)
    (λ x up. omega (arith, up)) ms (over count (m.version + 1) ms are.2))
    (rise count (m.version + 1) ms are.2)

fit : (count least : ℕ) (ms : List Mark) → AreMarks count least ms → All (Fits count) ms
fit count least [] are = All-nil (Fits count)
fit count least (m ∷ ms) are =
    All-cons (Fits count) m ms (are.1.0, are.1.1) (fit count (m.version + 1) ms are.2)

pub told_marks : (log : Log) → HasJournal log → AreLegalMarks (length log.records) log.marks
told_marks log told = record {
  rising = rise (length log.records) 0 log.marks told.marks;
  marked = fit (length log.records) 0 log.marks told.marks;
}

suit_all : (coloured : Bool) (side : ℕ) (records : List Record)
    → AllByRecursion (IsRecord coloured side) records
    → AllByRecursion (λ r. suits_tints coloured r.act ≡ true) records
suit_all coloured side [] all = tt
suit_all coloured side (r ∷ more) all = (all.0.3, suit_all coloured side more all.1)

-- each act is tinted exactly where the history is coloured
pub told_suits : (log : Log) → HasJournal log → SuitsTints log
told_suits log told =
    All-from_recursion (λ r. suits_tints log.coloured r.act ≡ true) log.records
    (suit_all log.coloured log.side log.records told.records)

-- whose store is large enough then
pub told_large : (log : Log) → HasJournal log → IsLargeStore log.coloured log.side
told_large log told = go log.coloured told.quarter
  where
    go : (tint : Bool) → (tint ≡ true → 4 ≤ log.side) → IsLargeStore tint log.side
    go true quarter = quarter refl
    go false quarter = tt
