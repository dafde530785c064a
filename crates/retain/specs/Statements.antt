-- What the laws of this crate say.
use Rattle.std.specs.Prelude.{◌≡◌, ℕ, ◌+◌, ◌<◌, ◌≤◌, List, [], ◌∷◌, ◌++◌, length, All}
use Rattle.std.specs.List.Sorted.{IsPermutation}
use Rattle.history_model.specs.declared.histories.Record.{Record}
use Rattle.history_model.specs.declared.histories.Mark.{Mark}
use Rattle.history_model.specs.Logs.{Log}
use Rattle.retain.specs.Retained.{falls_out, fallen_by, unnamed_by, with_fallen, AreRising, AreAllMarks, KeepsLast}

-- where all versions are held, the marks are those made by hand
abbrev pub AllHeldLeavesMarks : Type 0
AllHeldLeavesMarks = (records : List Record) (forgot marks : List Mark) → AreRising forgot
    → AreAllMarks 0 records forgot marks → marks ≡ forgot

-- there is one such list at most
abbrev pub AllMarksAreOne : Type 0
AllMarksAreOne = (keep : ℕ) (records : List Record) (forgot a b : List Mark)
    → AreAllMarks keep records forgot a → AreAllMarks keep records forgot b → a ≡ b

-- each mark was made behind its version and within the history, where those made by hand were
abbrev pub AllMarksLieWithin : Type 0
AllMarksLieWithin = (keep : ℕ) (records : List Record) (forgot marks : List Mark)
    → All (λ m. (m.version < m.at) × (m.at ≤ length records)) forgot
    → AreAllMarks keep records forgot marks
    → All (λ m. (m.version < m.at) × (m.at ≤ length records)) marks

-- the history keeps the last versions alone, where each mark by hand was made before its version
-- fell out
abbrev pub AllMarksKeepLast : Type 0
AllMarksKeepLast = (keep : ℕ) (log : Log) (forgot : List Mark)
    → All (λ m. m.at ≤ m.version + keep) forgot
    → AreAllMarks keep log.records forgot log.marks → KeepsLast keep log

-- one more record brings the mark of the version that it pushes out, unless one by hand names that
abbrev pub OneMoreRecord : Type 0
OneMoreRecord = (keep : ℕ) (records : List Record) (r : Record) (forgot : List Mark)
    → with_fallen keep (records ++ r ∷ []) forgot ≡ with_fallen keep records forgot
    ++ unnamed_by forgot
    (fallen_by (length records + 1) r (falls_out (length records + 1) keep))

-- one more mark by hand is one more mark, where its version hasn't fallen out
abbrev pub OneMoreByHand : Type 0
OneMoreByHand = (keep : ℕ) (records : List Record) (forgot : List Mark) (mark : Mark)
    → (1 ≤ keep → length records < mark.version + keep)
    → IsPermutation (with_fallen keep records forgot ++ mark ∷ [])
    (with_fallen keep records (forgot ++ mark ∷ []))
