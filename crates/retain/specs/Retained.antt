-- Histories that hold their last `keep` versions alone: which version each record pushes out, and
-- the marks that are made so. With 0 all versions are held.
use Rattle.std.specs.Prelude.{ℕ, zero, suc, ◌+◌, ◌-◌, ◌<◌, ◌≤◌, ◌==◌, nat_le, ◌&&◌, Bool, not, if◌then◌else◌, IsTrue, List, [], ◌∷◌, ◌++◌, length, filter, Option, Some, None}
use Rattle.std.specs.List.{AllPairs, list_any}
use Rattle.std.specs.List.Sorted.{IsPermutation}
use Rattle.history_model.specs.declared.histories.Record.{Record}
use Rattle.history_model.specs.declared.histories.Mark.{Mark}
use Rattle.history_model.specs.Logs.{Log}

-- the version that falls out of the last `keep` as record n comes
abbrev pub falls_out : ℕ → ℕ → Option ℕ
falls_out n keep = if nat_le 1 keep && nat_le keep n then Some (n - keep) else None

-- a mark of this version was made at n records or fewer
abbrev pub is_marked_by : ℕ → ℕ → List Mark → Bool
is_marked_by n version marks = list_any (λ m. (m.version == version) && nat_le m.at n) marks

-- each version that fell out had a mark once the record had come that pushed it out
pub record KeepsLast (keep : ℕ) (log : Log) : Type 0 where
  pub marked : (n : ℕ) → 1 ≤ keep → keep ≤ n → n ≤ length log.records
      → IsTrue (is_marked_by n (n - keep) log.marks)

-- the mark of a version that fell out as record n came, by that record's session and line
abbrev pub fallen_by : ℕ → Record → Option ℕ → List Mark
fallen_by n r None = []
fallen_by n r (Some v) = record { version = v; at = n; session = r.session; line = r.line } ∷ []

-- those that these records make, of which the first is number n
abbrev pub fallen_from : ℕ → ℕ → List Record → List Mark
fallen_from keep n [] = []
fallen_from keep n (r ∷ more) = fallen_by n r (falls_out n keep) ++ fallen_from keep (n + 1) more

-- those of these marks whose version none of the others names
abbrev pub unnamed_by : List Mark → List Mark → List Mark
unnamed_by others marks = filter (λ m. not (list_any (λ o. o.version == m.version) others)) marks

-- marks made by hand, and those of the versions that fell out and that none of them names
abbrev pub with_fallen : ℕ → List Record → List Mark → List Mark
with_fallen zero records forgot = forgot
with_fallen (suc k) records forgot =
    forgot ++ unnamed_by forgot (fallen_from (suc k) 1 records)

-- each mark's version is above that of the one before
abbrev pub AreRising : List Mark → Type 0
AreRising marks = AllPairs (λ a b. a.version < b.version) marks

-- all marks of a history with these records, by rising version
pub record AreAllMarks (keep : ℕ) (records : List Record) (forgot marks : List Mark) : Type 0 where
  pub rising : AreRising marks
  pub items : IsPermutation (with_fallen keep records forgot) marks
