-- Part C of the rule for the log: what the seats know of it.
use Rattle.std.specs.Prelude.{◌≡◌, ℕ, suc, eqb, ◌<◌, ◌≤◌, if◌then◌else◌, List, [], ◌∷◌, ◌++◌, length, sum_by, All}
use Rattle.std.specs.List.{Contains}
use Rattle.retain.specs.Record.{Record}
use Rattle.retain.specs.Mark.{Mark}
use Rattle.retain.specs.Logs.{Log, IsVersionHeld}
use Rattle.retain.specs.Listing.{Accepted, Found}
use Rattle.table_rule.specs.Views.{SeatView, Each}

-- one log is a prefix of another: its records begin the other's, and each mark of it is one of the
-- other's
pub record IsPrefix (a b : Log) : Type 0 where
  pub more : List Record
  pub records : b.records ≡ a.records ++ more
  pub marks : (m : Mark) → Contains a.marks m → Contains b.marks m

-- n where the session's number is one of these, and else 0
unfoldable pub if_among : List ℕ → ℕ → ℕ → ℕ
if_among [] session n = 0
if_among (number ∷ numbers) session n =
    if eqb number session then n else if_among numbers session n

-- records with their numbers, of which the first is this
unfoldable pub numbered_from : ℕ → List Record → List Accepted
numbered_from n [] = []
numbered_from n (r ∷ more) = record { at = n; entry = r } ∷ numbered_from (suc n) more

-- the records and marks of these sessions in the log are just these, by what they weigh
pub record ListsOwn (log : Log) (numbers : List ℕ) (records : List Accepted)
    (marks : List Mark) : Type 0 where
  pub records_are : (f : Accepted → ℕ) → sum_by f records
      ≡ sum_by (λ r. if_among numbers r.entry.session (f r)) (numbered_from 1 log.records)
  pub marks_are : (f : Mark → ℕ) → sum_by f marks
      ≡ sum_by (λ m. if_among numbers m.session (f m)) log.marks

-- the seat's own records and marks are those that its numbers have in the log
abbrev pub OwnsIn : Log → SeatView → Type 0
OwnsIn log v = ListsOwn log v.numbers v.log.records v.log.marks

-- the pair is of a length that the log has reached, and each mark of the version was made then or
-- later
pub record WasFound (log : Log) (f : Found) : Type 0 where
  pub at : f.at ≤ length log.records
  pub held : IsVersionHeld log.marks f.at f.version

-- all records and marks are those of sessions that were made
pub record AreOfSessions (made : ℕ) (log : Log) : Type 0 where
  pub records : All (λ r. r.session < made) log.records
  pub marks : All (λ m. m.session < made) log.marks

-- each log that a seat has seen, and each that it took over, is a prefix of the log; the records
-- and marks of its numbers are just those that it lists, also in the log that it has seen where it
-- took none over; and what it found without a mark was so
pub record KnowsLog (made : ℕ) (log : Log) (views : List SeatView) : Type 0 where
  pub sessions : AreOfSessions made log
  pub seen : Each views (λ seat v. IsPrefix v.log.seen log)
  pub taken : Each views (λ seat v. (l : Log) → Contains v.log.taken l → IsPrefix l log)
  pub own : Each views (λ seat v. OwnsIn log v)
  pub own_seen : Each views (λ seat v. v.log.taken ≡ [] → OwnsIn v.log.seen v)
  pub found : Each views (λ seat v. (f : Found) → Contains v.log.found f → WasFound log f)
