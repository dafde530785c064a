-- Where the last versions alone are held: a session's own marks of those that its records pushed
-- out, beside those that it made by hand. With 0 all versions are held.
use Rattle.std.specs.Prelude.{◌≡◌, ◌⊎◌, ℕ, zero, suc, ◌-◌, ◌≤◌, IsTrue, Option, Some, None, List, [], ◌∷◌, ◌++◌, All}
use Rattle.std.specs.List.{Contains}
use Rattle.history_model.specs.declared.histories.Mark.{Mark}
use Rattle.retain.specs.Retained.{falls_out, fallen_by, is_marked_by}
use Rattle.conformance.specs.Answers.{mark_of}
use Rattle.conformance.specs.Shown.{Accepted, SameItems}
use Rattle.conformance.specs.sessions.SessionViews.{SessionView}

-- ---- one record

-- the version has a mark that was seen, made by the record's number at the latest; and of the
-- session's own marks there are those that were, or one more, of the version, by the record
pub record PushedOut (version : ℕ) (c : Accepted) (were : List Mark) (new : SessionView) : Type 0
  where
    pub marked : IsTrue (is_marked_by c.at version new.log.marks)
    pub own : (new.marks ≡ were)
        ⊎ (new.marks ≡ mark_of version c.at c.entry.session c.entry.line ∷ were)

-- what the record makes of own marks, by the version that falls out as it comes, where one does
abbrev pub PushesOut : Option ℕ → Accepted → List Mark → SessionView → Type 0
PushesOut None c were new = new.marks ≡ were
PushesOut (Some version) c were new = PushedOut version c were new

-- what a line with these records makes of own marks; it has one at most
abbrev pub LineMarks : ℕ → List Accepted → List Mark → SessionView → Type 0
LineMarks keep [] were new = new.marks ≡ were
LineMarks keep (c ∷ []) were new = PushesOut (falls_out c.at keep) c were new
LineMarks keep (c ∷ d ∷ more) were new = ⊥

-- ---- all records of a session

-- the mark is that of the version that one of these records pushed out
pub record IsFallen (keep : ℕ) (records : List Accepted) (m : Mark) : Type 0 where
  pub by : Accepted
  pub listed : Contains records by
  pub is : Contains (fallen_by by.at by.entry (falls_out by.at keep)) m

-- the version that the record pushed out, where it did, has one of these marks, made by then
abbrev pub HasMark : ℕ → List Mark → Accepted → Type 0
HasMark keep marks c = keep ≤ c.at → IsTrue (is_marked_by c.at (c.at - keep) marks)

-- the session's own marks are those by hand, and further ones of versions that its records pushed
-- out; and each version that one of them pushed out has a mark that was seen, whoever made it
pub record OwnAndFallen (keep : ℕ) (s : SessionView) (forgot : List Mark) : Type 0 where
  pub fallen : List Mark
  pub items : SameItems s.marks (forgot ++ fallen)
  pub each : All (IsFallen keep s.records) fallen
  pub marked : All (HasMark keep s.log.marks) s.records

-- with 0 they are just those by hand
abbrev pub OwnMarks : ℕ → SessionView → List Mark → Type 0
OwnMarks zero s forgot = SameItems s.marks forgot
OwnMarks (suc k) s forgot = OwnAndFallen (suc k) s forgot
