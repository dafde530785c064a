-- Whether a version can be read.
use Rattle.std.proofs.Common.{◌≡◌, ℕ, ◌<◌, ◌≤◌, Some, None, Option, List, length, get_or, sym, ◌∙◌, arith}
use Rattle.std.proofs.lemmas.List.{get_or_default}
use Rattle.history_model.specs.declared.histories.Mark.{Mark}
use Rattle.one_store.specs.WordIds.{versions}
use Rattle.core_laws.specs.contents.Versions.{HoldsVersion}
use Rattle.store_run.specs.declared.stored_versions.Versions.{Versions}
use Rattle.store_run.specs.Kept.{log_of, moment_of, mark_in, AreStoredVersions}
use Rattle.store_run.specs.Steps.{IsVersionMarked}
use Rattle.store_run.proofs.Marking.{unmarked_at, listed_at}

pub in_places : (v : Versions) (version : ℕ) → AreStoredVersions v → version ≤ moment_of v
    → version < versions
in_places v version are le = let few = are.sound.legal.few in omega arith

pub kept_at : (v : Versions) (version : ℕ) → AreStoredVersions v → version ≤ moment_of v
    → mark_in v.marks.items version ≡ None
    → HoldsVersion (log_of v) version
kept_at v version are le none = record {
  there = le;
  unmarked = unmarked_at (mark_in v.marks.items) versions version are.of_versions none;
}

pub marked_at : (v : Versions) (version : ℕ) (mark : Mark) → AreStoredVersions v
    → version ≤ moment_of v
    → mark_in v.marks.items version ≡ Some mark
    → (version ≤ moment_of v) × IsVersionMarked v version
marked_at v version mark are le some = (
  le,
  record {
    mark = mark;
    listed = listed_at (mark_in v.marks.items) versions version mark
        (in_places v version are le) some;
    same = are.of_versions.each version mark some;
  },
)

-- a mark that was read at its place
pub mark_read : (marks : List (Option Mark)) (version : ℕ) (read : Option Mark)
    → version < length marks
    → read ≡ get_or marks version read → mark_in marks version ≡ read
mark_read marks version read lt here = sym (get_or_default marks version read None lt) ∙ sym here

pub read_mark : (marks : List (Option Mark)) (version : ℕ) (read : Option Mark) (mark : Mark)
    → version < length marks
    → read ≡ get_or marks version read → read ≡ Some mark → mark_in marks version ≡ Some mark
read_mark marks version read mark lt here is = mark_read marks version read lt here ∙ is
