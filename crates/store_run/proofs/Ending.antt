-- The places of versions, and their history as a list.
use Rattle.std.proofs.Common.{◌≡◌, ℕ, ◌<◌, ◌≤◌, List, length, ◌∙◌, ap, arith}
use Rattle.history_model.specs.declared.histories.Mark.{Mark}
use Rattle.core_laws.specs.contents.MarkLists.{marks_below}
use Rattle.one_store.specs.Known.{IsStore}
use Rattle.store_run.specs.declared.stored_versions.Versions.{Versions}
use Rattle.store_run.specs.Kept.{log_of, moment_of, mark_in, AreStoredVersions}

-- a version has a place for its root
pub has_place : (v : Versions) (number version : ℕ) → AreStoredVersions v → IsStore v.store number
    → version ≤ moment_of v → version < length v.store.roots
has_place v number version are st le =
    let few = are.sound.legal.few in let long = st.places in omega arith

-- the marks in the places of all versions
pub history_is : (v : Versions) → AreStoredVersions v → (marks : List Mark)
    → marks ≡ marks_below (mark_in v.marks.items) (length v.marks.items)
    → record
    { side = v.side; coloured = v.models.tint; records = v.records.items; marks = marks }
    ≡ log_of v
history_is v are marks is = λ i. record {
  side = v.side;
  coloured = v.models.tint;
  records = v.records.items;
  marks = (is ∙ ap (marks_below (mark_in v.marks.items)) are.places) i;
}
