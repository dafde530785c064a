-- Where the tints of two versions differ.
use Rattle.std.proofs.Common.{◌≡◌, ℕ, ◌-◌, ◌/◌, ◌^◌, ◌≤◌, ◌==◌, Bool, true, false, not, Option, List, refl, sym, ◌∙◌, ap, subst}
use Rattle.vw_cell.specs.Sums.{one_if}
use Rattle.vw_cell.specs.declared.boxes.Boxed.{Boxed}
use Rattle.vw_cell.specs.declared.cells.Cell.{Cell}
use Rattle.vw_cell.specs.Extents.{IsExtent}
use Rattle.vox_read.specs.Contents.{Content}
use Rattle.history_model.specs.Logs.{Log, side_of_world}
use Rattle.history_model.specs.Moments.{world_has, world_tint}
use Rattle.history_model.specs.Worlds.{World}
use Rattle.node_words.specs.declared.shapes.names.Name.{Name}
use Rattle.node_words.specs.shapes.Tree.{shape_of}
use Rattle.node_words.specs.descent.Roots.{ForWorld, cells_of}
use Rattle.measure.specs.Changes.{is_other, differs}
use Rattle.core_laws.specs.contents.Versions.{HoldsVersion}
use Rattle.core_laws.specs.tints.Planes.{tint_in}
use Rattle.core_laws.proofs.OfTints.VersionLaws.{versions_plainly_tinted}
use Rattle.act_rebuilds.proofs.OfQuestions.RootTells.{root_block}
use Rattle.act_rebuilds.proofs.OfQuestions.SameTells.{extent_same}
use Rattle.act_rebuilds.proofs.OfQuestions.TintTells.{quarter_same}
use Rattle.one_store.specs.Known.{stored_root}
use Rattle.store_run.specs.declared.stored_versions.Versions.{Versions}
use Rattle.store_run.specs.Kept.{log_of, stored_of, world_of, tints_of, AreStoredVersions, HoldsTree}
use Rattle.store_run.specs.Steps.{StayVersions, side_of}
use Rattle.store_run.specs.TintChanges.{tints_differ, DifferInTints}
use Rattle.store_run.specs.Worlds.{WorldState, world_state}
use Rattle.store_run.proofs.Comparing.{roots_differ}
use Rattle.store_run.proofs.KeptWorlds.{plain_acts}
use Rattle.store_run.proofs.Rebuilding.{large_tints}
use Rattle.store_run.proofs.TintFiles.{kept_tint, shown}

-- ---- where cells have no tints

ones_differ : (a b : Bool) → is_other a b ≡ not (one_if a == one_if b)
ones_differ true true = refl
ones_differ true false = refl
ones_differ false true = refl
ones_differ false false = refl

plainly : (v : Versions) (a b : ℕ) → AreStoredVersions v → v.models.tint ≡ false → (c : Cell)
    → differs (world_of v a) (world_of v b) c ≡ tints_differ (tints_of v a) (tints_of v b) c
plainly v a b are plain c =
    let ones : (n : ℕ) → tints_of v n c ≡ one_if (world_of v n c) =
    λ n. versions_plainly_tinted v.models.models (log_of v) (plain_acts v are plain) n c in
    ones_differ (world_of v a c) (world_of v b c)
    ∙ ap (λ (x : ℕ). not (x == one_if (world_of v b c))) (sym (ones a))
    ∙ ap (λ (x : ℕ). not (tints_of v a c == x)) (sym (ones b))

pub plain_differ : (v : Versions) (a b : ℕ) (before after : Option Name) (found : Option Boxed)
    → AreStoredVersions v → v.models.tint ≡ false → HoldsVersion (log_of v) a
    → HoldsVersion (log_of v) b → HoldsTree v.store before → HoldsTree v.store after
    → before ≡ stored_root v.store.roots a → after ≡ stored_root v.store.roots b
    → ForWorld v.store.told.held v.side before (λ old. ForWorld v.store.told.held v.side after
    (λ new. IsExtent (2 ^ v.side) (differs old new) found))
    → DifferInTints v a b found
plain_differ v a b before after found are plain of_a of_b holds also is_a is_b told =
    let e = roots_differ v a b before after found (record { stored = are; plain = plain }) of_a of_b
    holds also is_a is_b told in
    subst (λ (t : Bool). IsExtent (side_of_world t (2 ^ v.side))
    (tints_differ (tints_of v a) (tints_of v b)) found) (sym plain)
    (extent_same (2 ^ v.side) (differs (world_of v a) (world_of v b))
    (tints_differ (tints_of v a) (tints_of v b))
    (record { each = λ c i. plainly v a b are plain c }) found e)

-- ---- where they have

pub tinted_differ : (v : Versions) (a b : ℕ) (before after : Option Name) (found : Option Boxed)
    → AreStoredVersions v → v.models.tint ≡ true → HoldsVersion (log_of v) a
    → HoldsVersion (log_of v) b → HoldsTree v.store before → HoldsTree v.store after
    → before ≡ stored_root v.store.roots a → after ≡ stored_root v.store.roots b
    → ForWorld v.store.told.held v.side before (λ old. ForWorld v.store.told.held v.side after
    (λ new. IsExtent (2 ^ (v.side - 2)) (tints_differ (tint_in (2 ^ (v.side - 2)) old)
    (tint_in (2 ^ (v.side - 2)) new)) found))
    → DifferInTints v a b found
tinted_differ v a b before after found are tinted of_a of_b holds also is_a is_b told =
    let n : ℕ = 2 ^ (v.side - 2) in
    let s = shown v a before are tinted of_a holds is_a in
    let t = shown v b after are tinted of_b also is_b in
    let old : World = cells_of (v.side - 2) (shape_of s.tree) in
    let new : World = cells_of (v.side - 2) (shape_of t.tree) in
    let here : IsExtent (2 ^ v.side / 4) (tints_differ (tint_in n old) (tint_in n new)) found =
    subst (λ (m : ℕ). IsExtent m (tints_differ (tint_in n old) (tint_in n new)) found)
    (sym (quarter_same v.side (large_tints v are tinted)))
    (told s.tree (root_block v.store.told.held v.side before (stored_of v a) s) t.tree
    (root_block v.store.told.held v.side after (stored_of v b) t)) in
    subst (λ (k : Bool). IsExtent (side_of_world k (2 ^ v.side))
    (tints_differ (tints_of v a) (tints_of v b)) found) (sym tinted)
    (extent_same (2 ^ v.side / 4) (tints_differ (tint_in n old) (tint_in n new))
    (tints_differ (tints_of v a) (tints_of v b)) (record {
      each = λ c i.
          ap (λ (x : ℕ). not (x == tint_in n new c))
          (kept_tint v a before are tinted of_a holds is_a c i)
          ∙ ap (λ (x : ℕ). not (tints_of v a c == x))
          (kept_tint v b after are tinted of_b also is_b c i);
    }) found here)

-- ---- of a world that stands open

pub differ_still : (a v : Versions) (x y : ℕ) (found : Option Boxed) → StayVersions a v
    → DifferInTints v x y found → DifferInTints a x y found
differ_still a v x y found stay told =
    subst (λ (l : Log). IsExtent (side_of_world l.coloured (2 ^ l.side))
    (tints_differ (world_tint a.models.models l.records x)
    (world_tint a.models.models l.records y)) found) stay.log
    (subst (λ (ms : List Content). IsExtent (side_of v)
    (tints_differ (world_tint ms v.records.items x) (world_tint ms v.records.items y)) found)
    stay.models told)

pub changes_told : (v : Versions) (s : WorldState) (x y : ℕ) (found : Option Boxed)
    → world_state v ≡ s → AreStoredVersions v → DifferInTints v x y found
    → IsExtent (side_of_world s.log.coloured (2 ^ s.plan.side))
    (tints_differ (world_tint s.models s.log.records x) (world_tint s.models s.log.records y)) found
changes_told v s x y found is are told =
    subst (λ (t : WorldState). IsExtent (side_of_world t.log.coloured (2 ^ t.plan.side))
    (tints_differ (world_tint t.models t.log.records x) (world_tint t.models t.log.records y))
    found) is
    (subst (λ (l : ℕ). IsExtent (side_of_world v.models.tint (2 ^ l))
    (tints_differ (tints_of v x) (tints_of v y)) found) are.side told)

-- the same of its cells, where they have no tints
pub changes_plain : (v : Versions) (s : WorldState) (x y : ℕ) (found : Option Boxed)
    → world_state v ≡ s → AreStoredVersions v → DifferInTints v x y found
    → s.log.coloured ≡ false
    → IsExtent (2 ^ s.plan.side)
    (differs (world_has s.models s.log.records x) (world_has s.models s.log.records y)) found
changes_plain v s x y found is are told plain =
    let none : v.models.tint ≡ false = ap (λ (t : WorldState). t.log.coloured) is ∙ plain in
    let here : IsExtent (2 ^ v.side) (tints_differ (tints_of v x) (tints_of v y)) found =
    subst (λ (t : Bool). IsExtent (side_of_world t (2 ^ v.side))
    (tints_differ (tints_of v x) (tints_of v y)) found) none told in
    subst (λ (t : WorldState). IsExtent (2 ^ t.plan.side)
    (differs (world_has t.models t.log.records x) (world_has t.models t.log.records y)) found) is
    (subst (λ (l : ℕ). IsExtent (2 ^ l) (differs (world_of v x) (world_of v y)) found) are.side
    (extent_same (2 ^ v.side) (tints_differ (tints_of v x) (tints_of v y))
    (differs (world_of v x) (world_of v y))
    (record { each = λ c i. sym (plainly v x y are none c) }) found here))
