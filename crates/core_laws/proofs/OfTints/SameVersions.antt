-- Versions have the same cells in their store exactly where they have the same tints.
use Rattle.std.proofs.Common.{◌≡◌, ℕ, ◌*◌, ◌/◌, ◌≤◌, ◌^◌, Bool, true, false, List, All, refl, ap, sym, subst, ◌∙◌}
use Rattle.vw_cell.specs.declared.cells.Cell.{Cell}
use Rattle.vw_cell.specs.Places.{IsInWorld}
use Rattle.vw_cell.specs.Sums.{one_if}
use Rattle.vox_read.specs.Contents.{Content}
use Rattle.history_model.specs.Logs.{Log, FitsWorld, IsPlain, SuitsTints, side_of_world, suits_tints}
use Rattle.history_model.specs.Moments.{world_has, world_tint}
use Rattle.history_model.specs.Stores.{store_has}
use Rattle.history_model.specs.Worlds.{World}
use Rattle.history_model.specs.Tints.{Tints}
use Rattle.history_model.proofs.MarkLaws.{whole_again}
use Rattle.core_laws.specs.tints.Planes.{TintsPlaces}
use Rattle.core_laws.proofs.OfTints.AgreeLaws.{stored_same, tints_same}
use Rattle.core_laws.proofs.OfTints.TintBounds.{versions_small}
use Rattle.core_laws.proofs.OfTints.VersionLaws.{versions_plain, versions_plainly_tinted, versions_stored}

same_bits : (a b : Bool) → one_if a ≡ one_if b → a ≡ b
same_bits true true e = refl
same_bits true false e = absurd (let no : ⊥ = cc in no)
same_bits false true e = absurd (let no : ⊥ = cc in no)
same_bits false false e = refl

module _ (models : List Content) (log : Log) (suits : SuitsTints log)
    (fit : All (λ r. FitsWorld (2 ^ log.side) models r.act) log.records)
    (places : All TintsPlaces models) (large : log.coloured ≡ true → 4 ≤ log.side) (v w : ℕ) where
  abbrev t : Tints
  t = world_tint models log.records v

  abbrev u : Tints
  u = world_tint models log.records w

  abbrev a : World
  a = store_has models log v

  abbrev b : World
  b = store_has models log w

  plain : log.coloured ≡ false → IsPlain log
  plain e = record {
    coloured = e;
    acts = subst (λ (c : Bool). All (λ r. suits_tints c r.act ≡ true) log.records) e suits;
  }

  abbrev quarter : ℕ
  quarter = 2 ^ log.side / 4

  in_quarters : log.coloured ≡ true → (q : Cell) → IsInWorld (4 * quarter) q
      → IsInWorld (2 ^ log.side) q
  in_quarters e q i = subst (λ (n : ℕ). IsInWorld n q) (whole_again log.side (large e)) i

  in_store : log.coloured ≡ true → (q : Cell) → IsInWorld (2 ^ log.side) q
      → IsInWorld (4 * quarter) q
  in_store e q i = subst (λ (n : ℕ). IsInWorld n q) (sym (whole_again log.side (large e))) i

  tints_of : (c : Bool) → log.coloured ≡ c
      → ((q : Cell) → IsInWorld (2 ^ log.side) q → a q ≡ b q)
      → (p : Cell) → IsInWorld (side_of_world c (2 ^ log.side)) p → t p ≡ u p
  tints_of true e same p i =
      tints_same quarter t u a b (versions_stored models log e suits fit v)
      (versions_stored models log e suits fit w) (λ q j. same q (in_quarters e q j)) p i
      (versions_small (2 ^ log.side) models log.records places fit v p)
      (versions_small (2 ^ log.side) models log.records places fit w p)
  tints_of false e same p i =
      versions_plainly_tinted models log (plain e) v p
      ∙ ap one_if (sym (versions_plain models log (plain e) v p) ∙ same p i
      ∙ versions_plain models log (plain e) w p)
      ∙ sym (versions_plainly_tinted models log (plain e) w p)

  cells_of : (c : Bool) → log.coloured ≡ c
      → ((p : Cell) → IsInWorld (side_of_world c (2 ^ log.side)) p → t p ≡ u p)
      → (q : Cell) → IsInWorld (2 ^ log.side) q → a q ≡ b q
  cells_of true e same q i =
      stored_same quarter t u a b (versions_stored models log e suits fit v)
      (versions_stored models log e suits fit w) same q (in_store e q i)
  cells_of false e same q i =
      versions_plain models log (plain e) v q
      ∙ same_bits (world_has models log.records v q) (world_has models log.records w q)
      (sym (versions_plainly_tinted models log (plain e) v q) ∙ same q i
      ∙ versions_plainly_tinted models log (plain e) w q)
      ∙ sym (versions_plain models log (plain e) w q)

  pub versions_tints_same : ((q : Cell) → IsInWorld (2 ^ log.side) q → a q ≡ b q)
      → (p : Cell) → IsInWorld (side_of_world log.coloured (2 ^ log.side)) p → t p ≡ u p
  versions_tints_same same p i = tints_of log.coloured refl same p i

  pub versions_stored_same :
      ((p : Cell) → IsInWorld (side_of_world log.coloured (2 ^ log.side)) p → t p ≡ u p)
      → (q : Cell) → IsInWorld (2 ^ log.side) q → a q ≡ b q
  versions_stored_same same q i = cells_of log.coloured refl same q i
