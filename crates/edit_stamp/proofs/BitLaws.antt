-- A model with one bit of each colour in its place.
use Rattle.std.proofs.Common.{◌≡◌, ℕ, zero, suc, ◌+◌, ◌^◌, ◌<◌, ◌==◌, Bool, true, false, Some, List, [], ◌∷◌, ◌++◌, All, map, take, length, get_or, refl, sym, ◌∙◌, ap, arith, subst, reverse}
use Rattle.std.specs.Prelude.{not, find, Result, Ok, Err, IfOk}
use Rattle.std.specs.Int.{bit_at}
use Rattle.std.proofs.lemmas.Nat.Bits.{bit_at-lt, bit_at_above}
use Rattle.std.proofs.lemmas.List.{take_more, map-append}
use Rattle.std.proofs.lemmas.List.Elements.{All-map, All-push}
use Rattle.vw_cell.specs.declared.cells.Cell.{Cell}
use Rattle.vox_read.specs.declared.voxels.Voxel.{Voxel}
use Rattle.vox_read.specs.Contents.{Content, IsModel, IsInsideModel, is_voxel_at, colour_of, colour_at}
use Rattle.edit_stamp.specs.Drawings.{Drawn, Draws, DrawsBit, with_bit, bit_model}

pub bit_model_fine : (bit : ℕ) (model : Content) → IsModel model → IsModel (bit_model bit model)
bit_model_fine bit model m =
    record {
      size = m.size;
      voxels = All-map (IsInsideModel model.size) (with_bit bit) model.voxels
          (λ k d lt. let s = m.voxels k d lt in record { x = s.x; y = s.y; z = s.z });
    }

turned : {A : Type 0} (f : A → A) (xs ys : List A)
    → mathlib.Core.List.reverse_aux (map f xs) (map f ys) ≡ map f
    (mathlib.Core.List.reverse_aux xs ys)
turned f [] ys = refl
turned f (x ∷ xs) ys = turned f xs (x ∷ ys)

found : (bit : ℕ) (q : Cell) (voxels : List Voxel)
    → colour_of (find (is_voxel_at q) (map (with_bit bit) voxels))
    ≡ bit_at (colour_of (find (is_voxel_at q) voxels)) bit
found bit q [] = sym (bit_at_above 0 0 bit (omega arith) (omega arith))
found bit q (v ∷ voxels) = cases (is_voxel_at q v) (found bit q voxels)
  where
    cases : (b : Bool)
        → colour_of (find (is_voxel_at q) (map (with_bit bit) voxels))
        ≡ bit_at (colour_of (find (is_voxel_at q) voxels)) bit
        → colour_of
        (mathlib.Core.Bool.cond b (Some (with_bit bit v))
        (find (is_voxel_at q) (map (with_bit bit) voxels)))
        ≡ bit_at (colour_of (mathlib.Core.Bool.cond b (Some v) (find (is_voxel_at q) voxels))) bit
    cases true h = refl
    cases false h = h

pub bit_colour : (bit : ℕ) (voxels : List Voxel) (q : Cell)
    → colour_at (map (with_bit bit) voxels) q ≡ bit_at (colour_at voxels q) bit
bit_colour bit voxels q =
    ap (λ (list : List Voxel). colour_of (find (is_voxel_at q) list))
    (turned (with_bit bit) voxels [])
    ∙ found bit q (reverse voxels)

one_bit : (n : ℕ) → n < 2 → not (n == 0) ≡ (n == 1)
one_bit zero lt = refl
one_bit (suc zero) lt = refl
one_bit (suc (suc n)) lt = absurd (omega arith)

pub draws_bit : (bit : ℕ) (model plane : Content) (drawn : Drawn) → plane ≡ bit_model bit model
    → Draws plane drawn → DrawsBit model bit drawn
draws_bit bit model plane drawn e d =
    let d = subst (λ (m : Content). Draws m drawn) e d in
    record {
      size = d.size;
      each = λ q b.
          d.each q b ∙ ap (λ (n : ℕ). not (n == 0)) (bit_colour bit model.voxels q)
          ∙ one_bit (bit_at (colour_at model.voxels q) bit)
          (bit_at-lt (colour_at model.voxels q) bit);
    }

pub of_bit_draws : {E : Type 0} (bit : ℕ) (model plane : Content) (result : Result Drawn E)
    → plane ≡ bit_model bit model → IfOk result (λ s. Draws plane s)
    → IfOk result (λ s. DrawsBit model bit s)
of_bit_draws bit model plane (Ok drawn) e d = draws_bit bit model plane drawn e d
of_bit_draws bit model plane (Err why) e d = tt

-- one more voxel whose colour has eight bits
pub small_more : (items : List Voxel) (k : ℕ) (d : Voxel) → k < length items
    → All (λ v. v.colour < 2 ^ 8) (take k items) → (get_or items k d).colour < 2 ^ 8
    → All (λ v. v.colour < 2 ^ 8) (take (k + 1) items)
small_more items k d lt so_far next =
    subst (λ (list : List Voxel). All (λ v. v.colour < 2 ^ 8) list) (sym (take_more items k d lt))
    (All-push (λ v. v.colour < 2 ^ 8) (take k items) (get_or items k d) so_far next)

-- one more voxel with its bit
pub mapped_more : (bit : ℕ) (items : List Voxel) (k : ℕ) (d v : Voxel) (old new : List Voxel)
    → k < length items → old ≡ map (with_bit bit) (take k items) → new ≡ old ++ v ∷ []
    → v ≡ with_bit bit (get_or items k d) → new ≡ map (with_bit bit) (take (k + 1) items)
mapped_more bit items k d v old new lt so_far e is =
    e ∙ ap (λ (list : List Voxel). list ++ v ∷ []) so_far
    ∙ ap (λ (u : Voxel). map (with_bit bit) (take k items) ++ u ∷ []) is
    ∙ sym (map-append (with_bit bit) (take k items) (get_or items k d ∷ []))
    ∙ sym (ap (map (with_bit bit)) (take_more items k d lt))
