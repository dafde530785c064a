-- A tinted act with a stencil of the model that it names makes the parts of the act.
use Rattle.std.proofs.Common.{◌≡◌, ℕ, ◌-◌, ◌/◌, ◌^◌, ◌≤◌, Option, Some, None, List, Ok, Err, refl, sym, ◌∙◌, ap, subst, arith}
use Rattle.std.specs.Prelude.{Result}
use Rattle.std.specs.List.{slice_get}
use Rattle.vw_cell.specs.declared.cells.Cell.{Cell}
use Rattle.vw_cell.specs.Places.{FitsAt}
use Rattle.vox_read.specs.Contents.{Content}
use Rattle.node_words.specs.declared.shapes.names.Name.{Name}
use Rattle.node_words.specs.declared.shares.Full.{Full}
use Rattle.node_words.specs.Held.{StoreState}
use Rattle.history_model.specs.declared.acts.Act.{Act}
use Rattle.history_model.specs.declared.acts.Act.TheVariants as acts
use Rattle.history_model.specs.declared.acts.TintAct.{TintAct}
use Rattle.history_model.specs.declared.acts.TintAct.TheVariants.{Fill, Erase, Ball, Carve, Copy, Stamp}
use Rattle.history_model.specs.Worlds.{World}
use Rattle.history_model.specs.Tints.{Tints, ink_of}
use Rattle.history_model.specs.Logs.{FitsModel, FitsWorld, TintFits}
use Rattle.history_model.specs.Parts.{part, part_number}
use Rattle.history_model.specs.Stores.{edit_parts}
use Rattle.colour.specs.Inks.{Inked, DrawsTints, FitsInk, HasInk, parts_in}
use Rattle.colour.specs.Made.{MakesParts}
use Rattle.colour.proofs.Quarters.{quarter_is}
use Rattle.colour.proofs.TintedLaws.{ink_is}
use Rattle.act_rebuilds.specs.Acts.{IsLargeFor, room_for, MakesAct}

-- the stencil makes the parts of the act
parts_as : (side : ℕ) (models : List Content) (t : TintAct) (stencil : Option Inked) → 4 ≤ side
    → HasInk models t stencil
    → parts_in (2 ^ (side - 2)) t stencil ≡ edit_parts (2 ^ side) models (acts.Tint t)
parts_as side models t stencil large ink =
    ap (λ (i : Tints). part (2 ^ (side - 2)) i t) (ink_is models t stencil ink)
    ∙ ap (λ (n : ℕ). part n (ink_of models t) t)
    (sym (quarter_is side (2 ^ side) (omega (arith, large)) refl))

pub tints_make : (old new : StoreState) (side : ℕ) (root : Option Name) (models : List Content)
    (t : TintAct) (stencil : Option Inked) → 4 ≤ side → HasInk models t stencil
    → (result : Result (Option Name) Full)
    → MakesParts old side root (parts_in (2 ^ (side - 2)) t stencil) (part_number t) result new
    → MakesAct old side root models (acts.Tint t) result new
tints_make old new side root models t stencil large ink result made =
    acts_parts result
    (subst (λ (parts : ℕ → World → World). MakesParts old side root parts (part_number t) result new)
    (parts_as side models t stencil large ink) made)
  where
    acts_parts : (r : Result (Option Name) Full)
        → MakesParts old side root (edit_parts (2 ^ side) models (acts.Tint t)) (part_number t) r
        new
        → MakesAct old side root models (acts.Tint t) r new
    acts_parts (Ok name) m = λ before shows.
        record { came = m.came before shows; grows = m.grown before shows }
    acts_parts (Err full) m = m

-- a stamp fits where its model does, which has the stencil's size
model_fits : (n : ℕ) (models : List Content) (m : ℕ) (at : Cell) (model : Content) (inked : Inked)
    → slice_get models m ≡ Some model → DrawsTints model inked
    → FitsModel n (slice_get models m) at → FitsAt at inked.size n
model_fits n models m at model inked e d f =
    subst (λ (size : Cell). FitsAt at size n) (sym d.size)
    (subst (λ (o : Option Content). FitsModel n o at) e f)

ink_fits : (n : ℕ) (models : List Content) (t : TintAct) (stencil : Option Inked)
    → HasInk models t stencil → TintFits n models t → FitsInk n t stencil
ink_fits n models (Fill b c) None ink f = f
ink_fits n models (Fill b c) (Some inked) ink f = absurd ink
ink_fits n models (Erase b) None ink f = f
ink_fits n models (Erase b) (Some inked) ink f = absurd ink
ink_fits n models (Ball ball c) None ink f = f
ink_fits n models (Ball ball c) (Some inked) ink f = absurd ink
ink_fits n models (Carve ball) None ink f = f
ink_fits n models (Carve ball) (Some inked) ink f = absurd ink
ink_fits n models (Copy b to) None ink f = f
ink_fits n models (Copy b to) (Some inked) ink f = absurd ink
ink_fits n models (Stamp m at) None ink f = absurd ink
ink_fits n models (Stamp m at) (Some inked) ink f =
    model_fits n models m at ink.0 inked ink.1 ink.2 f

-- of an act that is this tinted one
module _ (side : ℕ) (models : List Content) (act : Act) (t : TintAct) (is : act ≡ acts.Tint t) where
  pub one_large : IsLargeFor act side → 4 ≤ side
  one_large large = subst (λ (a : Act). IsLargeFor a side) is large

  pub one_room : (trees : ℕ) → trees ≤ room_for act → trees ≤ 3909
  one_room trees le = subst (λ (a : Act). trees ≤ room_for a) is le

  pub one_fits : FitsWorld (2 ^ side) models act → TintFits (2 ^ side / 4) models t
  one_fits f = subst (λ (a : Act). FitsWorld (2 ^ side) models a) is f

  pub one_ink_fits : (stencil : Option Inked) → IsLargeFor act side → HasInk models t stencil
      → FitsWorld (2 ^ side) models act → FitsInk (2 ^ (side - 2)) t stencil
  one_ink_fits stencil large ink f =
      let two : 2 ≤ side = omega (arith, one_large large) in
      ink_fits (2 ^ (side - 2)) models t stencil ink
      (subst (λ (n : ℕ). TintFits n models t) (quarter_is side (2 ^ side) two refl) (one_fits f))
