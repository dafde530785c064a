-- A stencil's stamp makes of each world what the act makes that names its model.
use Rattle.std.proofs.Common.{◌≡◌, ℕ, zero, suc, ◌<◌, Bool, Some, List, [], ◌∷◌, Option, length, get_or, refl, subst, ap, sym, arith}
use Rattle.std.specs.Prelude.{Result}
use Rattle.std.specs.List.{slice_get}
use Rattle.vw_cell.specs.declared.cells.Cell.{Cell}
use Rattle.vw_cell.specs.Places.{FitsAt}
use Rattle.vox_read.specs.Contents.{Content}
use Rattle.node_words.specs.declared.shapes.names.Name.{Name}
use Rattle.node_words.specs.declared.shares.Full.{Full}
use Rattle.node_words.specs.Held.{StoreState}
use Rattle.history_model.specs.Logs.{FitsModel, FitsWorld}
use Rattle.history_model.specs.Worlds.{World, edited}
use Rattle.history_model.specs.declared.acts.Act.{Act}
use Rattle.history_model.specs.declared.acts.Act.TheVariants.{Stamp}
use Rattle.edit_stamp.specs.Drawings.{Drawn}
use Rattle.edit_stamp.specs.Stamps.{stamped}
use Rattle.edit_stamp.proofs.StampLaws.{stamps_model}
use Rattle.edit_walk.specs.Edits.{Edits}
use Rattle.act_rebuilds.specs.Acts.{MakesAct}
use Rattle.act_rebuilds.specs.Drawn.{DrawsNumber}
use Rattle.act_rebuilds.proofs.PlainActs.{edit_makes}

-- worlds with the same cells are one
one_world : (v w : Cell → Bool) → ((c : Cell) → v c ≡ w c) → v ≡ w
one_world v w same = λ i c. same c i

-- the cells of the model of this number, stamped
pub stamped_as : (models : List Content) (m : ℕ) (drawn : Drawn) (at : Cell)
    → DrawsNumber models m drawn → stamped drawn at ≡ edited models (Stamp m at)
stamped_as models m drawn at d = λ i before.
    one_world (stamped drawn at before) (edited models (Stamp m at) before)
    (λ c. stamps_model models m d.model drawn at before c d.is_there d.draws) i

module _ (old new : StoreState) (side : ℕ) (root : Option Name) (models : List Content) (act : Act)
    (m : ℕ) (at : Cell) (drawn : Drawn) (result : Result (Option Name) Full)
    (is : act ≡ Stamp m at) (d : DrawsNumber models m drawn) where
  pub stamp_makes : Edits old side root (stamped drawn at) result new
      → MakesAct old side root models act result new
  stamp_makes edits =
      edit_makes old new side root models act (Stamp m at) result is refl
      (subst (λ (f : World → World). Edits old side root f result new)
      (stamped_as models m drawn at d) edits)

-- which lies in the world where the act fits, as the model has the drawing's size
pub stamp_inside : (n : ℕ) (models : List Content) (act : Act) (m : ℕ) (at : Cell) (drawn : Drawn)
    → act ≡ Stamp m at → DrawsNumber models m drawn → FitsWorld n models act
    → FitsAt at drawn.size n
stamp_inside n models act m at drawn is d fits =
    subst (λ (size : Cell). FitsAt at size n) (sym d.draws.size)
    (subst (λ (o : Option Content). FitsModel n o at) d.is_there
    (subst (λ (a : Act). FitsWorld n models a) is fits))

-- the model of a stamp that fits is there, and is the one that was read
pub fits_there : (side : ℕ) (models : List Content) (m : ℕ) (at : Cell)
    → FitsModel side (slice_get models m) at → m < length models
fits_there side [] m at f = absurd f
fits_there side (x ∷ models) zero at f = omega arith
fits_there side (x ∷ models) (suc m) at f = let lt = fits_there side models m at f in omega arith

pub stamp_there : (n : ℕ) (models : List Content) (act : Act) (m : ℕ) (at : Cell) → act ≡ Stamp m at
    → FitsWorld n models act → m < length models
stamp_there n models act m at is fits =
    fits_there n models m at (subst (λ (a : Act). FitsWorld n models a) is fits)

read_there : (models : List Content) (m : ℕ) (x : Content) → m < length models
    → x ≡ get_or models m x → slice_get models m ≡ Some x
read_there [] m x lt e = absurd (omega arith)
read_there (y ∷ models) zero x lt e = ap Some (sym e)
read_there (y ∷ models) (suc m) x lt e = read_there models m x (omega arith) e

pub model_there : (models : List Content) (m k : ℕ) (x : Content) → m < length models → k ≡ m
    → x ≡ get_or models k x → slice_get models m ≡ Some x
model_there models m k x lt e read =
    read_there models m x lt (subst (λ (j : ℕ). x ≡ get_or models j x) e read)
