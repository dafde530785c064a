-- Boxes and balls are no tinted acts and name no model: what they make, they make whatever the
-- models are.
use Rattle.std.proofs.Common.{◌≡◌, ℕ, Bool, true, false, Option, refl, subst}
use Rattle.std.specs.Prelude.{List, [], Result}
use Rattle.vw_cell.specs.declared.balls.Ball.{Ball}
use Rattle.vw_cell.specs.declared.boxes.Boxed.{Boxed}
use Rattle.vw_cell.specs.Places.{IsInWorld}
use Rattle.vox_read.specs.Contents.{Content}
use Rattle.history_model.specs.declared.acts.Act.{Act}
use Rattle.history_model.specs.Worlds.{World, edited}
use Rattle.history_model.specs.Logs.{FitsWorld, suits_tints}
use Rattle.node_words.specs.declared.shapes.names.Name.{Name}
use Rattle.node_words.specs.declared.shares.Full.{Full}
use Rattle.node_words.specs.Held.{StoreState}
use Rattle.edit_ops.specs.Balls.{ball_act}
use Rattle.edit_ops.specs.Boxes.{box_act}
use Rattle.edit_walk.specs.Edits.{Edits}
use Rattle.act_rebuilds.specs.Acts.{MakesAct}
use Rattle.act_rebuilds.proofs.PlainActs.{plainly_makes}

pub box_plain : (set : Bool) (b : Boxed) → suits_tints false (box_act set b) ≡ true
box_plain true b = refl
box_plain false b = refl

pub box_same : (models : List Content) (set : Bool) (b : Boxed)
    → edited [] (box_act set b) ≡ edited models (box_act set b)
box_same models true b = refl
box_same models false b = refl

pub ball_plain : (set : Bool) (b : Ball) → suits_tints false (ball_act set b) ≡ true
ball_plain true b = refl
ball_plain false b = refl

pub ball_same : (models : List Content) (set : Bool) (b : Ball)
    → edited [] (ball_act set b) ≡ edited models (ball_act set b)
ball_same models true b = refl
ball_same models false b = refl

pub ball_inside : (side : ℕ) (models : List Content) (set : Bool) (b : Ball)
    → FitsWorld side models (ball_act set b) → IsInWorld side b.centre
ball_inside side models true b fits = fits.0
ball_inside side models false b fits = fits.0

module _ (old new : StoreState) (side : ℕ) (root : Option Name) (models : List Content) (act : Act)
    (plain : suits_tints false act ≡ true) (same : edited [] act ≡ edited models act)
    (result : Result (Option Name) Full) where
  pub made_plainly : Edits old side root (edited [] act) result new
      → MakesAct old side root models act result new
  made_plainly edits =
      plainly_makes old new side root models act plain result
      (subst (λ (f : World → World). Edits old side root f result new) same edits)
