-- An act without a tint is made at once, of the world's own cells.
use Rattle.std.proofs.Common.{◌≡◌, ℕ, ◌-◌, ◌^◌, ◌≤◌, true, false, Option, List, Ok, Err, refl, sym, subst, arith}
use Rattle.std.specs.Prelude.{Result}
use Rattle.vox_read.specs.Contents.{Content}
use Rattle.node_words.specs.declared.shapes.names.Name.{Name}
use Rattle.node_words.specs.shapes.Shape.{Shape, IsPart}
use Rattle.node_words.specs.declared.shares.Full.{Full}
use Rattle.node_words.specs.Held.{StoreState}
use Rattle.node_words.specs.Gathering.{Grows, Fails}
use Rattle.node_words.proofs.GatherLaws.{grew_into}
use Rattle.history_model.specs.declared.acts.Act.{Act}
use Rattle.history_model.specs.declared.acts.Act.TheVariants.{Fill, Erase, Ball, Carve, Copy, Stamp, Tint, Undo, Redo}
use Rattle.history_model.specs.Worlds.{World, edited}
use Rattle.history_model.specs.Logs.{suits_tints}
use Rattle.history_model.specs.Stores.{edited_in, edit_parts, edit_part_number}
use Rattle.edit_walk.specs.Edits.{Edits}
use Rattle.edit_walk.specs.cells.Worlds.{Rebuilt, world_shape}
use Rattle.colour.specs.Made.{IsOfParts, GrowsBy, FailsBy}
use Rattle.act_rebuilds.specs.Acts.{IsOfAct, MakesAct}

no_tint : {A : Type 0} → false ≡ true → A
no_tint e = absurd (let no : ⊥ = cc in no)

-- what it makes, and that it has one part
edit_as : (side : ℕ) (models : List Content) (act : Act) → suits_tints false act ≡ true
    → edited models act ≡ edited_in side models act
edit_as side models (Fill b) e = refl
edit_as side models (Erase b) e = refl
edit_as side models (Ball ball) e = refl
edit_as side models (Carve ball) e = refl
edit_as side models (Copy b to) e = refl
edit_as side models (Stamp m at) e = refl
edit_as side models (Tint t) e = no_tint e
edit_as side models Undo e = refl
edit_as side models Redo e = refl

part_as : (side : ℕ) (models : List Content) (act : Act) → suits_tints false act ≡ true
    → edited models act ≡ edit_parts side models act 0
part_as side models (Fill b) e = refl
part_as side models (Erase b) e = refl
part_as side models (Ball ball) e = refl
part_as side models (Carve ball) e = refl
part_as side models (Copy b to) e = refl
part_as side models (Stamp m at) e = refl
part_as side models (Tint t) e = no_tint e
part_as side models Undo e = refl
part_as side models Redo e = refl

part_once : (act : Act) → suits_tints false act ≡ true → 1 ≤ edit_part_number act
part_once (Fill b) e = omega arith
part_once (Erase b) e = omega arith
part_once (Ball ball) e = omega arith
part_once (Carve ball) e = omega arith
part_once (Copy b to) e = omega arith
part_once (Stamp m at) e = omega arith
part_once (Tint t) e = no_tint e
part_once Undo e = omega arith
part_once Redo e = omega arith

module _ (old new : StoreState) (side : ℕ) (root : Option Name) (models : List Content) (act : Act)
    (e : suits_tints false act ≡ true) where
  wanted : (before : World) (s : Shape)
      → IsPart s (world_shape (side - 2) (edited models act before))
      → IsOfParts (side - 2) (edit_parts (2 ^ side) models act) (edit_part_number act) before s
  wanted before s p = record {
    after = 1;
    some = omega arith;
    few = part_once act e;
    is_part = subst (λ (f : World → World). IsPart s (world_shape (side - 2) (f before)))
        (part_as (2 ^ side) models act e) p;
  }

  grows_by : (before : World) → Grows (world_shape (side - 2) (edited models act before)) old new
      → GrowsBy (IsOfAct side models act before) old new
  grows_by before g = record {
    plan = g.plan;
    made = grew_into (wanted before) g.made;
    met = g.met;
  }

  fails_by : (before : World) (level bucket : ℕ)
      → Fails (world_shape (side - 2) (edited models act before)) level bucket old new
      → FailsBy (IsOfAct side models act before) level bucket old new
  fails_by before level bucket f = record {
    plan = f.plan;
    made = grew_into (wanted before) f.made;
    wanted = f.wanted;
    wants = wanted before f.wanted f.is_part;
    sought = f.sought;
    met = f.met;
    held = f.held;
  }

  pub plainly_makes : (result : Result (Option Name) Full)
      → Edits old side root (edited models act) result new
      → MakesAct old side root models act result new
  plainly_makes (Ok name) edits = λ before shows.
      let made = edits before shows in
      record {
        came = subst (λ (f : World → World). Rebuilt (side - 2) (f before) name old new)
            (edit_as (2 ^ side) models act e) made.came;
        grows = grows_by before made.grows;
      }
  plainly_makes (Err full) edits = λ before shows.
      fails_by before full.level full.bucket (edits before shows)

-- of an act that is this one
pub one_makes : (old new : StoreState) (side : ℕ) (root : Option Name) (models : List Content)
    (act one : Act) (result : Result (Option Name) Full) → act ≡ one
    → MakesAct old side root models one result new → MakesAct old side root models act result new
one_makes old new side root models act one result is h =
    subst (λ (a : Act). MakesAct old side root models a result new) (sym is) h

pub edit_makes : (old new : StoreState) (side : ℕ) (root : Option Name) (models : List Content)
    (act one : Act) (result : Result (Option Name) Full) → act ≡ one
    → suits_tints false one ≡ true → Edits old side root (edited models one) result new
    → MakesAct old side root models act result new
edit_makes old new side root models act one result is plain edits =
    one_makes old new side root models act one result is
    (plainly_makes old new side root models one plain result edits)
