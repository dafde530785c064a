-- What carrying out an act on the root of a store needs, and what it leaves for each outcome.
use Rattle.std.specs.Prelude.{◌≡◌, ℕ, ◌-◌, ◌≤◌, ◌^◌, true, Option, List, Result, Ok, Err, ⊤}
use Rattle.vox_read.specs.Contents.{Content}
use Rattle.node_words.specs.declared.shapes.names.Name.{Name}
use Rattle.node_words.specs.shapes.Shape.{Shape}
use Rattle.node_words.specs.shapes.Weights.{number_of_trees}
use Rattle.node_words.specs.declared.shares.Full.{Full}
use Rattle.node_words.specs.Held.{StoreState}
use Rattle.node_words.specs.descent.Roots.{HoldsRoot}
use Rattle.history_model.specs.declared.acts.Act.{Act}
use Rattle.history_model.specs.declared.acts.Act.TheVariants.{Tint}
use Rattle.history_model.specs.Worlds.{World, is_edit}
use Rattle.history_model.specs.Logs.{FitsWorld, suits_tints}
use Rattle.history_model.specs.Stores.{edited_in, edit_parts, edit_part_number}
use Rattle.edit_stamp.specs.Worlds.{Rebuilt}
use Rattle.colour.specs.Made.{IsOfParts, GrowsBy, FailsBy, ForShown}
use Rattle.act_rebuilds.specs.Drawn.{WorldModels}

-- a store of this side, told by its exponent, is large enough for the act: a tinted one wants 16
-- cells or more
abbrev pub IsLargeFor : Act → ℕ → Type 0
IsLargeFor (Tint t) side = 4 ≤ side
IsLargeFor act side = ⊤

-- how many trees may be held before the act: a tinted one holds a root of its own between its parts
abbrev pub room_for : Act → ℕ
room_for (Tint t) = 3909
room_for act = 3910

-- an edit that suits a world with these models and fits it can be made of a root: the store is of
-- this side, holds the root, and is large enough and has room
pub record MayMakeAct (seen : StoreState) (side : ℕ) (root : Option Name) (drawn : WorldModels)
    (act : Act) : Type 0 where
  pub side_is : side ≡ seen.plan.side
  pub root_is : HoldsRoot seen.held side root
  pub room : number_of_trees seen.held ≤ room_for act
  pub large : IsLargeFor act side
  pub edit : is_edit act ≡ true
  pub suits : suits_tints drawn.tint act ≡ true
  pub fits : FitsWorld (2 ^ side) drawn.models act

-- the act wants the shape: it is a part of the canonical shape of what one of its parts leaves
abbrev pub IsOfAct : ℕ → List Content → Act → World → Shape → Type 0
IsOfAct side models act before =
    IsOfParts (side - 2) (edit_parts (2 ^ side) models act) (edit_part_number act) before

-- a share came of the root of what the act makes of this world; shapes that it wants may have been
-- made, and nothing met a full bucket
pub record MadeByAct (side : ℕ) (models : List Content) (act : Act) (before : World)
    (name : Option Name) (old new : StoreState) : Type 0 where
  pub came : Rebuilt (side - 2) (edited_in (2 ^ side) models act before) name old new
  pub grows : GrowsBy (IsOfAct side models act before) old new

-- or such a shape met this full bucket, and the store holds what it held
abbrev pub MakesOf : ℕ → List Content → Act → World → Result (Option Name) Full → StoreState
    → StoreState
    → Type 0
MakesOf side models act before (Ok name) old new = MadeByAct side models act before name old new
MakesOf side models act before (Err full) old new =
    FailsBy (IsOfAct side models act before) full.level full.bucket old new

-- so the act was made of the cells of each store that the root shows
abbrev pub MakesAct : StoreState → ℕ → Option Name → List Content → Act → Result (Option Name) Full
    → StoreState
    → Type 0
MakesAct old side root models act result new =
    ForShown old side root (λ before. MakesOf side models act before result old new)
