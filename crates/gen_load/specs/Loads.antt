-- What the load of a number n is. Each thing is told by the state before its first draw.
use Rattle.std.specs.Prelude.{ℕ, zero, suc, ◌+◌, ◌*◌, List, [], ◌∷◌, ◌++◌, codes}
use Rattle.std.specs.List.{flat_map}
use Rattle.std.specs.Fmt.{decimal}
use Rattle.vw_cell.specs.declared.cells.Cell.{Cell}
use Rattle.vw_cell.specs.declared.boxes.Boxed.{Boxed}
use Rattle.vw_cell.specs.declared.balls.Ball as ball
use Rattle.vox_read.specs.declared.voxels.Voxel.{Voxel}
use Rattle.vox_read.specs.Contents.{Content}
use Rattle.history_model.specs.declared.acts.Act.{Act}
use Rattle.history_model.specs.declared.acts.Act.TheVariants.{Fill, Erase, Ball, Stamp}
use Rattle.history_model.specs.Journal.{act_words}
use Rattle.gen_load.specs.Draws.{state_after, draw_below}

-- the voxel of the next four draws
abbrev pub voxel_from : ℕ → Voxel
voxel_from g =
    record {
      x = draw_below g 0 32;
      y = draw_below g 1 32;
      z = draw_below g 2 32;
      colour = 1 + draw_below g 3 255;
    }

-- the next so many voxels
unfoldable pub voxels_from : ℕ → ℕ → List Voxel
voxels_from g zero = []
voxels_from g (suc k) = voxels_from g k ++ voxel_from (state_after g (4 * k)) ∷ []

-- the load's model: 4,000 voxels
abbrev pub load_model : ℕ → Content
load_model n = record { size = record { x = 32; y = 32; z = 32 }; voxels = voxels_from n 4000 }

-- the box of the next six draws, in the region whose least x this is
abbrev pub box_from : ℕ → ℕ → Boxed
box_from g x =
    record {
      at = record { x = x + draw_below g 0 48; y = draw_below g 1 240; z = draw_below g 2 240 };
      size = record {
        x = 1 + draw_below g 3 16;
        y = 1 + draw_below g 4 16;
        z = 1 + draw_below g 5 16;
      };
    }

-- the ball of the next four draws
abbrev pub ball_from : ℕ → ℕ → ball.Ball
ball_from g x =
    record {
      centre = record {
        x = x + 8 + draw_below g 0 48;
        y = 8 + draw_below g 1 240;
        z = 8 + draw_below g 2 240;
      };
      radius = draw_below g 3 8;
    }

-- the place of a stamp of the next three draws
abbrev pub place_from : ℕ → ℕ → Cell
place_from g x =
    record { x = x + draw_below g 0 32; y = draw_below g 1 224; z = draw_below g 2 224 }

-- an edit of this kind of the next draws
abbrev pub edit_of : ℕ → ℕ → ℕ → Act
edit_of zero g x = Fill (box_from g x)
edit_of (suc zero) g x = Erase (box_from g x)
edit_of (suc (suc zero)) g x = Ball (ball_from g x)
edit_of (suc (suc (suc kind))) g x = Stamp 0 (place_from g x)

-- how many draws an edit of this kind takes, that of its kind among them
abbrev pub draws_of : ℕ → ℕ
draws_of zero = 7
draws_of (suc zero) = 7
draws_of (suc (suc zero)) = 5
draws_of (suc (suc (suc kind))) = 4

-- the edit of the next draws, the first of which is that of its kind
abbrev pub edit_from : ℕ → ℕ → Act
edit_from g x = edit_of (draw_below g 0 4) (state_after g 1) x

-- the state behind one edit, and behind so many
abbrev pub edit_state : ℕ → ℕ
edit_state g = state_after g (draws_of (draw_below g 0 4))

unfoldable pub line_state : ℕ → ℕ → ℕ
line_state g zero = g
line_state g (suc k) = edit_state (line_state g k)

-- the next so many edits of a region
unfoldable pub edits_from : ℕ → ℕ → ℕ → List Act
edits_from g x zero = []
edits_from g x (suc k) = edits_from g x k ++ edit_from (line_state g k) x ∷ []

-- the line of an edit
abbrev pub edit_line : Act → List ℕ
edit_line act = act_words act ++ codes "\n"

-- the line that counts a region
abbrev pub region_line : ℕ → List ℕ
region_line x = codes "count " ++ (decimal x ++ codes " 0 0 64 256 256\n")

-- a script of the next 200 edits of a region, which it counts at the end
abbrev pub script_from : ℕ → ℕ → List ℕ
script_from g x = flat_map edit_line (edits_from g x 200) ++ region_line x

-- the first so many scripts: script i is that of the region at x = 64 i, and goes on where the
-- script before it ended
unfoldable pub scripts_from : ℕ → ℕ → List (List ℕ)
scripts_from g zero = []
scripts_from g (suc i) = scripts_from g i ++ script_from (line_state g (200 * i)) (64 * i) ∷ []

-- the load's scripts, which begin behind the draws of the model
abbrev pub load_scripts : ℕ → List (List ℕ)
load_scripts n = scripts_from (state_after n 16000) 4

-- what a program is given: the side's exponent, the bytes of a VOX file, and those of each script
pub record Given : Type 0 where
  pub side : ℕ
  pub vox : List ℕ
  pub scripts : List (List ℕ)
