-- What is told and made of a root that a session holds, of the world that its store keeps.
use Rattle.std.specs.Prelude.{ℕ, ◌-◌, ◌^◌, Bool, true, false, Option, List}
use Rattle.vw_cell.specs.declared.boxes.Boxed.{Boxed}
use Rattle.vox_read.specs.Contents.{Content}
use Rattle.vox_read.specs.declared.voxels.Voxel.{Voxel}
use Rattle.vox_write.specs.Written.{model_file}
use Rattle.history_model.specs.Worlds.{World}
use Rattle.history_model.specs.declared.questions.Question.{Question}
use Rattle.transcript.specs.declared.answers.Answer.{Answer}
use Rattle.node_words.specs.declared.shapes.names.Name.{Name}
use Rattle.node_words.specs.shapes.Tree.{Tree}
use Rattle.extract.specs.Listing.{voxels_of_box}
use Rattle.act_rebuilds.specs.Reading.{tinted_voxels}
use Rattle.act_rebuilds.specs.questions.AnswersByRoots.{AnswersByRoot, AnswersByTints}

-- the answer tells what the question asks of the worlds that the root shows, or of those whose
-- tints its store keeps
abbrev pub AnswersHeld : Bool → List Tree → ℕ → Option Name → Question → Answer → Type 0
AnswersHeld false held side root question answer = AnswersByRoot held side root question answer
AnswersHeld true held side root question answer = AnswersByTints held side root question answer

-- the set cells of a box of the world that these cells of a store keep, whose side has this
-- exponent: with their tints, or with colour 1
abbrev pub stored_voxels : Bool → ℕ → Boxed → World → List Voxel
stored_voxels false side b cells = voxels_of_box b cells
stored_voxels true side b cells = tinted_voxels (2 ^ (side - 2)) b cells

-- as a model, and the bytes of its file
abbrev pub stored_model : Bool → ℕ → Boxed → World → Content
stored_model tint side b cells = record { size = b.size; voxels = stored_voxels tint side b cells }

abbrev pub stored_file : Bool → ℕ → Boxed → World → List ℕ
stored_file tint side b cells = model_file (stored_model tint side b cells)
