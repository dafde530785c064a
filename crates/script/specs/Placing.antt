-- What a command names must be there: the models, and places that lie in the world.
use Rattle.std.specs.Prelude.{ℕ, ◌&&◌, ◌||◌, Bool, true, false, ◌==◌, nat_le, List, [], ◌∷◌, take, Option, Some, None, Result, Ok, Err, if◌then◌else◌}
use Rattle.std.specs.List.{list_all, slice_get}
use Rattle.vw_cell.specs.declared.cells.Cell.{Cell}
use Rattle.vw_cell.specs.declared.boxes.Boxed.{Boxed}
use Rattle.vw_cell.specs.declared.balls.Ball.{Ball as Round}
use Rattle.history_model.specs.Contents.{Content}
use Rattle.plain_text.specs.declared.faults.WordFault.{WordFault}
use Rattle.plain_text.specs.Steps.{◌>>=◌}
use Rattle.history_model.specs.declared.acts.Act.{Act}
use Rattle.history_model.specs.declared.acts.Act.TheVariants.{Fill, Erase, Ball, Carve, Copy, Stamp, Tint, Undo, Redo}
use Rattle.history_model.specs.declared.acts.TintAct.{TintAct}
use Rattle.history_model.specs.declared.acts.TintAct.TheVariants as tints
use Rattle.history_model.specs.Ways.{Heading}
use Rattle.history_model.specs.declared.questions.Question.{Question}
use Rattle.history_model.specs.declared.questions.Question.TheVariants.{Get, Colour, Count, Bounds, Faces, Ray}
use Rattle.script.specs.declared.commands.Command.{Command}
use Rattle.script.specs.declared.commands.Command.TheVariants.{Edit, Forget, Ask, Save, Same, Head}
use Rattle.script.specs.declared.commands.SaveName.{SaveName}
use Rattle.script.specs.declared.faults.ScriptKind.{ScriptKind}
use Rattle.script.specs.declared.faults.ScriptKind.TheVariants.{Word, Range, NoModel}
use Rattle.script.specs.Numbers.{box_in, cell_in, ball_in, way_in, is_digit}
use Rattle.script.specs.Commands.{command_spelled}
use Rattle.script.specs.Faults.{script_kind}

-- models are counted from 0
abbrev pub model_size : Option Content → Result Cell ScriptKind
model_size None = Err NoModel
model_size (Some model) = Ok model.size

-- the corner, where a model of this size lies in the world of this side with its least corner there
unfoldable pub corner_in : ℕ → Cell → Cell → Result Cell ScriptKind
corner_in side corner size = do
  there ← box_in side corner size
  Ok corner

unfoldable pub stamp_placed : ℕ → List Content → ℕ → Cell → Result Act ScriptKind
stamp_placed side models m at = do
  size ← model_size (slice_get models m)
  corner ← corner_in side at size
  Ok (Stamp m corner)

-- the place that is copied to must have room for the whole box
unfoldable pub copy_placed : ℕ → Boxed → Cell → Result Act ScriptKind
copy_placed side b to = do
  from ← box_in side b.at b.size
  there ← box_in side to b.size
  Ok (Copy from there.at)

-- a tint that a fill and a ball can give
abbrev pub tint_placed : ℕ → Result ℕ ScriptKind
tint_placed c = if nat_le 1 c && nat_le c 255 then Ok c else Err Range

unfoldable pub tint_fill_placed : ℕ → Boxed → ℕ → Result TintAct ScriptKind
tint_fill_placed side b c = do
  there ← box_in side b.at b.size
  tint ← tint_placed c
  Ok (tints.Fill there tint)

unfoldable pub tint_ball_placed : ℕ → Round → ℕ → Result TintAct ScriptKind
tint_ball_placed side ball c = do
  there ← ball_in side ball.centre ball.radius
  tint ← tint_placed c
  Ok (tints.Ball there tint)

unfoldable pub tint_copy_placed : ℕ → Boxed → Cell → Result TintAct ScriptKind
tint_copy_placed side b to = do
  from ← box_in side b.at b.size
  there ← box_in side to b.size
  Ok (tints.Copy from there.at)

unfoldable pub tint_stamp_placed : ℕ → List Content → ℕ → Cell → Result TintAct ScriptKind
tint_stamp_placed side models m at = do
  size ← model_size (slice_get models m)
  corner ← corner_in side at size
  Ok (tints.Stamp m corner)

abbrev pub tinted_placed : ℕ → List Content → TintAct → Result TintAct ScriptKind
tinted_placed side models (tints.Fill b c) = tint_fill_placed side b c
tinted_placed side models (tints.Erase b) =
    box_in side b.at b.size >>= λ there. Ok (tints.Erase there)
tinted_placed side models (tints.Ball ball c) = tint_ball_placed side ball c
tinted_placed side models (tints.Carve ball) =
    ball_in side ball.centre ball.radius >>= λ there. Ok (tints.Carve there)
tinted_placed side models (tints.Copy b to) = tint_copy_placed side b to
tinted_placed side models (tints.Stamp m at) = tint_stamp_placed side models m at

-- the act, where it lies in the world of this side and its model is one of these
abbrev pub plain_placed : ℕ → List Content → Act → Result Act ScriptKind
plain_placed side models (Fill b) = box_in side b.at b.size >>= λ there. Ok (Fill there)
plain_placed side models (Erase b) = box_in side b.at b.size >>= λ there. Ok (Erase there)
plain_placed side models (Ball ball) = ball_in side ball.centre ball.radius >>= λ there. Ok
    (Ball there)
plain_placed side models (Carve ball) = ball_in side ball.centre ball.radius >>= λ there. Ok
    (Carve there)
plain_placed side models (Copy b to) = copy_placed side b to
plain_placed side models (Stamp m at) = stamp_placed side models m at
plain_placed side models (Tint t) = Err Word
plain_placed side models Undo = Ok Undo
plain_placed side models Redo = Ok Redo

abbrev pub tint_act_placed : ℕ → List Content → Act → Result Act ScriptKind
tint_act_placed side models (Tint t) = tinted_placed side models t >>= λ there. Ok (Tint there)
tint_act_placed side models Undo = Ok Undo
tint_act_placed side models Redo = Ok Redo
tint_act_placed side models act = Err Word

-- where cells have no tints no words spell a tinted act, and where they have, none without a tint
abbrev pub act_placed : Bool → ℕ → List Content → Act → Result Act ScriptKind
act_placed false side models act = plain_placed side models act
act_placed true side models act = tint_act_placed side models act

unfoldable pub ray_placed : ℕ → Cell → Heading → Result Question ScriptKind
ray_placed side from way = do
  there ← cell_in side from
  steps ← way_in way
  Ok (Ray there steps)

abbrev pub question_placed : ℕ → Question → Result Question ScriptKind
question_placed side (Get c) = cell_in side c >>= λ there. Ok (Get there)
question_placed side (Colour c) = cell_in side c >>= λ there. Ok (Colour there)
question_placed side (Count b) = box_in side b.at b.size >>= λ there. Ok (Count there)
question_placed side (Faces b) = box_in side b.at b.size >>= λ there. Ok (Faces there)
question_placed side Bounds = Ok Bounds
question_placed side (Ray from way) = ray_placed side from way

-- letters, digits, `.`, `_` and `-`
abbrev pub is_letter : ℕ → Bool
is_letter b = (nat_le 65 b && nat_le b 90) || (nat_le 97 b && nat_le b 122)

abbrev pub is_name_byte : ℕ → Bool
is_name_byte b = is_letter b || (is_digit b || (b == 46 || (b == 95 || b == 45)))

abbrev pub begins_name : List ℕ → Bool
begins_name [] = false
begins_name (b ∷ _) = is_letter b || is_digit b

-- 1 to 64 of these, of which the first is a letter or a digit
abbrev pub is_save_name : SaveName → Bool
is_save_name name = nat_le name.len 64
    && (begins_name (take name.len name.bytes) && list_all is_name_byte (take name.len name.bytes))

-- a box that a file can have, of a name that a file can have
abbrev pub save_placed : ℕ → Option ℕ → SaveName → Boxed → Result Command ScriptKind
save_placed side version name b =
    if is_save_name name && (nat_le b.size.x 256 && (nat_le b.size.y 256 && nat_le b.size.z 256))
    then (box_in side b.at b.size >>= λ there. Ok (Save version name there)) else Err Range

-- the command, where what it names is there
abbrev pub command_placed : Bool → ℕ → List Content → Command → Result Command ScriptKind
command_placed tint side models (Edit act once) =
    act_placed tint side models act >>= λ there. Ok (Edit there once)
command_placed tint side models (Forget v) = Ok (Forget v)
command_placed tint side models (Ask version question) =
    question_placed side question >>= λ there. Ok (Ask version there)
command_placed tint side models (Save version name part) = save_placed side version name part
command_placed tint side models (Same v w) = Ok (Same v w)
command_placed tint side models Head = Ok Head

-- the faults of words are faults of a script
abbrev pub spelled : Result Command WordFault → Result Command ScriptKind
spelled (Ok command) = Ok command
spelled (Err fault) = Err (script_kind fault)

-- the command of this name with the words behind it, in a world of this side, with tints or
-- without, and with these models
unfoldable pub command_read : Bool → ℕ → List Content → List ℕ → List (List ℕ)
    → Result Command ScriptKind
command_read tint side models name words = spelled (command_spelled tint name words) >>=
    command_placed tint side models
