-- The scripts of a load are read as its commands.
use Rattle.std.proofs.Common.{◌≡◌, ℕ, zero, suc, ◌+◌, ◌*◌, ◌≤◌, true, false, List, [], ◌∷◌, ◌++◌, length, codes, Some, None, Ok, refl, sym, ap, subst, ◌∙◌, arith, append_assoc, ltb}
use Rattle.std.specs.Prelude.{All}
use Rattle.std.specs.List.{list_all, flat_map}
use Rattle.std.specs.Fmt.{decimal}
use Rattle.std.proofs.lemmas.Bool.{and_from, le-leb, lt-ltb, le-ltb}
use Rattle.std.proofs.lemmas.List.{length_push}
use Rattle.std.proofs.lemmas.List.Elements.{All-head, All-tail}
use Rattle.std.proofs.lemmas.Fmt.{decimal_digit, decimal_step}
use Rattle.std.specs.Int.{abs_diff}
use Rattle.vw_cell.specs.declared.cells.Cell.{Cell}
use Rattle.vw_cell.specs.declared.boxes.Boxed.{Boxed}
use Rattle.vw_cell.specs.declared.balls.Ball as ball
use Rattle.vw_cell.specs.Places.{FitsAt}
use Rattle.history_model.specs.Contents.{Content}
use Rattle.plain_text.specs.Parts.{line_of}
use Rattle.plain_text.specs.Steps.{three_words}
use Rattle.history_model.specs.declared.acts.Act.{Act}
use Rattle.history_model.specs.declared.acts.Act.TheVariants.{Fill, Erase, Ball, Carve, Copy, Stamp, Tint, Undo, Redo}
use Rattle.history_model.specs.declared.questions.Question.TheVariants.{Count}
use Rattle.history_model.specs.Journal.{act_words}
use Rattle.history_model.specs.Spelling.{three_numbers, box_spelled, ball_spelled, stamp_spelled, act_spelled, cell_list, box_list, ball_list, act_list}
use Rattle.script.specs.declared.commands.Command.{Command}
use Rattle.script.specs.declared.commands.Command.TheVariants.{Edit, Ask}
use Rattle.script.specs.declared.commands.ScriptLine.{ScriptLine}
use Rattle.script.specs.Numbers.{loose, fits, box_in, ball_in}
use Rattle.script.specs.Lines.{lines_of, is_comment}
use Rattle.script.specs.Placing.{command_read, command_placed, stamp_placed, corner_in}
use Rattle.script.specs.Commands.{command_spelled, question_rows}
use Rattle.script.specs.Scripts.{Reader, command_in, line_command, within_saves, saves_after, commands_from, commands_of}
use Rattle.gen_load.specs.Loads.{edit_from, line_state, edits_from, edit_line, region_line, script_from}
use Rattle.gen_load.specs.Regions.{BoxLiesIn, BallLiesIn, EditLiesIn, stamped_box}
use Rattle.gen_load.specs.RegionLaws.{edits_lie_in_regions}
use Rattle.text_laws.specs.loads.Commands.{edit_lines, region_box, commands_drawn}
use Rattle.text_laws.specs.loads.WordLaws.{is_plain_word, words_parted, line_is_text, no_return, lines_parted}
use Rattle.text_laws.specs.loads.NumberLaws.{number_word, number_read}

-- ---- words

record IsShort (c : Cell) : Type 0 where
  x : c.x ≤ 256
  y : c.y ≤ 256
  z : c.z ≤ 256

cell_words_are : (c : Cell) (more : List (List ℕ)) → IsShort c → list_all is_plain_word more ≡ true
    → list_all is_plain_word (cell_list c more) ≡ true
cell_words_are c more short all =
    and_from _ _ (number_word c.x short.x)
    (and_from _ _ (number_word c.y short.y) (and_from _ _ (number_word c.z short.z) all))

box_words_are : (b : Boxed) → IsShort b.at → IsShort b.size
    → list_all is_plain_word (box_list b []) ≡ true
box_words_are b at size =
    cell_words_are b.at (cell_list b.size []) at (cell_words_are b.size [] size refl)

numbers_read : (c : Cell) → IsShort c
    → three_numbers loose (decimal c.x, decimal c.y, decimal c.z) ≡ Ok c
unfolding three_numbers
numbers_read c short =
    let x = number_read c.x short.x in
    let y = number_read c.y short.y in
    let z = number_read c.z short.z in
    rw (x, y, z) refl

box_read : (b : Boxed) → IsShort b.at → IsShort b.size → box_spelled loose (box_list b []) ≡ Ok b
unfolding box_spelled three_words
box_read b at size =
    let corner = numbers_read b.at at in
    let extent = numbers_read b.size size in
    rw (corner, extent) refl

ball_read : (b : ball.Ball) → IsShort b.centre → b.radius ≤ 256
    → ball_spelled loose (ball_list b) ≡ Ok b
unfolding ball_spelled three_words
ball_read b centre radius =
    let middle = numbers_read b.centre centre in
    let size = number_read b.radius radius in
    rw (middle, size) refl

stamp_read : (at : Cell) → IsShort at
    → stamp_spelled loose (decimal 0 ∷ cell_list at []) ≡ Ok (Stamp 0 at)
unfolding stamp_spelled three_words
stamp_read at short =
    let model = number_read 0 (omega arith) in
    let place = numbers_read at short in
    rw (model, place) refl

-- ---- places

fits_is : (at size : ℕ) → 1 ≤ size → at + size ≤ 256 → fits at size 256 ≡ true
fits_is at size some within = and_from _ _ (le-leb 1 size some) (le-leb (at + size) 256 within)

box_placed : (b : Boxed) → FitsAt b.at b.size 256 → box_in 256 b.at b.size ≡ Ok b
unfolding box_in
box_placed b in_world =
    let x = fits_is b.at.x b.size.x in_world.x.0 in_world.x.1 in
    let y = fits_is b.at.y b.size.y in_world.y.0 in_world.y.1 in
    let z = fits_is b.at.z b.size.z in_world.z.0 in_world.z.1 in
    rw (x, y, z) refl

ball_placed : (x : ℕ) (b : ball.Ball) → BallLiesIn x b → ball_in 256 b.centre b.radius ≡ Ok b
unfolding ball_in
ball_placed x b lies =
    let of_x = lt-ltb b.centre.x 256 lies.centre.x in
    let of_y = lt-ltb b.centre.y 256 lies.centre.y in
    let of_z = lt-ltb b.centre.z 256 lies.centre.z in
    let size = le-leb b.radius 4095 lies.radius in
    rw (of_x, of_y, of_z, size) refl

-- ---- lines

-- a line of words whose first is no comment's is read as its command
line_read : (read : Reader) (number : ℕ) (name : List ℕ) (ws : List (List ℕ)) (command : Command)
    → number ≤ 100000 → list_all is_plain_word (name ∷ ws) ≡ true → is_comment name ≡ false
    → read name ws ≡ Ok command
    → line_command read number (line_of (name ∷ ws)) ≡ Ok (Some command)
unfolding line_command command_in
line_read read number name ws command few all plain is =
    let in_time : ltb 100000 number ≡ false = le-ltb 100000 number few in
    let text = line_is_text (name ∷ ws) all in
    let whole = no_return (line_of (name ∷ ws)) text in
    let parted = words_parted (name ∷ ws) all in
    rw (in_time, whole, text, parted, plain, is) refl

-- so is a text that begins with such a line
text_read : (read : Reader) (number : ℕ) (name : List ℕ) (ws : List (List ℕ)) (command : Command)
    (rest : List ℕ) (others : List ScriptLine) → number ≤ 100000
    → list_all is_plain_word (name ∷ ws) ≡ true → is_comment name ≡ false
    → read name ws ≡ Ok command
    → within_saves 0 (Ok (Some command)) ≡ Ok (Some command) → saves_after 0 (Some command) ≡ 0
    → commands_from read 0 (number + 1) (lines_of rest) ≡ Ok others
    → commands_from read 0 number (lines_of (line_of (name ∷ ws) ++ 10 ∷ rest)) ≡ Ok
    (record { line = number; command = command } ∷ others)
unfolding commands_from
text_read read number name ws command rest others few all plain is fits none more =
    let parted = lines_parted (line_of (name ∷ ws)) rest (line_is_text (name ∷ ws) all) in
    let here = line_read read number name ws command few all plain is in
    rw (parted, here, fits, none, more) refl

-- ---- commands

-- how the load's scripts are read: all commands that are built, side 256, the load's model
abbrev reads_with : Content → Reader
reads_with model = command_read false 256 (model ∷ [])

command_by : (model : Content) (name : List ℕ) (ws : List (List ℕ)) (command placed : Command)
    → command_spelled false name ws ≡ Ok command
    → command_placed false 256 (model ∷ []) command ≡ Ok placed
    → reads_with model name ws ≡ Ok placed
unfolding command_read
command_by model name ws command placed said is = rw said is

box_short : (x : ℕ) (b : Boxed) → BoxLiesIn x b → IsShort b.at × IsShort b.size
box_short x b lies =
    let fx = lies.fits.x in
    let fy = lies.fits.y in
    let fz = lies.fits.z in (
      record {
        x = omega (arith, fx.0, fx.1);
        y = omega (arith, fy.0, fy.1);
        z = omega
            (arith, fz.0, fz.1);
      },
      record {
        x = omega (arith, fx.0, fx.1);
        y = omega (arith, fy.0, fy.1);
        z = omega
            (arith, fz.0, fz.1);
      },
    )

centre_short : (x : ℕ) (b : ball.Ball) → BallLiesIn x b → IsShort b.centre
centre_short x b lies =
    let cx = lies.centre.x in
    let cy = lies.centre.y in
    let cz = lies.centre.z in
    record { x = omega (arith, cx); y = omega (arith, cy); z = omega (arith, cz) }

fill_said : (b : Boxed) → IsShort b.at → IsShort b.size
    → command_spelled false (codes "fill") (box_list b []) ≡ Ok (Edit (Fill b) false)
unfolding act_spelled
fill_said b at size = let read = box_read b at size in rw read refl

erase_said : (b : Boxed) → IsShort b.at → IsShort b.size
    → command_spelled false (codes "erase") (box_list b []) ≡ Ok (Edit (Erase b) false)
unfolding act_spelled
erase_said b at size = let read = box_read b at size in rw read refl

ball_said : (b : ball.Ball) → IsShort b.centre → b.radius ≤ 256
    → command_spelled false (codes "ball") (ball_list b) ≡ Ok (Edit (Ball b) false)
unfolding act_spelled
ball_said b centre radius = let read = ball_read b centre radius in rw read refl

stamp_said : (at : Cell) → IsShort at
    → command_spelled false (codes "stamp") (decimal 0 ∷ cell_list at []) ≡ Ok
    (Edit (Stamp 0 at) false)
unfolding act_spelled
stamp_said at short = let read = stamp_read at short in rw read refl

count_said : (b : Boxed) → IsShort b.at → IsShort b.size
    → command_spelled false (codes "count") (box_list b []) ≡ Ok (Ask None (Count b))
unfolding question_rows
count_said b at size = let read = box_read b at size in rw read refl

stamp_is_placed : (model : Content) (at : Cell) → model.size ≡ record { x = 32; y = 32; z = 32 }
    → FitsAt at (record { x = 32; y = 32; z = 32 }) 256
    → stamp_placed 256 (model ∷ []) 0 at ≡ Ok (Stamp 0 at)
unfolding stamp_placed corner_in
stamp_is_placed model at size in_world =
    let there = box_placed (stamped_box at) in_world in
    rw (size, there) refl

-- the cell furthest from the centre along x is one of the ball's
sum_is : (a b c r : ℕ) → a ≡ r → b ≡ 0 → c ≡ 0 → a * a + b * b + c * c ≤ r * r
sum_is a b c r of_a of_b of_c = rw (of_a, of_b, of_c) (omega arith)

radius_short : (x : ℕ) (b : ball.Ball) → BallLiesIn x b → b.radius ≤ 256
radius_short x b lies =
    let far : Cell = record { x = b.centre.x + b.radius; y = b.centre.y; z = b.centre.z } in
    let near =
    sum_is (abs_diff b.centre.x (b.centre.x + b.radius)) (abs_diff b.centre.y b.centre.y)
    (abs_diff b.centre.z b.centre.z) b.radius (omega arith) (omega arith) (omega arith) in
    let region = lies.each far (record { near = near }) in
    let inside = region.world.x in
    omega (arith, inside)

-- ---- texts

-- a line and what stands behind it, said by its words
text_as : (read : Reader) (number : ℕ) (ws : List (List ℕ)) (line rest : List ℕ)
    (all : List ScriptLine) → line_of ws ≡ line
    → commands_from read 0 number (lines_of (line_of ws ++ 10 ∷ rest)) ≡ Ok all
    → commands_from read 0 number (lines_of (line ++ 10 ∷ rest)) ≡ Ok all
text_as read number ws line rest all same is =
    subst (λ (text : List ℕ). commands_from read 0 number (lines_of (text ++ 10 ∷ rest))
    ≡ Ok all) same is

edit_read : (model : Content) (x number : ℕ) (act : Act) (rest : List ℕ) (others : List ScriptLine)
    → model.size ≡ record { x = 32; y = 32; z = 32 } → number ≤ 100000 → EditLiesIn x act
    → commands_from (reads_with model) 0 (number + 1) (lines_of rest) ≡ Ok others
    → commands_from (reads_with model) 0 number (lines_of (act_words act ++ 10 ∷ rest)) ≡ Ok
    (record { line = number; command = Edit act false } ∷ others)
edit_read model x number (Fill b) rest others size few lies more =
    let short = box_short x b lies in
    let there = box_placed b lies.fits in
    let read =
    command_by model (codes "fill") (box_list b []) (Edit (Fill b) false) (Edit (Fill b) false)
    (fill_said b short.0 short.1) (rw there refl) in
    text_as (reads_with model) number (act_list (Fill b)) (act_words (Fill b)) rest _
    (simp append_assoc refl)
    (text_read (reads_with model) number (codes "fill") (box_list b []) (Edit (Fill b) false) rest
    others few (box_words_are b short.0 short.1) refl read refl refl more)
edit_read model x number (Erase b) rest others size few lies more =
    let short = box_short x b lies in
    let there = box_placed b lies.fits in
    let read =
    command_by model (codes "erase") (box_list b []) (Edit (Erase b) false)
    (Edit (Erase b) false) (erase_said b short.0 short.1) (rw there refl) in
    text_as (reads_with model) number (act_list (Erase b)) (act_words (Erase b)) rest _
    (simp append_assoc refl)
    (text_read (reads_with model) number (codes "erase") (box_list b []) (Edit (Erase b) false) rest
    others few (box_words_are b short.0 short.1) refl read refl refl more)
edit_read model x number (Ball b) rest others size few lies more =
    let short = centre_short x b lies in
    let radius = radius_short x b lies in
    let there = ball_placed x b lies in
    let read =
    command_by model (codes "ball") (ball_list b) (Edit (Ball b) false) (Edit (Ball b) false)
    (ball_said b short radius) (rw there refl) in
    text_as (reads_with model) number (act_list (Ball b)) (act_words (Ball b)) rest _
    (simp append_assoc refl)
    (text_read (reads_with model) number (codes "ball") (ball_list b) (Edit (Ball b) false) rest
    others few (cell_words_are b.centre (decimal b.radius ∷ []) short
    (and_from _ _ (number_word b.radius radius) refl)) refl read refl refl more)
edit_read model x number (Stamp m at) rest others size few (zero_is, lies) more =
    let short = (box_short x (stamped_box at) lies).0 in
    let there = stamp_is_placed model at size lies.fits in
    let read =
    command_by model (codes "stamp") (decimal 0 ∷ cell_list at []) (Edit (Stamp 0 at) false)
    (Edit (Stamp 0 at) false) (stamp_said at short) (rw there refl) in
    let whole =
    text_read (reads_with model) number (codes "stamp") (decimal 0 ∷ cell_list at [])
    (Edit (Stamp 0 at) false) rest others few
    (and_from _ _ (number_word 0 (omega arith))
    (cell_words_are at [] short refl)) refl read refl refl more in
    subst (λ (k : ℕ). commands_from (reads_with model) 0 number
    (lines_of (act_words (Stamp k at) ++ 10 ∷ rest))
    ≡ Ok (record { line = number; command = Edit (Stamp k at) false } ∷ others))
    (sym zero_is) whole
edit_read model x number (Carve b) rest others size few lies more = absurd lies
edit_read model x number (Copy b to) rest others size few lies more = absurd lies
edit_read model x number (Tint t) rest others size few lies more = absurd lies
edit_read model x number Undo rest others size few lies more = absurd lies
edit_read model x number Redo rest others size few lies more = absurd lies

edits_read : (model : Content) (x number : ℕ) (acts : List Act) (rest : List ℕ)
    (others : List ScriptLine) → model.size ≡ record { x = 32; y = 32; z = 32 }
    → number + length acts ≤ 100000 → All (EditLiesIn x) acts
    → commands_from (reads_with model) 0 (number + length acts) (lines_of rest) ≡ Ok others
    → commands_from (reads_with model) 0 number (lines_of (flat_map edit_line acts ++ rest)) ≡ Ok
    (edit_lines number acts ++ others)
edits_read model x number [] rest others size few lie more =
    let none : number + length {A = Act} [] ≡ number = omega arith in
    subst (λ (n : ℕ). commands_from (reads_with model) 0 n (lines_of rest) ≡ Ok others) none more
edits_read model x number (act ∷ acts) rest others size few lie more =
    let next : number + length (act ∷ acts) ≡ number + 1 + length acts = omega arith in
    let behind =
    edits_read model x (number + 1) acts rest others size (omega (arith, few))
    (All-tail (EditLiesIn x) act acts lie)
    (subst (λ (n : ℕ). commands_from (reads_with model) 0 n (lines_of rest) ≡ Ok others) next
    more) in
    let text : act_words act ++ 10 ∷ (flat_map edit_line acts ++ rest)
    ≡ flat_map edit_line (act ∷ acts) ++ rest = simp append_assoc refl in
    subst (λ (t : List ℕ). commands_from (reads_with model) 0 number (lines_of t)
    ≡ Ok (edit_lines number (act ∷ acts) ++ others)) text
    (edit_read model x number act (flat_map edit_line acts ++ rest)
    (edit_lines (number + 1) acts ++ others) size (omega (arith, few))
    (All-head (EditLiesIn x) act acts lie) behind)

-- ---- the question at the end

digits_of_0 : decimal 0 ≡ codes "0"
digits_of_0 = decimal_digit 0 (omega arith)

digits_of_64 : decimal 64 ≡ codes "64"
digits_of_64 =
    decimal_step 64 (omega arith) (omega arith)
    ∙ ap (λ (ds : List ℕ). ds ++ 52 ∷ []) (decimal_digit 6 (omega arith))

digits_of_25 : decimal 25 ≡ codes "25"
digits_of_25 =
    decimal_step 25 (omega arith) (omega arith)
    ∙ ap (λ (ds : List ℕ). ds ++ 53 ∷ []) (decimal_digit 2 (omega arith))

digits_of_256 : decimal 256 ≡ codes "256"
digits_of_256 =
    decimal_step 256 (omega arith) (omega arith) ∙ ap (λ (ds : List ℕ). ds ++ 54 ∷ []) digits_of_25

region_words : (x : ℕ)
    → line_of (codes "count" ∷ box_list (region_box x) []) ++ 10 ∷ [] ≡ region_line x
region_words x = rw (digits_of_0, digits_of_64, digits_of_256)
    (ap (λ (text : List ℕ). codes "count " ++ text)
    (append_assoc (decimal x) (codes " 0 0 64 256 256") (codes "\n")))

nothing_read : (read : Reader) (number : ℕ) → commands_from read 0 number (lines_of []) ≡ Ok []
unfolding commands_from lines_of
nothing_read read number = refl

region_read : (model : Content) (x : ℕ) → x ≤ 192
    → commands_from (reads_with model) 0 201 (lines_of (region_line x)) ≡ Ok
    (record { line = 201; command = Ask None (Count (region_box x)) } ∷ [])
region_read model x low =
    let b : Boxed = region_box x in
    let at : IsShort b.at = record { x = omega (arith, low); y = omega arith; z = omega arith } in
    let size : IsShort b.size = record { x = omega arith; y = omega arith; z = omega arith } in
    let there =
    box_placed b
    (record {
      x = (omega arith, omega (arith, low));
      y = (omega arith, omega arith);
      z = (omega arith, omega arith);
    }) in
    let read =
    command_by model (codes "count") (box_list b []) (Ask None (Count b)) (Ask None (Count b))
    (count_said b at size) (rw there refl) in
    subst (λ (text : List ℕ). commands_from (reads_with model) 0 201 (lines_of text)
    ≡ Ok (record { line = 201; command = Ask None (Count b) } ∷ [])) (region_words x)
    (text_read (reads_with model) 201 (codes "count") (box_list b []) (Ask None (Count b)) [] []
    (omega arith) (box_words_are b at size) refl read refl refl
    (nothing_read (reads_with model) 202))

edits_number : (g x k : ℕ) → length (edits_from g x k) ≡ k
unfolding edits_from
edits_number g x zero = refl
edits_number g x (suc k) =
    let before = edits_number g x k in let more = length_push (edits_from g x k)
    (edit_from (line_state g k) x) in omega (arith, before, more)

-- a script is read as its edits and its question, in a world of side 256 with one model of the
-- load's size
abbrev pub ScriptsAreRead : Type 0
ScriptsAreRead =
    (g x : ℕ) (model : Content) → model.size ≡ record { x = 32; y = 32; z = 32 } → x ≤ 192
    → commands_of false 8 (model ∷ []) (script_from g x) ≡ Ok (commands_drawn g x)

pub scripts_are_read : ScriptsAreRead
unfolding commands_of
scripts_are_read g x model size low =
    let acts : List Act = edits_from g x 200 in
    let number : 1 + length acts ≡ 201 = (let l = edits_number g x 200 in omega (arith, l)) in
    let last =
    subst (λ (n : ℕ). commands_from (reads_with model) 0 n (lines_of (region_line x))
    ≡ Ok (record { line = 201; command = Ask None (Count (region_box x)) } ∷ []))
    (sym number) (region_read model x low) in
    edits_read model x 1 acts (region_line x)
    (record { line = 201; command = Ask None (Count (region_box x)) } ∷ []) size
    (omega (arith, number)) (edits_lie_in_regions g x 200 low) last
