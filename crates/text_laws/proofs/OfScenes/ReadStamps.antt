-- The script of stamps is read as these stamps.
use Rattle.std.proofs.Common.{◌≡◌, ℕ, suc, ◌+◌, ◌-◌, ◌*◌, ◌^◌, ◌<◌, ◌≤◌, true, false, List, [], ◌∷◌, ◌++◌, length, codes, Some, Ok, refl, ap, subst, arith, append_assoc, leb, ltb}
use Rattle.std.specs.Str.{all_ascii_digits}
use Rattle.std.specs.Fmt.{decimal}
use Rattle.std.specs.Char.{is_ascii_digit}
use Rattle.std.specs.List.{list_all, slice_get, AllZip}
use Rattle.std.proofs.lemmas.Bool.{and_parts, and_from, leb-true, le-leb, le-ltb}
use Rattle.std.proofs.lemmas.Str.Parse.{IsNumeralModel, numerals_by_fold, tells_all_ascii_digits, FoldsDigits}
use Rattle.std.proofs.lemmas.Fmt.{digits_decimal, digits_value-decimal, decimal_nonempty, length-decimal-le}
use lib.Pow.{pow_mono}
use Rattle.vw_cell.specs.declared.cells.Cell.{Cell}
use Rattle.vw_cell.specs.Places.{FitsAt}
use Rattle.vox_read.specs.Contents.{Content}
use Rattle.plain_text.specs.NumberLaws.{value_from}
use Rattle.plain_text.specs.Parts.{line_of}
use Rattle.plain_text.specs.Steps.{three_words}
use Rattle.history_model.specs.declared.acts.Act.TheVariants.{Stamp}
use Rattle.history_model.specs.Spelling.{three_numbers, stamp_spelled, act_spelled, cell_list}
use Rattle.script.specs.declared.commands.Command.{Command}
use Rattle.script.specs.declared.commands.Command.TheVariants.{Edit}
use Rattle.script.specs.declared.commands.ScriptLine.{ScriptLine}
use Rattle.script.specs.Numbers.{loose, digits_from, is_digit, fits, box_in}
use Rattle.script.specs.Lines.{lines_of, is_comment}
use Rattle.script.specs.Placing.{command_read, command_placed, stamp_placed, corner_in}
use Rattle.script.specs.Commands.{command_spelled}
use Rattle.script.specs.Scripts.{Reader, command_in, line_command, within_saves, saves_after, commands_from, commands_of}
use Rattle.text_laws.specs.loads.Commands.{edit_lines}
use Rattle.text_laws.specs.loads.WordLaws.{is_inner, is_plain_word, words_parted, line_is_text, no_return, lines_parted}
use Rattle.vox_scene.specs.Written.{stamp_line, stamp_lines}
use Rattle.text_laws.specs.scenes.Building.{stamps_from, StampsAreRead}

-- ---- numbers of at most four digits

folds : FoldsDigits value_from
folds = record { empty = λ n. refl; more = λ n c cs range. refl }

own : IsNumeralModel (λ ds. all_ascii_digits ds ≡ true) (value_from 0)
own = numerals_by_fold (λ ds. all_ascii_digits ds ≡ true) tells_all_ascii_digits value_from folds

digits_read : (n m : ℕ) (ds : List ℕ) → all_ascii_digits ds ≡ true → n ≡ m
    → digits_from n ds ≡ Ok (value_from m ds)
unfolding digits_from
digits_read n m [] digits same = ap (λ (k : ℕ). Ok k) same
digits_read n m (b ∷ rest) digits same =
    let both = and_parts (is_ascii_digit b) (all_ascii_digits rest) digits in
    let here : is_digit b ≡ true = both.0 in
    let more =
    digits_read (10 * n + (b - 48)) (m * 10 + (b - 48)) rest both.1 (omega (arith, same)) in
    rw here more

inner_of : (b : ℕ) → is_ascii_digit b ≡ true → is_inner b ≡ true
inner_of b digit =
    let parts = and_parts (leb 48 b) (leb b 57) digit in
    let low = leb-true 48 b parts.0 in
    let high = leb-true b 57 parts.1 in
    and_from _ _ (le-leb 33 b (omega (arith, low))) (le-leb b 126 (omega (arith, high)))

all_inner : (ds : List ℕ) → all_ascii_digits ds ≡ true → list_all is_inner ds ≡ true
all_inner [] digits = refl
all_inner (b ∷ rest) digits =
    let both = and_parts (is_ascii_digit b) (all_ascii_digits rest) digits in
    and_from _ _ (inner_of b both.0) (all_inner rest both.1)

a_word : (ds : List ℕ) → 0 < length ds → list_all is_inner ds ≡ true → is_plain_word ds ≡ true
a_word [] some all = absurd (omega (arith, some))
a_word (b ∷ rest) some all = all

number_word : (n : ℕ) → n ≤ 4096 → is_plain_word (decimal n) ≡ true
number_word n small =
    a_word (decimal n) (decimal_nonempty n (omega (arith, small)))
    (all_inner (decimal n) (digits_decimal own n (omega (arith, small))))

number_read : (n : ℕ) → n ≤ 4096 → loose (decimal n) ≡ Some n
number_read n small =
    let some : leb 1 (length (decimal n)) ≡ true =
    le-leb 1 (length (decimal n))
    (let l = decimal_nonempty n (omega (arith, small)) in omega (arith, l)) in
    let few : leb (length (decimal n)) 9 ≡ true =
    le-leb (length (decimal n)) 9
    (let l = length-decimal-le 4 n (omega arith) (omega (arith, small))
    (omega (arith, small)) in omega (arith, l)) in
    let read : digits_from 0 (decimal n) ≡ Ok (value_from 0 (decimal n)) =
    digits_read 0 0 (decimal n) (digits_decimal own n (omega (arith, small))) refl in
    let value : value_from 0 (decimal n) ≡ n = digits_value-decimal own n (omega (arith, small)) in
    rw (some, few, read, value) refl

-- ---- one stamp

record IsShort (c : Cell) : Type 0 where
  x : c.x ≤ 4096
  y : c.y ≤ 4096
  z : c.z ≤ 4096

numbers_read : (c : Cell) → IsShort c
    → three_numbers loose (decimal c.x, decimal c.y, decimal c.z) ≡ Ok c
unfolding three_numbers
numbers_read c short =
    let x = number_read c.x short.x in
    let y = number_read c.y short.y in
    let z = number_read c.z short.z in
    rw (x, y, z) refl

abbrev stamp_words : ℕ → Cell → List (List ℕ)
stamp_words i at = decimal i ∷ cell_list at []

stamp_read : (i : ℕ) (at : Cell) → i ≤ 4096 → IsShort at
    → stamp_spelled loose (stamp_words i at) ≡ Ok (Stamp i at)
unfolding stamp_spelled three_words
stamp_read i at low short =
    let model = number_read i low in
    let place = numbers_read at short in
    rw (model, place) refl

stamp_said : (i : ℕ) (at : Cell) → i ≤ 4096 → IsShort at
    → command_spelled false (codes "stamp") (stamp_words i at) ≡ Ok (Edit (Stamp i at) false)
unfolding act_spelled
stamp_said i at low short = let read = stamp_read i at low short in rw read refl

fits_is : (side at size : ℕ) → 1 ≤ size → at + size ≤ side → fits at size side ≡ true
fits_is side at size some within =
    and_from _ _ (le-leb 1 size some) (le-leb (at + size) side within)

box_placed : (side : ℕ) (at size : Cell) → FitsAt at size side
    → box_in side at size ≡ Ok (record { at = at; size = size })
unfolding box_in
box_placed side at size in_world =
    let x = fits_is side at.x size.x in_world.x.0 in_world.x.1 in
    let y = fits_is side at.y size.y in_world.y.0 in_world.y.1 in
    let z = fits_is side at.z size.z in_world.z.0 in_world.z.1 in
    rw (x, y, z) refl

stamp_is_placed : (side : ℕ) (models : List Content) (i : ℕ) (m : Content) (at : Cell)
    → slice_get models i ≡ Some m → FitsAt at m.size side
    → stamp_placed side models i at ≡ Ok (Stamp i at)
unfolding stamp_placed corner_in
stamp_is_placed side models i m at there in_world =
    let lies = box_placed side at m.size in_world in
    rw (there, lies) refl

-- ---- lines

line_read : (read : Reader) (number : ℕ) (name : List ℕ) (ws : List (List ℕ)) (command : Command)
    → number ≤ 100000 → list_all is_plain_word (name ∷ ws) ≡ true → is_comment name ≡ false
    → read name ws ≡ Ok command
    → line_command read number (line_of (name ∷ ws)) ≡ Ok (Some command)
unfolding line_command command_in
line_read read number name ws command few all plain is =
    let in_time : ltb 100000 number ≡ false = le-ltb 100000 number few in
    let text = line_is_text (name ∷ ws) all in
    let whole = no_return (line_of (name ∷ ws)) text in
    let parted = words_parted (name ∷ ws) all in
    rw (in_time, whole, text, parted, plain, is) refl

text_read : (read : Reader) (number : ℕ) (name : List ℕ) (ws : List (List ℕ)) (command : Command)
    (rest : List ℕ) (others : List ScriptLine) → number ≤ 100000
    → list_all is_plain_word (name ∷ ws) ≡ true → is_comment name ≡ false
    → read name ws ≡ Ok command
    → within_saves 0 (Ok (Some command)) ≡ Ok (Some command) → saves_after 0 (Some command) ≡ 0
    → commands_from read 0 (number + 1) (lines_of rest) ≡ Ok others
    → commands_from read 0 number (lines_of (line_of (name ∷ ws) ++ 10 ∷ rest)) ≡ Ok
    (record { line = number; command = command } ∷ others)
unfolding commands_from
text_read read number name ws command rest others few all plain is fits none more =
    let parted = lines_parted (line_of (name ∷ ws)) rest (line_is_text (name ∷ ws) all) in
    let here = line_read read number name ws command few all plain is in
    rw (parted, here, fits, none, more) refl

abbrev reads_with : ℕ → List Content → Reader
reads_with side models = command_read false side models

command_by : (side : ℕ) (models : List Content) (name : List ℕ) (ws : List (List ℕ))
    (command placed : Command) → command_spelled false name ws ≡ Ok command
    → command_placed false side models command ≡ Ok placed
    → reads_with side models name ws ≡ Ok placed
unfolding command_read
command_by side models name ws command placed said is = rw said is

words_are : (i : ℕ) (at : Cell) → i ≤ 4096 → IsShort at
    → list_all is_plain_word (codes "stamp" ∷ stamp_words i at) ≡ true
words_are i at low short =
    and_from _ _ (number_word i low)
    (and_from _ _ (number_word at.x short.x)
    (and_from _ _ (number_word at.y short.y) (and_from _ _ (number_word at.z short.z) refl)))

line_is : (i : ℕ) (at : Cell) (rest : List ℕ)
    → line_of (codes "stamp" ∷ stamp_words i at) ++ 10 ∷ rest ≡ stamp_line i at ++ rest
line_is i at rest = simp append_assoc refl

nothing_read : (read : Reader) (number : ℕ) → commands_from read 0 number (lines_of []) ≡ Ok []
unfolding commands_from lines_of
nothing_read read number = refl

short_of : (side : ℕ) (at size : Cell) → side ≤ 4096 → FitsAt at size side → IsShort at
short_of side at size low in_world = record {
  x = (let f = in_world.x in omega (arith, f.1, low));
  y = (let f = in_world.y in omega (arith, f.1, low));
  z = (let f = in_world.z in omega (arith, f.1, low));
}

stamp_taken : (side : ℕ) (models : List Content) (i : ℕ) (m : Content) (at : Cell)
    (rest : List ℕ) (others : List ScriptLine) → side ≤ 4096 → i ≤ 1024
    → slice_get models i ≡ Some m → FitsAt at m.size side
    → commands_from (reads_with side models) 0 (i + 1 + 1) (lines_of rest) ≡ Ok others
    → commands_from (reads_with side models) 0 (i + 1) (lines_of (stamp_line i at ++ rest)) ≡ Ok
    (record { line = i + 1; command = Edit (Stamp i at) false } ∷ others)
stamp_taken side models i m at rest others low few there in_world more =
    let short = short_of side at m.size low in_world in
    let lies = stamp_is_placed side models i m at there in_world in
    let read =
    command_by side models (codes "stamp") (stamp_words i at) (Edit (Stamp i at) false)
    (Edit (Stamp i at) false) (stamp_said i at (omega (arith, few)) short) (rw lies refl) in
    subst (λ (t : List ℕ). commands_from (reads_with side models) 0 (i + 1) (lines_of t)
    ≡ Ok (record { line = i + 1; command = Edit (Stamp i at) false } ∷ others)) (line_is i at rest)
    (text_read (reads_with side models) (i + 1) (codes "stamp") (stamp_words i at)
    (Edit (Stamp i at) false) rest others (omega (arith, few))
    (words_are i at (omega (arith, few)) short) refl read refl refl more)

-- ---- all of them

-- the models from number i on
abbrev pub Numbered : List Content → ℕ → List Content → Type 0
Numbered all i models =
    (k : ℕ) (m : Content) → slice_get models k ≡ Some m → slice_get all (i + k) ≡ Some m

pub later : (all : List Content) (i : ℕ) (m : Content) (models : List Content)
    → Numbered all i (m ∷ models) → Numbered all (i + 1) models
later all i m models are k n is =
    subst (λ (j : ℕ). slice_get all j ≡ Some n) (omega arith) (are (suc k) n is)

pub first_of : (all : List Content) (i : ℕ) (m : Content) (models : List Content)
    → Numbered all i (m ∷ models) → slice_get all i ≡ Some m
first_of all i m models are =
    subst (λ (j : ℕ). slice_get all j ≡ Some m) (omega arith) (are 0 m refl)

stamps_taken : (side : ℕ) (all : List Content) (i : ℕ) (models : List Content) (places : List Cell)
    → side ≤ 4096 → i + length models ≤ 1024 → Numbered all i models
    → AllZip (λ m at. FitsAt at m.size side) models places
    → commands_from (reads_with side all) 0 (i + 1) (lines_of (stamp_lines i places))
    ≡ Ok (edit_lines (i + 1) (stamps_from i places))
stamps_taken side all i [] [] low few are fit = nothing_read (reads_with side all) (i + 1)
stamps_taken side all i [] (at ∷ places) low few are fit = absurd fit
stamps_taken side all i (m ∷ models) [] low few are fit = absurd fit
stamps_taken side all i (m ∷ models) (at ∷ places) low few are fit =
    stamp_taken side all i m at (stamp_lines (i + 1) places)
    (edit_lines (i + 1 + 1) (stamps_from (i + 1) places)) low (omega (arith, few))
    (first_of all i m models are) fit.0
    (stamps_taken side all (i + 1) models places low (omega (arith, few))
    (later all i m models are) fit.1)

pub all_numbered : (models : List Content) → Numbered models 0 models
all_numbered models k m is = subst (λ (j : ℕ). slice_get models j ≡ Some m) (omega arith) is

pub stamps_read : StampsAreRead
unfolding commands_of
stamps_read side models places low few fit =
    let high : 2 ^ side ≤ 2 ^ 12 = pow_mono low in
    stamps_taken (2 ^ side) models 0 models places (omega (arith, high)) (omega (arith, few))
    (all_numbered models) fit
