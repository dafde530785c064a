-- The words of a run, part after part: its operands, its options with their values, and its flag.
use Rattle.std.specs.Prelude.{ℕ, ◌+◌, ◌==◌, ◌&&◌, Bool, true, false, not, nat_le, if◌then◌else◌, List, [], ◌∷◌, length, slice_get, Option, codes}
use Rattle.std.specs.List.{list_all, list_any, before_first, after_first}
use Rattle.std.specs.Str.{bytes_eq}

-- an operand, or an option's value as a word of its own: not empty, and it doesn't begin with `-`
abbrev pub is_operand : List ℕ → Bool
is_operand [] = false
is_operand (first ∷ others) = not (first == 45)

abbrev pub options : List (List ℕ)
options =
    codes "--side" ∷ codes "--buckets" ∷ codes "--cap" ∷ codes "--keep"
    ∷ codes "--journal" ∷ codes "--report" ∷ []

abbrev pub is_option : List ℕ → Bool
is_option word = list_any (λ option. bytes_eq option word) options

-- the flag: a word of its own, without a value
abbrev pub is_flag : List ℕ → Bool
is_flag word = bytes_eq (codes "--colours") word

-- what one or two words are: an operand, an option with its value, the flag, or a word that has no
-- place
pub data Part : Type 0 where
  Operand : List ℕ → Part
  Gives : List ℕ → List ℕ → Part
  Colours : Part
  NoPart : Part

-- an option, and the word behind it
abbrev pub option_with : List ℕ → List ℕ → Part
option_with option value = if is_operand value then Gives option value else NoPart

-- `option=value`: what stands before the first `=`, and what stands behind it
abbrev pub behind_equals : List ℕ → List ℕ → Part
behind_equals option [] = NoPart
behind_equals option (first ∷ others) =
    if is_option option then Gives option (first ∷ others) else NoPart

-- a word that is no option's name
abbrev pub word_alone : List ℕ → Part
word_alone word = if is_operand word then Operand word
    else (if is_flag word then Colours
    else behind_equals (before_first (λ b. b == 61) word) (after_first (λ b. b == 61) word))

-- the parts of the words
abbrev pub parts_of : List (List ℕ) → List Part
parts_of [] = []
parts_of (word ∷ []) = (if is_option word then NoPart else word_alone word) ∷ []
parts_of (word ∷ next ∷ others) =
    if is_option word then option_with word next ∷ parts_of others
    else word_alone word ∷ parts_of (next ∷ others)

abbrev pub is_part : Part → Bool
is_part NoPart = false
is_part _ = true

-- the operands among parts, in their order
abbrev pub operands_in : List Part → List (List ℕ)
operands_in [] = []
operands_in (Operand text ∷ parts) = text ∷ operands_in parts
operands_in (_ ∷ parts) = operands_in parts

-- how many times the flag stands among parts
abbrev pub flags_in : List Part → ℕ
flags_in [] = 0
flags_in (Colours ∷ parts) = flags_in parts + 1
flags_in (_ ∷ parts) = flags_in parts

-- the values that an option is given, in their order
abbrev pub values_in : List ℕ → List Part → List (List ℕ)
values_in option [] = []
values_in option (Gives name value ∷ parts) =
    if bytes_eq name option then value ∷ values_in option parts else values_in option parts
values_in option (_ ∷ parts) = values_in option parts

abbrev pub value_in : List ℕ → List Part → Option (List ℕ)
value_in option parts = slice_get (values_in option parts) 0

abbrev pub is_given_once : List Part → List ℕ → Bool
is_given_once parts option = nat_le (length (values_in option parts)) 1

-- the texts of a run's words: the value that each option is given, whether the flag stands there,
-- and the operands
pub record LineTexts : Type 0 where
  pub side : Option (List ℕ)
  pub buckets : Option (List ℕ)
  pub cap : Option (List ℕ)
  pub keep : Option (List ℕ)
  pub journal : Option (List ℕ)
  pub report : Option (List ℕ)
  pub colours : Bool
  pub operands : List (List ℕ)

abbrev pub line_texts : List Part → LineTexts
line_texts parts = record {
  side = value_in (codes "--side") parts;
  buckets = value_in (codes "--buckets") parts;
  cap = value_in (codes "--cap") parts;
  keep = value_in (codes "--keep") parts;
  journal = value_in (codes "--journal") parts;
  report = value_in (codes "--report") parts;
  colours = nat_le 1 (flags_in parts);
  operands = operands_in parts;
}

-- `FILE SCRIPT ..`, with 1 to 64 scripts
abbrev pub is_number_of_operands : ℕ → Bool
is_number_of_operands n = nat_le 2 n && nat_le n 65

-- each word has its place, no option is given twice, the flag stands there once at most, and the
-- operands are as many as a run has
abbrev pub are_of_a_run : List Part → Bool
are_of_a_run parts =
    list_all is_part parts
    && (list_all (is_given_once parts) options
    && (nat_le (flags_in parts) 1 && is_number_of_operands (length (operands_in parts))))
