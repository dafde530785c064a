-- Which row reads a command, by its name.
use Rattle.std.proofs.Common.{◌≡◌, ℕ, Bool, true, false, ◌||◌, cond, List, [], ◌∷◌, ◌++◌, map, Result, Err, refl, sym, ap, ◌∙◌, subst}
use Rattle.std.specs.Prelude.{codes}
use Rattle.std.specs.Str.{bytes_eq}
use Rattle.std.proofs.lemmas.Slice.Eq.{bytes_eq-Decides}
use Rattle.plain_text.specs.declared.faults.WordFault.{WordFault}
use Rattle.plain_text.specs.declared.faults.WordFault.TheVariants.{Word}
use Rattle.plain_text.specs.Steps.{Gives}
use Rattle.script.specs.declared.commands.Command.{Command}
use Rattle.script.specs.declared.said.SpelledCommand.{SpelledCommand}
use Rattle.script.specs.Commands.{CommandRow, change_row, tried_rows, change_names, all_change_names, question_rows, other_rows, command_read_by, save_spelled, command_spelled, is_among, is_row}
use Rattle.script.specs.Said.{command_said}

same_bytes : (a b : List ℕ) → bytes_eq a b ≡ true → a ≡ b
same_bytes a b same = (bytes_eq-Decides a b).0 same

-- ---- rows before others

first_of : (r : CommandRow) (others more : Result Command WordFault) (name : List ℕ)
    (words : List (List ℕ)) (test : Bool) → bytes_eq name r.name ≡ test
    → (test ≡ false → others ≡ more)
    → cond test (r.read words) others ≡ cond test (r.read words) more
first_of r others more name words true is rest = refl
first_of r others more name words false is rest = rest refl

-- one of the rows has the name
rows_found : (first rest : List CommandRow) (other : Result Command WordFault) (name : List ℕ)
    (words : List (List ℕ)) → is_row first name ≡ true
    → command_read_by (first ++ rest) other name words ≡ command_read_by first other name words
rows_found [] rest other name words is = absurd cc
rows_found (r ∷ first) rest other name words is =
    first_of r (command_read_by (first ++ rest) other name words)
    (command_read_by first other name words) name words (bytes_eq name r.name) refl
    (λ no. rows_found first rest other name words
    (sym (ap (λ (b : Bool). b || is_row first name) no) ∙ is))

other_than : (r : CommandRow) (others : Result Command WordFault) (more : Result Command WordFault)
    (name : List ℕ) (words : List (List ℕ)) (test : Bool) (rest : Bool)
    → bytes_eq name r.name ≡ test
    → (test || rest) ≡ false → (rest ≡ false → others ≡ more)
    → cond test (r.read words) others ≡ more
other_than r others more name words true rest is none later = absurd cc
other_than r others more name words false rest is none later = later none

-- none of them has it
rows_passed : (first rest : List CommandRow) (other : Result Command WordFault) (name : List ℕ)
    (words : List (List ℕ)) → is_row first name ≡ false
    → command_read_by (first ++ rest) other name words ≡ command_read_by rest other name words
rows_passed [] rest other name words is = refl
rows_passed (r ∷ first) rest other name words is =
    other_than r (command_read_by (first ++ rest) other name words)
    (command_read_by rest other name words) name words (bytes_eq name r.name)
    (is_row first name) refl is (rows_passed first rest other name words)

-- the row of a change reads it by its name
change_by : (tint once : Bool) (known : List ℕ) (rest : Result Command WordFault) (name : List ℕ)
    (words : List (List ℕ)) (test : Bool) → bytes_eq name known ≡ test
    → (test ≡ false → rest ≡ (change_row tint once name).read words)
    → cond test ((change_row tint once known).read words) rest
    ≡ (change_row tint once name).read words
change_by tint once known rest name words true is later =
    ap (λ (n : List ℕ). (change_row tint once n).read words) (sym (same_bytes name known is))
change_by tint once known rest name words false is later = later refl

changes_found : (tint once : Bool) (names : List (List ℕ)) (rest : List CommandRow)
    (other : Result Command WordFault) (name : List ℕ) (words : List (List ℕ))
    → is_among names name ≡ true
    → command_read_by (map (change_row tint once) names ++ rest) other name words
    ≡ (change_row tint once name).read words
changes_found tint once [] rest other name words is = absurd cc
changes_found tint once (known ∷ names) rest other name words is =
    change_by tint once known
    (command_read_by (map (change_row tint once) names ++ rest) other name words) name words
    (bytes_eq name known) refl
    (λ no. changes_found tint once names rest other name words
    (sym (ap (λ (b : Bool). b || is_among names name) no) ∙ is))

changes_passed : (tint once : Bool) (names : List (List ℕ)) (rest : List CommandRow)
    (other : Result Command WordFault) (name : List ℕ) (words : List (List ℕ))
    → is_among names name ≡ false
    → command_read_by (map (change_row tint once) names ++ rest) other name words
    ≡ command_read_by rest other name words
changes_passed tint once [] rest other name words is = refl
changes_passed tint once (known ∷ names) rest other name words is =
    other_than (change_row tint once known)
    (command_read_by (map (change_row tint once) names ++ rest) other name words)
    (command_read_by rest other name words) name words (bytes_eq name known)
    (is_among names name) refl is
    (changes_passed tint once names rest other name words)

-- ---- all rows

abbrev asked : Bool → List ℕ → List (List ℕ) → Result Command WordFault
asked tint name words = command_read_by (question_rows tint) (Err Word) name words

abbrev others : Bool → List ℕ → List (List ℕ) → Result Command WordFault
others tint name words = command_read_by (other_rows tint) (Err Word) name words

-- what was said, where two readings are one
said_so : (tint : Bool) (read : Result SpelledCommand WordFault) (one two : Result Command WordFault)
    → one ≡ two → Gives (command_said tint) read one → Gives (command_said tint) read two
said_so tint read one two same gives =
    subst (λ (r : Result Command WordFault). Gives (command_said tint) read r) same gives

pub change_found : (tint : Bool) (name : List ℕ) (words : List (List ℕ))
    (read : Result SpelledCommand WordFault) → is_among all_change_names name ≡ true
    → Gives (command_said tint) read ((change_row tint false name).read words)
    → Gives (command_said tint) read (command_spelled tint name words)
change_found tint name words read is gives =
    said_so tint read ((change_row tint false name).read words) (command_spelled tint name words)
    (sym (changes_found tint false all_change_names (question_rows tint ++ other_rows tint)
    (Err Word) name words is)) gives

pub question_found : (tint : Bool) (name : List ℕ) (words : List (List ℕ))
    (read : Result SpelledCommand WordFault) → is_among all_change_names name ≡ false
    → is_row (question_rows tint) name ≡ true
    → Gives (command_said tint) read (command_read_by (question_rows tint) (Err Word) name words)
    → Gives (command_said tint) read (command_spelled tint name words)
question_found tint name words read change is gives =
    said_so tint read (asked tint name words) (command_spelled tint name words)
    (sym (changes_passed tint false all_change_names (question_rows tint ++ other_rows tint)
    (Err Word) name words change
    ∙ rows_found (question_rows tint) (other_rows tint) (Err Word) name words is)) gives

pub other_found : (tint : Bool) (name : List ℕ) (words : List (List ℕ))
    (read : Result SpelledCommand WordFault) → is_among all_change_names name ≡ false
    → is_row (question_rows tint) name ≡ false
    → Gives (command_said tint) read (command_read_by (other_rows tint) (Err Word) name words)
    → Gives (command_said tint) read (command_spelled tint name words)
other_found tint name words read change question gives =
    said_so tint read (others tint name words) (command_spelled tint name words)
    (sym (changes_passed tint false all_change_names (question_rows tint ++ other_rows tint)
    (Err Word) name words change
    ∙ rows_passed (question_rows tint) (other_rows tint) (Err Word) name words question)) gives

-- ---- behind `try`

pub tried_found : (tint : Bool) (name : List ℕ) (words : List (List ℕ))
    (read : Result SpelledCommand WordFault) → is_among change_names name ≡ true
    → Gives (command_said tint) read ((change_row tint true name).read words)
    → Gives (command_said tint) read (command_read_by (tried_rows tint) (Err Word) name words)
unfolding tried_rows
tried_found tint name words read is gives =
    said_so tint read ((change_row tint true name).read words)
    (command_read_by (tried_rows tint) (Err Word) name words)
    (sym (changes_found tint true change_names [] (Err Word) name words is)) gives

pub tried_unknown : (tint : Bool) (name : List ℕ) (words : List (List ℕ))
    → is_among change_names name ≡ false
    → command_read_by (tried_rows tint) (Err Word) name words ≡ Err Word
unfolding tried_rows
tried_unknown tint name words is = changes_passed tint true change_names [] (Err Word) name words is

-- the row of saves reads them
pub save_found : (tint : Bool) (name : List ℕ) (words : List (List ℕ))
    → bytes_eq name (codes "save") ≡ true
    → command_read_by (question_rows tint) (Err Word) name words ≡ save_spelled words
unfolding question_rows
save_found tint name words is =
    subst
    (λ (n : List ℕ). command_read_by (question_rows tint) (Err Word) n words ≡ save_spelled words)
    (sym (same_bytes name (codes "save") is)) refl
