-- The values of options, the flag and operands in the rows of parts.
use Rattle.std.proofs.Common.{◌≡◌, ◌≤◌, ◌+◌, ◌==◌, Bool, true, false, ℕ, zero, suc, List, [], ◌∷◌, ◌++◌, length, codes, Option, Some, None, refl, sym, ap, subst, ◌∙◌, arith, append_assoc}
use Rattle.std.specs.Prelude.{⊤, nat_le, slice_get, unwrap_or, option_and_then, if◌then◌else◌, ◌||◌}
use Rattle.std.specs.List.{before_first, after_first}
use Rattle.std.specs.Str.{bytes_eq}
use Rattle.std.proofs.lemmas.Bool.{le-leb}
use Rattle.std.proofs.lemmas.List.{append-nil}
use Rattle.std.proofs.lemmas.Slice.Eq.{bytes_eq-Decides}
use Rattle.clap.specs.Walk.{Row, Text, all_of, first_of}
use Rattle.clap.specs.declared.parser.matches.ValueSource.TheVariants.{CommandLine}
use Rattle.requests.specs.command_line.Parts.{Part, Operand, Gives, Colours, NoPart, is_flag, is_operand, is_option, option_with, behind_equals, word_alone, parts_of, flags_in, operands_in, values_in, value_in}
use Rattle.requests.proofs.OfCommandLine.Rows.{IsApart, set_new, append_new, more_found, put_other, set_other, first_is}
use Rattle.requests.proofs.OfCommandLine.Walking.{as_text, as_flag, with_operand, with_option, with_flag}
use Rattle.requests.specs.command_line.Command.{says_set}
use Rattle.requests.proofs.OfCommandLine.Splitting.{rows_by}
use Rattle.requests.proofs.OfCommandLine.Defaults.{defaulted, default_other, default_none, default_some}

-- ---- an option, which is neither named as the operands are nor as the flag

pub record IsOwn (word : Text) : Type 0 where
  pub operands : IsApart (codes "operands") word
  pub flag : IsApart (codes "--colours") word

-- an option's rows are not those of the operands, nor the flag's
pub record IsOption (option : Text) : Type 0 where
  pub operands : IsApart option (codes "operands")
  pub flag : IsApart option (codes "--colours")

-- no option is named as the operands are, nor as the flag
abbrev pub KnowOptions : List Part → Type 0
KnowOptions [] = ⊤
KnowOptions (Gives option value ∷ parts) = IsOption option × KnowOptions parts
KnowOptions (_ ∷ parts) = KnowOptions parts

flag_other : (word : Text) → IsApart (codes "--colours") word → (rows : List Row)
    → all_of word (with_flag rows) ≡ all_of word rows
flag_other word apart rows =
    set_other (codes "--colours") word as_flag CommandLine (codes "true" ∷ []) rows apart

-- its row holds what parts give it, which is one value at most
kept : (word : Text) → IsOwn word → (parts : List Part) (rows : List Row) (values : List Text)
    → all_of word rows ≡ Some values
    → length (values_in word parts) ≤ 0 → all_of word (rows_by parts rows) ≡ Some values
kept word apart [] rows values has none = has
kept word apart (Operand text ∷ parts) rows values has none =
    kept word apart parts (with_operand text rows) values (put_other (codes "operands") word as_text CommandLine (text ∷ []) rows apart.operands ∙ has) none
kept word apart (Colours ∷ parts) rows values has none =
    kept word apart parts (with_flag rows) values (flag_other word apart.flag rows ∙ has) none
kept word apart (NoPart ∷ parts) rows values has none = kept word apart parts rows values has none
kept word apart (Gives option value ∷ parts) rows values has none =
    go (bytes_eq option word) refl none
    (kept word apart parts (with_option option value rows) values)
  where
    go : (b : Bool) → bytes_eq option word ≡ b
        → length (if b then value ∷ values_in word parts else values_in word parts) ≤ 0
        → (all_of word (with_option option value rows) ≡ Some values
        → length (values_in word parts) ≤ 0
        → all_of word (rows_by parts (with_option option value rows)) ≡ Some values)
        → all_of word (rows_by parts (with_option option value rows)) ≡ Some values
    go true same few more = absurd (omega (arith, few))
    go false same few more = more
        (set_other option word as_text CommandLine (value ∷ []) rows same ∙ has) few

abbrev pub as_row : List Text → Option (List Text)
as_row [] = None
as_row (value ∷ values) = Some (value ∷ values)

one_row : (value : Text) (values : List Text) → length (value ∷ values) ≤ 1
    → Some (value ∷ []) ≡ as_row (value ∷ values)
one_row value [] few = refl
one_row value (other ∷ others) few = absurd (omega (arith, few))

pub option_row : (word : Text) → IsOwn word → (parts : List Part) (rows : List Row)
    → all_of word rows ≡ None
    → length (values_in word parts) ≤ 1
    → all_of word (rows_by parts rows) ≡ as_row (values_in word parts)
option_row word apart [] rows none few = none
option_row word apart (Operand text ∷ parts) rows none few =
    option_row word apart parts (with_operand text rows) (put_other (codes "operands") word as_text CommandLine (text ∷ []) rows apart.operands ∙ none) few
option_row word apart (Colours ∷ parts) rows none few =
    option_row word apart parts (with_flag rows) (flag_other word apart.flag rows ∙ none) few
option_row word apart (NoPart ∷ parts) rows none few = option_row word apart parts rows none few
option_row word apart (Gives option value ∷ parts) rows none few =
    go (bytes_eq option word) refl few (option_row word apart parts (with_option option value rows))
  where
    go : (b : Bool) → bytes_eq option word ≡ b
        → length (if b then value ∷ values_in word parts else values_in word parts) ≤ 1
        → (all_of word (with_option option value rows) ≡ None → length (values_in word parts) ≤ 1
        → all_of word (rows_by parts (with_option option value rows))
        ≡ as_row (values_in word parts))
        → all_of word (rows_by parts (with_option option value rows)) ≡ as_row
        (if bytes_eq option word then value ∷ values_in word parts else values_in word parts)
    go true same once more =
        let is : option ≡ word = (bytes_eq-Decides option word).0 same in
        let has : all_of word (with_option option value rows) ≡ Some (value ∷ []) =
        subst (λ (w : Text). all_of w (with_option option value rows) ≡ Some (value ∷ [])) is
        (set_new option as_text CommandLine (value ∷ []) rows
        (subst (λ (w : Text). all_of w rows ≡ None) (sym is) none)) in
        rw same (kept word apart parts (with_option option value rows) (value ∷ []) has
        (omega (arith, once)) ∙ one_row value (values_in word parts) once)
    go false same once more = rw same
        (more (set_other option word as_text CommandLine (value ∷ []) rows same ∙ none) once)

first_row : (values : List Text)
    → option_and_then (λ vs. slice_get vs 0) (as_row values) ≡ slice_get values 0
first_row [] = refl
first_row (value ∷ values) = refl

pub option_found : (word : Text) → IsOwn word → (parts : List Part)
    → length (values_in word parts) ≤ 1
    → first_of word (defaulted (rows_by parts [])) ≡ value_in word parts
option_found word apart parts few =
    first_is word (defaulted (rows_by parts []))
    ∙ ap (option_and_then (λ vs. slice_get vs 0))
    (default_other word apart.flag (rows_by parts []) ∙ option_row word apart parts [] refl few)
    ∙ first_row (values_in word parts)

-- ---- the flag

-- its row says that it is set, where it stands there once
set_stays : (parts : List Part) (rows : List Row)
    → all_of (codes "--colours") rows ≡ Some (codes "true" ∷ []) → KnowOptions parts
    → flags_in parts ≤ 0
    → all_of (codes "--colours") (rows_by parts rows) ≡ Some (codes "true" ∷ [])
set_stays [] rows has know none = has
set_stays (Operand text ∷ parts) rows has know none =
    set_stays parts (with_operand text rows) (put_other (codes "operands") (codes "--colours") as_text CommandLine (text ∷ []) rows refl ∙ has) know none
set_stays (Gives option value ∷ parts) rows has know none =
    set_stays parts (with_option option value rows) (set_other option (codes "--colours") as_text CommandLine (value ∷ []) rows know.0.flag ∙ has) know.1 none
set_stays (Colours ∷ parts) rows has know none = absurd (omega (arith, none))
set_stays (NoPart ∷ parts) rows has know none = set_stays parts rows has know none

abbrev pub flag_values : ℕ → Option (List Text)
flag_values zero = None
flag_values (suc n) = Some (codes "true" ∷ [])

more_flags : (n : ℕ) → Some (codes "true" ∷ []) ≡ flag_values (n + 1)
more_flags n = let e : n + 1 ≡ suc n = omega arith in rw e refl

flag_row : (parts : List Part) (rows : List Row) → all_of (codes "--colours") rows ≡ None
    → KnowOptions parts
    → flags_in parts ≤ 1
    → all_of (codes "--colours") (rows_by parts rows) ≡ flag_values (flags_in parts)
flag_row [] rows none know few = none
flag_row (Operand text ∷ parts) rows none know few =
    flag_row parts (with_operand text rows) (put_other (codes "operands") (codes "--colours") as_text CommandLine (text ∷ []) rows refl ∙ none) know few
flag_row (Gives option value ∷ parts) rows none know few =
    flag_row parts (with_option option value rows) (set_other option (codes "--colours") as_text CommandLine (value ∷ []) rows know.0.flag ∙ none) know.1 few
flag_row (Colours ∷ parts) rows none know few =
    set_stays parts (with_flag rows) (set_new (codes "--colours") as_flag CommandLine (codes "true" ∷ []) rows none) know (omega (arith, few))
    ∙ more_flags (flags_in parts)
flag_row (NoPart ∷ parts) rows none know few = flag_row parts rows none know few

-- where it has no row, the default says that it isn't set
set_by : (n : ℕ) (rows : List Row) → all_of (codes "--colours") rows ≡ flag_values n
    → says_set (first_of (codes "--colours") (defaulted rows)) ≡ nat_le 1 n
set_by zero rows has =
    ap says_set (first_is (codes "--colours") (defaulted rows) ∙ ap (option_and_then (λ (vs : List Text). slice_get vs 0)) (default_none rows has))
set_by (suc n) rows has =
    ap says_set (first_is (codes "--colours") (defaulted rows) ∙ ap (option_and_then (λ (vs : List Text). slice_get vs 0)) (default_some (codes "true" ∷ []) rows has))
    ∙ sym (le-leb 1 (suc n) (omega arith))

pub flag_found : (parts : List Part) → KnowOptions parts → flags_in parts ≤ 1
    → says_set (first_of (codes "--colours") (defaulted (rows_by parts []))) ≡ nat_le 1
    (flags_in parts)
flag_found parts know few =
    set_by (flags_in parts) (rows_by parts []) (flag_row parts [] refl know few)

-- ---- the operands

abbrev pub more_row : Option (List Text) → List Text → Option (List Text)
more_row None values = as_row values
more_row (Some found) values = Some (found ++ values)

grown : (found : Option (List Text)) (text : Text) (rows : List Row)
    → all_of (codes "operands") rows ≡ found
    → all_of (codes "operands") (with_operand text rows) ≡ more_row found (text ∷ [])
grown None text rows is = append_new (codes "operands") as_text CommandLine (text ∷ []) rows is
grown (Some found) text rows is =
    more_found (codes "operands") CommandLine (text ∷ []) _ rows found is

then_more : (found : Option (List Text)) (text : Text) (others : List Text)
    → more_row (more_row found (text ∷ [])) others ≡ more_row found (text ∷ others)
then_more None text others = refl
then_more (Some found) text others = ap Some (append_assoc found (text ∷ []) others)

no_more : (found : Option (List Text)) → found ≡ more_row found []
no_more None = refl
no_more (Some found) = ap Some (sym (append-nil found))

pub operands_row : (parts : List Part) (rows : List Row) (found : Option (List Text))
    → KnowOptions parts → all_of (codes "operands") rows ≡ found
    → all_of (codes "operands") (rows_by parts rows) ≡ more_row found (operands_in parts)
operands_row [] rows found know is = is ∙ no_more found
operands_row (Operand text ∷ parts) rows found know is =
    operands_row parts (with_operand text rows) (more_row found (text ∷ [])) know
    (grown found text rows is) ∙ then_more found text (operands_in parts)
operands_row (Colours ∷ parts) rows found know is =
    operands_row parts (with_flag rows) found know (flag_other (codes "operands") refl rows ∙ is)
operands_row (NoPart ∷ parts) rows found know is = operands_row parts rows found know is
operands_row (Gives option value ∷ parts) rows found know is =
    operands_row parts (with_option option value rows) found know.1 (set_other option (codes "operands") as_text CommandLine (value ∷ []) rows know.0.operands ∙ is)

all_operands : (values : List Text) → unwrap_or (as_row values) [] ≡ values
all_operands [] = refl
all_operands (value ∷ values) = refl

pub operands_found : (parts : List Part) → KnowOptions parts
    → unwrap_or (all_of (codes "operands") (defaulted (rows_by parts []))) [] ≡ operands_in parts
operands_found parts know =
    ap (λ found. unwrap_or found []) (default_other (codes "operands") refl (rows_by parts []) ∙ operands_row parts [] None know refl)
    ∙ all_operands (operands_in parts)

-- the options of words are none of another name
named_own : (option word : Text) → IsOption option → bytes_eq option word ≡ true → IsOption word
named_own option word own same = subst IsOption ((bytes_eq-Decides option word).0 same) own

one_own : (word : Text) (a b c d e f : Bool) → (a ≡ true → IsOption word)
    → (b ≡ true → IsOption word) → (c ≡ true → IsOption word) → (d ≡ true → IsOption word)
    → (e ≡ true → IsOption word) → (f ≡ true → IsOption word)
    → a || (b || (c || (d || (e || (f || false))))) ≡ true → IsOption word
one_own word true b c d e f of_a of_b of_c of_d of_e of_f is = of_a refl
one_own word false true c d e f of_a of_b of_c of_d of_e of_f is = of_b refl
one_own word false false true d e f of_a of_b of_c of_d of_e of_f is = of_c refl
one_own word false false false true e f of_a of_b of_c of_d of_e of_f is = of_d refl
one_own word false false false false true f of_a of_b of_c of_d of_e of_f is = of_e refl
one_own word false false false false false true of_a of_b of_c of_d of_e of_f is = of_f refl
one_own word false false false false false false of_a of_b of_c of_d of_e of_f is =
    absurd (let bad : false ≡ true = is in cc)

option_own : (word : Text) → is_option word ≡ true → IsOption word
option_own word is =
    one_own word (bytes_eq (codes "--side") word) (bytes_eq (codes "--buckets") word) (bytes_eq (codes "--cap") word) (bytes_eq (codes "--keep") word) (bytes_eq (codes "--journal") word) (bytes_eq (codes "--report") word)
    (named_own (codes "--side") word (record { operands = refl; flag = refl })) (named_own (codes "--buckets") word (record { operands = refl; flag = refl }))
    (named_own (codes "--cap") word (record { operands = refl; flag = refl })) (named_own (codes "--keep") word (record { operands = refl; flag = refl }))
    (named_own (codes "--journal") word (record { operands = refl; flag = refl })) (named_own (codes "--report") word (record { operands = refl; flag = refl })) is

given_knows : (b : Bool) (option value : Text) (parts : List Part) → (b ≡ true → IsOption option)
    → KnowOptions parts → KnowOptions ((if b then Gives option value else NoPart) ∷ parts)
given_knows true option value parts apart know = (apart refl, know)
given_knows false option value parts apart know = know

joined_knows : (option value : Text) (parts : List Part) → KnowOptions parts
    → KnowOptions (behind_equals option value ∷ parts)
joined_knows option [] parts know = know
joined_knows option (first ∷ others) parts know =
    given_knows (is_option option) option (first ∷ others) parts (option_own option) know

alone_knows : (word : Text) (parts : List Part) → KnowOptions parts
    → KnowOptions (word_alone word ∷ parts)
alone_knows word parts know = go (is_operand word) (is_flag word)
  where
    go : (b f : Bool)
        → KnowOptions
        ((if b then Operand word
        else (if f then Colours
        else behind_equals (before_first (λ b. b == 61) word)
        (after_first (λ b. b == 61) word))) ∷ parts)
    go true f = know
    go false true = know
    go false false = joined_knows (before_first (λ b. b == 61) word)
        (after_first (λ b. b == 61) word) parts know

with_knows : (option next : Text) (parts : List Part) → IsOption option → KnowOptions parts
    → KnowOptions (option_with option next ∷ parts)
with_knows option next parts apart know =
    given_knows (is_operand next) option next parts (λ _. apart) know

last_knows : (b : Bool) (word : Text) → KnowOptions ((if b then NoPart else word_alone word) ∷ [])
last_knows true word = tt
last_knows false word = alone_knows word [] tt

pub parts_know : (words : List Text) → KnowOptions (parts_of words)
parts_know [] = tt
parts_know (word ∷ []) = last_knows (is_option word) word
parts_know (word ∷ next ∷ others) =
    go (is_option word) refl (parts_know others) (parts_know (next ∷ others))
  where
    go : (b : Bool) → is_option word ≡ b → KnowOptions (parts_of others)
        → KnowOptions (parts_of (next ∷ others))
        → KnowOptions
        (if b then option_with word next ∷ parts_of others
        else word_alone word ∷ parts_of (next ∷ others))
    go true is far near = with_knows word next (parts_of others) (option_own word is) far
    go false is far near = alone_knows word (parts_of (next ∷ others)) near
