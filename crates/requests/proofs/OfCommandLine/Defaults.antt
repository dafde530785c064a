-- What the flag's default adds to rows.
use Rattle.std.proofs.Common.{◌≡◌, Bool, true, false, List, [], ◌∷◌, codes, drop, take, Some, None, refl, sym, ap, ◌∙◌}
use Rattle.std.specs.Prelude.{⊤, fold, if◌then◌else◌}
use Rattle.std.specs.Str.{bytes_eq}
use Rattle.clap.specs.Simple.{filled, with_index}
use Rattle.clap.specs.Walk.{Row, Rule, Text, all_of, has_row, reading_by, with_default, with_values}
use Rattle.clap.specs.declared.parser.matches.ValueSource.TheVariants.{DefaultValue}
use Rattle.requests.specs.command_line.Command.{flag_rule, operands_rule}
use Rattle.requests.proofs.OfCommandLine.Rows.{IsApart, append_new, put_other}
use Rattle.requests.proofs.OfCommandLine.Walking.{rules}

abbrev pub flag_built : Rule
flag_built = filled (flag_rule (codes "--colours") (codes "colours"))

-- the rows, with one that says that the flag isn't set where it has none
abbrev pub defaulted : List Row → List Row
defaulted rows = with_default rows flag_built

-- ---- arguments without a default

either : (b : Bool) (rows : List Row) → (if b then rows else rows) ≡ rows
either true rows = refl
either false rows = refl

no_default : (a : Rule) (rows : List Row) → a.defaults ≡ [] → with_default rows a ≡ rows
no_default a rows none = rw none (either (has_row a.id rows) rows)

abbrev pub LackDefaults : List Rule → Type 0
LackDefaults [] = ⊤
LackDefaults (a ∷ others) = (a.defaults ≡ []) × LackDefaults others

no_defaults : (c : List Rule) (rows : List Row) → LackDefaults c → fold with_default rows c ≡ rows
no_defaults [] rows none = refl
no_defaults (a ∷ others) rows none =
    ap (λ (rs : List Row). fold with_default rs others) (no_default a rows none.0)
    ∙ no_defaults others rows none.1

-- ---- rows of another name

pub default_other : (word : Text) → IsApart (codes "--colours") word → (rows : List Row)
    → all_of word (defaulted rows) ≡ all_of word rows
default_other word apart rows = go (has_row (codes "--colours") rows)
  where
    go : (b : Bool)
        → all_of word
        (if b then rows else with_values (codes "--colours") (reading_by flag_built) DefaultValue (codes "false" ∷ []) rows) ≡ all_of word rows
    go true = refl
    go false = put_other (codes "--colours") word (reading_by flag_built) DefaultValue (codes "false" ∷ []) rows apart

-- ---- the flag's own row

none_has : (id : Text) (rows : List Row) → all_of id rows ≡ None → has_row id rows ≡ false
none_has id [] none = refl
none_has id (r ∷ rs) none = go (bytes_eq r.id id) refl (none_has id rs)
  where
    go : (b : Bool) → bytes_eq r.id id ≡ b → (all_of id rs ≡ None → has_row id rs ≡ false)
        → has_row id (r ∷ rs) ≡ false
    go true same behind = absurd
        (let m : all_of id (r ∷ rs) ≡ Some r.values = rw same refl in let no : Some r.values
        ≡ None = sym m ∙ none in cc)
    go false same behind = let m : all_of id (r ∷ rs)
        ≡ all_of id rs = rw same refl in rw same (behind (sym m ∙ none))

some_has : (id : Text) (values : List Text) (rows : List Row) → all_of id rows ≡ Some values
    → has_row id rows ≡ true
some_has id values [] some = absurd (let no : None ≡ Some values = some in cc)
some_has id values (r ∷ rs) some = go (bytes_eq r.id id) refl (some_has id values rs)
  where
    go : (b : Bool) → bytes_eq r.id id ≡ b → (all_of id rs ≡ Some values → has_row id rs ≡ true)
        → has_row id (r ∷ rs) ≡ true
    go true same behind = rw same refl
    go false same behind = let m : all_of id (r ∷ rs)
        ≡ all_of id rs = rw same refl in rw same (behind (sym m ∙ some))

pub default_none : (rows : List Row) → all_of (codes "--colours") rows ≡ None
    → all_of (codes "--colours") (defaulted rows) ≡ Some (codes "false" ∷ [])
default_none rows none =
    let no : has_row (codes "--colours") rows ≡ false = none_has (codes "--colours") rows none in
    rw no (append_new (codes "--colours") (reading_by flag_built) DefaultValue (codes "false" ∷ []) rows none)

pub default_some : (values : List Text) (rows : List Row)
    → all_of (codes "--colours") rows ≡ Some values
    → all_of (codes "--colours") (defaulted rows) ≡ Some values
default_some values rows some =
    let yes : has_row (codes "--colours") rows ≡ true =
    some_has (codes "--colours") values rows some in
    rw yes some

-- ---- all arguments

-- the six options and the operands have no default
pub all_defaults : (rows : List Row) → fold with_default rows rules ≡ defaulted rows
all_defaults rows =
    ap (λ (rs : List Row). fold with_default rs (drop 6 rules))
    (no_defaults (take 6 rules) rows (refl, (refl, (refl, (refl, (refl, (refl, tt)))))))
    ∙ no_default (with_index 1 (filled operands_rule)) (defaulted rows) refl
