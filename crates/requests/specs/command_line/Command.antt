-- The command by which the words of a run are split.
use Rattle.std.specs.Prelude.{ℕ, Bool, List, [], Option, Some, None, true, false, codes, unwrap_or}
use Rattle.std.specs.Str.{bytes_eq}
use Rattle.clap.specs.Walk.{Row, Rule, Text, first_of, all_of}
use Rattle.clap.specs.Simple.{App, Shape, new_app, new_rule, on_top, with_rule}
use Rattle.requests.specs.command_line.Parts.{LineTexts}
use Rattle.clap.specs.declared.builder.action.ArgAction.TheVariants.{Append, SetTrue}

-- an option of this word, `--` and this name
abbrev pub option_rule : Text → Text → Rule
option_rule word name = record (new_rule word) { long = Some name }

-- a flag of this word, `--` and this name
abbrev pub flag_rule : Text → Text → Rule
flag_rule word name = record (new_rule word) { long = Some name; action = Some SetTrue }

-- operands, as many as there are
abbrev pub operands_rule : Rule
operands_rule = record (new_rule (codes "operands")) { action = Some Append }

-- words are read from the first one on, and none asks for help
abbrev pub bare : Shape → Shape
bare s = record s { no_binary_name = true; disable_help_flag = true }

-- all options
abbrev pub options_app : App
options_app =
    with_rule (with_rule (with_rule (with_rule (with_rule (with_rule
    (on_top bare (new_app (codes "run")))
    (option_rule (codes "--side") (codes "side")))
    (option_rule (codes "--buckets") (codes "buckets")))
    (option_rule (codes "--cap") (codes "cap")))
    (option_rule (codes "--keep") (codes "keep")))
    (option_rule (codes "--journal") (codes "journal")))
    (option_rule (codes "--report") (codes "report"))

-- and behind them the flag and the operands
abbrev pub run_app : App
run_app =
    with_rule (with_rule options_app (flag_rule (codes "--colours") (codes "colours")))
    operands_rule

-- the first text of a flag says that it is set
abbrev pub says_set : Option (List ℕ) → Bool
says_set None = false
says_set (Some text) = bytes_eq text (codes "true")

-- the texts of these rows of matches
abbrev pub line_in : List Row → LineTexts
line_in rows = record {
  side = first_of (codes "--side") rows;
  buckets = first_of (codes "--buckets") rows;
  cap = first_of (codes "--cap") rows;
  keep = first_of (codes "--keep") rows;
  journal = first_of (codes "--journal") rows;
  report = first_of (codes "--report") rows;
  colours = says_set (first_of (codes "--colours") rows);
  operands = unwrap_or (all_of (codes "operands") rows) [];
}
