-- What the command finds in the words of a run.
use Rattle.std.proofs.Common.{◌≡◌, ℕ, ◌≤◌, true, false, List, [], length, codes, refl, ap, ◌∙◌, leb-true}
use Rattle.clap.specs.Matches.{raw_values, matched_of}
use Rattle.clap.specs.declared.parser.matches.Found.{Found}
use Rattle.clap.specs.declared.builder.command.Command.{Command}
use Rattle.clap.specs.declared.builder.command.Command.TheViews.{out-Command as fields_of}
use Rattle.clap.proofs.WalkLemmas.{raw_values-rows}
use Rattle.std.specs.Borrow.{Bor}
use Rattle.std.specs.Prelude.{Some, None, option_map, map, fold, nat_le, unwrap_or}
use Rattle.std.specs.List.{list_all}
use Rattle.std.proofs.lemmas.Bool.{and_parts}
use Rattle.clap.specs.Walk.{Row, Text, walked, walk_from, nothing_held, all_of, rows_of}
use Rattle.clap.specs.Simple.{matches_of, is_simple, app_of, app_of_fields, new_app, on_top}
use Rattle.requests.specs.command_line.Parts.{Part, is_part, parts_of, flags_in, values_in, line_texts, are_of_a_run}
use Rattle.requests.specs.command_line.Command.{run_app, bare, line_in}
use Rattle.requests.proofs.OfCommandLine.Walking.{rules, rows_held}
use Rattle.requests.proofs.OfCommandLine.Splitting.{rows_by, walk_rows}
use Rattle.requests.proofs.OfCommandLine.Values.{KnowOptions, parts_know, option_found, flag_found, operands_found}
use Rattle.requests.proofs.OfCommandLine.Defaults.{defaulted, all_defaults}

pub simple : is_simple run_app ≡ true
simple = refl

pub matched : (words : List Text) → list_all is_part (parts_of words) ≡ true
    → matches_of run_app words ≡ defaulted (rows_by (parts_of words) [])
matched words right =
    all_defaults (rows_held (fold (walked rules []) (walk_from nothing_held) words).held)
    ∙ ap defaulted (walk_rows words right false nothing_held)

-- each option's value, the flag, and the operands
record Fits (parts : List Part) : Type 0 where
  parts_are : list_all is_part parts ≡ true
  side : length (values_in (codes "--side") parts) ≤ 1
  buckets : length (values_in (codes "--buckets") parts) ≤ 1
  cap : length (values_in (codes "--cap") parts) ≤ 1
  keep : length (values_in (codes "--keep") parts) ≤ 1
  journal : length (values_in (codes "--journal") parts) ≤ 1
  report : length (values_in (codes "--report") parts) ≤ 1
  colours : flags_in parts ≤ 1

once : (n : ℕ) → nat_le n 1 ≡ true → n ≤ 1
once n is = leb-true n 1 is

fits : (parts : List Part) → are_of_a_run parts ≡ true → Fits parts
fits parts are =
    let all = and_parts _ _ are in
    let rest = and_parts _ _ all.1 in
    let given = and_parts _ _ rest.0 in
    let flag = and_parts _ _ rest.1 in
    let second = and_parts _ _ given.1 in
    let third = and_parts _ _ second.1 in
    let fourth = and_parts _ _ third.1 in
    let fifth = and_parts _ _ fourth.1 in
    let sixth = and_parts _ _ fifth.1 in
    record {
      parts_are = all.0;
      side = once _ given.0;
      buckets = once _ second.0;
      cap = once _ third.0;
      keep = once _ fourth.0;
      journal = once _ fifth.0;
      report = once _ sixth.0;
      colours = once _ flag.0;
    }

told : (parts : List Part) → KnowOptions parts → Fits parts
    → line_in (defaulted (rows_by parts [])) ≡ line_texts parts
told parts know f =
    let side =
    option_found (codes "--side") (record { operands = refl; flag = refl }) parts f.side in
    let buckets =
    option_found (codes "--buckets")
    (record { operands = refl; flag = refl }) parts f.buckets in
    let cap = option_found (codes "--cap") (record { operands = refl; flag = refl }) parts f.cap in
    let keep =
    option_found (codes "--keep") (record { operands = refl; flag = refl }) parts f.keep in
    let journal =
    option_found (codes "--journal")
    (record { operands = refl; flag = refl }) parts f.journal in
    let report =
    option_found (codes "--report") (record { operands = refl; flag = refl }) parts f.report in
    let colours = flag_found parts know f.colours in
    let operands = operands_found parts know in
    λ i. record { side = side i; buckets = buckets i; cap = cap i; keep = keep i; journal = journal i; report = report i; colours = colours i; operands = operands i }

pub line_found : (words : List Text) (rows : List Row) → are_of_a_run (parts_of words) ≡ true
    → rows ≡ matches_of run_app words → line_in rows ≡ line_texts (parts_of words)
line_found words rows are found =
    ap line_in (found ∙ matched words (fits (parts_of words) are).parts_are)
    ∙ told (parts_of words) (parts_know words) (fits (parts_of words) are)

-- ---- what the matches' getters give

pub operands_some : (f : Found) (names : Bor (List (Bor Text)))
    → option_map (λ s. map (λ v. v.now) s.now) (Some names) ≡ option_map raw_values
    (matched_of f (codes "operands"))
    → map (λ v. v.now) names.now ≡ unwrap_or (all_of (codes "operands") (rows_of f)) []
operands_some f names is =
    ap (λ found. unwrap_or found []) (is ∙ raw_values-rows f (codes "operands"))

pub operands_none : (f : Found)
    → option_map
    (λ (s : Bor (List (Bor Text))). map (λ v. v.now) s.now) None ≡ option_map raw_values
    (matched_of f (codes "operands"))
    → [] ≡ unwrap_or (all_of (codes "operands") (rows_of f)) []
operands_none f is = ap (λ found. unwrap_or found []) (is ∙ raw_values-rows f (codes "operands"))

-- ---- the command

pub bare_is : (c d e : Command) → app_of c ≡ new_app (codes "run")
    → fields_of d ≡ record (fields_of c) { no_binary_name = true }
    → fields_of e ≡ record (fields_of d) { disable_help_flag = true }
    → app_of e ≡ on_top bare (new_app (codes "run"))
bare_is c d e new first second =
    ap app_of_fields second ∙ ap (λ f. app_of_fields (record f { disable_help_flag = true })) first
    ∙ ap (on_top bare) new
