use Rattle.std.proofs.Common.{◌≡◌, ◌++◌, take}
use Rattle.std.specs.Prelude.{string_bytes}
use Rattle.report.specs.Reports.{level_lines}
use Rattle.report.proofs.texts.put_levels.Given as goal

abbrev pub invariant-loop-level : goal.invariant-loop-level
invariant-loop-level l =
    string_bytes l.text ≡ string_bytes l.initial.text ++ level_lines 0 (take l.level l.numbers)
