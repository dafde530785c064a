-- The names of the lines before this one.
use Rattle.std.proofs.Common.{◌≡◌, ◌++◌, take, map}
use Rattle.script_files.specs.Requests.{names_saved_in}
use Rattle.script_files.proofs.scripts.add_saves_in.Given as goal

abbrev pub invariant-loop-line : goal.invariant-loop-line
invariant-loop-line l =
    map (λ n. n.now) l.names.items
    ≡ map (λ n. n.now) l.fn.names.items ++ names_saved_in (take l.line-index l.lines)
