-- The scripts before this one are read.
use Rattle.std.proofs.Common.{map}
use Rattle.commands.proofs.ScriptLists.{IsReadTo}
use Rattle.commands.proofs.scripts.read_scripts.Given as goal

abbrev pub invariant-loop-text : goal.invariant-loop-text
invariant-loop-text g l =
    IsReadTo l.tint l.side l.models
    (map (λ t. g.T.AsSlice.items t) l.texts) l.text-index l.scripts.items
