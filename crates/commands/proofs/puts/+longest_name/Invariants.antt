use Rattle.std.proofs.Common.{length}
use Rattle.commands.proofs.puts.+longest_name.Given as goal

abbrev pub decreases-longest_name : goal.decreases-longest_name
decreases-longest_name l = length l.outputs.now
