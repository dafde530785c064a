use Rattle.std.proofs.Common.{length}
use Rattle.requests.proofs.command_line.lines.+number_of_values.Given as goal

abbrev pub decreases-number_of_values : goal.decreases-number_of_values
decreases-number_of_values l = length l.words.now
