use Rattle.std.proofs.Common.{length}
use Rattle.requests.proofs.command_line.lines.+number_of_operands.Given as goal

abbrev pub decreases-number_of_operands : goal.decreases-number_of_operands
decreases-number_of_operands l = length l.words.now
