use Rattle.std.proofs.Common.{length}
use Rattle.requests.proofs.command_line.lines.+number_of_flags.Given as goal

abbrev pub decreases-number_of_flags : goal.decreases-number_of_flags
decreases-number_of_flags l = length l.words.now
