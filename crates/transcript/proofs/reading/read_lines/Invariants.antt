use Rattle.std.proofs.Common.{◌≡◌, ◌+◌, ◌≤◌, length}
use Rattle.plain_text.specs.Parts.{lines}
use Rattle.transcript.proofs.ReadingLaws.{AreRead}
use Rattle.transcript.proofs.reading.read_lines.Given as goal

abbrev pub invariant-loop-line : goal.invariant-loop-line
invariant-loop-line l =
    record {
      read : AreRead (lines l.bytes) (lines l.rest) l.answers.items;
      number : l.number ≡ length l.answers.items + 1;
      small : l.number + length l.rest ≤ length l.bytes + 1;
    }

abbrev pub decreases-loop-line : goal.decreases-loop-line
decreases-loop-line l = length l.rest
