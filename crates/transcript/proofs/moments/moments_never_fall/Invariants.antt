use Rattle.std.proofs.Common.{◌≡◌, drop}
use Rattle.transcript.specs.Moments.{never_fall}
use Rattle.transcript.proofs.moments.moments_never_fall.Given as goal

abbrev pub invariant-loop-answer : goal.invariant-loop-answer
invariant-loop-answer l = never_fall l.last (drop l.answer-index l.answers) ≡ never_fall 0 l.answers
