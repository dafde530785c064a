use Rattle.plain_text.specs.Parts.{lines}
use Rattle.plain_text.proofs.UnfitLaws.{unfit_once}
use Rattle.transcript.specs.Refusals.{AreTranscriptLines}
use Rattle.transcript.proofs.laws.transcripts_are_refused_at_one_line.Goals as goal

pub returns : goal.returns
returns c = λ text m n first second. unfit_once AreTranscriptLines (lines text) m n first second
