use Rattle.transcript.proofs.ReadingLaws.{one_reading}
use Rattle.transcript.proofs.laws.transcripts_have_one_reading.Goals as goal

pub returns : goal.returns
returns c = one_reading
