use Rattle.transcript.proofs.ReadingLaws.{told_all}
use Rattle.transcript.proofs.reading.read_transcript.Goals as goal

pub returns-clause-comes : goal.returns-clause-comes
returns-clause-comes c =
    λ xs are is. told_all
    (λ v. v.items) c.args.bytes.now xs c.read_lines.result c.read_lines.ensures.read c.read_lines.ensures.refused are is
