use Rattle.commands.proofs.Auditing.{next_unread}
use Rattle.commands.proofs.audits.read_transcripts.Goals as goal

pub returns-in-Err-clause-refused : goal.returns-in-Err-clause-refused
returns-in-Err-clause-refused c =
    next_unread c.in-Err.refused c.args.texts.now c.text-item.result c.loop-text.text-index
    c.loop-text.said.items c.loop-text-test.true c.text-item.is c.loop-text.invariant
    c.in-Err.ensures.refused
