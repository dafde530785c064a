use Rattle.std.proofs.Common.{sym}
use Rattle.requests.proofs.OfWords.ShortWords.{no_audit}
use Rattle.requests.proofs.words.parse_audit.Goals as goal

pub returns-in_default-clause-asked : goal.returns-in_default-clause-asked
returns-in_default-clause-asked c = sym (no_audit _ c.args.words.now c.in_default.len_below)
