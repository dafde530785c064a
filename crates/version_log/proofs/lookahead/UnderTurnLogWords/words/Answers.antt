use Rattle.std.proofs.Common.{refl}
use Rattle.version_log.proofs.WordLaws.{words_read}
use Rattle.version_log.proofs.lookahead.UnderTurnLogWords.words.Goals as goal

pub returns-clause-words : goal.returns-clause-words
returns-clause-words c =
    words_read c.args.self.now.pass.now.view c.args.self.now.pass.now.view c.args.n
    c.log_words.result refl c.requires.there.0 c.requires.there.1 c.log_words.ensures.words
