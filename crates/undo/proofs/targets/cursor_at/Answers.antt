use Rattle.std.proofs.Common.{refl}
use Rattle.undo.proofs.Chains.{told}
use Rattle.undo.proofs.targets.cursor_at.Goals as goal

pub returns-clause-now : goal.returns-clause-now
returns-clause-now g c =
    (told _ c.args.number _ c.read_cursor.result.now c.read_cursor.result.last _
    c.requires.there.1 c.first_word-word.ensures.few refl c.first_word-word.ensures.word
    c.read_cursor.ensures).0

pub returns-clause-last : goal.returns-clause-last
returns-clause-last g c =
    (told _ c.args.number _ c.read_cursor.result.now c.read_cursor.result.last _
    c.requires.there.1 c.first_word-word.ensures.few refl c.first_word-word.ensures.word
    c.read_cursor.ensures).1
