use Rattle.script.proofs.SaveNames.{padded_name}
use Rattle.script.proofs.spelling.name_word.Goals as goal

pub returns : goal.returns
returns c =
    padded_name c.args.word.now c.first_bytes.result.now c.begin_with.new.bytes
    c.first_bytes.ensures.first c.begin_with.ensures
