use Rattle.std.proofs.Common.{sym}
use Rattle.requests.proofs.OfWords.ShortWords.{no_ray}
use Rattle.requests.proofs.questions.ray_in.Goals as goal

pub returns-in_default : goal.returns-in_default
returns-in_default c = sym (no_ray _ c.args.words.now c.in_default.len_below)
