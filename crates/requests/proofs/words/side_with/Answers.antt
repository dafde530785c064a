use Rattle.requests.proofs.OfWords.Sides.{side_made}
use Rattle.requests.proofs.words.side_with.Goals as goal

pub returns : goal.returns
returns c = side_made c.new.result c.args.n c.new.ensures.exactly c.new.ensures.value
