use Rattle.node_words.proofs.OfDescent.AnswerLaws.{none_right}
use Rattle.node_words.proofs.descent.answers.Answers.new.Goals as goal

pub returns : goal.returns
returns g c = none_right _ _ 256
