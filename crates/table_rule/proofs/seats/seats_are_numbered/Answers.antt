use Rattle.table_rule.proofs.Dealing.{deals, dealt_event}
use Rattle.table_rule.proofs.NumberSteps.{numbers_itself}
use Rattle.table_rule.proofs.seats.seats_are_numbered.Goals as goal

pub returns : goal.returns
returns c = record {
  number = numbers_itself;
  hand_on = λ p models mem views seat v r at right some. (
    deals p models mem views seat v r at right some,
    dealt_event p models mem views seat v r at right some,
  );
}
