use Rattle.table_rule.proofs.Joining.{joins, joined_event}
use Rattle.table_rule.proofs.seats.seats_are_joined.Goals as goal

pub returns : goal.returns
returns c = λ p models mem views seat other v w r at at_other apart bare idle calm. (
  joins p models mem views seat other v w r at at_other apart bare idle calm,
  joined_event p models mem views seat other v w r at at_other apart bare idle calm,
)
