use Rattle.measure.proofs.ChangeLaws.{nothing_changed}
use Rattle.measure.proofs.differences.ChangedSubject.is_nothing.Goals as goal

pub returns : goal.returns
returns c same held level test p =
    nothing_changed held level _ _ test (c.same_names.ensures.0 same) p
