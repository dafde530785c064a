use Rattle.std.proofs.Common.{◌∙◌, ap}
use Rattle.std.specs.Prelude.{not}
use Rattle.node_words.proofs.OfDescent.LookLaws.{is_nothing}
use Rattle.measure.proofs.FaceLaws.{nothing_bare}
use Rattle.measure.proofs.exposed_sides.ExposedSidesSubject.is_nothing.Goals as goal

pub returns : goal.returns
returns c none held level test p =
    nothing_bare _ held level _ _ test (is_nothing _ (c.is_none.ensures ∙ ap not none)) p
