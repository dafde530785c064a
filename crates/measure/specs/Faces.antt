-- What counts in a block for its faces in one direction.
use Rattle.measure.specs.Tallies.{Counting}
use Rattle.measure.specs.Exposed.{PassesExposed}
use Rattle.measure.specs.declared.exposed_sides.ExposedSides.{ExposedSides}

abbrev pub passes_exposed : Counting ExposedSides
passes_exposed held level s test = PassesExposed s.direction held level s.block s.beside test
