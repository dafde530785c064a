use Rattle.std.proofs.Common.{◌≡◌}
use Rattle.core_laws.specs.places.WordIds.{Used}
use Rattle.table_rule.specs.Changes.{knowing}
use Rattle.node_table.proofs.steps.raise_used.Given as goal

abbrev pub ghosts-store_as : goal.ghosts-store_as
ghosts-store_as a = record { tells = λ v k w. w ≡ knowing v (Used a._about.now.0 a._about.now.1) k }
