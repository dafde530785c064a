use Rattle.extract.proofs.SurfaceLaws.{any_is, no_any}
use Rattle.extract.proofs.bare_layers.any_of.Goals as goal

pub returns-clause-blank : goal.returns-clause-blank
returns-clause-blank c none = no_any c.args.leaf _ (any_is c.args.leaf) none
