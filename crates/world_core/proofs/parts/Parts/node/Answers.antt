use Rattle.node_words.specs.declared.keys.Key.TheVariants.{Node}
use Rattle.world_core.proofs.LowerLaws.{key_weighs}
use Rattle.world_core.proofs.parts.Parts.node.Goals as goal

pub take-requires-clause-children : goal.take-requires-clause-children
take-requires-clause-children c =
    λ f. key_weighs c.args.level (Node c.args.children) f c.requires.lawful.fits
