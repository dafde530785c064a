use Rattle.node_words.proofs.GatherLaws.{grows_none}
use Rattle.edit_walk.proofs.blocks.fulls.raise_once.Goals as goal

pub returns-then-reaches-clause-grows : goal.returns-then-reaches-clause-grows
returns-then-reaches-clause-grows g c = grows_none _ _
