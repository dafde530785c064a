use Rattle.node_words.proofs.GatherLaws.{node_comes, octant_fails}
use Rattle.node_words.proofs.laws.gathered_octants_join_or_go_back.Goals as goal

pub returns-clause-join : goal.returns-clause-join
returns-clause-join c = node_comes

pub returns-clause-back : goal.returns-clause-back
returns-clause-back c = octant_fails
