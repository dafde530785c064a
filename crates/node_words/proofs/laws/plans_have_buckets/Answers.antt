use Rattle.node_words.proofs.PlanLaws.{some_buckets, few_buckets}
use Rattle.node_words.proofs.laws.plans_have_buckets.Goals as goal

pub returns-clause-some : goal.returns-clause-some
returns-clause-some c = some_buckets

pub returns-clause-few : goal.returns-clause-few
returns-clause-few c = few_buckets
