use Rattle.std.proofs.Common.{rules}
use Rattle.std.proofs.lemmas.List.Sorted.{IsNonDecreasingBy-from_sort_by_key}
use Rattle.dag_answers.proofs.SortLaws.{sorted_due}
use Rattle.dag_answers.proofs.making.marks_due.Goals as goal

pub returns : goal.returns
returns c =
    sorted_due c.args.marks.now _ c.requires (search rules)
    (IsNonDecreasingBy-from_sort_by_key (λ m. m.at) _ c.sort_unstable_by_key.ensures.sorted
    (λ a r q k. search rules))
