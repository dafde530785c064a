use Rattle.std.proofs.Common.{rules, ℕ, ◌≤◌, Option, refl, subst}
use Rattle.std.specs.Prelude.{option_copied}
use Rattle.node_words.specs.declared.shapes.names.Name.{Name}
use Rattle.dag_file.specs.Trees.{opened_state}
use Rattle.store_run.specs.AnswersByRoots.{AnswersByRoot}
use Rattle.dag_answers.proofs.LookLaws.{version_told}
use Rattle.dag_answers.proofs.asking.ask_version.Goals as goal

pub returns-clause-tells : goal.returns-clause-tells
returns-clause-tells c =
    let low : 2 ≤ c.args.view.now.side = search rules in
    version_told c.args.view.now c.args.version c.in_ok-root.root c.args.question c.tell-answer.result
    low (c.in_ok-root.ensures.has.0 refl) c.in_ok-root.ensures.root
    (subst (λ (r : Option Name). AnswersByRoot (opened_state c.args.view.now).held c.args.view.now.side r
    c.args.question c.tell-answer.result) c.as_ref.ensures.value
    (subst (λ (s : ℕ). AnswersByRoot (opened_state c.args.view.now).held s
    (option_copied c.as_ref.result)
    c.args.question c.tell-answer.result) c.side-side.ensures c.tell-answer.ensures.tells))
