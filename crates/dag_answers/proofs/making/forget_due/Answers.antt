use Rattle.std.proofs.Common.{rules, ◌≡◌, ◌<◌, ℕ, List, drop, length, subst, ap, ◌∙◌, arith}
use Rattle.std.specs.Prelude.{All}
use Rattle.history_model.specs.declared.histories.Mark.{Mark}
use Rattle.history_model.specs.declared.histories.Record.{Record}
use Rattle.dag_answers.proofs.ReplayLaws.{any_mark, due_comes, due_earlier, none_now}
use Rattle.dag_answers.proofs.making.forget_due.Goals as goal

pub forget-requires-clause-earlier : goal.forget-requires-clause-earlier
forget-requires-clause-earlier g c =
    due_earlier c.args.replay.now.models c.args.history.now c.args.due.now c.requires.dated.due
    c.number-now.result c.loop-next.next c.loop-next.replay any_mark c.loop-next.invariant.so_far
    c.requires.dated.marks (search rules) (search rules)

pub loop-next-preserved : goal.loop-next-preserved
loop-next-preserved g c =
    let lt : c.loop-next.next < length c.args.due.now = search rules in
    record {
      plan = c.forget.ensures.plan ∙ c.loop-next.invariant.plan;
      models = c.forget.ensures.models ∙ c.loop-next.invariant.models;
      next = omega (arith, lt);
      number =
          ap (λ (rs : List Record). length rs) c.forget.ensures.marks.records
          ∙ c.loop-next.invariant.number;
      so_far =
          due_comes c.args.replay.now.models c.args.history.now c.args.due.now c.requires.dated.due
          c.number-now.result c.loop-next.next c.loop-next.replay c.forget.new.self any_mark
          c.loop-next.invariant.so_far lt
          (search rules) c.forget.ensures.plan c.forget.ensures.models
          c.forget.ensures.marks c.forget.ensures.made;
    }

pub returns-else-due-next-clause-later : goal.returns-else-due-next-clause-later
returns-else-due-next-clause-later g c =
    let same : c.number-now.result ≡ length c.args.replay.now.log.records =
    c.number-now.ensures.value in
    subst (λ (n : ℕ). All (λ (m : Mark). n < m.at) (drop c.loop-next.next c.args.due.now)) same
    (none_now c.args.replay.now.models c.args.history.now c.args.due.now c.requires.dated.due
    c.number-now.result c.loop-next.next c.loop-next.replay any_mark c.loop-next.invariant.so_far
    (search rules) (search rules))
