use Rattle.std.proofs.Common.{rules, ◌≡◌, ◌^◌, ℕ, List, subst}
use Rattle.std.specs.Prelude.{IfOk}
use Rattle.history_model.specs.declared.histories.Record.{Record}
use Rattle.dag_answers.specs.Legality.{FindsIllegal, TellsEnds}
use Rattle.dag_answers.proofs.legality.first_illegal.Goals as goal

pub returns : goal.returns
returns c =
    let tells : TellsEnds c.args.history.now.marks c.as_slice-3.result.now = search rules in
    let is : c.as_slice-2.result.now ≡ c.args.history.now.records = search rules in
    let side : c.history.inside.side ≡ c.args.history.now.side = search rules in
    subst (λ (s : ℕ). IfOk c.find_illegal.result (FindsIllegal (2 ^ s) c.args.models.now
    (record { side = s; coloured = c.args.history.now.coloured; records = c.args.history.now.records; marks = c.args.history.now.marks }))) side
    (subst (λ (rs : List Record). IfOk c.find_illegal.result
    (FindsIllegal (2 ^ c.history.inside.side) c.args.models.now
    (record { side = c.history.inside.side; coloured = c.args.history.now.coloured; records = rs; marks = c.args.history.now.marks }))) is
    (c.find_illegal.ensures c.args.history.now.coloured c.args.history.now.marks tells))
