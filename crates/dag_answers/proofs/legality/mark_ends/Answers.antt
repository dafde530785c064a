use Rattle.std.proofs.Common.{rules, ◌≡◌, ◌≤◌, ℕ, List, [], length, replicate, take, take_all, sym, subst, arith}
use Rattle.std.proofs.lemmas.List.{take_more}
use Rattle.history_model.specs.declared.histories.Mark.{Mark}
use Rattle.dag_answers.specs.Legality.{TellsEnds}
use Rattle.dag_answers.proofs.EndLaws.{no_ends}
use Rattle.dag_answers.proofs.legality.mark_ends.Goals as goal

pub loop-mark-init : goal.loop-mark-init
loop-mark-init c =
    let is : c.in_ok-ends.ends.items ≡ replicate {A = ℕ} 65536 4294967295 = c.in_ok-ends.ensures in
    subst (λ (ends : List ℕ). TellsEnds [] ends) (sym is) no_ends

pub loop-mark-preserved : goal.loop-mark-preserved
loop-mark-preserved c =
    let d : Mark = record { version = 0; at = 0; session = 0; line = 0 } in
    subst (λ (ms : List Mark). TellsEnds ms c.note_end.new.ends.items)
    (sym (take_more c.args.marks.now c.loop-mark.mark-index d (omega arith)))
    (c.note_end.ensures (take c.loop-mark.mark-index c.args.marks.now) c.loop-mark.invariant)

pub returns : goal.returns
returns c =
    let past : length c.args.marks.now ≤ c.loop-mark.mark-index = search rules in
    subst (λ (ms : List Mark). TellsEnds ms c.loop-mark.ends.items)
    (take_all c.loop-mark.mark-index c.args.marks.now past) c.loop-mark.invariant
