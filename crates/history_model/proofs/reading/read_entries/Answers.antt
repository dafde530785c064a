use Rattle.std.proofs.Common.{ap, sym, subst, ◌∙◌, List, ◌++◌, ℕ}
use Rattle.std.proofs.lemmas.Result.{err_from_is_err_and}
use Rattle.plain_text.specs.Parts.{lines}
use Rattle.history_model.specs.declared.reading.JournalFault.{JournalFault}
use Rattle.history_model.specs.Entries.{front_lines, begun}
use Rattle.history_model.specs.Refusals.{RefusesLines}
use Rattle.history_model.proofs.TakingLaws.{tail_unfit}
use Rattle.history_model.proofs.ReadLaws.{all_lines_read, more_behind, entry_unfit}
use Rattle.history_model.proofs.reading.read_entries.Goals as goal

pub returns-in_default-clause-refused : goal.returns-in_default-clause-refused
returns-in_default-clause-refused c =
    tail_unfit c.loop-line.history _ c.loop-line.rest.now c.line_number.result c.loop-line.invariant.told (c.loop-line.invariant.lined ∙ ap (λ (ls : List (List ℕ)). front_lines c.loop-line.history ++ ls) c.in_default.ensures.lines) c.line_number.ensures.number

pub returns-then-is_empty-clause-read : goal.returns-then-is_empty-clause-read
returns-then-is_empty-clause-read c = (
  c.loop-line.invariant.told,
  all_lines_read c.loop-line.history _
      (lines c.loop-line.rest.now) c.in-Some.line.now c.in-Some.after.now c.loop-line.invariant.lined c.in-Some.ensures.lines (sym c.eq.ensures ∙ c.if-eq.true) (sym c.is_empty.ensures ∙ c.if-is_empty.true),
)

pub returns-then-eq-clause-refused : goal.returns-then-eq-clause-refused
returns-then-eq-clause-refused c =
    more_behind c.loop-line.history _
    (lines c.loop-line.rest.now) c.in-Some.line.now c.in-Some.after.now c.line_number-then-eq.result c.loop-line.invariant.told c.loop-line.invariant.lined c.in-Some.ensures.lines (sym c.eq.ensures ∙ c.if-eq.true) (sym c.is_empty.ensures ∙ c.if-is_empty.false) c.line_number-then-eq.ensures.number

pub returns-in_err-add_entry-clause-refused : goal.returns-in_err-add_entry-clause-refused
returns-in_err-add_entry-clause-refused c =
    let p = err_from_is_err_and c.from_residual.result c.from_residual.ensures.1 in
    let fact : RefusesLines c.in_err-add_entry.field-0.0 (begun c.args.coloured c.args.side ++ lines c.args.entries.now) =
    entry_unfit c.in_err-add_entry.field-0.0 c.loop-line.history _
    (lines c.loop-line.rest.now) c.in-Some.line.now c.in-Some.after.now c.loop-line.invariant.told c.loop-line.invariant.lined c.in-Some.ensures.lines (sym c.eq.ensures ∙ c.if-eq.false) c.in_err-add_entry.ensures in
    rw p.1 (subst
    (λ (fault : JournalFault). RefusesLines fault
    (begun c.args.coloured c.args.side ++ lines c.args.entries.now)) (sym p.2) fact)
