use Rattle.std.proofs.Common.{ap, ◌∙◌, ◌∷◌, [], ◌++◌}
use Rattle.history_model.specs.Logs.{Log}
use Rattle.history_model.proofs.TakingLaws.{takes_record_as, takes_mark_as, no_entry_in}
use Rattle.history_model.proofs.reading.add_entry.Goals as goal

pub returns-in-Some : goal.returns-in-Some
returns-in-Some c =
    takes_record_as c.args.history.now c.args.line.now c.in-Some.record _ _ _ _
    (ap (λ (h : Log). h.side) c.history.view_is)
    (ap (λ (h : Log). h.coloured) c.history.view_is)
    (c.in_ok-push.ensures.items
    ∙ ap (λ (h : Log). h.records ++ c.in-Some.record ∷ []) c.history.view_is)
    (ap (λ (h : Log). h.marks) c.history.view_is) c.requires c.in-Some.ensures

pub returns-in_ok-push-in-Some-next_mark : goal.returns-in_ok-push-in-Some-next_mark
returns-in_ok-push-in-Some-next_mark c =
    takes_mark_as c.args.history.now c.args.line.now c.in-Some-next_mark.mark _ _ _ _
    (ap (λ (h : Log). h.side) c.history.view_is)
    (ap (λ (h : Log). h.coloured) c.history.view_is)
    (ap (λ (h : Log). h.records) c.history.view_is)
    (c.in_ok-push-in-Some-next_mark.ensures.items
    ∙ ap (λ (h : Log). h.marks ++ c.in-Some-next_mark.mark ∷ []) c.history.view_is) c.requires c.in-Some-next_mark.ensures.0 c.in-Some-next_mark.ensures.1

pub returns-in-None : goal.returns-in-None
returns-in-None c =
    (c.line_number.ensures.number, no_entry_in c.args.history.now c.args.line.now c.requires c.in_default.ensures c.in-None.ensures)
