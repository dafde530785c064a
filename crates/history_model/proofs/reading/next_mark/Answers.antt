use Rattle.std.proofs.Common.{◌≤◌, subst, sym}
use Rattle.history_model.specs.Logs.{Log}
use Rattle.history_model.specs.Entries.{next_version}
use Rattle.history_model.proofs.TakingLaws.{marks_few}
use Rattle.history_model.proofs.reading.next_mark.Goals as goal

pub least_version-least-requires : goal.least_version-least-requires
least_version-least-requires c =
    rw c.as_slice.ensures.value
    (subst (λ (h : Log). next_version 0 h.marks ≤ 65535) (sym c.history.view_is)
    ((marks_few c.args.history.now c.requires).1))
