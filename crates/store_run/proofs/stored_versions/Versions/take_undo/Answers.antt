use Rattle.std.proofs.Common.{sym, arith}
use Rattle.store_run.proofs.Taking.{target_kept}
use Rattle.store_run.proofs.Targets.{may_go_to}
use Rattle.store_run.proofs.stored_versions.Versions.take_undo.Goals as goal

pub append-requires-clause-may : goal.append-requires-clause-may
append-requires-clause-may c =
    may_go_to c.args.self.now c.share-root.new.self c.args.next c.in-Some.to c.number-number.result
    c.share-root.result c.share-root.ensures.are c.number-number.ensures.store
    c.share-root.ensures.shares c.requires.other (sym c.in-Some.ensures)
    (target_kept c.args.self.now c.args.next c.in-Some.to c.requires.unmarked c.requires.other
    c.in-Some.ensures) (omega arith) (omega arith)
