use Rattle.std.proofs.Common.{sym, arith}
use Rattle.store_run.proofs.Followed.{followed_kept}
use Rattle.store_run.proofs.Targets.{may_go_to}
use Rattle.store_run.proofs.stored_versions.Versions.follow_undo.Goals as goal

pub append-requires-clause-may : goal.append-requires-clause-may
append-requires-clause-may c =
    may_go_to c.args.self.now c.share-root.new.self c.args.next c.in-Some.to c.number-number.result
    c.share-root.result c.share-root.ensures.are c.number-number.ensures.store
    c.share-root.ensures.shares c.requires.other (sym c.in-Some.ensures)
    (followed_kept c.args.self.now c.args.next c.in-Some.to c.requires.are c.requires.other
    c.in-Some.ensures c.requires.follows) (omega arith) (omega arith)
