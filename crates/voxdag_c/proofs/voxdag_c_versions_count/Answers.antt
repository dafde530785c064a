use Rattle.voxdag_c.proofs.Through.{through_reads}
use Rattle.voxdag_c.proofs.voxdag_c_versions_count.Goals as goal

pub returns-in-Some : goal.returns-in-Some
returns-in-Some c =
    through_reads _ _ _ _ c.in-Some.held.value c.deref.result.now _ c.in-Some.ensures.taken c.deref.ensures
    c.put.ensures c.count-status.ensures
