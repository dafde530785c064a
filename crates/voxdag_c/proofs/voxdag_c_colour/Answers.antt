use Rattle.voxdag_c.proofs.Through.{through_asks}
use Rattle.voxdag_c.proofs.voxdag_c_colour.Goals as goal

pub returns-in-Some : goal.returns-in-Some
returns-in-Some c =
    through_asks _ _ _ _ _ c.deref_mut.result.now _ _ c.in-Some.ensures.taken c.deref_mut.ensures.value c.put.ensures c.colour-status.ensures.same
    c.colour-status.ensures.asks
