use Rattle.voxdag_c.proofs.Through.{closes_none, closes_some}
use Rattle.voxdag_c.proofs.voxdag_c_versions_close.Goals as goal

pub returns-in-None : goal.returns-in-None
returns-in-None c = closes_none _ _ c.in-None.ensures.taken c.take.ensures.gone

pub returns-in-Some : goal.returns-in-Some
returns-in-Some c =
    closes_some _ _ c.in-Some.held.value c.in-Some.ensures.taken c.take.ensures.gone
