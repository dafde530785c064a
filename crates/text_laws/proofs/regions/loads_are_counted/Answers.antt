use Rattle.text_laws.proofs.OfRegions.Loads.{loads_counted}
use Rattle.text_laws.proofs.regions.loads_are_counted.Goals as goal

pub returns : goal.returns
returns c = loads_counted c.sessions_agree_beside_others.ensures.own_records
