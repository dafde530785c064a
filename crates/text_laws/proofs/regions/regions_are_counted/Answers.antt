use Rattle.text_laws.proofs.OfRegions.Loads.{regions_counted}
use Rattle.text_laws.proofs.regions.regions_are_counted.Goals as goal

pub returns : goal.returns
returns c = regions_counted c.sessions_agree_beside_others.ensures.own_records
