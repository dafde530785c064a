use Rattle.core_laws.proofs.OfContents.MarkReadings.{mark_comes}
use Rattle.core_laws.proofs.contents.laws.marks_come_to_their_places.Goals as goal

pub returns : goal.returns
returns c = mark_comes
