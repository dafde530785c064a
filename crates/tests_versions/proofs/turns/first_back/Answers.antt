use Rattle.std.proofs.Common.{arith}
use Rattle.tests_versions.proofs.HoldingLaws.{back_few, back_named, back_spare_again}
use Rattle.tests_versions.proofs.turns.first_back.Goals as goal

pub root_back-requires-clause-held : goal.root_back-requires-clause-held
root_back-requires-clause-held g c = back_named _ _ _ c.requires

pub root_back-requires-clause-room : goal.root_back-requires-clause-room
root_back-requires-clause-room g c = let few = back_few _ _ _ c.requires in omega arith

pub returns : goal.returns
returns g c =
    back_spare_again _ _ _ c.requires _ c.root_back.ensures.of c.root_back.ensures.idle.bucket
    c.root_back.ensures.log c.root_back.ensures.gone
