use Rattle.std.proofs.Common.{arith}
use Rattle.tests_versions.proofs.HoldingLaws.{back_few, holds_still}
use Rattle.tests_versions.proofs.turns.pin_first.Goals as goal

pub pin_blank-requires-clause-room : goal.pin_blank-requires-clause-room
pin_blank-requires-clause-room g c = let few = back_few _ _ _ c.requires in omega arith

pub returns-clause-holds : goal.returns-clause-holds
returns-clause-holds g c =
    holds_still _ _ _ c.requires _ c.pin_blank.ensures.of c.pin_blank.ensures.idle
    c.pin_blank.ensures.held
