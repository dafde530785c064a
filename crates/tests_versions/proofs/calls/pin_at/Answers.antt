use Rattle.std.proofs.Common.{arith}
use Rattle.tests_versions.proofs.HoldingLaws.{few_held, gets_little, gets_named, kept_spare, went_spare}
use Rattle.tests_versions.proofs.calls.pin_at.Goals as goal

pub pin-requires-clause-room : goal.pin-requires-clause-room
pin-requires-clause-room g c = let few = few_held _ c.requires.held in omega arith

pub root_back-requires-clause-held : goal.root_back-requires-clause-held
root_back-requires-clause-held g c = gets_named _ _ _ c.in-Ok.ensures.pinned.gains

pub root_back-requires-clause-room : goal.root_back-requires-clause-room
root_back-requires-clause-room g c =
    gets_little _ _ _ _ c.requires c.in-Ok.ensures.pinned.gains

pub returns-in-Ok : goal.returns-in-Ok
returns-in-Ok g c =
    went_spare _ _ _ _ _ c.requires c.in-Ok.ensures.pinned.gains c.root_back.ensures.gone
    c.root_back.ensures.of c.root_back.ensures.idle

pub returns-in-Err : goal.returns-in-Err
returns-in-Err g c =
    kept_spare _ _ _ c.requires c.pin.ensures.free.of c.pin.ensures.free.idle c.in-Err.ensures.kept
