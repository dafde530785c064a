use Rattle.std.proofs.Common.{◌∙◌, arith}
use Rattle.tests_versions.proofs.HoldingLaws.{gets_few, gets_named, no_root_came}
use Rattle.tests_versions.proofs.edits.pin_blank.Goals as goal

pub root_back-requires-clause-held : goal.root_back-requires-clause-held
root_back-requires-clause-held g c = λ n is.
    gets_named _ _ _ c.in-Ok.ensures.pinned.gains n (c.in-Some.is ∙ is)

pub root_back-requires-clause-room : goal.root_back-requires-clause-room
root_back-requires-clause-room g c =
    let few = gets_few _ _ _ c.in-Ok.ensures.pinned.gains 3000 c.requires.room in omega arith

pub returns-in-None-clause-held : goal.returns-in-None-clause-held
returns-in-None-clause-held g c = no_root_came _ _ _ c.in-Ok.ensures.pinned.gains c.in-None.is
