use Rattle.std.proofs.Common.{refl}
use Rattle.tests_versions.proofs.HoldingLaws.{gone_named, gone_none}
use Rattle.tests_versions.proofs.uniform.root_back.Goals as goal

pub returns-in-Some-clause-gone : goal.returns-in-Some-clause-gone
returns-in-Some-clause-gone g c =
    gone_named _ _ _ c.in-Some.share c.in-Some.is c.back.ensures.held

pub returns-in-None-clause-gone : goal.returns-in-None-clause-gone
returns-in-None-clause-gone g c = gone_none _ _ _ c.in-None.is refl
