use Rattle.std.proofs.Common.{arith}
use Rattle.voxdag_c.specs.held.Calls.{IsGone}
use Rattle.voxdag_c.proofs.held.worlds.CWorld.why_gone.Goals as goal

pub returns-then-version-moment : goal.returns-then-version-moment
returns-then-version-moment c =
    IsGone.no_version (omega (arith, c.moment.ensures, c.if-version-moment.true))

pub returns-else-version-moment : goal.returns-else-version-moment
returns-else-version-moment c =
    IsGone.forgotten (omega (arith, c.moment.ensures, c.if-version-moment.false)) c.requires
