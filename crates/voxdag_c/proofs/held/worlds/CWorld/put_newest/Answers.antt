use Rattle.std.proofs.Common.{ℕ, sym, subst}
use Rattle.voxdag_c.specs.held.Calls.{PutsNewest}
use Rattle.voxdag_c.proofs.held.worlds.CWorld.put_newest.Goals as goal

pub returns : goal.returns
returns c =
    subst (λ (n : ℕ). PutsNewest c.args.self.now 0 n) (sym c.moment.ensures) PutsNewest.told
