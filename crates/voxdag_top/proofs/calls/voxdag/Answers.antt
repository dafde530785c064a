use Rattle.voxdag_top.proofs.calls.voxdag.Goals as goal

pub returns : goal.returns
returns g c = (c.voxdag_gated.result.ended, c.voxdag_gated.ensures)
