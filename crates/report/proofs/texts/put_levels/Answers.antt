use Rattle.report.proofs.LevelLines.{levels_step}
use Rattle.report.proofs.texts.put_levels.Goals as goal

pub loop-level-preserved : goal.loop-level-preserved
loop-level-preserved c =
    levels_step _ _ _ _ _ _ c.loop-level-test.true c.loop-level.invariant c.in_ok-put_level.ensures
