use Rattle.conformance.proofs.OfScripts.Arms.{rebuilt_arm, undone_arm, pushed_arm, other_arm, forgot_arm, full_arm, late_arm, resting_arm, before_within}
use Rattle.conformance.proofs.scripts.laws.arms_take_lines.Goals as goal

pub returns : goal.returns
returns c = record { rebuilt = rebuilt_arm; undone = undone_arm; pushed = pushed_arm; others = other_arm; forgot = forgot_arm; full = full_arm; late = late_arm; rests = resting_arm; before = before_within }
