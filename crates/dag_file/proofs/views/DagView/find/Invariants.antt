use Rattle.std.proofs.Common.{◌-◌}
use Rattle.dag_file.specs.Places.{versions_in}
use Rattle.dag_file.proofs.VersionLaws.{StandsBetween}
use Rattle.dag_file.proofs.views.DagView.find.Given as goal

abbrev pub invariant-loop-low : goal.invariant-loop-low
invariant-loop-low l =
    StandsBetween l.self.bytes (l.self.side - 1)
    (versions_in l.self.bytes) l.version l.low l.high

abbrev pub decreases-loop-low : goal.decreases-loop-low
decreases-loop-low l = l.high - l.low
