use Rattle.std.proofs.Common.{length}
use Rattle.voxdag_top.proofs.lines.+put_regions.Given as goal

abbrev pub decreases-put_regions : goal.decreases-put_regions
decreases-put_regions l = length l.counts.now
