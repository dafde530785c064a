use Rattle.std.proofs.Common.{length}
use Rattle.vw_io.proofs.names.+collide.Given as goal

abbrev pub decreases-collide : goal.decreases-collide
decreases-collide l = length l.names.now
