use Rattle.std.proofs.Common.{length}
use Rattle.vox_scene.proofs.scenes.+known_rotated.Given as goal

abbrev pub decreases-known_rotated : goal.decreases-known_rotated
decreases-known_rotated l = length l.known.now
