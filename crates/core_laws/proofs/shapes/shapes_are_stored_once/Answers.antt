use Rattle.std.proofs.Common.{refl}
use Rattle.core_laws.proofs.LiveShapes.{bucket_at, not_clear_at}
use Rattle.core_laws.proofs.OneShape.{canonical_of, one_shape, part_stored}
use Rattle.core_laws.proofs.shapes.shapes_are_stored_once.Goals as goal

pub returns : goal.returns
returns c = record {
  canonical = λ p state n s live. (canonical_of p state s n live, not_clear_at state.key n.level n);
  bucket =
      λ p state n s live. bucket_at p state s n.level n (record { live = live; same_level = refl });
  once = λ p state m n s of_m of_n same. one_shape p state s m n of_m of_n same;
  parts = λ p state n t s live part.
      part_stored p state s n.level n (record { live = live; same_level = refl }) part refl;
}
