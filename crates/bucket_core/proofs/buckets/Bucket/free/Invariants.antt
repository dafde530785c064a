use Rattle.bucket_core.specs.Buckets.{AreInUse}
use Rattle.bucket_core.proofs.buckets.Bucket.free.Given as goal

abbrev pub invariant-loop-slot : goal.invariant-loop-slot
invariant-loop-slot g l = AreInUse l.self l.slot
