use Rattle.bucket_core.specs.Buckets.{HasNone}
use Rattle.bucket_core.proofs.buckets.Bucket.find.Given as goal

abbrev pub invariant-loop-slot : goal.invariant-loop-slot
invariant-loop-slot g l = HasNone l.self l.key l.slot
