use Rattle.store_run.proofs.Filling.{fills_bucket}
use Rattle.store_run.proofs.stored_versions.Versions.take_edit.Goals as goal

pub returns-in-Err-clause-fills : goal.returns-in-Err-clause-fills
returns-in-Err-clause-fills g c =
    fills_bucket c.args.self.now c.rebuild.new.self c.args.next.act c.in-Err.full c.in-Err.ensures.meets
    c.full_buckets_had_enough.ensures
