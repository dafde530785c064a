use Rattle.std.proofs.Common.{◌≤◌, arith}
use Rattle.store_run.specs.Kept.{moment_of}
use Rattle.store_run.proofs.Finding.{in_places, marked_at, read_mark}
use Rattle.store_run.proofs.stored_versions.Versions.find.Goals as goal

pub returns-in-Some : goal.returns-in-Some
returns-in-Some c =
    let le : c.args.version ≤ moment_of c.args.self.now =
    omega (arith, c.if-version-moment.false, c.moment.ensures.value) in
    marked_at c.args.self.now c.args.version c.in-Some.field-0 c.requires le
    (read_mark c.args.self.now.marks.items c.args.version c.index.result.now c.in-Some.field-0
    (omega (arith, in_places c.args.self.now c.args.version c.requires le, c.requires.places)) c.index.ensures c.in-Some.is)
