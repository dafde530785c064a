use Rattle.std.proofs.Common.{rules, ◌≡◌, ◌+◌, ◌≤◌, ℕ, subst, arith}
use Rattle.store_run.specs.Kept.{moment_of}
use Rattle.store_run.specs.Taken.{AreTakenRoots}
use Rattle.store_run.proofs.Finding.{in_places, mark_read}
use Rattle.store_run.proofs.Taken.{all_taken, taken_few}
use Rattle.store_run.proofs.stored_versions.Versions.held_roots.Goals as goal

pub take_root-requires-clause-few : goal.take_root-requires-clause-few
take_root-requires-clause-few c =
    taken_few c.args.self c.loop-version.version c.loop-version.held.store
    c.loop-version.held.roots.items c.loop-version.invariant.taken (search rules)

pub loop-version-preserved : goal.loop-version-preserved
loop-version-preserved c =
    let le : c.loop-version.version ≤ moment_of c.args.self = search rules in
    let there = in_places c.args.self c.loop-version.version c.requires.are le in
    let places = c.requires.are.places in
    let is =
    mark_read c.args.self.marks.items c.loop-version.version c.index.result.now
    (omega (arith, there, places))
    c.index.ensures in
    record {
      taken = c.take_root.ensures.taken c.args.self c.requires.are le is c.loop-version.invariant.taken;
      room = search rules;
      ample = search rules;
    }

pub returns-clause-roots : goal.returns-clause-roots
returns-clause-roots c =
    let end : c.loop-version.version ≡ moment_of c.args.self + 1 = search rules in
    all_taken c.args.self c.loop-version.held.store c.loop-version.held.roots.items c.requires.are
    (subst (λ (n : ℕ). AreTakenRoots c.args.self n c.loop-version.held.store c.loop-version.held.roots.items)
    end c.loop-version.invariant.taken)
