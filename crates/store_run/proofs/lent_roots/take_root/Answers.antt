use Rattle.std.proofs.Common.{rules, ◌+◌, List, subst, sym}
use Rattle.store_run.specs.Marked.{Rooted}
use Rattle.store_run.specs.Taken.{AreTakenRoots}
use Rattle.store_run.proofs.Taken.{version_passed, version_taken}
use Rattle.store_run.proofs.lent_roots.take_root.Goals as goal

pub returns-in-Some-clause-taken : goal.returns-in-Some-clause-taken
returns-in-Some-clause-taken c = λ v of_v le is taken.
    version_passed v c.args.version c.args.store.now c.args.roots.now.items taken of_v le
    c.in-Some._mark (search rules)

pub returns-clause-taken : goal.returns-clause-taken
returns-clause-taken c = λ v of_v le is taken.
    subst (λ (l : List Rooted). AreTakenRoots v (c.args.version + 1) c.take_root-root.new.self l)
    (sym c.push_reserved.ensures.items)
    (version_taken v c.args.version c.args.store.now c.args.roots.now.items taken of_v le
    c.take_root-root.new.self c.take_root-root.result (search rules) c.take_root-root.ensures.root
    c.take_root-root.ensures.gives)
