use Rattle.std.proofs.Common.{Option, sym, subst}
use Rattle.node_words.specs.declared.shapes.names.Name.{Name}
use Rattle.store_run.specs.Kept.{HoldsTree}
use Rattle.store_run.specs.Steps.{PutsDown}
use Rattle.store_run.proofs.Sparing.{with_store, puts_some}
use Rattle.store_run.proofs.stored_versions.Versions.give_back.Goals as goal

pub returns-in-Some-clause-puts : goal.returns-in-Some-clause-puts
returns-in-Some-clause-puts g c =
    let v = c.args.self.now in
    subst (λ (r : Option Name). PutsDown v r (with_store v c.back.new.self)) (sym c.in-Some.is)
    (puts_some v c.back.new.self c.in-Some.share
    (subst (λ (r : Option Name). HoldsTree v.store r) c.in-Some.is c.requires.holds)
    c.back.ensures.held c.back.ensures.only c.back.ensures.rests)
