use Rattle.std.proofs.lemmas.Bool.{ltb-true}
use Rattle.extract.proofs.NearLaws.{alike_hides, hides_so}
use Rattle.extract.proofs.surrounded.Surrounded.is_hidden_alike.Goals as goal

pub returns-in-Some-clause-none : goal.returns-in-Some-clause-none
returns-in-Some-clause-none g c is =
    let held = (g.B.Blocks.seen c.args.store.now).held in
    alike_hides held c.args.self.now c.args.level c.in-Some.number c.requires.even
    (c.in-Some.ensures held c.requires.found.alike) (ltb-true 0 c.in-Some.number is)

pub returns-clause-found : goal.returns-clause-found
returns-clause-found g c =
    let held = (g.B.Blocks.seen c.args.store.now).held in
    record {
      wholes = c.hides_all-hidden.ensures.wholes;
      alike = c.keep.ensures held c.requires.found.alike
          (hides_so held c.args.self.now c.args.level c.number_of.result c.hides_all-hidden.result
          c.requires.even c.number_of.ensures c.hides_all-hidden.ensures.none);
    }
