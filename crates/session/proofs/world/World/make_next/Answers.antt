use Rattle.std.proofs.Common.{ap, rules}
use Rattle.std.specs.Prelude.{option_copied}
use Rattle.act_rebuilds.specs.Acts.{MakesAct}
use Rattle.node_table.specs.TableStates.{PassState}
use Rattle.table_rule.specs.Views.{seen_of}
use Rattle.session.specs.Lendable.{StaysLendable}
use Rattle.session.proofs.LentLaws.{lent}
use Rattle.session.proofs.MakeLaws.{left_next, makes_next, may_make}
use Rattle.session.proofs.world.World.make_next.Goals as goal

pub make-requires-clause-may : goal.make-requires-clause-may
make-requires-clause-may g c =
    may_make c.args.self.now.table (g.M.ActMaker.drawn c.args.maker.now)
    (g.M.ActMaker.act c.args.maker.now) c.args.s.now c.hand-hand.result.session.now c.side-side.result _ _
    c.requires.maker.maker c.requires.ready c.requires.head.root_is c.requires.head.room
    c.hand-hand.ensures.session (search rules)

pub returns-clause-made : goal.returns-clause-made
returns-clause-made g c =
    let stays : StaysLendable c.args.self.now.table c.args.s.now c.make.new.store.session.now =
    search rules in
    left_next c.args.self.now.table (g.M.ActMaker.act c.args.maker.now) c.make.result
    c.args.s.now.view c.make.new.store.session.now.view _ (search rules)
    (makes_next c.args.self.now.table (g.M.ActMaker.act c.args.maker.now)
    (g.M.ActMaker.drawn c.args.maker.now) c.args.s.now c.make.new.store.session.now
    c.requires.maker.maker c.requires.ready stays (option_copied c.args.base)
    c.requires.head.root_is c.make.result
    (lent (λ side old new. MakesAct old side (option_copied c.args.base)
    (g.M.ActMaker.drawn c.args.maker.now).models (g.M.ActMaker.act c.args.maker.now)
    c.make.result new)
    c.args.self.now.table.plan.side c.side-side.result (seen_of c.args.s.now.view)
    (seen_of c.hand-hand.result.session.now.view) (seen_of c.make.new.store.session.now.view) _
    (ap (λ (s : PassState). seen_of s.view) c.hand-hand.ensures.session) (search rules)
    (search rules) c.make.ensures.made))
