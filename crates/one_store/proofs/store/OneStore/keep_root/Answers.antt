use Rattle.std.proofs.Common.{sym, subst, Option}
use Rattle.node_words.specs.declared.shapes.names.Name.{Name}
use Rattle.core_laws.specs.Events.{PutsRoot}
use Rattle.one_store.specs.Known.{core_of}
use Rattle.one_store.specs.Steps.{KeepsRoot}
use Rattle.one_store.proofs.RootLaws.{keeps_none, none_event}
use Rattle.one_store.proofs.store.OneStore.keep_root.Goals as goal

pub returns-in-None-clause-keeps : goal.returns-in-None-clause-keeps
returns-in-None-clause-keeps c =
    subst (λ (o : Option Name). KeepsRoot c.args.self.now c.args.place o c.args.self.now)
    (sym c.in-None.is) (keeps_none c.args.self.now c.args.place c.requires.empty)

pub returns-in-None-clause-event : goal.returns-in-None-clause-event
returns-in-None-clause-event c =
    subst (λ (o : Option Name). PutsRoot c.args.self.now.words.plan 0 c.args.place o
    (core_of c.args.self.now) (core_of c.args.self.now)) (sym c.in-None.is)
    (none_event c.args.self.now c.args.place c.requires.place c.requires.empty)
