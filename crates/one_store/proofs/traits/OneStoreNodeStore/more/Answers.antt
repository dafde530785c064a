use Rattle.std.proofs.Common.{◌∙◌, ap, sym, subst, Some}
use Rattle.node_words.specs.declared.shapes.names.Name.{Name}
use Rattle.node_words.proofs.HeldLaws.{holds_reaches, held_reached}
use Rattle.core_laws.specs.States.{IsLive}
use Rattle.one_store.specs.Known.{core_of}
use Rattle.one_store.proofs.TraitLaws.{reaches, raised_gains}
use Rattle.one_store.proofs.traits.OneStoreNodeStore.more.Goals as goal

pub raise-requires-clause-live : goal.raise-requires-clause-live
raise-requires-clause-live g c =
    subst (λ (n : Name). IsLive c.args.self.now.words.plan (core_of c.args.self.now) n)
    (sym c.name.ensures)
    (reaches c.args.self.now _ c.args.share.now c.number-number.ensures.store
    (holds_reaches c.args.self.now.told.held c.args.share.now c.requires.held))

pub returns-clause-held : goal.returns-clause-held
returns-clause-held g c t h e =
    raised_gains c.args.self.now c.raise.new.self _ t c.name.result c.number-number.ensures.store c.raise.ensures.raises (held_reached c.args.self.now.told.held t h) (e ∙ ap Some (sym c.name.ensures))
