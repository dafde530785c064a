use Rattle.one_store.proofs.TraitLaws.{reaches, raised_gains}
use Rattle.one_store.proofs.traits.OneStoreNodeStore.keep_at.Goals as goal

pub raise-requires-clause-live : goal.raise-requires-clause-live
raise-requires-clause-live g c =
    reaches c.args.self.now _ c.args.n c.number-number.ensures.store c.requires.reached

pub returns-clause-held : goal.returns-clause-held
returns-clause-held g c t r e =
    raised_gains c.args.self.now c.raise.new.self _ t c.args.n c.number-number.ensures.store c.raise.ensures.raises r e
