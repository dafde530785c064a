use Rattle.std.proofs.Common.{sym, subst}
use Rattle.core_laws.specs.places.Names.{HasNames}
use Rattle.one_store.specs.Known.{Known}
use Rattle.one_store.proofs.AddLaws.{fits_words}
use Rattle.one_store.proofs.store.OneStore.seek.Goals as goal

pub words_of-requires : goal.words_of-requires
words_of-requires c =
    fits_words _ c.args.level c.args.key.now c.self.invariant.plan c.requires.fits
    (subst (λ (v : Known). HasNames v.words.plan c.args.key.now)
    (sym c.self.view_is) c.requires.names)
