use Rattle.std.proofs.Common.{◌∙◌, ap, subst, arith}
use Rattle.one_store.specs.entries.Slots.{number_of_buckets}
use Rattle.one_store.specs.entries.Words.{Written}
use Rattle.one_store.specs.entries.Used.{AreUsed}
use Rattle.one_store.proofs.OfEntries.UsedLaws.{unused_from}
use Rattle.one_store.proofs.entries.entries.EntryWords.used_of.Goals as goal

pub returns-clause-free : goal.returns-clause-free
returns-clause-free c =
    let cap = ap (λ (w : Written). w.plan.cap) c.self.view_is in
    unused_from c.args.self.now c.self.inside.used.items c.args.level c.args.bucket c.bucket_place.result c.from-used.result c.min.result _ (c.self.invariant.used_are ∙ ap (λ (w : Written). number_of_buckets w.plan) c.self.view_is)
    (subst (λ (w : Written). AreUsed w c.self.inside.used.items) c.self.view_is c.self.invariant.unused) c.requires c.bucket_place.ensures.value (c.from-used.ensures ∙ c.index.ensures)
    (λ slot lt le. omega (arith, lt, le, cap, c.min.ensures, c.from.ensures, c.cap.ensures.value))
