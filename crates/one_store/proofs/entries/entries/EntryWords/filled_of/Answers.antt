use Rattle.std.proofs.Common.{◌∙◌, ap, subst, arith}
use Rattle.one_store.specs.entries.Slots.{number_of_buckets}
use Rattle.one_store.specs.entries.Words.{Written}
use Rattle.one_store.specs.entries.Used.{AreFilled}
use Rattle.one_store.proofs.OfEntries.UsedLaws.{live_to}
use Rattle.one_store.proofs.entries.entries.EntryWords.filled_of.Goals as goal

pub returns-clause-live : goal.returns-clause-live
returns-clause-live c =
    let cap = ap (λ (w : Written). w.plan.cap) c.self.view_is in
    live_to c.args.self.now c.self.inside.filled.items c.args.level c.args.bucket c.bucket_place.result c.from-filled.result c.min.result c.args.self.now.plan.cap _ (c.self.invariant.filled_are ∙ ap (λ (w : Written). number_of_buckets w.plan) c.self.view_is)
    (subst (λ (w : Written). AreFilled w c.self.inside.filled.items) c.self.view_is c.self.invariant.all_live) c.requires c.bucket_place.ensures.value (c.from-filled.ensures ∙ c.index.ensures)
    (omega (arith, c.min.ensures))
    (omega (arith, cap, c.min.ensures, c.from.ensures, c.cap.ensures.value)) (omega arith)
