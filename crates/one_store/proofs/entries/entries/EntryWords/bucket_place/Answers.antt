use Rattle.std.proofs.Common.{◌<◌, ◌∙◌, ℕ, ap, sym, subst, arith}
use Rattle.node_words.specs.Plans.{Layout}
use Rattle.one_store.specs.entries.Slots.{IsBucket, bucket_place, number_of_buckets}
use Rattle.one_store.specs.entries.Words.{Written}
use Rattle.one_store.proofs.OfEntries.SlotLaws.{bucket_value, bucket_in, buckets_small}
use Rattle.one_store.proofs.entries.entries.EntryWords.bucket_place.Goals as goal

pub returns-clause-value : goal.returns-clause-value
returns-clause-value c =
    let p = ap (λ (w : Written). w.plan) c.self.view_is in
    bucket_value c.self.inside.plan c.self.inside.ends c.args.level c.args.bucket _ _ c.self.invariant.plan_is c.self.invariant.ends_are (subst (λ (q : Layout). IsBucket q c.args.level c.args.bucket) (sym p) c.requires) c.from.ensures c.from-2.ensures
    ∙ ap (λ (q : Layout). bucket_place q c.args.level c.args.bucket) p

pub returns-clause-inside : goal.returns-clause-inside
returns-clause-inside c =
    subst (λ (k : ℕ). k < number_of_buckets c.args.self.now.plan) (sym (returns-clause-value c))
    (bucket_in c.args.self.now.plan c.args.level c.args.bucket c.requires)

pub returns-clause-small : goal.returns-clause-small
returns-clause-small c =
    let p = ap (λ (w : Written). w.plan) c.self.view_is in
    omega (arith, returns-clause-inside c, ap number_of_buckets p, buckets_small c.self.inside.plan c.self.inside.ends c.self.invariant.plan_is c.self.invariant.ends_are)
