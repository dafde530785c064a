use Rattle.std.proofs.Common.{ap, sym, subst, ◌∙◌, ◌≡◌, arith, ℕ, List, get_or}
use Rattle.vw_cell.specs.Sums.{sum_below}
use Rattle.node_words.specs.Plans.{Layout}
use Rattle.core_laws.specs.places.WordIds.{buckets_at}
use Rattle.core_laws.specs.Blocks.{live_in, HasBlocks}
use Rattle.one_store.specs.Known.{Known, IsStore, core_of}
use Rattle.one_store.proofs.CountLaws.{counted_none, counted_next, live_blocks}
use Rattle.one_store.proofs.store.OneStore.live.Goals as goal

pub loop-bucket-init : goal.loop-bucket-init
loop-bucket-init c = record { number_is = counted_none _; few = omega arith }

pub loop-bucket-preserved : goal.loop-bucket-preserved
loop-bucket-preserved c = record {
  number_is = counted_next
      (λ bucket. live_in c.args.self.now.words.plan
      (core_of c.args.self.now) c.args.level bucket) c.loop-bucket.bucket _ _ c.loop-bucket.invariant.number_is c.live_in-number.ensures.number;
  few = omega (arith, c.loop-bucket.invariant.few, c.live_in-number.ensures.few);
}

pub returns-clause-blocks : goal.returns-clause-blocks
returns-clause-blocks c cells roots none =
    let v = c.args.self.now in
    let s = subst (λ (w : Known). IsStore w c.self.inside.number) c.self.view_is c.self.invariant in
    let end : get_or c.buckets.result c.from.result 0 ≡ buckets_at v.words.plan c.args.level =
    ap (λ (bs : List ℕ). get_or bs c.from.result 0) c.buckets.ensures.value
    ∙ ap (λ (p : Layout). get_or p.buckets c.from.result 0)
    (c.plan.ensures.plan ∙ ap (λ (w : Known). w.words.plan) c.self.view_is)
    ∙ ap (λ (i : ℕ). get_or v.words.plan.buckets i 0) c.from.ensures in
    let all : c.loop-bucket.bucket ≡ buckets_at v.words.plan c.args.level =
    omega (arith, end, c.loop-bucket.auto.bucket-end, c.loop-bucket-test.false) in
    let number =
    c.loop-bucket.invariant.number_is
    ∙ ap (λ (b : ℕ). sum_below b (live_in v.words.plan (core_of v) c.args.level)) all in
    subst (λ (n : ℕ). HasBlocks v.words.plan cells (core_of v) c.args.level n) (sym number)
    (live_blocks v _ c.args.level cells s c.requires roots none)
