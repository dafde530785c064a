use Rattle.std.proofs.Common.{ap, subst, ◌∙◌, ◌≡◌, ◌≤◌, arith, ℕ}
use Rattle.vw_cell.specs.Sums.{sum_below}
use Rattle.core_laws.specs.places.Names.{named}
use Rattle.core_laws.specs.Counting.{if_live}
use Rattle.one_store.specs.entries.Words.{book_in}
use Rattle.one_store.specs.entries.Used.{IsUnusedFrom}
use Rattle.one_store.specs.Known.{Known}
use Rattle.one_store.proofs.CountLaws.{counted_none, counted_next, counted_all}
use Rattle.one_store.proofs.store.OneStore.live_in.Goals as goal

pub loop-slot-init : goal.loop-slot-init
loop-slot-init c = record { number_is = counted_none _; few = omega arith }

pub loop-slot-preserved : goal.loop-slot-preserved
loop-slot-preserved c =
    let n = named c.args.level c.args.bucket c.loop-slot.slot in
    let book = c.book.ensures ∙ ap (λ (v : Known). book_in v.words n) c.self.view_is in
    record {
      number_is = counted_next
          (λ slot. if_live
          (book_in c.args.self.now.words
          (named c.args.level c.args.bucket slot)) 1) c.loop-slot.slot _ _ c.loop-slot.invariant.number_is
          (c.one_where_live-number.ensures.value ∙ ap (λ (b : ℕ). if_live b 1) book);
      few = omega (arith, c.loop-slot.invariant.few, c.one_where_live-number.ensures.one);
    }

pub returns-clause-number : goal.returns-clause-number
returns-clause-number c =
    let v = c.args.self.now in
    let used = c.used_of-slot-end.result in
    let f : ℕ → ℕ = λ slot. if_live (book_in v.words (named c.args.level c.args.bucket slot)) 1 in
    let free =
    subst (λ (w : Known). IsUnusedFrom w.words c.args.level c.args.bucket used) c.self.view_is c.used_of-slot-end.ensures.free in
    let within =
    subst (λ (w : Known). used ≤ w.words.plan.cap) c.self.view_is c.used_of-slot-end.ensures.within in
    let all : c.loop-slot.slot ≡ used =
    omega (arith, c.loop-slot.auto.slot-end, c.loop-slot-test.false) in
    c.loop-slot.invariant.number_is ∙ ap (λ (n : ℕ). sum_below n f) all
    ∙ counted_all f used v.words.plan.cap within
    (λ k lt le. ap (λ (b : ℕ). if_live b 1) (free k lt le))
