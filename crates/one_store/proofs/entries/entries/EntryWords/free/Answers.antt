use Rattle.std.proofs.Common.{◌∙◌, ℕ, ap, subst, arith, List}
use Rattle.one_store.specs.entries.Words.{Written}
use Rattle.one_store.specs.entries.Tags.{AreTagged, tags_at}
use Rattle.one_store.proofs.OfEntries.FindLaws.{lowest_free, none_free, lives_to}
use Rattle.one_store.proofs.entries.entries.EntryWords.free.Goals as goal

pub returns-then-slot-cap-clause-lowest : goal.returns-then-slot-cap-clause-lowest
returns-then-slot-cap-clause-lowest c =
    let tags = c.self.inside.tags.items in
    let tagged = subst (λ (w : Written). AreTagged w tags) c.self.view_is c.self.invariant.tagged in
    let row =
    c.item-tags.ensures
    ∙ ap (λ (r : List (List ℕ)). tags_at r c.block_place.result) c.deref.ensures.value
    ∙ ap (tags_at tags) c.block_place.ensures.value in
    let cap = ap (λ (w : Written). w.plan.cap) c.self.view_is in
    lowest_free c.args.self.now tags c.args.level c.args.bucket c.loop-block.block c.in-Some.k c.item-tags.result tagged c.requires row c.loop-block.invariant c.in-Some.ensures.found
    (omega (arith, cap, c.if-slot-cap.true, c.from-cap.ensures, c.cap.ensures.value))

pub returns-else-slot-cap-clause-full : goal.returns-else-slot-cap-clause-full
returns-else-slot-cap-clause-full c q =
    let tags = c.self.inside.tags.items in
    let tagged = subst (λ (w : Written). AreTagged w tags) c.self.view_is c.self.invariant.tagged in
    let row =
    c.item-tags.ensures
    ∙ ap (λ (r : List (List ℕ)). tags_at r c.block_place.result) c.deref.ensures.value
    ∙ ap (tags_at tags) c.block_place.ensures.value in
    let cap = ap (λ (w : Written). w.plan.cap) c.self.view_is in
    none_free c.args.self.now tags c.args.level c.args.bucket c.loop-block.block c.in-Some.k c.item-tags.result tagged c.requires row c.loop-block.invariant c.in-Some.ensures.found
    (omega (arith, cap, c.if-slot-cap.false, c.from-cap.ensures, c.cap.ensures.value))

pub loop-block-preserved : goal.loop-block-preserved
loop-block-preserved c slot lt le =
    let tags = c.self.inside.tags.items in
    let tagged = subst (λ (w : Written). AreTagged w tags) c.self.view_is c.self.invariant.tagged in
    let row =
    c.item-tags.ensures
    ∙ ap (λ (r : List (List ℕ)). tags_at r c.block_place.result) c.deref.ensures.value
    ∙ ap (tags_at tags) c.block_place.ensures.value in
    lives_to c.args.self.now tags c.args.level c.args.bucket c.loop-block.block 16 c.item-tags.result tagged c.requires row (omega arith) c.loop-block.invariant (c.position.ensures.none c.in_default.is) slot lt (omega (arith, le))
