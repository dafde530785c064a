use Rattle.std.proofs.Common.{◌≡◌, ◌≤◌, ◌∙◌, ℕ, ap, sym, subst, refl, arith, List, Bool}
use Rattle.std.specs.Prelude.{IsTrue, slice_index}
use Rattle.core_laws.specs.places.Names.{named}
use Rattle.one_store.specs.entries.Coding.{key_of}
use Rattle.one_store.specs.entries.Words.{Written, key_in}
use Rattle.one_store.specs.entries.Tags.{AreTagged, tags_at}
use Rattle.one_store.proofs.OfEntries.SlotLaws.{slot_name}
use Rattle.one_store.proofs.OfEntries.TagLaws.{tag_some}
use Rattle.one_store.proofs.OfEntries.FindLaws.{slot_at, slot_in, has_key, lacks_to, lacks_one}
use Rattle.one_store.proofs.OfEntries.ReadLaws.{untrue}
use Rattle.one_store.proofs.entries.entries.EntryWords.find_in.Goals as goal

pub has_words-requires : goal.has_words-requires
has_words-requires c =
    let tags = c.self.inside.tags.items in
    let tagged = subst (λ (w : Written). AreTagged w tags) c.self.view_is c.self.invariant.tagged in
    let row =
    c.item-tags.ensures
    ∙ ap (λ (r : List (List ℕ)). tags_at r c.block_place.result) c.deref.ensures.value
    ∙ ap (tags_at tags) c.block_place.ensures.value in
    let first = c.in-Some.ensures.found in
    let some : 1 ≤ slice_index c.item-tags.result c.in-Some.k =
    omega (arith, first.there, c.requires.tag, tag_some c.args.level c.args.words.now.bits c.args.words.now.pairs) in
    let slot =
    slot_in c.args.self.now tags c.args.level c.args.bucket c.args.block c.in-Some.k c.item-tags.result tagged c.requires.bucket row first.below some in
    slot_name c.args.self.now.plan c.args.level c.args.bucket
    (slot_at c.args.block c.in-Some.k) c.requires.bucket slot

pub returns-then-has_words-clause-found : goal.returns-then-has_words-clause-found
returns-then-has_words-clause-found c =
    let tags = c.self.inside.tags.items in
    let tagged = subst (λ (w : Written). AreTagged w tags) c.self.view_is c.self.invariant.tagged in
    let row =
    c.item-tags.ensures
    ∙ ap (λ (r : List (List ℕ)). tags_at r c.block_place.result) c.deref.ensures.value
    ∙ ap (tags_at tags) c.block_place.ensures.value in
    has_key c.args.self.now tags c.args.level c.args.bucket c.args.block c.loop-k.from c.in-Some.k c.args.words.now.bits c.args.tag c.args.words.now.pairs c.item-tags.result tagged c.requires.bucket row c.requires.tag c.in-Some.ensures.found
    (subst (λ (b : Bool). IsTrue b
    → key_in c.args.self.now
    (named c.args.level c.args.bucket (slot_at c.args.block c.in-Some.k))
    ≡ key_of c.args.level c.args.words.now) c.if-has_words.true c.has_words.ensures.0 refl)

pub loop-k-preserved : goal.loop-k-preserved
loop-k-preserved c =
    let tags = c.self.inside.tags.items in
    let tagged = subst (λ (w : Written). AreTagged w tags) c.self.view_is c.self.invariant.tagged in
    let row =
    c.item-tags.ensures
    ∙ ap (λ (r : List (List ℕ)). tags_at r c.block_place.result) c.deref.ensures.value
    ∙ ap (tags_at tags) c.block_place.ensures.value in
    let first = c.in-Some.ensures.found in
    let before =
    lacks_to c.args.self.now tags c.args.level c.args.bucket c.args.block c.loop-k.from c.in-Some.k c.args.words.now.bits c.args.tag c.args.words.now.pairs c.item-tags.result tagged c.requires.bucket row c.requires.tag (omega (arith, first.below)) c.loop-k.invariant.lacks first.earlier in
    record {
      high = omega (arith, first.below);
      lacks = lacks_one c.args.self.now c.args.level c.args.bucket c.args.block c.in-Some.k c.args.words.now.bits c.args.words.now.pairs before (λ q. untrue (sym (c.has_words.ensures.1 q) ∙ c.if-has_words.false));
    }

pub returns-clause-none : goal.returns-clause-none
returns-clause-none c q =
    let tags = c.self.inside.tags.items in
    let tagged = subst (λ (w : Written). AreTagged w tags) c.self.view_is c.self.invariant.tagged in
    let row =
    c.item-tags.ensures
    ∙ ap (λ (r : List (List ℕ)). tags_at r c.block_place.result) c.deref.ensures.value
    ∙ ap (tags_at tags) c.block_place.ensures.value in
    lacks_to c.args.self.now tags c.args.level c.args.bucket c.args.block c.loop-k.from 16 c.args.words.now.bits c.args.tag c.args.words.now.pairs c.item-tags.result tagged c.requires.bucket row c.requires.tag (omega arith) c.loop-k.invariant.lacks (c.position.ensures.none c.in_default.is)
