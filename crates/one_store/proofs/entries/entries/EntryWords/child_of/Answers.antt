use Rattle.std.proofs.Common.{◌∙◌, ap, subst, ◌/◌, ◌%◌, ℕ}
use Rattle.node_words.specs.Plans.{IsPlan}
use Rattle.core_laws.specs.places.KeyWords.{half}
use Rattle.one_store.specs.declared.entries.key_words.Pairs.{Pairs}
use Rattle.one_store.specs.entries.Coding.{pair_number}
use Rattle.one_store.specs.entries.Words.{Written}
use Rattle.one_store.proofs.OfEntries.ReadLaws.{child_small, child_read_at}
use Rattle.one_store.proofs.entries.entries.EntryWords.child_of.Goals as goal

pub child_in-requires : goal.child_in-requires
child_in-requires c =
    let w = c.args.self.now in let k = c.args.octant in
    let p = subst (λ (v : Written). IsPlan v.plan) c.self.view_is c.self.invariant.plan_is in
    let word = c.word-word.ensures ∙ ap (λ (x : Pairs). pair_number x (k / 2)) c.requires.pairs in
    let e = c.half_of.ensures ∙ ap (λ (x : ℕ). half (k % 2) x) word in
    child_small w.plan c.args.n.level _ _ k c.half_of.result p c.requires.level c.requires.octant
    c.requires.names e

pub returns : goal.returns
returns c =
    let k = c.args.octant in
    let word = c.word-word.ensures ∙ ap (λ (x : Pairs). pair_number x (k / 2)) c.requires.pairs in
    let e = c.half_of.ensures ∙ ap (λ (x : ℕ). half (k % 2) x) word in
    c.child_in.ensures.child
    ∙ child_read_at c.args.n.level _ _ k c.half_of.result c.requires.level c.requires.octant e
