use Rattle.std.proofs.Common.{◌∙◌, ap, subst, ◌%◌, ℕ}
use Rattle.node_words.specs.Plans.{IsPlan}
use Rattle.core_laws.specs.places.KeyWords.{half}
use Rattle.one_store.specs.entries.Words.{Written}
use Rattle.one_store.proofs.OfEntries.ReadLaws.{child_small, child_read_at}
use Rattle.one_store.proofs.entries.entries.EntryWords.child.Goals as goal

pub child_in-requires : goal.child_in-requires
child_in-requires c =
    let w = c.args.self.now in
    let p = subst (λ (v : Written). IsPlan v.plan) c.self.view_is c.self.invariant.plan_is in
    let e = c.half_of.ensures ∙ ap (λ (x : ℕ). half (c.args.octant % 2) x) c.word-word.ensures in
    child_small w.plan c.args.n.level _ _ c.args.octant c.half_of.result p c.requires.level c.requires.octant c.requires.names e

pub returns : goal.returns
returns c =
    let w = c.args.self.now in
    let e = c.half_of.ensures ∙ ap (λ (x : ℕ). half (c.args.octant % 2) x) c.word-word.ensures in
    c.child_in.ensures.child
    ∙ child_read_at c.args.n.level _ _ c.args.octant c.half_of.result c.requires.level c.requires.octant e
