use Rattle.std.proofs.Common.{◌∙◌, ap, sym, arith}
use Rattle.one_store.specs.entries.Words.{child_bits}
use Rattle.one_store.proofs.OfEntries.ReadLaws.{child_below}
use Rattle.one_store.proofs.entries.entries.EntryWords.leaf_of.Goals as goal

pub bits-requires-clause-name : goal.bits-requires-clause-name
bits-requires-clause-name c =
    c.requires.names.each c.args.octant c.in-Some.leaf c.requires.octant
    (sym c.child_of.ensures ∙ c.in-Some.is)

pub bits-requires-clause-level : goal.bits-requires-clause-level
bits-requires-clause-level c =
    let one = c.requires.level in
    let l = child_below c.args.n.level _ _ c.args.octant c.in-Some.leaf (omega (arith, one))
    c.requires.octant (sym c.child_of.ensures ∙ c.in-Some.is) in
    omega (arith, l, one)

pub returns-in-Some : goal.returns-in-Some
returns-in-Some c =
    c.bits.ensures
    ∙ ap (child_bits c.args.self.now) (sym c.in-Some.is ∙ c.child_of.ensures)

pub returns-in-None : goal.returns-in-None
returns-in-None c = ap (child_bits c.args.self.now) (sym c.in-None.is ∙ c.child_of.ensures)
