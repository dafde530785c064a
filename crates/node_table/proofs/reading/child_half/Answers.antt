use Rattle.std.proofs.Common.{ℕ, ◌≡◌, ◌+◌, ◌*◌, ◌/◌, ◌%◌, ◌-◌, ◌∙◌, ap, arith}
use Rattle.node_words.specs.shapes.Tree.{child_of, root_of}
use Rattle.core_laws.specs.places.KeyWords.{child_of_word}
use Rattle.node_table.proofs.ReadLaws.{half_small, half_child}
use Rattle.node_table.proofs.reading.child_half.Goals as goal

pub child_in-requires : goal.child_in-requires
child_in-requires c =
    let r = c.requires.reached in
    let small = half_small c.args.seat.now.view c.peek-found.ensures.tells r.tree c.args.n r.reached
    r.root c.args.table.now.plan c.plan-plan.ensures.plan c.requires.of.plan c.requires.level
    (c.args.octant / 2) c.peek-found.result (c.peek-found.ensures.word r.tree r.reached r.root)
    (c.args.octant % 2) (omega arith) in
    let e = c.half_of.ensures in omega (arith, small, e)

pub returns-clause-child : goal.returns-clause-child
returns-clause-child c = λ t r root.
    (let k : ℕ = c.args.octant in
    half_child c.args.seat.now.view c.peek-found.ensures.tells t c.args.n r root
    c.args.table.now.plan c.plan-plan.ensures.plan c.requires.of.plan c.requires.level
    (k / 2) c.peek-found.result (c.peek-found.ensures.word t r root) (k % 2) (omega arith)
    c.child_in.result
    (c.child_in.ensures.child ∙ ap (child_of_word (c.args.n.level - 1)) c.half_of.ensures)
    ∙ ap (λ (j : ℕ). root_of (child_of t j))
    (let same : 2 * (k / 2) + k % 2 ≡ k = omega arith in same))
