use Rattle.std.proofs.Common.{arith, refl}
use Rattle.extract.proofs.SideLaws.{all_filled, first_filled, next_filled}
use Rattle.extract.proofs.side_walks.fill_side_leaves.Goals as goal

pub returns-clause-fills : goal.returns-clause-fills
returns-clause-fills g c =
    let a = g.B.Blocks.seen c.args.store.now in
    let s = c.args.subject.now in
    let place = c.args.place in
    let b = c.args.b in
    let layer = c.args.layer in
    let near = c.of-near.ensures.near in
    let f0 = first_filled a.held s place b layer c.args.words.now in
    let f1 =
    next_filled a a s place b layer 0 c.args.words.now c.args.words.now c.put_side_leaf.new.words refl f0
    (c.put_side_leaf.ensures.fills a.held s near) in
    let f2 =
    next_filled a a s place b layer 1 c.args.words.now c.put_side_leaf.new.words c.put_side_leaf-2.new.words refl f1
    (c.put_side_leaf-2.ensures.fills a.held s near) in
    let f3 =
    next_filled a a s place b layer 2 c.args.words.now c.put_side_leaf-2.new.words c.put_side_leaf-3.new.words refl f2
    (c.put_side_leaf-3.ensures.fills a.held s near) in
    let f4 =
    next_filled a a s place b layer 3 c.args.words.now c.put_side_leaf-3.new.words c.put_side_leaf-4.new.words refl f3
    (c.put_side_leaf-4.ensures.fills a.held s near) in
    let f5 =
    next_filled a a s place b layer 4 c.args.words.now c.put_side_leaf-4.new.words c.put_side_leaf-5.new.words refl f4
    (c.put_side_leaf-5.ensures.fills a.held s near) in
    let f6 =
    next_filled a a s place b layer 5 c.args.words.now c.put_side_leaf-5.new.words c.put_side_leaf-6.new.words refl f5
    (c.put_side_leaf-6.ensures.fills a.held s near) in
    let f7 =
    next_filled a a s place b layer 6 c.args.words.now c.put_side_leaf-6.new.words c.put_side_leaf-7.new.words refl f6
    (c.put_side_leaf-7.ensures.fills a.held s near) in
    let f8 =
    next_filled a a s place b layer 7 c.args.words.now c.put_side_leaf-7.new.words c.put_side_leaf-8.new.words refl f7
    (c.put_side_leaf-8.ensures.fills a.held s near) in
    all_filled a.held s place b layer c.args.words.now c.put_side_leaf-8.new.words (omega (arith, c.requires.level)) f8
