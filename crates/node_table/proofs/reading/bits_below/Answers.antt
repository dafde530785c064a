use Rattle.std.proofs.Common.{◌≡◌, ◌∙◌, Some, ap, sym}
use Rattle.node_table.proofs.ReadLaws.{reads_bits}
use Rattle.node_table.proofs.reading.bits_below.Goals as goal

pub returns-in-Some-clause-bits : goal.returns-in-Some-clause-bits
returns-in-Some-clause-bits c = λ t b.
    (let leaf = c.of_level-leaf.result in
    let is : c.args.child ≡ Some leaf = c.in-Some.is ∙ ap Some (sym c.of_level-leaf.ensures) in
    let r = b.reached leaf is in
    let root = b.root ∙ is in
    reads_bits c.args.seat.now.view c.peek.ensures.tells t leaf r root
    (b.of_level leaf is) c.peek.result (c.peek.ensures.word t r root))
