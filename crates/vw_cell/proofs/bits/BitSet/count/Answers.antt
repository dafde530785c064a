use Rattle.std.proofs.Common.{◌≡◌, rules}
use Rattle.vw_cell.proofs.Ranges.{number_step}
use Rattle.vw_cell.proofs.bits.BitSet.count.Goals as goal

pub loop-at-preserved : goal.loop-at-preserved
loop-at-preserved c =
    let same : c.self.inside.words.items ≡ c.args.self.now = c.self.view_is in
    number_step c.args.self.now c.self.inside.words.items c.args.from c.args.to c.loop-at.at c.piece_at-piece.result c.index-word.result.now c.loop-at.set c.count_bits-set.result same (search rules) c.index-word.ensures
    c.loop-at.invariant c.piece_at-piece.ensures.in_word c.piece_at-piece.ensures.in_range c.count_bits-set.ensures.value c.count_bits-set.ensures.bound
