use Rattle.std.proofs.Common.{arith}
use Rattle.edit_copy.proofs.sources.source_in.Goals as goal

pub octant_name-requires-clause-block : goal.octant_name-requires-clause-block
octant_name-requires-clause-block g c =
    let (row, are) = c.requires.sources in record
    { tree = row c.from-from.result; is_block = are.each c.from-from.result (omega arith) }
