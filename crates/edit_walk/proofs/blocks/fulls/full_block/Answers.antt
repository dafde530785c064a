use Rattle.std.proofs.Common.{arith}
use Rattle.edit_walk.proofs.OfBlocks.AsideLaws.{aside_numbers}
use Rattle.edit_walk.proofs.blocks.fulls.full_block.Goals as goal

pub keep_full-requires-clause-room : goal.keep_full-requires-clause-room
keep_full-requires-clause-room g c =
    let (rest, a) = c.requires.aside in
    omega (
      arith,
      (aside_numbers _ rest _ a).least,
      (aside_numbers _ rest _ (c.raise.ensures.rest rest a)).most,
      c.requires.room,
    )
