use Rattle.vw_io.proofs.Pieces.{piece_read}
use Rattle.vw_io.proofs.readers.fill.Goals as goal

pub pieces-preserved : goal.pieces-preserved
pieces-preserved g c =
    let read = c.in_ok-taken.ensures in
    record {
      held = read.held;
      within = read.within;
      bytes = piece_read _ _ _ c.pieces.into.items _ _ _ read.front c.pieces.invariant.bytes read.bytes;
    }
