use Rattle.vw_io.proofs.Pieces.{piece_written}
use Rattle.std.proofs.Common.{arith, drop, length, ◌-◌, length-drop, length-take}
use Rattle.vw_io.proofs.writers.write_whole.Goals as goal

pub pieces-preserved : goal.pieces-preserved
pieces-preserved g c =
    let wrote = c.in-Ok.ensures in
    let before = c.pieces.invariant in
    record {
      within = omega (
        arith,
        wrote.within,
        before.within,
        length-take
            (length c.args.bytes.now - c.pieces.done)
            (drop c.pieces.done c.args.bytes.now),
        length-drop c.pieces.done c.args.bytes.now,
      );
      sent = piece_written _ _ _ c.args.bytes.now _ _ before.sent wrote.taken;
    }
