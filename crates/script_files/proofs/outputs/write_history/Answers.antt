use Rattle.script_files.proofs.Ending.{not_closed, closed_writes}
use Rattle.script_files.proofs.outputs.write_history.Goals as goal

pub returns-in_default : goal.returns-in_default
returns-in_default g c = record {
  writes = (not_closed c.args.order.now c.args.run (g.S.Shelf.state c.args.shelf.now)
      c.in_default.ensures.refused);
}

pub returns : goal.returns
returns g c = record {
  writes = (closed_writes c.args.order.now c.args.run c.write_closed.result
      (g.S.Shelf.state c.args.shelf.now) (g.S.Shelf.state c.write_closed.new.shelf)
      (c.write_closed.ensures.writes c.args.run (record {
        closes = record { closes = c.in-Ok.ensures.closes; is_end = c.in-Ok.ensures.is_end };
        report = c.in-Ok.ensures.report;
        numbers = c.in-Ok.ensures.numbers;
      })));
}
