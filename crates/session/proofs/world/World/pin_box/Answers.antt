use Rattle.session.proofs.AskLaws.{refused}
use Rattle.session.proofs.SaveLaws.{adds_pin, save_told, version_is}
use Rattle.session.proofs.world.World.pin_box.Goals as goal

pub returns-in-Ok-clause-told : goal.returns-in-Ok-clause-told
returns-in-Ok-clause-told g c =
    λ number.
    save_told c.args.self.now c.args.version c.args.s.now c.pin.new.s c.in-Ok.pin c.requires.ready.rest
    c.pin.ensures.looks c.in-Ok.ensures.came number c.count_pinned-cells.new.s c.args.part
    c.count_pinned-cells.result c.count_pinned-cells.ensures.read.seen c.count_pinned-cells.ensures.cells

pub returns-in-Err-clause-told : goal.returns-in-Err-clause-told
returns-in-Err-clause-told g c =
    λ number.
    refused c.args.version c.args.s.now.view c.pin.new.s.view c.in-Err.refused
    c.in-Err.ensures.looks c.in-Err.ensures.came.refused

pub returns-in-Ok-clause-came : goal.returns-in-Ok-clause-came
returns-in-Ok-clause-came g c =
    record {
      pinned = adds_pin c.args.self.now c.args.version c.args.s.now c.pin.new.s c.in-Ok.pin c.requires.ready.rest
          c.pin.ensures.looks c.in-Ok.ensures.came c.tell.ensures c.count_pinned-cells.new.s
          c.count_pinned-cells.ensures.read.seen c.count_pinned-cells.ensures.read.held;
      asked_for = version_is c.args.self.now c.args.version c.args.s.now c.pin.new.s c.in-Ok.pin c.requires.ready.rest
          c.pin.ensures.looks c.in-Ok.ensures.came;
    }
