use Rattle.std.proofs.Common.{rules, ◌+◌, arith, ap}
use Rattle.version_log.proofs.WordLaws.{edit_stands, edit_by_not}
use Rattle.version_log.proofs.finishing.cursor_ahead.Goals as goal

pub returns-in_default : goal.returns-in_default
returns-in_default c =
    record {
      finds = record {
        turn = c.requires.begins.turn;
        learns = record { grows = record { stays = λ x n k. k }; is = search rules };
        stands = record {
          next = edit_stands c.args.pass.now.view.log.seen.records c.args.act.now (c.args.at + 1)
              (edit_by_not c.args.act.now c.in_default.not-Undo c.in_default.not-Redo)
              (ap (λ n. n + 1) c.requires.begins.at);
          small = (omega arith, omega arith);
        };
      };
    }
