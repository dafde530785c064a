use Rattle.std.proofs.Common.{arith}
use Rattle.world_run.proofs.works.SessionWorkWorker.run.Goals as goal

pub run_script-requires-clause-lines : goal.run_script-requires-clause-lines
run_script-requires-clause-lines g c =
    record {
      rises = c.requires.may.rises;
      fit = c.requires.may.fit;
      few = (let few = c.requires.may.room.few in omega arith);
    }
