use Rattle.std.proofs.Common.{rules}
use Rattle.dag_answers.specs.Replays.{AreDue}
use Rattle.dag_answers.proofs.ReplayLaws.{replayed_log}
use Rattle.dag_answers.proofs.making.replay_history.Goals as goal

pub returns-clause-world : goal.returns-clause-world
returns-clause-world g c =
    let of_due : AreDue c.args.history.now.marks c.as_slice-2.result.now = search rules in
    record {
      plan = search rules;
      models = search rules;
      log = replayed_log c.in_ok-replay.replay.models c.args.history.now c.as_slice-2.result.now
          of_due c.replay_all.new.replay c.in_ok-replay_all.ensures.all c.requires.replays.marks;
    }
