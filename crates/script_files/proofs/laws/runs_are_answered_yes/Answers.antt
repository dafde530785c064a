use Rattle.script_files.proofs.RunsAudited.{answered_yes}
use Rattle.script_files.proofs.laws.runs_are_answered_yes.Goals as goal

pub returns : goal.returns
returns c = answered_yes
