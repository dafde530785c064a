use Rattle.requests.proofs.OfCommandLine.Matching.{bare_is}
use Rattle.requests.proofs.command_line.splits.bare_command.Goals as goal

pub returns : goal.returns
returns c = bare_is _ _ _ c.new.ensures.app c.no_binary_name.ensures c.disable_help_flag.ensures
