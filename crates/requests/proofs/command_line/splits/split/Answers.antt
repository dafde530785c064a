use Rattle.std.proofs.Common.{◌≡◌, ◌∙◌, ap}
use Rattle.std.proofs.lemmas.Result.{IfOk-weaker}
use Rattle.clap.specs.Matches.{found_of}
use Rattle.clap.specs.Walk.{rows_of}
use Rattle.clap.specs.Simple.{is_simple, matches_of, app_of}
use Rattle.requests.specs.command_line.Command.{run_app}
use Rattle.requests.specs.command_line.Texts.{texts}
use Rattle.requests.proofs.OfCommandLine.Matching.{simple, line_found}
use Rattle.requests.proofs.command_line.splits.split.Goals as goal

pub returns-in-Ok : goal.returns-in-Ok
returns-in-Ok c =
    let command : app_of c.in_ok-command.command ≡ run_app = c.in_ok-command.ensures in
    let words = texts c.args.words.now in
    let found : rows_of (found_of c.in-Ok.matches) ≡ matches_of run_app words =
    (c.in-Ok.ensures.matches (ap is_simple command ∙ simple)).0
    ∙ ap (λ a. matches_of a words) command in
    IfOk-weaker c.line.result _ _
    (λ line is. is
    ∙ line_found words (rows_of (found_of c.in-Ok.matches)) c.requires found) c.line.ensures
