use Rattle.std.proofs.Common.{rules, ◌≡◌}
use Rattle.commands.specs.Meanings.{file_in}
use Rattle.script_files.proofs.RunTexts.{first_refused, first_text}
use Rattle.script_files.proofs.scripts.read_texts.Goals as goal

pub returns-in_err-models-clause-refused : goal.returns-in_err-models-clause-refused
returns-in_err-models-clause-refused c =
    let is : file_in c.args.texts.items ≡ c.as_slice.result.now = search (first_text, rules) in
    search (first_refused, rules)
