use Rattle.std.proofs.Common.{rules, ◌≡◌, true, false}
use Rattle.script.specs.Commands.{all_change_names, question_rows, is_among, is_row}
use Rattle.script.proofs.RowLaws.{question_found, other_found}
use Rattle.script.proofs.spelling.spell_command.Goals as goal

pub returns-then-is_question : goal.returns-then-is_question
returns-then-is_question c =
    let change : is_among all_change_names c.args.name.now ≡ false = search rules in
    let is : is_row (question_rows c.args.tint) c.args.name.now ≡ true = search rules in
    question_found c.args.tint c.args.name.now c.args.words.now c.spell_ask.result change is
    c.spell_ask.ensures

pub returns : goal.returns
returns c =
    let change : is_among all_change_names c.args.name.now ≡ false = search rules in
    let question : is_row (question_rows c.args.tint) c.args.name.now ≡ false = search rules in
    other_found c.args.tint c.args.name.now c.args.words.now c.spell_other.result change question
    c.spell_other.ensures
