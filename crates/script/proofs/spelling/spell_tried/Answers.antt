use Rattle.std.proofs.Common.{rules, ◌≡◌, true}
use Rattle.script.specs.Commands.{change_names, is_among}
use Rattle.script.proofs.RowLaws.{tried_found}
use Rattle.script.proofs.spelling.spell_tried.Goals as goal

pub returns : goal.returns
returns c =
    let is : is_among change_names c.args.name.now ≡ true = search rules in
    tried_found c.args.tint c.args.name.now c.args.words.now c.spell_change.result is
    c.spell_change.ensures
