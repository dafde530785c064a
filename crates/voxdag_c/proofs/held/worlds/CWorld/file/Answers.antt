use Rattle.std.proofs.Common.{sym, ◌∙◌}
use Rattle.voxdag_c.proofs.OfHeld.Kinds.{tinted_part, plain_part, tinted_file, plain_file}
use Rattle.voxdag_c.proofs.held.worlds.CWorld.file.Goals as goal

pub tint_file-requires-clause-inside : goal.tint_file-requires-clause-inside
tint_file-requires-clause-inside c =
    tinted_part c.args.self.now c.args.version c.args.part (sym c.tint.ensures ∙ c.if-tint.true)
    c.requires.inside

pub file-requires-clause-inside : goal.file-requires-clause-inside
file-requires-clause-inside c =
    plain_part c.args.self.now c.args.version c.args.part (sym c.tint.ensures ∙ c.if-tint.false)
    c.requires.inside

pub returns-then-tint-clause-file : goal.returns-then-tint-clause-file
returns-then-tint-clause-file c =
    tinted_file c.args.self.now c.args.version c.args.part c.tint_file.result
    (sym c.tint.ensures ∙ c.if-tint.true) c.tint_file.ensures.file

pub returns-clause-file : goal.returns-clause-file
returns-clause-file c =
    plain_file c.args.self.now c.args.version c.args.part c.file.result
    (sym c.tint.ensures ∙ c.if-tint.false) c.file.ensures.file
