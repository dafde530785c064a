use Rattle.std.proofs.Common.{sym, ◌∙◌}
use Rattle.std.specs.Prelude.{option_copied}
use Rattle.store_run.proofs.Rebuilding.{tints_told}
use Rattle.store_run.proofs.stored_versions.Versions.answer_root.Goals as goal

pub returns-then-tint-clause-tells : goal.returns-then-tint-clause-tells
returns-then-tint-clause-tells c =
    tints_told c.args.self.now c.args.version
    (option_copied c.args.root) c.args.question c.answer_tinted.result c.requires.are
    c.requires.kept c.requires.holds c.requires.is
    (sym c.tint.ensures ∙ c.if-tint.true) c.answer_tinted.ensures.tells
