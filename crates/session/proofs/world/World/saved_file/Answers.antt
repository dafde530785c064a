use Rattle.std.proofs.Common.{refl, rules}
use Rattle.std.specs.Prelude.{option_copied}
use Rattle.session.specs.SessionWorlds.{session_view}
use Rattle.session.proofs.PinFiles.{pin_file, pin_root}
use Rattle.session.proofs.world.World.saved_file.Goals as goal

pub file_of_root-requires-clause-root : goal.file_of_root-requires-clause-root
file_of_root-requires-clause-root c =
    pin_root c.args.self.now.table (session_view c.args.s.now.view) c.args.s.now.view.held
    c.args.saves.now c.args.k c.index-saves-k.result c.requires.holds c.requires.there
    c.index-saves-k.is c.args.self.now.table.plan.side (option_copied c.as_ref-root.result) refl
    (search rules)

pub returns-clause-file : goal.returns-clause-file
returns-clause-file c =
    pin_file c.args.self.now.table (session_view c.args.s.now.view) c.args.s.now.view.held
    c.args.saves.now c.args.k c.index-saves-k.result c.requires.holds c.requires.there
    c.index-saves-k.is c.args.self.now.tint c.args.part c.file_of_root.result
    (option_copied c.as_ref-root.result)
    c.requires.part.inside (search rules) c.file_of_root.ensures.file
