use Rattle.std.specs.Prelude.{option_copied}
use Rattle.store_run.proofs.Rebuilding.{makes_beside, still_held, few_held}
use Rattle.store_run.proofs.stored_versions.Versions.rebuild_from.Goals as goal

pub returns-clause-makes : goal.returns-clause-makes
returns-clause-makes g c =
    makes_beside c.args.self.now c.rebuild_act.new.store
    (option_copied c.args.base) c.args.act 0 c.rebuild_act.result
    c.requires.are c.requires.holds c.requires.is c.rebuild_act.ensures.made

pub returns-clause-held : goal.returns-clause-held
returns-clause-held g c =
    still_held c.args.self.now c.rebuild_act.new.store
    (option_copied c.args.base) c.args.act 0 c.rebuild_act.result
    c.requires.are c.requires.holds c.requires.is c.rebuild_act.ensures.made
    c.rebuild_act.ensures.rests

pub returns-clause-few : goal.returns-clause-few
returns-clause-few g c =
    few_held c.args.self.now c.rebuild_act.new.store
    (option_copied c.args.base) c.args.act 0 c.rebuild_act.result
    c.requires.are c.requires.holds c.requires.is c.rebuild_act.ensures.made c.requires.few
