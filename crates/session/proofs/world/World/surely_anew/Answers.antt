use Rattle.std.proofs.Common.{refl}
use Rattle.session.proofs.ActLaws.{maker_of, models_of}
use Rattle.session.proofs.EditLaws.{act_told}
use Rattle.session.proofs.world.World.surely_anew.Goals as goal

pub returns-clause-told : goal.returns-clause-told
returns-clause-told g c =
    act_told c.args.self.now c.args.line c.args.act.now _ _ c.args.s.now.view
    c.edit_surely.new.s.view c.act_answer.ensures c.edit_surely.ensures.told

pub edit_surely-requires-clause-maker : goal.edit_surely-requires-clause-maker
edit_surely-requires-clause-maker g c =
    record {
      maker = maker_of c.args.self.now _ _ c.args.act.now _
          (models_of c.args.self.now _ _ c.self.view_is c.self.invariant) c.requires.edit.fits
          c.requires.edit.edit refl refl;
      recalled = tt;
    }
