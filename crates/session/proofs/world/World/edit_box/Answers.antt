use Rattle.std.proofs.Common.{◌∙◌, sym}
use Rattle.session.proofs.ActLaws.{maker_of, models_of}
use Rattle.session.proofs.world.World.edit_box.Goals as goal

pub edit-requires-clause-maker : goal.edit-requires-clause-maker
edit-requires-clause-maker g c =
    record {
      maker = maker_of c.args.self.now _ _ c.args.act.now _
          (models_of c.args.self.now _ _ c.self.view_is c.self.invariant) c.requires.edit.fits
          c.requires.edit.edit c.new-maker.ensures.models (c.new-maker.ensures.act ∙ sym c.requires.act);
      recalled = c.new-maker.ensures.recalls c.args.s.now.view.held;
    }
