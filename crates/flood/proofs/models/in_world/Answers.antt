use Rattle.std.specs.Prelude.{false}
use Rattle.vox_read.specs.Contents.{is_cell}
use Rattle.edit_stamp.specs.Stamps.{stamped}
use Rattle.flood.specs.Regions.{FilesRegion}
use Rattle.flood.specs.Models.{flood_plan, stamped_alone, RefusesStamp}
use Rattle.flood.proofs.ModelLaws.{ok_weaker, err_weaker, model_files, stamp_alike}
use Rattle.flood.proofs.models.in_world.Goals as goal

pub returns-clause-region : goal.returns-clause-region
returns-clause-region c =
    ok_weaker
    (λ r. FilesRegion c.args.b c.args.from r.cells r.file.items
    (stamped c.in_ok-stencil.stencil c.args.b.at (λ _. false)))
    (λ r. FilesRegion c.args.b c.args.from r.cells r.file.items (is_cell c.args.model.now.voxels))
    c.in_store.result
    (λ r says. model_files c.args.model.now c.in_ok-stencil.stencil c.args.b c.args.from r.cells
    r.file.items c.in_ok-stencil.ensures c.requires.b says)
    c.in_store.ensures.region

pub returns-clause-refused : goal.returns-clause-refused
returns-clause-refused c =
    err_weaker
    (RefusesStamp (flood_plan c.args.side)
    (stamped c.in_ok-stencil.stencil c.args.b.at (λ _. false)))
    (RefusesStamp (flood_plan c.args.side) (stamped_alone c.args.model.now)) c.in_store.result
    (λ r says. stamp_alike c.args.model.now c.in_ok-stencil.stencil c.args.b
    (flood_plan c.args.side) r c.in_ok-stencil.ensures c.requires.b says)
    c.in_store.ensures.refused
