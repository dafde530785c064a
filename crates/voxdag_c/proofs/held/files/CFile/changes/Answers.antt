use Rattle.std.proofs.Common.{refl, sym, subst}
use Rattle.dag_file.specs.Trees.{Opened}
use Rattle.dag_answers.specs.OfVersions.{TellsChanges}
use Rattle.voxdag_c.specs.held.Files.{FileDiffers}
use Rattle.voxdag_c.proofs.OfHeld.FileAsks.{file_lacks_one}
use Rattle.voxdag_c.proofs.held.files.CFile.changes.Goals as goal

pub returns-in-Some : goal.returns-in-Some
returns-in-Some c =
    FileDiffers.told c.in-Some.found
    (subst (λ (o : Opened). TellsChanges o.bytes o.side c.args.a c.args.b c.in-Some.found)
    c.view-view.ensures c.in-Some.ensures.tells)
    (sym c.put_extent.ensures.found, c.put_extent.ensures.none)

pub returns-in-None : goal.returns-in-None
returns-in-None c =
    FileDiffers.no_version
    (file_lacks_one c.args.self.now c.view-view.result c.args.a c.args.b c.view-view.ensures c.in-None.ensures.tells)
    (refl, refl)
