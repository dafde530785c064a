use Rattle.std.proofs.Common.{refl, subst}
use Rattle.dag_file.specs.Trees.{Opened}
use Rattle.dag_answers.specs.OfVersions.{TellsSame}
use Rattle.voxdag_c.specs.held.Files.{FileCompares}
use Rattle.voxdag_c.proofs.OfHeld.FileAsks.{file_lacks_one}
use Rattle.voxdag_c.proofs.held.files.CFile.same.Goals as goal

pub returns-in-Some : goal.returns-in-Some
returns-in-Some c =
    FileCompares.told
    (subst (λ (o : Opened). TellsSame o.bytes o.side c.args.a c.args.b c.in-Some.told)
    c.view-view.ensures c.in-Some.ensures.tells)

pub returns-in-None : goal.returns-in-None
returns-in-None c =
    FileCompares.no_version
    (file_lacks_one c.args.self.now c.view-view.result c.args.a c.args.b c.view-view.ensures c.in-None.ensures.tells)
    refl
