use Rattle.std.proofs.Common.{◌≡◌, ◌-◌, refl, subst}
use Rattle.dag_file.specs.Places.{versions_in}
use Rattle.dag_file.specs.Trees.{Opened, IsNewest}
use Rattle.voxdag_c.specs.held.Files.{TellsNewest}
use Rattle.voxdag_c.proofs.held.files.CFile.put_newest.Goals as goal

pub returns-in-Some : goal.returns-in-Some
returns-in-Some c =
    TellsNewest.told (subst (λ (o : Opened). IsNewest o.bytes (o.side - 1) c.in-Some.newest)
    c.view.ensures c.in-Some.ensures)

pub returns-in-None : goal.returns-in-None
returns-in-None c =
    TellsNewest.no_version (subst (λ (o : Opened). versions_in o.bytes ≡ 0) c.view.ensures c.in-None.ensures)
    refl
