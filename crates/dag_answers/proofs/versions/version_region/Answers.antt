use Rattle.std.proofs.Common.{refl}
use Rattle.std.specs.Prelude.{option_copied}
use Rattle.flood.specs.Regions.{FilesRegion}
use Rattle.dag_answers.proofs.VersionLaws.{made_of_version}
use Rattle.dag_answers.proofs.versions.version_region.Goals as goal

pub returns-clause-tells : goal.returns-clause-tells
returns-clause-tells c =
    made_of_version (λ s r. FilesRegion c.args.part c.args.from r.cells r.file.items) c.args.view.now
    c.args.version c.in_ok-root.root c.side-side.result (option_copied c.as_ref.result) c.region_file-region.result
    (c.in_ok-root.ensures.has.0 refl) c.in_ok-root.ensures.block c.side-side.ensures c.as_ref.ensures.value
    c.region_file-region.ensures.file
