use Rattle.std.proofs.Common.{◌≡◌, refl}
use Rattle.std.specs.Prelude.{option_copied}
use Rattle.extract.specs.Saved.{file_of_box}
use Rattle.dag_answers.proofs.VersionLaws.{made_of_version}
use Rattle.dag_answers.proofs.versions.version_file.Goals as goal

pub returns-clause-tells : goal.returns-clause-tells
returns-clause-tells c =
    made_of_version (λ s file cells. file.items ≡ file_of_box c.args.part cells) c.args.view.now
    c.args.version c.in_ok-root.root c.side-side.result (option_copied c.as_ref.result) c.box_file-file.result
    (c.in_ok-root.ensures.has.0 refl) c.in_ok-root.ensures.block c.side-side.ensures c.as_ref.ensures.value
    c.box_file-file.ensures.file
