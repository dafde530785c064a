use Rattle.std.proofs.Common.{List, ℕ, refl, subst}
use Rattle.dag_answers.specs.OfVersions.{TellsFile}
use Rattle.voxdag_c.specs.held.Calls.{WritesBytes}
use Rattle.voxdag_c.specs.held.Files.{FileSaves}
use Rattle.voxdag_c.proofs.OfHeld.FileAsks.{file_cells, file_has, file_has_not, file_moved}
use Rattle.voxdag_c.proofs.OfHeld.Fitting.{box_fits, box_leaves, file_fits, file_large}
use Rattle.voxdag_c.proofs.held.files.CFile.save.Goals as goal

pub returns-in-None-clause-saves : goal.returns-in-None-clause-saves
returns-in-None-clause-saves c =
    FileSaves.outside
    (λ f. box_leaves c.side.result _
    (file_cells c.args.self.now c.view-view.result c.side.result c.view-view.ensures c.side.ensures)
    c.args.part c.in-None.ensures.exactly f.inside) (record { bytes = refl; number = refl })

pub returns-then-not-is_small-clause-saves : goal.returns-then-not-is_small-clause-saves
returns-then-not-is_small-clause-saves c =
    FileSaves.outside
    (file_large _ c.args.part c.in-Some.b c.in-Some.ensures.value c.if-not-is_small.ensures) (record { bytes = refl; number = refl })

pub returns-in-Some-Ok-clause-saves : goal.returns-in-Some-Ok-clause-saves
returns-in-Some-Ok-clause-saves c =
    FileSaves.made _ c.in-Some-Ok.file.items
    (file_fits _ c.args.part c.in-Some.b c.in-Some.ensures.value
    (box_fits c.side.result _
    (file_cells c.args.self.now c.view-view.result c.side.result c.view-view.ensures c.side.ensures)
    c.args.part c.in-Some.b c.in-Some.ensures.value c.in-Some.ensures.exactly)
    (c.if-not-is_small.ensures.0 refl))
    (file_moved (λ bytes side part. TellsFile bytes side c.args.version part c.in-Some-Ok.file.items) c.args.self.now c.view-view.result c.args.part c.in-Some.b
    c.view-view.ensures c.in-Some.ensures.value (rw c.in-Some-Ok.field-0-is at c.in-Some-Ok.ensures.tells))
    (subst (λ (bytes : List ℕ). WritesBytes bytes c.args.out.now c.put_bytes.new.out c.put_bytes.new.needed c.put_bytes.result)
    c.as_slice.ensures.value c.put_bytes.ensures.writes)

pub returns-in-Some-Err-clause-saves : goal.returns-in-Some-Err-clause-saves
returns-in-Some-Err-clause-saves c =
    FileSaves.memory
    (file_has c.args.self.now c.view-view.result c.args.version c.view-view.ensures c.in-Some-Err.ensures.has)
    (file_fits _ c.args.part c.in-Some.b c.in-Some.ensures.value
    (box_fits c.side.result _
    (file_cells c.args.self.now c.view-view.result c.side.result c.view-view.ensures c.side.ensures)
    c.args.part c.in-Some.b c.in-Some.ensures.value c.in-Some.ensures.exactly)
    (c.if-not-is_small.ensures.0 refl)) (record { bytes = refl; number = refl })

pub returns-in-None-version_file-clause-saves : goal.returns-in-None-version_file-clause-saves
returns-in-None-version_file-clause-saves c =
    FileSaves.no_version
    (file_fits _ c.args.part c.in-Some.b c.in-Some.ensures.value
    (box_fits c.side.result _
    (file_cells c.args.self.now c.view-view.result c.side.result c.view-view.ensures c.side.ensures)
    c.args.part c.in-Some.b c.in-Some.ensures.value c.in-Some.ensures.exactly)
    (c.if-not-is_small.ensures.0 refl))
    (file_has_not c.args.self.now c.view-view.result c.args.version c.view-view.ensures c.in-None-version_file.ensures.has)
    (record { bytes = refl; number = refl })
