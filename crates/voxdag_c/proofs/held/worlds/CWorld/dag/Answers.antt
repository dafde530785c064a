use Rattle.std.proofs.Common.{List, ℕ, refl, subst}
use Rattle.dag_answers.proofs.FileLaws.{file_of_held}
use Rattle.voxdag_c.specs.held.Calls.{WritesBytes}
use Rattle.voxdag_c.specs.held.Facts.{WorldFiles}
use Rattle.voxdag_c.proofs.held.worlds.CWorld.dag.Goals as goal

pub returns-in-Ok-clause-writes : goal.returns-in-Ok-clause-writes
returns-in-Ok-clause-writes c =
    WorldFiles.made c.put_bytes.result c.in-Ok.file.items
    (file_of_held c.args.self.now.open.models c.args.self.now.open.log c.in-Ok.file.items
    c.in-Ok.ensures.file)
    (subst (λ (bytes : List ℕ). WritesBytes bytes c.args.out.now c.put_bytes.new.out
    c.put_bytes.new.needed c.put_bytes.result)
    c.as_slice.ensures.value c.put_bytes.ensures.writes)

pub returns-in-Err-clause-writes : goal.returns-in-Err-clause-writes
returns-in-Err-clause-writes c = WorldFiles.memory (record { bytes = refl; number = refl })
