use Rattle.std.proofs.Common.{List, ℕ, refl, ◌∙◌, subst}
use Rattle.voxdag_c.specs.held.Calls.{WorldJournals, WritesBytes}
use Rattle.voxdag_c.proofs.held.worlds.CWorld.journal.Goals as goal

pub returns-in-Ok-clause-writes : goal.returns-in-Ok-clause-writes
returns-in-Ok-clause-writes c =
    WorldJournals.made c.put_bytes.result
    (subst (λ (bytes : List ℕ). WritesBytes bytes c.args.out.now c.put_bytes.new.out c.put_bytes.new.needed c.put_bytes.result)
    (c.as_slice.ensures.value ∙ c.in-Ok.ensures) c.put_bytes.ensures.writes)

pub returns-in-Err-clause-writes : goal.returns-in-Err-clause-writes
returns-in-Err-clause-writes c = WorldJournals.memory (record { bytes = refl; number = refl })
