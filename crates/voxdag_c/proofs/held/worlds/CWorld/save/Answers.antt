use Rattle.std.proofs.Common.{List, ℕ, refl, ◌∙◌, ap, subst}
use Rattle.vw_cell.specs.declared.boxes.Boxed.{Boxed}
use Rattle.voxdag_c.specs.held.Calls.{WorldSaves, WritesBytes, file_of_version}
use Rattle.voxdag_c.proofs.OfHeld.Fitting.{box_fits, box_leaves, file_fits, file_large}
use Rattle.voxdag_c.proofs.held.worlds.CWorld.save.Goals as goal

pub returns-in-None-clause-saves : goal.returns-in-None-clause-saves
returns-in-None-clause-saves c =
    WorldSaves.outside
    (λ f. box_leaves c.side.result _ c.side.ensures c.args.part c.in-None.ensures.exactly f.inside) (record { bytes = refl; number = refl })

pub returns-then-not-is_small-clause-saves : goal.returns-then-not-is_small-clause-saves
returns-then-not-is_small-clause-saves c =
    WorldSaves.outside
    (file_large _ c.args.part c.in-Some.b c.in-Some.ensures.value c.if-not-is_small.ensures)
    (record { bytes = refl; number = refl })

pub returns-then-not-holds_version-clause-saves : goal.returns-then-not-holds_version-clause-saves
returns-then-not-holds_version-clause-saves c = WorldSaves.gone c.why_gone.result
    (file_fits _ c.args.part c.in-Some.b c.in-Some.ensures.value
    (box_fits c.side.result _ c.side.ensures c.args.part c.in-Some.b c.in-Some.ensures.value c.in-Some.ensures.exactly)
    (c.if-not-is_small.ensures.0 refl))
    c.why_gone.ensures (record { bytes = refl; number = refl })

pub returns-in-Ok-clause-saves : goal.returns-in-Ok-clause-saves
returns-in-Ok-clause-saves c =
    WorldSaves.made c.put_bytes.result (c.if-not-holds_version.ensures.0 refl)
    (file_fits _ c.args.part c.in-Some.b c.in-Some.ensures.value
    (box_fits c.side.result _ c.side.ensures c.args.part c.in-Some.b c.in-Some.ensures.value c.in-Some.ensures.exactly)
    (c.if-not-is_small.ensures.0 refl))
    (subst (λ (bytes : List ℕ). WritesBytes bytes c.args.out.now c.put_bytes.new.out c.put_bytes.new.needed c.put_bytes.result)
    (c.as_slice.ensures.value ∙ c.in-Ok.ensures.file
    ∙ ap (λ (b : Boxed). file_of_version c.args.self.now c.args.version b) c.in-Some.ensures.value)
    c.put_bytes.ensures.writes)

pub returns-in-Err-clause-saves : goal.returns-in-Err-clause-saves
returns-in-Err-clause-saves c =
    WorldSaves.memory (c.if-not-holds_version.ensures.0 refl)
    (file_fits _ c.args.part c.in-Some.b c.in-Some.ensures.value
    (box_fits c.side.result _ c.side.ensures c.args.part c.in-Some.b c.in-Some.ensures.value c.in-Some.ensures.exactly)
    (c.if-not-is_small.ensures.0 refl))
    (record { bytes = refl; number = refl })
