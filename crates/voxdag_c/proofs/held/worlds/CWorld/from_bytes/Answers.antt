use Rattle.std.proofs.Common.{refl}
use Rattle.std.proofs.lemmas.Bool.{false≢true}
use Rattle.voxdag_c.specs.held.Calls.{Refuses}
use Rattle.voxdag_c.proofs.OfHeld.Opening.{not_boxed}
use Rattle.voxdag_c.proofs.held.worlds.CWorld.from_bytes.Goals as goal

pub returns-in-None-clause-refused : goal.returns-in-None-clause-refused
returns-in-None-clause-refused c =
    Refuses.bad_plan (λ is. false≢true (c.in-None.ensures.exactly.1 is))

pub returns-in-Ok-clause-refused : goal.returns-in-Ok-clause-refused
returns-in-Ok-clause-refused c =
    not_boxed c.args.tint c.args.side c.args.cap c.args.file.now
    (c.in-Some.ensures.exactly.0 refl) c.boxed.result c.boxed.ensures.refused

pub returns-in-Err-clause-refused : goal.returns-in-Err-clause-refused
returns-in-Err-clause-refused c = Refuses.memory (c.in-Some.ensures.exactly.0 refl)
