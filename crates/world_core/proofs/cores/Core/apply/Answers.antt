use Rattle.std.proofs.Common.{◌≡◌, ◌∙◌, sym, subst, refl, true, false}
use Rattle.world_core.specs.Answering.{refuses}
use Rattle.world_core.specs.Lawful.{IsLawful}
use Rattle.world_core.specs.Stored.{Stored, stored_state}
use Rattle.world_core.proofs.cores.Core.apply.Goals as goal

pub returns-then-not-branch-clause-answers : goal.returns-then-not-branch-clause-answers
returns-then-not-branch-clause-answers c =
    refuses (λ lawful. (
    let told =
    c.in_ok-allows.ensures.1
    (subst (λ (v : Stored). IsLawful v.plan v.models (stored_state v) c.args.event.now)
    (sym c.self.view_is) lawful) in
    let x : false ≡ true = sym c.if-not-branch.true ∙ told in (let no : ⊥ = cc in no)))
    refl refl
