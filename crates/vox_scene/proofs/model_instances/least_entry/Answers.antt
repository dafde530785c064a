use Rattle.std.proofs.Common.{◌≡◌, arith, subst, sym, ap, ◌∙◌, ℤ, rules, to_z, w32, SFits}
use Rattle.std.proofs.lemmas.Int.{to_z-of_z}
use Rattle.vox_scene.specs.Placing.{IndexedInstance, IsLesser}
use Rattle.vox_scene.specs.Rotations.{entry_on}
use Rattle.vox_scene.proofs.Leasts.{least_taken, least_all}
use Rattle.vox_scene.proofs.model_instances.least_entry.Goals as goal

pub loop-one-preserved : goal.loop-one-preserved
loop-one-preserved c =
    let entry : c.entry-entry.result ≡ entry_on c.args.axis c.one-item.result.corner =
    c.entry-entry.ensures
    ∙ ap (λ (s : IndexedInstance). entry_on c.args.axis s.corner) c.one.view_is in
    let f : SFits w32 c.entry-entry.result = search rules in
    let g : SFits w32 c.lesser-least.result = search rules in
    let h =
    subst (λ (e : ℤ). IsLesser c.loop-one.any
    (to_z w32 c.loop-one.least-bits) e c.lesser-least.result)
    (to_z-of_z w32 c.entry-entry.result f ∙ entry) c.lesser-least.ensures in
    record {
      least = λ models.
          least_taken c.args.axis models c.args.instanced.now c.loop-one.one-index c.one-item.result _ _ c.loop-one.any
          (omega arith) c.one-item.is c.loop-one.invariant.none c.loop-one.invariant.some
          (c.loop-one.invariant.least models)
          (subst (λ (e : ℤ). IsLesser c.loop-one.any (to_z w32 c.loop-one.least-bits)
          (entry_on c.args.axis c.one-item.result.corner) e)
          (sym (to_z-of_z w32 c.lesser-least.result g)) h);
      none = λ e. absurd (let no : ⊥ = cc in no);
      some = λ e. omega arith;
    }

pub returns : goal.returns
returns c =
    λ models. least_all c.args.axis models c.args.instanced.now c.loop-one.one-index _ (omega arith)
    (c.loop-one.invariant.least models)
