use Rattle.std.proofs.Common.{◌≡◌, ap, ◌∙◌, subst, ℕ, rules}
use Rattle.edit_stamp.specs.Drawings.{Drawn, Agree}
use Rattle.edit_stamp.proofs.StampLaws.{drawn_agree}
use Rattle.edit_stamp.proofs.stencils.Stencil.agrees.Goals as goal

pub returns : goal.returns
returns c e =
    let one : c.size-size.result ≡ c.size.result = search rules in
    subst (λ (side : ℕ). Agree c.args.self.now c.args.other.now c.args.place c.args.at side)
    c.side_of-side.ensures.value
    (drawn_agree c.args.self.now c.args.other.now c.args.place c.args.at _ c.size-size.result
    c.deref.result.now c.deref-2.result.now c.touched-leaves.result.from c.touched-leaves.result.to
    c.part_of-inside.result
    c.size-size.ensures.value (one ∙ c.size.ensures.value)
    (c.deref.ensures.value ∙ ap (λ (d : Drawn). d.words) c.self.view_is)
    (c.deref-2.ensures.value ∙ ap (λ (d : Drawn). d.words) c.other.view_is)
    c.touched-leaves.ensures.x c.touched-leaves.ensures.y c.touched-leaves.ensures.z
    c.part_of-inside.ensures (c.are_same.ensures e))
