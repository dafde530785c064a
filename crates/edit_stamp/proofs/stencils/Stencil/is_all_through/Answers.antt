use Rattle.std.proofs.Common.{ap, ◌∙◌, sym, subst, refl, ℕ}
use Rattle.vw_cell.specs.declared.cells.Cell.{Cell}
use Rattle.edit_stamp.specs.Drawings.{Drawn, AllDrawn, AllWords}
use Rattle.edit_stamp.proofs.StampLaws.{scan_drawn}
use Rattle.edit_stamp.proofs.stencils.Stencil.is_all_through.Goals as goal

pub returns-then-level-le1 : goal.returns-then-level-le1
returns-then-level-le1 c e =
    subst (λ (side : ℕ). AllDrawn c.args.self.now c.args.place c.args.at side c.args.set) c.side_of.ensures.value
    (scan_drawn c.args.self.now c.args.place c.args.at _ c.args.set c.size-size.result c.deref.result.now c.touched-leaves.result.from c.touched-leaves.result.to c.all_bits-want.result
    c.size-size.ensures.value
    (c.deref.ensures.value
    ∙ ap (λ (d : Drawn). d.words) c.self.view_is) c.touched-leaves.ensures.x c.touched-leaves.ensures.y c.touched-leaves.ensures.z (c.are_all.ensures e) c.all_bits-want.ensures.bits)

pub returns : goal.returns
returns c e =
    subst (λ (side : ℕ). AllDrawn c.args.self.now c.args.place c.args.at side c.args.set) c.side_of.ensures.value
    (scan_drawn c.args.self.now c.args.place c.args.at _ c.args.set c.size-size.result c.args.self.now.words c.touched-leaves.result.from c.touched-leaves.result.to c.all_bits-want.result
    c.size-size.ensures.value refl c.touched-leaves.ensures.x c.touched-leaves.ensures.y c.touched-leaves.ensures.z
    (subst (λ (s : Cell). AllWords s c.args.self.now.words c.touched-leaves.result.from c.touched-leaves.result.to c.all_bits-want.result) (sym c.size-size.ensures.value) (c.are_all_over.ensures e)) c.all_bits-want.ensures.bits)
