use Rattle.std.proofs.Common.{ap}
use Rattle.vw_cell.specs.declared.boxes.Boxed.{Boxed}
use Rattle.node_words.specs.descent.Parts.{half_at, half_size}
use Rattle.measure.proofs.WholeLaws.{boxes_same}
use Rattle.measure.proofs.octant_parts.either_part.Goals as goal

pub returns : goal.returns
returns c half b p q = boxes_same _ _ _ _ _ _ _ _ _ _ _ _
    (c.either.ensures (λ i. half_at half i b.at.x) (ap (λ (v : Boxed). v.at.x) p)
    (ap (λ (v : Boxed). v.at.x) q))
    (c.either-2.ensures (λ i. half_at half i b.at.y) (ap (λ (v : Boxed). v.at.y) p)
    (ap (λ (v : Boxed). v.at.y) q))
    (c.either-3.ensures (λ i. half_at half i b.at.z) (ap (λ (v : Boxed). v.at.z) p)
    (ap (λ (v : Boxed). v.at.z) q))
    (c.either-4.ensures (λ i. half_size half i b.at.x b.size.x) (ap (λ (v : Boxed). v.size.x) p)
    (ap (λ (v : Boxed). v.size.x) q))
    (c.either-5.ensures (λ i. half_size half i b.at.y b.size.y) (ap (λ (v : Boxed). v.size.y) p)
    (ap (λ (v : Boxed). v.size.y) q))
    (c.either-6.ensures (λ i. half_size half i b.at.z b.size.z) (ap (λ (v : Boxed). v.size.z) p)
    (ap (λ (v : Boxed). v.size.z) q))
