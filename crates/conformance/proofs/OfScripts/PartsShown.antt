-- A part of the canonical shape of a world shows an aligned block of it.
use Rattle.std.proofs.Common.{◌≡◌, ◌≢◌, ℕ, zero, suc, ◌≤◌, refl, ◌∙◌, ap, arith, inl, inr}
use Rattle.std.proofs.lemmas.Bool.{cases_lt}
use Rattle.vw_cell.specs.declared.blocks.Block.{Block}
use Rattle.vw_cell.specs.Places.{octant_of}
use Rattle.history_model.specs.Worlds.{World}
use Rattle.node_words.specs.shapes.Shape.{Shape, Clear, Leaf, Branch, octant_shape, ShowsCells, IsCanonical, IsPart, whole, within}
use Rattle.node_words.proofs.OfShapes.ShapeLaws.{octant_shape-clear, octant_shape-past, octant_canonical, one_level}
use Rattle.node_words.proofs.OfShapes.ShowLaws.{octant_shows}
use Rattle.node_words.specs.Plans.{Layout}
use Rattle.core_laws.specs.contents.Aligned.{top, world_block}
use Rattle.core_laws.specs.contents.Aligned.{IsAligned, itself, octant}
use Rattle.core_laws.proofs.Roots.{ShownIn}
use Rattle.conformance.specs.scripts.Keeping.{IsPartOfWorld}

-- no aligned block is higher than the whole
pub aligned_low : (all b : Block) → IsAligned all b → b.level ≤ all.level
aligned_low all b itself = omega arith
aligned_low all b (octant {b =
    c} k lt some aligned) = (let low = aligned_low all c aligned in omega arith)

-- no part of no cells but itself
pub part_of_clear : (s t : Shape) → t ≡ Clear → IsPart s t → s ≡ Clear
part_of_clear s t e (whole there) = e
part_of_clear s t e (within k part) =
    part_of_clear s (octant_shape t k)
    (ap (λ (x : Shape). octant_shape x k) e ∙ octant_shape-clear k) part

octant_of_leaf : (s : Shape) (k : ℕ) → IsCanonical 0 s → octant_shape s k ≡ Clear
unfolding IsCanonical
octant_of_leaf Clear k canonical = octant_shape-clear k
octant_of_leaf (Leaf bits) zero canonical = refl
octant_of_leaf (Leaf bits) (suc k) canonical = refl
octant_of_leaf (Branch a b c d e f g h) k canonical = absurd canonical

pub part_shown : (p : Layout) (w : World) (level : ℕ) (s t : Shape) (up : ℕ) (b : Block)
    → b.level ≡ up → IsAligned (world_block p.side) b → IsCanonical up t → ShowsCells b t w
    → IsCanonical level s → s ≢ Clear → IsPart s t → ShownIn p level s w
part_shown p w level s t up b same aligned canonical shows right some (whole there) =
    record {
      block = b;
      aligned = aligned;
      same_level = same
          ∙ one_level up level s some canonical right;
      shows = shows;
    }
part_shown p w level s t zero b same aligned canonical shows right some (within k part) =
    absurd (some (part_of_clear s (octant_shape t k) (octant_of_leaf t k canonical) part))
part_shown p w level s t (suc up) b same aligned canonical shows right some (within k part) =
    elim (cases_lt k 8) [
      | inl lt ↦
          part_shown p w level s (octant_shape t k) up (octant_of b k) (omega arith)
          (octant k lt (omega arith) aligned) (octant_canonical up t k canonical)
          (octant_shows b t w k (omega arith) lt shows) right some part
      | inr past ↦ absurd (some (part_of_clear s (octant_shape t k) (octant_shape-past t k past) part))
    ]

pub part_of_world : (p : Layout) (w : World) (level : ℕ) (s : Shape) → IsPartOfWorld p w s
    → IsCanonical level s → s ≢ Clear → ShownIn p level s w
part_of_world p w level s of right some =
    part_shown p w level s of.all (top p.side)
    (world_block p.side) refl itself of.canonical of.shows right some of.part
