-- Rows, layers and worlds whose cells are as an edit makes them.
use Rattle.std.proofs.Common.{Bool, ◌≡◌, ℕ, ◌+◌, ◌<◌, true, false, refl, sym, subst, arith, inl, inr, List}
use mathlib.Core.Bool.{beq, not}
use Rattle.std.proofs.lemmas.Bool.{cases_eq}
use Rattle.vw_cell.specs.Counts.{cell_at}
use Rattle.vox_read.specs.Contents.{Content}
use Rattle.history_model.specs.declared.acts.Act.{Act}
use Rattle.history_model.specs.Worlds.{World}
use Rattle.history_model.specs.Stores.{edited_in}
use Rattle.history_model.specs.Making.{MayMake, RowIsMade, LayerIsMade, LayersAreMade}

-- what holds below a number and at it holds below the next
below_more : (P : ℕ → Type 0) (n : ℕ) → ((k : ℕ) → k < n → P k) → P n → (k : ℕ) → k < n + 1 → P k
below_more P n low here k lt = elim (cases_eq k n) [
  | inl same ↦ subst P (sym same) here
  | inr other ↦ low k (omega arith)
]

pub same_answers : (a b : Bool) → not (beq a b) ≡ false → a ≡ b
same_answers true true e = refl
same_answers true false e = e
same_answers false true e = sym e
same_answers false false e = refl

module _ (side : ℕ) (models : List Content) (act : Act) (v w : World) where
  pub row_more : (y z x : ℕ) → RowIsMade side models act v w y z x
      → w (cell_at x y z) ≡ edited_in side models act v (cell_at x y z)
      → RowIsMade side models act v w y z (x + 1)
  row_more y z x row here =
      record {
        each =
            below_more
            (λ k. w (cell_at k y z) ≡ edited_in side models act v (cell_at k y z)) x row.each here;
      }

  pub layer_more : (z y : ℕ) → LayerIsMade side models act v w z y
      → RowIsMade side models act v w y z side → LayerIsMade side models act v w z (y + 1)
  layer_more z y layer row =
      record { each = below_more (λ k. RowIsMade side models act v w k z side) y layer.each row }

  pub layers_more : (z : ℕ) → LayersAreMade side models act v w z
      → LayerIsMade side models act v w z side → LayersAreMade side models act v w (z + 1)
  layers_more z layers layer =
      record { each = below_more (λ k. LayerIsMade side models act v w k side) z layers.each layer }

  -- a world is made just where all its layers are
  pub world_made : LayersAreMade side models act v w side → MayMake side models act v w
  world_made layers =
      record { each = λ q inside. ((layers.each q.z inside.z).each q.y inside.y).each q.x inside.x }

  pub layer_made : MayMake side models act v w → (z : ℕ) → z < side
      → LayerIsMade side models act v w z side
  layer_made made z lt = record {
    each = λ y of_y.
        record {
          each =
              λ x of_x. made.each (cell_at x y z) (record { x = of_x; y = of_y; z = lt });
        };
  }
