-- The tasks of a block's octants.
use Rattle.std.specs.Prelude.{ℕ, ◌-◌, ◌<◌, List, [], ◌∷◌, slice_index_or}
use Rattle.node_words.specs.shapes.Tree.{Tree}
use Rattle.node_words.specs.contents.CellShapes.{octant_cells}
use Rattle.edit_walk.specs.declared.octants.Octants.{Octants}
use Rattle.edit_walk.specs.cells.Tasks.{Making, ForCells}

-- the task of octant k
abbrev pub octant_task : {T : Type 0} → Octants T → ℕ → T
octant_task o k =
    slice_index_or (o.0 ∷ o.1 ∷ o.2 ∷ o.3 ∷ o.4 ∷ o.5 ∷ o.6 ∷ o.7 ∷ []) k o.7

-- each makes the cells that its octant has of what the task makes, by the same trees
abbrev pub AreOctantTasks : {T : Type 0} → (T → Making) → List Tree → ℕ → T → Octants T → Type 0
AreOctantTasks makes held level task octants =
    ForCells (makes task) held level
    (λ base cells. (k : ℕ) → k < 8
    → makes (octant_task octants k) base (level - 1) (octant_cells (level - 1) cells k))
