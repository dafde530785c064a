-- One octant of a block: what a walk of its task begins with, and what that finds of the block.
use Rattle.std.proofs.Common.{◌≡◌, ℕ, ◌-◌, ◌<◌, ◌≤◌, List, Option, refl, sym, subst}
use Rattle.edit_walk.specs.declared.blocks.full_blocks.FullBlocks.{FullBlocks}
use Rattle.node_words.specs.declared.shapes.names.Name.{Name}
use Rattle.node_words.specs.declared.shares.Full.{Full}
use Rattle.node_words.specs.shapes.Shape.{octant_shape}
use Rattle.node_words.specs.shapes.Tree.{Tree}
use Rattle.node_words.specs.Held.{StoreState}
use Rattle.node_words.proofs.HeldLaws.{Keeps}
use Rattle.node_words.specs.contents.CellShapes.{Cells, octant_cells, shape_with}
use Rattle.edit_walk.specs.declared.octants.Octants.{Octants}
use Rattle.edit_walk.specs.declared.outcomes.WalkedBlock.{WalkedBlock}
use Rattle.edit_walk.specs.cells.Tasks.{Making}
use Rattle.edit_walk.specs.blocks.Blocks.{StopsAside}
use Rattle.edit_walk.specs.Octants.{octant_task, AreOctantTasks}
use Rattle.edit_walk.specs.Walks.{Begins, FoundTo, Partway, Walk}
use Rattle.edit_walk.proofs.MemoLaws.{target_found}
use Rattle.edit_walk.proofs.WalkLaws.{octant_target, part_starts, target_grows, target_refuses}

-- it begins after those before it were found
pub octant_begins : {T : Type 0} (makes : T → Making) (base rest held : List Tree) (level : ℕ)
    (task part : T) (octants : Octants T) (cells : Cells) (cs ws : List (Option Name)) (k : ℕ)
    (walk : Walk T) → AreOctantTasks makes held level task octants
    → part ≡ octant_task octants k → Keeps base held → k < 8
    → (p : Partway makes base rest level task cells cs ws k walk)
    → Begins makes base p.finds.now (level - 1) part (octant_cells (level - 1) cells k) walk
octant_begins makes base rest held level task part octants cells cs ws k walk are is keeps lt p =
    record {
      starts = part_starts base rest walk.seen walk.full (level - 1) _ cs ws k p.keeps p.finds;
      made = subst (λ q. makes q base (level - 1) (octant_cells (level - 1) cells k)) (sym is)
          (are base cells keeps p.made k lt);
      recalls = p.recalls;
    }

-- what was found of the octant's cells was found of the block's octant
pub octant_found : {T : Type 0} (makes : T → Making) (base rest : List Tree) (level k : ℕ)
    (cells : Cells) (block : WalkedBlock) (old new : Walk T) → 1 ≤ level → k < 8
    → FoundTo makes base rest (level - 1)
    (shape_with (level - 1) (octant_cells (level - 1) cells k)) block old new
    → FoundTo makes base rest (level - 1) (octant_shape (shape_with level cells) k) block old new
octant_found makes base rest level k cells block old new one lt found =
    let target = sym (octant_target level cells k one lt) in
    record {
      found = target_found makes base rest _ _ _ _ _ target found.found;
      grows = target_grows _ _ _ _ _ target refl found.grows;
    }

pub octant_stops : (rest : List Tree) (level k : ℕ) (cells : Cells) (full : Full)
    (old new : StoreState) (after : FullBlocks) → 1 ≤ level → k < 8
    → StopsAside rest (shape_with (level - 1) (octant_cells (level - 1) cells k)) full old new after
    → StopsAside rest (octant_shape (shape_with level cells) k) full old new after
octant_stops rest level k cells full old new after one lt stops =
    record {
      refuses = target_refuses _ _ _ _ _ _ _ (sym (octant_target level cells k one lt)) refl
          stops.refuses;
      aside = stops.aside;
    }

-- a block of fewer mixed blocks than are counted for its octant
pub octant_mixed : {T : Type 0} (mixed : ℕ → T → ℕ) (level most : ℕ) (part other : T)
    → part ≡ other → mixed level other ≤ most → mixed level part ≤ most
octant_mixed mixed level most part other is low = subst (λ q. mixed level q ≤ most) (sym is) low
