-- What a root shows, and where an undo or a redo goes.
use Rattle.std.specs.Prelude.{ℕ, Option, Some, None, List, [], ◌∷◌}
use Rattle.node_words.specs.declared.shapes.names.Name.{Name}
use Rattle.node_words.specs.shapes.Shape.{has}
use Rattle.node_words.specs.shapes.Tree.{shape_of}
use Rattle.node_words.specs.declared.keys.Key.{Key}
use Rattle.history_model.specs.declared.acts.Act.{Act}
use Rattle.history_model.specs.declared.acts.Act.TheVariants.{Undo, Redo}
use Rattle.history_model.specs.Positions.{Position, first_of}
use Rattle.history_model.specs.Worlds.{World}
use Rattle.core_laws.specs.States.{tree_at}

-- the cells of the block of this level that stands at a root
abbrev pub shown_world : (Name → Key) → ℕ → Option Name → World
shown_world key level root q = has level (shape_of (tree_at key level root)) q.x q.y q.z

-- the version that an undo or a redo goes to
abbrev pub target_of : Act → Position → Option ℕ
target_of Undo at = first_of at.past
target_of Redo at = first_of at.future
target_of edit at = None
