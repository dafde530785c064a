-- What stands for a child in a key's words.
use Rattle.std.specs.Prelude.{◌≡◌, ℕ, ◌+◌, ◌*◌, ◌<◌, Option, Some, None}
use Rattle.node_words.specs.declared.shapes.names.Name.{Name}

-- 0 where there is no child, else 1 + 256 * bucket + slot; the child's level is that of the node
-- less 1
abbrev pub word_of_child : Option Name → ℕ
word_of_child None = 0
word_of_child (Some n) = 1 + (n.bucket * 256 + n.slot)

-- a child of this level, or none
abbrev pub IsChildAt : ℕ → Option Name → Type 0
IsChildAt level None = Unit {0}
IsChildAt level (Some n) = (n.level ≡ level) × (n.slot < 256)
