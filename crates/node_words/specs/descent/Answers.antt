-- What a walk remembers of the answers that it found.
use Rattle.std.specs.Prelude.{◌≡◌, ℕ, Option, Some, None, List, slice_index_or}
use Rattle.node_words.specs.shapes.Tree.{Tree}
use Rattle.node_words.specs.declared.descent.answers.Known.{Known}

-- each answer that is remembered tells so of the trees that are held
pub record AreRight {Q : Type 0} (tells : List Tree → Q → ℕ → Type 0) (held : List Tree)
    (places : List (Option (Known Q))) : Type 0 where
  pub each : (i : ℕ) (k : Known Q) → slice_index_or places i None ≡ Some k
      → tells held k.query k.number
