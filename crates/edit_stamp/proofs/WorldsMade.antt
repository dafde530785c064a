-- What was made of one world was made of an equal one.
use Rattle.std.proofs.Common.{◌≡◌, ℕ, Bool, Option, subst}
use Rattle.std.specs.Prelude.{Result}
use Rattle.vw_cell.specs.declared.cells.Cell.{Cell}
use Rattle.node_words.specs.declared.shapes.names.Name.{Name}
use Rattle.node_words.specs.declared.shares.Full.{Full}
use Rattle.node_words.specs.Held.{StoreState}
use Rattle.edit_walk.specs.Edits.{Rebuilds}

pub made_as : (level : ℕ) (v w : Cell → Bool) (old new : StoreState) → v ≡ w
    → (result : Result (Option Name) Full) → Rebuilds level v result old new
    → Rebuilds level w result old new
made_as level v w old new same result made =
    subst (λ (u : Cell → Bool). Rebuilds level u result old new) same made
