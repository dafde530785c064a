-- What a session is between the calls of a world.
use Rattle.std.specs.Prelude.{◌≡◌, None}
use Rattle.node_table.specs.TableStates.{TableState, PassState, BelongsTo, SamePass}

-- it is one of the table's, and has no bucket's turn
pub record IsLendable (t : TableState) (s : PassState) : Type 0 where
  pub of : BelongsTo t s
  pub idle : s.view.turn ≡ None

-- it is ready again, still that session, and knows the same of the log
pub record StaysLendable (t : TableState) (old new : PassState) : Type 0 where
  pub ready : IsLendable t new
  pub same : SamePass old new
  pub log : new.view.log ≡ old.view.log
