-- Sessions of a world that hold nothing.
use Rattle.std.specs.Prelude.{◌≡◌, []}
use Rattle.node_table.specs.TableStates.{PassState}
use Rattle.session.specs.Resting.{IsAtRest}
use Rattle.session.specs.SessionWorlds.{SessionWorld}

pub record IsFree (w : SessionWorld) (s : PassState) : Type 0 where
  pub rest : IsAtRest w.table s
  pub held : s.view.held ≡ []
