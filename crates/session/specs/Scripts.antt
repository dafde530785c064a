-- A session that is about to run its script.
use Rattle.std.specs.Prelude.{◌≡◌, ◌≤◌, List, []}
use Rattle.script.specs.declared.commands.ScriptLine.{ScriptLine}
use Rattle.script.specs.Fitting.{RisesFrom}
use Rattle.table_rule.specs.Views.{SeatView}
use Rattle.node_words.specs.Held.{most_before_call}
use Rattle.conformance.specs.sessions.Saves.{saves_asked_in}
use Rattle.session.specs.SessionWorlds.{AreLinesOfWorld, SessionWorld}

-- it has accepted nothing, and holds nothing
pub record IsFresh (v : SeatView) : Type 0 where
  pub records : v.log.records ≡ []
  pub marks : v.log.marks ≡ []
  pub held : v.held ≡ []

-- the lines follow one another from 1 on, each asks for what lies in the world, and no more saves
-- are asked for than a session can hold
pub record IsScriptOf (w : SessionWorld) (lines : List ScriptLine) : Type 0 where
  pub rises : RisesFrom 1 lines
  pub fit : AreLinesOfWorld w lines
  pub few : saves_asked_in lines ≤ most_before_call
