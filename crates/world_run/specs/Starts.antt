-- The sessions of a new world, and their rooms.
use Rattle.std.specs.Prelude.{◌≡◌, ◌≤◌, List, [], All, length, vec_capacity}
use Rattle.std.specs.List.{AllZip}
use Rattle.script.specs.declared.commands.ScriptLine.{ScriptLine}
use Rattle.node_table.specs.Begins.{AreNewPasses, terms_of}
use Rattle.node_table.specs.TableStates.{TableState}
use Rattle.session.specs.Resting.{IsAtRest}
use Rattle.world_run.specs.declared.runs.Start.{Start}
use Rattle.world_run.specs.Works.{IsRoomFor}

-- one session and one room for each script, in their order, and room for what comes of all
pub record StartsScripts (w : TableState) (scripts : List (List ScriptLine))
    (s : Start) : Type 0 where
  pub new : AreNewPasses w.id (terms_of w) s.sessions.items
  pub rest : All (IsAtRest w) s.sessions.items
  pub many : length s.sessions.items ≡ length scripts
  pub all : w.made ≡ length scripts
  pub rooms : AllZip IsRoomFor scripts s.rooms.items
  pub no_session : s.outcomes.sessions.items ≡ []
  pub no_transcript : s.outcomes.transcripts.items ≡ []
  pub sessions : length scripts ≤ vec_capacity s.outcomes.sessions
  pub transcripts : length scripts ≤ vec_capacity s.outcomes.transcripts
  pub no_room : s.outcomes.room.items ≡ []
  pub room : length scripts ≤ vec_capacity s.outcomes.room
