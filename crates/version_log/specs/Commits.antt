-- What a commit asks, and what it answers.
use Rattle.std.specs.Prelude.{◌≡◌, ◌<◌, ◌+◌, ◌^◌, ℕ, suc, false, Option, List, [], ◌∷◌, ◌++◌}
use Rattle.history_model.specs.declared.acts.Act.{Act}
use Rattle.history_model.specs.declared.histories.Record.{Record}
use Rattle.history_model.specs.Making.{MayMake}
use Rattle.history_model.specs.Worlds.{World}
use Rattle.node_words.specs.declared.shapes.names.Name.{Name}
use Rattle.node_words.specs.shapes.Tree.{Tree}
use Rattle.edit_walk.specs.blocks.Blocks.{ReturnsShare}
use Rattle.table_rule.specs.LogFacts.{number_seen, seen_has}
use Rattle.table_rule.specs.Views.{SeatView}
use Rattle.version_log.specs.declared.answers.Pinned.{Pinned}
use Rattle.version_log.specs.declared.answers.CommitRefused.{CommitRefused}
use Rattle.version_log.specs.declared.answers.CommitRefused.TheVariants.{LogFull, Stale}
use Rattle.version_log.specs.Roots.{HoldsRootOf}
use Rattle.version_log.specs.Seeing.{MetOthers}

-- the root shows just the cells that the edit makes of version n; there is none exactly where there
-- are none
pub record IsMadeOver (v : SeatView) (n : ℕ) (act : Act) (root : Option Name) : Type 0 where
  pub cells : World
  pub holds : HoldsRootOf v root cells
  pub makes : MayMake (2 ^ v.plan.side) v.models act (seen_has v n) cells

-- the record of the pass's session with this line and act
pub record IsOwnRecord (v : SeatView) (line : ℕ) (act : Act) (r : Record) : Type 0 where
  pub session : v.numbers ≡ r.session ∷ []
  pub line_is : r.line ≡ line
  pub act_is : r.act ≡ act

-- the log that is seen, and the own records, have one more; these trees are held, these sessions
-- were met with the log's turn, and no turn is had
abbrev pub with_own : SeatView → Record → List Tree → List ℕ → SeatView
with_own v r held busy = record v {
  held = held;
  log = record v.log {
    turn = false;
    words = [];
    seen = record v.log.seen { records = v.log.seen.records ++ r ∷ [] };
    records = record { at = suc (number_seen v); entry = r } ∷ v.log.records;
    busy = busy;
  };
}

-- the record was appended behind all that was seen, and the root's share went to the log: whichever
-- tree of its name was held, that is held once less. Nothing else changed
pub record AppendsNext (v : SeatView) (line : ℕ) (act : Act) (root : Option Name) (n : ℕ)
    (w : SeatView) : Type 0 where
  pub number : n ≡ number_seen v + 1
  pub room : number_seen v < 65535
  pub by : Record
  pub own : IsOwnRecord v line act by
  pub gone : ReturnsShare root v.held w.held
  pub busy : MetOthers v.numbers v.log.busy w.log.busy
  pub is : w ≡ with_own v by w.held w.log.busy

-- why nothing was committed, by the log that is seen now: it is full, or it is longer than the base
-- knew. The root is handed back
abbrev pub RefusesCommit : Pinned → Option Name → CommitRefused → SeatView → Type 0
RefusesCommit base root (LogFull back) w = (back ≡ root) × (number_seen w ≡ 65535)
RefusesCommit base root (Stale now back) w =
    (back ≡ root) × (now ≡ number_seen w) × (base.moment < now) × (now < 65535)
