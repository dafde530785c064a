-- A log that is read under its turn.
use Rattle.std.specs.Prelude.{◌≡◌, List}
use Rattle.std.proofs.Common.{refl, ◌∙◌}
use Rattle.history_model.specs.declared.histories.Record.{Record}
use Rattle.table_rule.specs.Views.{SeatView}
use Rattle.node_table.specs.LogTurns.{HasLogTurn, LearnsLog}
use Rattle.version_log.specs.declared.lookahead.UnderTurn.{UnderTurn}

abbrev pub records_read : UnderTurn → List Record
records_read s = s.pass.now.view.log.seen.records

abbrev pub IsUnderTurn : UnderTurn → Type 0
IsUnderTurn s = HasLogTurn s.table.now s.pass.now

-- the same pass of the same table, of which nothing changes but the words of the log that are known
pub record ReadsOn (a b : UnderTurn) : Type 0 where
  pub pass : b.pass.ghost_name ≡ a.pass.ghost_name
  pub table : b.table.now ≡ a.table.now
  pub of : b.pass.now.table ≡ a.pass.now.table
  pub learns : LearnsLog a.pass.now.view b.pass.now.view

pub reads_itself : (a : UnderTurn) → ReadsOn a a
reads_itself a = record {
  pass = refl;
  table = refl;
  of = refl;
  learns = record { grows = record { stays = λ x n k. k }; is = refl };
}

pub learns_on : (u v w : SeatView) → LearnsLog u v → LearnsLog v w → LearnsLog u w
learns_on u v w f g = record {
  grows = record { stays = λ x n k. g.grows.stays x n (f.grows.stays x n k) };
  is = g.is ∙ (λ i. (let x : SeatView = f.is i in
      let z : SeatView = record x { log = record x.log { words = w.log.words } } in z));
}

pub reads_on : (a b c : UnderTurn) → ReadsOn a b → ReadsOn b c → ReadsOn a c
reads_on a b c f g = record {
  pass = g.pass ∙ f.pass;
  table = g.table ∙ f.table;
  of = g.of ∙ f.of;
  learns = learns_on a.pass.now.view b.pass.now.view c.pass.now.view f.learns g.learns;
}
