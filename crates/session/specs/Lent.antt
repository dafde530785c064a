-- A borrowed session as a store of nodes.
use Rattle.std.specs.Prelude.{◌≡◌}
use Rattle.std.specs.Borrow.{MutBor}
use Rattle.std.proofs.Common.{refl, ◌∙◌}
use Rattle.node_words.specs.Held.{StoreState}
use Rattle.table_rule.specs.Views.{seen_of}
use Rattle.node_table.specs.TableStates.{TableState, PassState, SamePass}
use Rattle.session.specs.declared.hand.Hand.{Hand}

-- the hand has a session of this table, which stands where the lender's stands
pub record IsHandOf {R : Type 0} (t : TableState) (s : MutBor PassState) (h : Hand R) : Type 0 where
  pub table : h.table.now ≡ t
  pub place : h.session.ghost_name ≡ s.ghost_name
  pub session : h.session.now ≡ s.now

abbrev pub hand_state : {R : Type 0} → Hand R → StoreState
hand_state h = seen_of h.session.now.view

-- the same table, the same session, which knows the same of the log, and it stands where the
-- lender's stands
pub record StaysLent {R : Type 0} (a b : Hand R) : Type 0 where
  pub table : b.table.now ≡ a.table.now
  pub place : b.session.ghost_name ≡ a.session.ghost_name
  pub same : SamePass a.session.now b.session.now
  pub log : b.session.now.view.log ≡ a.session.now.view.log

pub lent_itself : {R : Type 0} (a : Hand R) → StaysLent a a
lent_itself a = record {
  table = refl;
  place = refl;
  same = record {
    table = refl;
    session = record { alive = refl; plan = refl; models = refl; numbers = refl };
  };
  log = refl;
}

pub lent_on : {R : Type 0} (a b c : Hand R) → StaysLent a b → StaysLent b c → StaysLent a c
lent_on a b c f g =
    let v = f.same.session in
    let w = g.same.session in
    record {
      table = g.table ∙ f.table;
      place = g.place ∙ f.place;
      same = record {
        table = g.same.table ∙ f.same.table;
        session = record {
          alive = w.alive ∙ v.alive;
          plan = w.plan ∙ v.plan;
          models = w.models ∙ v.models;
          numbers = w.numbers ∙ v.numbers;
        };
      };
      log = g.log ∙ f.log;
    }
