-- What a session leaves that takes the log's turn, has it, and gives it back.
use Rattle.std.proofs.Common.{◌≡◌, ◌≤◌, ◌^◌, ℕ, Option, Some, None, List, length, sym, ◌∙◌, ap, subst, arith}
use Rattle.history_model.specs.declared.acts.Act.{Act}
use Rattle.history_model.specs.declared.histories.Mark.{Mark}
use Rattle.history_model.specs.declared.histories.Record.{Record}
use Rattle.history_model.specs.Stores.{stored_in}
use Rattle.history_model.specs.Worlds.{World}
use Rattle.node_words.specs.declared.shapes.names.Name.{Name}
use Rattle.node_words.specs.shapes.Tree.{Tree}
use Rattle.node_words.specs.shapes.Weights.{number_of_trees}
use Rattle.core_laws.specs.places.WordIds.{LogLength}
use Rattle.table_rule.specs.LogFacts.{IsShownUnmarked, number_seen, seen_has}
use Rattle.table_rule.specs.LogViews.{LogView}
use Rattle.table_rule.specs.Rules.{SameSession}
use Rattle.table_rule.specs.Views.{SeatView, known_at}
use Rattle.node_table.specs.LogTurns.{HasLogTurn, HasNoTurn, LooksForMark, TakesLog, log_left}
use Rattle.node_table.specs.TableStates.{TableState, PassState, BelongsTo, SamePass}
use Rattle.version_log.proofs.LookLaws.{found_looks, keeps_looks, left_looks, looks_on}
use Rattle.version_log.specs.Falling.{CommitsNext}
use Rattle.version_log.specs.declared.answers.Committed.{Committed}
use Rattle.version_log.specs.Keeping.{OnlyKeeps}
use Rattle.version_log.specs.Roots.{GetsRoot, HoldsRootOf}
use Rattle.version_log.specs.Seeing.{IsDated, KnowsMore, OnlyReadsLog}
use Rattle.session.specs.Lendable.{IsLendable, StaysLendable}
use Rattle.session.specs.Resting.{HasLog, IsAtRest}
use Rattle.session.specs.SessionWorlds.{session_view}
use Rattle.session.proofs.KeepLaws.{commits_knows, commits_session}

-- ---- the turn comes and stays; the table is the world's

pub log_came : (t u : TableState) (v w : PassState) → u ≡ t → IsAtRest t v → HasLogTurn u w
    → OnlyReadsLog v.view w.view → HasLog t w
log_came t u v w same r turn looks =
    record {
      turn = subst (λ (x : TableState). HasLogTurn x w) same turn;
      alone = looks.sees.taken ∙ r.alone;
      side = looks.sees.side ∙ r.side;
      dated = looks.sees.dated r.dated;
    }

pub log_stays : (t u : TableState) (v w : PassState) → u ≡ t → HasLog t v → HasLogTurn u w
    → OnlyReadsLog v.view w.view → HasLog t w
log_stays t u v w same h turn looks =
    record {
      turn = subst (λ (x : TableState). HasLogTurn x w) same turn;
      alone = looks.sees.taken ∙ h.alone;
      side = looks.sees.side ∙ h.side;
      dated = looks.sees.dated h.dated;
    }

-- the table's own turn is that of the world
pub has_turn : (t u : TableState) (v w : PassState) → u ≡ t → w ≡ v → HasLog t v → HasLogTurn u w
has_turn t u v w same here h =
    subst (λ (x : PassState). HasLogTurn u x) (sym here)
    (subst (λ (x : TableState). HasLogTurn x v) (sym same) h.turn)

-- it is lent meanwhile
pub log_lends : (t : TableState) (v : PassState) → HasLog t v → IsLendable t v
log_lends t v h = record { of = h.turn.of; idle = h.turn.idle }

pub log_lent : (t : TableState) (v w : PassState) → HasLog t v → StaysLendable t v w → HasLog t w
log_lent t v w h stays =
    let log : w.view.log ≡ v.view.log = stays.log in
    record {
      turn = record {
        of = stays.ready.of;
        idle = stays.ready.idle;
        sees = record {
          turn = ap (λ (l : LogView). l.turn) log ∙ h.turn.sees.turn;
          known = ap (λ (l : LogView). known_at LogLength l.words) log ∙ h.turn.sees.known
              ∙ sym (ap (λ (l : LogView). Some (length l.seen.records)) log);
        };
      };
      alone = ap (λ (l : LogView). l.taken) log ∙ h.alone;
      side = ap (λ (l : LogView). l.seen.side) log ∙ h.side;
      dated = subst (λ (l : LogView). IsDated l.seen) (sym log) h.dated;
    }

-- ---- the turn goes back

pub log_rests : (t u : TableState) (v w : PassState) → u ≡ t → HasLog t v → BelongsTo u w
    → HasNoTurn w.view → KnowsMore v.view w.view → IsAtRest t w
log_rests t u v w same h of idle knows =
    record {
      of = subst (λ (x : TableState). BelongsTo x w) same of;
      idle = idle;
      alone = knows.taken ∙ h.alone;
      side = knows.side ∙ h.side;
      dated = knows.dated h.dated;
    }

pub log_same : (t u : TableState) (v w : PassState) → u ≡ t → HasLog t v → BelongsTo u w
    → SameSession v.view w.view → SamePass v w
log_same t u v w same h of session =
    record {
      table = of.table ∙ ap (λ (x : TableState). x.id) same ∙ sym h.turn.of.table;
      session = session;
    }

left_idle : (v w : SeatView) → v.turn ≡ None → w ≡ log_left v → HasNoTurn w
left_idle v w idle e =
    record {
      bucket = ap (λ (x : SeatView). x.turn) e ∙ idle;
      log = ap (λ (x : SeatView). x.log.turn) e;
    }

pub left_rests : (t u : TableState) (v w : PassState) → u ≡ t → HasLog t v → BelongsTo u w
    → w.view ≡ log_left v.view → IsAtRest t w
left_rests t u v w same h of e =
    log_rests t u v w same h of (left_idle v.view w.view h.turn.idle e)
    (left_looks v.view w.view e).sees

pub left_same : (t u : TableState) (v w : PassState) → u ≡ t → HasLog t v → BelongsTo u w
    → w.view ≡ log_left v.view → SamePass v w
left_same t u v w same h of e =
    log_same t u v w same h of (left_looks v.view w.view e).session

pub left_seen : (v w : SeatView) → w ≡ log_left v → session_view w ≡ session_view v
left_seen v w e = ap (λ (x : SeatView). session_view x) e

-- and the length was asked before
module _ (t u : TableState) (v a w : PassState) (table : u ≡ t) (same : a ≡ v) (h : HasLog t v)
    (e : w.view ≡ log_left a.view) where
  here : w.view ≡ log_left v.view
  here = e ∙ ap (λ (x : PassState). log_left x.view) same

  pub leave_rests : BelongsTo u w → IsAtRest t w
  leave_rests of = left_rests t u v w table h of here

  pub leave_same : BelongsTo u w → SamePass v w
  leave_same of = left_same t u v w table h of here

  pub leave_seen : session_view w.view ≡ session_view v.view
  leave_seen = left_seen v.view w.view here

  pub leave_held : w.view.held ≡ v.view.held
  leave_held = ap (λ (x : SeatView). x.held) here

  pub leave_at : (at : ℕ) → at ≡ number_seen v.view → at ≡ number_seen w.view
  leave_at at is = is ∙ sym (ap (λ (x : SeatView). number_seen x) here)

-- the record was accepted
pub added_rests : (t u : TableState) (v w : PassState) (keep line : ℕ) (act : Act)
    (root : Option Name) (c : Committed) → u ≡ t → HasLog t v → BelongsTo u w → HasNoTurn w.view
    → CommitsNext v.view keep line act root c w.view → IsAtRest t w
added_rests t u v w keep line act root c same h of idle made =
    log_rests t u v w same h of idle (commits_knows keep v.view w.view line act root c made)

pub added_same : (t u : TableState) (v w : PassState) (keep line : ℕ) (act : Act)
    (root : Option Name) (c : Committed) → u ≡ t → HasLog t v → BelongsTo u w
    → CommitsNext v.view keep line act root c w.view → SamePass v w
added_same t u v w keep line act root c same h of made =
    log_same t u v w same h of (commits_session keep v.view w.view line act root c made)

-- ---- a version is looked at, and a share of its root is taken

pub taken_held : {made : ℕ} (v w : SeatView) → TakesLog made v w → w.held ≡ v.held
taken_held v w t = ap (λ (x : SeatView). x.held) t.is

pub looked_held : (v w : SeatView) (n : ℕ) (m : Option Mark) → LooksForMark v n m w
    → w.held ≡ v.held
looked_held v w n None f = ap (λ (x : SeatView). x.held) f.is
looked_held v w n (Some m) f = ap (λ (x : SeatView). x.held) f.is

looked_records : (v w : SeatView) (n : ℕ) (m : Option Mark) → LooksForMark v n m w
    → w.log.seen.records ≡ v.log.seen.records
looked_records v w n None f = ap (λ (x : SeatView). x.log.seen.records) f.is
looked_records v w n (Some m) f = ap (λ (x : SeatView). x.log.seen.records) f.is

-- a version's cells are the same behind that
pub kept_has : (v w : SeatView) (n : ℕ) → OnlyKeeps v w → seen_has w n ≡ seen_has v n
kept_has v w n k =
    let plan = k.session.plan in
    let models = k.session.models in
    let log = k.log in
    (λ i. stored_in (2 ^ (plan i).side) (models i) ((log i).seen.records) n)

pub kept_root : (v w : SeatView) (root : Option Name) (n : ℕ) → OnlyKeeps v w
    → HoldsRootOf w root (seen_has v n) → HoldsRootOf w root (seen_has w n)
kept_root v w root n k h =
    subst (λ (c : World). HoldsRootOf w root c) (sym (kept_has v w n k)) h

-- the newest version has no mark
head_shown : (v w : SeatView) (at : ℕ) (m : Option Mark) → at ≡ number_seen v
    → LooksForMark v at m w → IsShownUnmarked w at
head_shown v w at None here f = f.shown
head_shown v w at (Some m) here f =
    absurd (let low = f.later.0 in let high = f.later.1 in omega arith)

-- it was looked at, and a share of its root was taken: a is what the length was asked of
module _ (v a b : PassState) (at : ℕ) (m : Option Mark) (same : a ≡ v)
    (here : at ≡ number_seen v.view) (looks : LooksForMark a.view at m b.view) where
  looks_here : LooksForMark v.view at m b.view
  looks_here = subst (λ (x : PassState). LooksForMark x.view at m b.view) same looks

  pub head_open : IsShownUnmarked b.view at
  head_open = head_shown v.view b.view at m here looks_here

  pub head_room : number_of_trees v.view.held ≤ 4095 → number_of_trees b.view.held ≤ 4095
  head_room few =
      subst (λ (ts : List Tree). number_of_trees ts ≤ 4095)
      (sym (looked_held v.view b.view at m looks_here)) few

  module _ (w : PassState) (keeps : OnlyKeeps b.view w.view) where
    pub head_looks : OnlyReadsLog v.view w.view
    head_looks =
        looks_on v.view b.view w.view (found_looks v.view at m b.view looks_here)
        (keeps_looks b.view w.view keeps)

    pub head_log : (t u : TableState) → u ≡ t → HasLog t v → HasLogTurn u w → HasLog t w
    head_log t u table h turn = log_stays t u v w table h turn head_looks

    pub head_gets : (root : Option Name) → GetsRoot b.view.held root w.view.held
        → GetsRoot v.view.held root w.view.held
    head_gets root gets =
        subst (λ (ts : List Tree). GetsRoot ts root w.view.held)
        (looked_held v.view b.view at m looks_here) gets

    pub head_holds : (root : Option Name) → HoldsRootOf w.view root (seen_has b.view at)
        → HoldsRootOf w.view root (seen_has w.view (number_seen w.view))
    head_holds root h =
        let long : at ≡ number_seen w.view =
        here ∙ sym (ap (λ (rs : List Record). length rs)
        (looked_records v.view b.view at m looks_here))
        ∙ sym (ap (λ (l : LogView). length l.seen.records) keeps.log)
        in
        subst (λ (n : ℕ). HoldsRootOf w.view root (seen_has w.view n)) long
        (kept_root b.view w.view root at keeps h)
