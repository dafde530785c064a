-- What calls leave of a view, chained.
use Rattle.std.proofs.Common.{◌≡◌, ◌<◌, ◌≤◌, ℕ, length, ⊎_elim, inl, inr, arith, Option, Some, None, List, [], ◌∷◌, ◌++◌, refl, sym, ◌∙◌, ap, subst, append_assoc}
use Rattle.std.proofs.lemmas.List.{append-nil, length-append}
use Rattle.history_model.specs.declared.histories.Record.{Record}
use Rattle.table_rule.specs.LogChanges.{marks_with}
use Rattle.table_rule.proofs.MarkLists.{with_has}
use Rattle.history_model.specs.declared.histories.Mark.{Mark}
use Rattle.history_model.specs.Logs.{Log}
use Rattle.table_rule.proofs.Containing.{contains_more, contains_parts}
use Rattle.table_rule.specs.LogKnowing.{IsPrefix}
use Rattle.table_rule.specs.LogViews.{LogView}
use Rattle.retain.specs.Listing.{Found}
use Rattle.table_rule.specs.LogFacts.{number_seen}
use Rattle.table_rule.specs.Rules.{SameSession}
use Rattle.table_rule.specs.Views.{SeatView}
use Rattle.node_table.specs.LogTurns.{FoundMark, FoundOpen, LearnsLog, LooksForMark, TakesLog, log_left, with_log}
use Rattle.version_log.specs.Keeping.{OnlyKeeps}
use Rattle.version_log.specs.Seeing.{KeepsFound, IsDated, MetOthers, KnowsMore, OnlyReadsLog}

pub begins_itself : (a : Log) → IsPrefix a a
begins_itself a =
    record { more = []; records = sym (append-nil a.records); marks = λ m c. c }

pub begins_on : (a b c : Log) → IsPrefix a b → IsPrefix b c → IsPrefix a c
begins_on a b c f g =
    record {
      more = f.more ++ g.more;
      records = g.records ∙ ap (λ rs. rs ++ g.more) f.records
          ∙ append_assoc a.records f.more g.more;
      marks = λ m here. g.marks m (f.marks m here);
    }

pub others_by : (own old new : List ℕ) → new ≡ old → MetOthers own old new
others_by own old new e =
    record { met = []; others = λ n c. absurd (let k = c.1 in omega arith); is = e }

pub others_itself : (own ns : List ℕ) → MetOthers own ns ns
others_itself own ns = others_by own ns ns refl

pub others_on : (own a b c : List ℕ) → MetOthers own a b → MetOthers own b c → MetOthers own a c
others_on own a b c f g =
    record {
      met = g.met ++ f.met;
      others = λ n h. ⊎_elim (g.others n) (f.others n) (contains_parts g.met f.met n h);
      is = g.is ∙ ap (λ ns. g.met ++ ns) f.is ∙ sym (append_assoc g.met f.met a);
    }

-- the same session, and all that a call leaves of the view, but for its log
looks_by : (v w : SeatView) → SameSession v w → KnowsMore v w → w.log.records ≡ v.log.records
    → w.log.marks ≡ v.log.marks → MetOthers v.numbers v.log.busy w.log.busy
    → w.made ≡ v.made → w.met ≡ v.met → OnlyReadsLog v w
looks_by v w session sees records marks busy made met =
    record {
      session = session;
      sees = sees;
      records = records;
      marks = marks;
      busy = busy;
      made = made;
      met = met;
    }

same_session : (v : SeatView) → SameSession v v
same_session v = record { alive = refl; plan = refl; models = refl; numbers = refl }

pub looks_itself : (v : SeatView) → OnlyReadsLog v v
looks_itself v =
    looks_by v v (same_session v)
    (record {
      seen = begins_itself v.log.seen;
      side = refl;
      dated = λ dated. dated;
      taken = refl;
      found = record { each = λ f c. c };
    })
    refl refl (others_itself v.numbers v.log.busy) refl refl

pub looks_on : (u v w : SeatView) → OnlyReadsLog u v → OnlyReadsLog v w → OnlyReadsLog u w
looks_on u v w f g =
    record {
      session = record {
        alive = g.session.alive ∙ f.session.alive;
        plan = g.session.plan ∙ f.session.plan;
        models = g.session.models ∙ f.session.models;
        numbers = g.session.numbers ∙ f.session.numbers;
      };
      sees = record {
        seen = begins_on u.log.seen v.log.seen w.log.seen f.sees.seen g.sees.seen;
        side = g.sees.side ∙ f.sees.side;
        dated = λ dated. g.sees.dated (f.sees.dated dated);
        taken = g.sees.taken ∙ f.sees.taken;
        found = record { each = λ x c. g.sees.found.each x (f.sees.found.each x c) };
      };
      records = g.records ∙ f.records;
      marks = g.marks ∙ f.marks;
      busy = others_on u.numbers u.log.busy v.log.busy w.log.busy f.busy
          (subst (λ (ns : List ℕ). MetOthers ns v.log.busy w.log.busy) f.session.numbers g.busy);
      made = g.made ∙ f.made;
      met = g.met ∙ f.met;
    }

-- the same view, with another view of the log that has the same lists
looks_log : (v : SeatView) (l : LogView) → KnowsMore v (with_log v l)
    → l.records ≡ v.log.records → l.marks ≡ v.log.marks → MetOthers v.numbers v.log.busy l.busy
    → OnlyReadsLog v (with_log v l)
looks_log v l sees records marks busy =
    looks_by v (with_log v l)
    (record { alive = refl; plan = refl; models = refl; numbers = refl })
    sees records marks busy refl refl

-- the same log was seen, and no other was taken over
knows_found : (v : SeatView) (l : LogView) → l.seen ≡ v.log.seen → l.taken ≡ v.log.taken
    → KeepsFound v.log.found l.found → KnowsMore v (with_log v l)
knows_found v l same taken found =
    record {
      seen = subst (λ (log : Log). IsPrefix v.log.seen log) (sym same) (begins_itself v.log.seen);
      side = ap (λ (log : Log). log.side) same;
      dated = subst (λ (log : Log). IsDated log) (sym same);
      taken = taken;
      found = found;
    }

-- records that come date no mark anew
pub dated_longer : (log : Log) (more : List Record) → IsDated log
    → IsDated (record log { records = log.records ++ more })
dated_longer log more dated =
    record {
      each = λ m c.
          (let d = dated.each m c in
          let long = length-append log.records more in
          let high : m.at ≤ length (log.records ++ more) = (let low = d.1 in omega arith) in
          (d.0, high));
    }

-- and a mark that comes is dated itself
pub dated_with : (log : Log) (m : Mark) → (m.version < m.at) × (m.at ≤ length log.records)
    → IsDated log → IsDated (record log { marks = marks_with m log.marks })
dated_with log m here dated =
    record {
      each = λ y c. elim (with_has m log.marks y c) [
        | inl same ↦ subst (λ (x : Mark). (x.version < x.at) × (x.at ≤ length log.records))
            same here
        | inr there ↦ dated.each y there
      ];
    }

found_itself : (fs : List Found) → KeepsFound fs fs
found_itself fs = record { each = λ f c. c }

found_more : (f : Found) (fs : List Found) → KeepsFound fs (f ∷ fs)
found_more f fs = record { each = λ x c. contains_more f fs x c }

along : (v w z : SeatView) → w ≡ z → OnlyReadsLog v z → OnlyReadsLog v w
along v w z e looks = subst (λ (x : SeatView). OnlyReadsLog v x) (sym e) looks

pub takes_looks : {made : ℕ} (v w : SeatView) → TakesLog made v w → OnlyReadsLog v w
takes_looks v w t =
    along v w _ t.is
    (looks_log v _
    (record {
      seen = record { more = t.more; records = refl; marks = λ m c. c };
      side = refl;
      dated = dated_longer v.log.seen t.more;
      taken = refl;
      found = found_itself v.log.found;
    })
    refl refl (record { met = t.met; others = λ n c. (t.others.each n c).1; is = refl }))

pub learns_looks : (v w : SeatView) → LearnsLog v w → OnlyReadsLog v w
learns_looks v w l =
    along v w _ l.is
    (looks_log v _ (knows_found v _ refl refl (found_itself v.log.found)) refl refl
    (others_itself v.numbers v.log.busy))

pub open_looks : (v : SeatView) (n : ℕ) (w : SeatView) → FoundOpen v n w → OnlyReadsLog v w
open_looks v n w f =
    along v w _ f.is
    (looks_log v _
    (knows_found v _ refl refl
    (found_more (record { version = n; at = number_seen v }) v.log.found)) refl refl
    (others_itself v.numbers v.log.busy))

pub mark_looks : (v : SeatView) (n : ℕ) (m : Mark) (w : SeatView) → FoundMark v n m w → OnlyReadsLog v w
mark_looks v n m w f =
    looks_by v w
    (record {
      alive = ap (λ (x : SeatView). x.alive) f.is;
      plan = ap (λ (x : SeatView). x.plan) f.is;
      models = ap (λ (x : SeatView). x.models) f.is;
      numbers = ap (λ (x : SeatView). x.numbers) f.is;
    })
    (record {
      seen = record {
        more = [];
        records = ap (λ (x : SeatView). x.log.seen.records) f.is
            ∙ sym (append-nil v.log.seen.records);
        marks = f.stay;
      };
      side = ap (λ (x : SeatView). x.log.seen.side) f.is;
      dated = λ dated. subst (λ (x : SeatView). IsDated x.log.seen) (sym f.is)
          (dated_with v.log.seen m
          (subst (λ (k : ℕ). k < m.at) (sym f.version) f.later.0, f.later.1) dated);
      taken = ap (λ (x : SeatView). x.log.taken) f.is;
      found = subst (λ (fs : List Found). KeepsFound v.log.found fs)
          (sym (ap (λ (x : SeatView). x.log.found) f.is)) (found_itself v.log.found);
    })
    (ap (λ (x : SeatView). x.log.records) f.is) (ap (λ (x : SeatView). x.log.marks) f.is)
    (others_by v.numbers v.log.busy w.log.busy (ap (λ (x : SeatView). x.log.busy) f.is))
    (ap (λ (x : SeatView). x.made) f.is)
    (ap (λ (x : SeatView). x.met) f.is)

-- a share was taken under the turn
pub keeps_looks : (v w : SeatView) → OnlyKeeps v w → OnlyReadsLog v w
keeps_looks v w k =
    looks_by v w k.session
    (record {
      seen = subst (λ (l : LogView). IsPrefix v.log.seen l.seen) (sym k.log)
          (begins_itself v.log.seen);
      side = ap (λ (l : LogView). l.seen.side) k.log;
      dated = subst (λ (l : LogView). IsDated l.seen) (sym k.log);
      taken = ap (λ (l : LogView). l.taken) k.log;
      found = subst (λ (l : LogView). KeepsFound v.log.found l.found) (sym k.log)
          (found_itself v.log.found);
    })
    (ap (λ (l : LogView). l.records) k.log) (ap (λ (l : LogView). l.marks) k.log)
    (others_by v.numbers v.log.busy w.log.busy (ap (λ (l : LogView). l.busy) k.log)) k.made k.met

pub left_looks : (v w : SeatView) → w ≡ log_left v → OnlyReadsLog v w
left_looks v w e =
    along v w (log_left v) e
    (looks_log v _ (knows_found v _ refl refl (found_itself v.log.found)) refl refl
    (others_itself v.numbers v.log.busy))

-- and with the turn no less is seen than without it
pub back_looks : (v : SeatView) → OnlyReadsLog (log_left v) v
back_looks v =
    looks_log (log_left v) v.log
    (knows_found (log_left v) v.log refl refl (found_itself v.log.found)) refl refl
    (others_itself v.numbers v.log.busy)

-- the turn came and the length was read
pub begun_looks : {made : ℕ} (v w z : SeatView) → TakesLog made v w → LearnsLog w z → OnlyReadsLog v z
begun_looks v w z t l = looks_on v w z (takes_looks v w t) (learns_looks w z l)

-- and the turn went back, as a view tells that is left
pub left_on : (v w z : SeatView) → OnlyReadsLog v w → z ≡ log_left w → OnlyReadsLog v z
left_on v w z f e = looks_on v w z f (left_looks w z e)

-- a version was looked at
pub found_looks : (v : SeatView) (n : ℕ) (o : Option Mark) (w : SeatView) → LooksForMark v n o w
    → OnlyReadsLog v w
found_looks v n None w f = open_looks v n w f
found_looks v n (Some m) w f = mark_looks v n m w f

-- nothing was learned
pub learns_same : (v w : SeatView) → w ≡ v → LearnsLog v w
learns_same v w e =
    subst (λ (x : SeatView). LearnsLog v x) (sym e)
    (record { grows = record { stays = λ x n k. k }; is = refl })
