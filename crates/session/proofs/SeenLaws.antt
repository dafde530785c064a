-- What a call of the log leaves of a pass, as what the session has seen and done.
use Rattle.std.proofs.Common.{◌≡◌, ℕ, ◌<◌, ◌≤◌, List, [], ◌∷◌, refl, sym, ◌∙◌, ap, subst}
use Rattle.std.specs.Prelude.{All, sum_by}
use Rattle.std.specs.List.{Contains}
use Rattle.std.proofs.lemmas.List.Elements.{All-contains_itself, All-weaker}
use Rattle.history_model.specs.declared.histories.Mark.{Mark}
use Rattle.node_words.specs.shapes.Shape.{Shape}
use Rattle.node_words.specs.Held.{Wanted}
use Rattle.node_words.specs.Plans.{Layout}
use Rattle.conformance.specs.Answers.{ExtendsLog}
use Rattle.conformance.specs.scripts.Keeping.{MadeAndMet}
use Rattle.table_rule.specs.LogKnowing.{OwnsIn, if_among}
use Rattle.table_rule.specs.LogFacts.{number_seen}
use Rattle.table_rule.specs.ViewFacts.{ViewFacts}
use Rattle.table_rule.specs.Views.{SeatView}
use Rattle.node_table.specs.LogTurns.{HasNoTurn}
use Rattle.node_table.specs.TableStates.{TableState, PassState, BelongsTo}
use Rattle.version_log.specs.Seeing.{IsDated, KnowsMore, OnlyReadsLog}
use Rattle.conformance.proofs.OfSessions.Gathered.{ListsOwn, marks_own}
use Rattle.conformance.specs.sessions.Calls.{FollowsHistory, OnlySees}
use Rattle.conformance.specs.sessions.CallSpecs.{HeadSpec}
use Rattle.session.specs.Resting.{IsAtRest}
use Rattle.session.specs.SessionWorlds.{KnowsItself, log_seen, session_view}

all_kept : {X : Type 0} (P : X → Type 0) (xs : List X) → ((x : X) → Contains xs x → P x) → All P xs
all_kept P xs each = All-weaker (Contains xs) P each xs (All-contains_itself xs)

pub goes_on : (v w : SeatView) → KnowsMore v w → ExtendsLog (log_seen v.log) (log_seen w.log)
goes_on v w k =
    record {
      side = k.side;
      coloured = refl;
      more = k.seen.more;
      records = k.seen.records;
      marks = all_kept (Contains w.log.seen.marks) v.log.seen.marks k.seen.marks;
    }

pub sees_more : (v w : SeatView) → KnowsMore v w → FollowsHistory (session_view v) (session_view w)
sees_more v w k =
    record {
      goes_on = goes_on v w k;
      found = all_kept (Contains w.log.found) v.log.found k.found.each;
    }

noted_as : List Shape → List Wanted → MadeAndMet
noted_as made met = record { made = made; met = met }

pub same_noted : (v w : SeatView) → w.made ≡ v.made → w.met ≡ v.met
    → (session_view w).noted ≡ (session_view v).noted
unfolding noted_as
same_noted v w made met = ap (λ ms. noted_as ms w.met) made ∙ ap (λ ws. noted_as v.made ws) met

pub only_sees : (v w : SeatView) → OnlyReadsLog v w → OnlySees (session_view v) (session_view w)
only_sees v w l =
    record {
      nothing = record {
        sees = sees_more v w l.sees;
        records = l.records;
        marks = l.marks;
      };
      noted = same_noted v w l.made l.met;
    }

-- its own marks by weights, as the runs of sessions have them
lists_marks : (number : ℕ) (v : SeatView) → v.numbers ≡ number ∷ [] → OwnsIn v.log.seen v
    → ListsOwn (λ (m : Mark). m.session) (number ∷ []) v.log.seen.marks v.log.marks
unfolding if_among
lists_marks number v one owns =
    record {
      weighs = λ f. subst (λ (ns : List ℕ). sum_by f v.log.marks
          ≡ sum_by (λ m. if_among ns m.session (f m)) v.log.seen.marks) one (owns.marks_are f);
    }

pub knows_itself : (v : SeatView) → ViewFacts v → v.log.taken ≡ [] → IsDated v.log.seen
    → KnowsItself v
knows_itself v tells alone dated number one =
    let marks = marks_own number v.log.seen.marks v.log.marks
    (lists_marks number v one (tells.log.own alone)) in
    record {
      own = marks.own_there;
      listed = marks.listed;
      dated = all_kept (λ (m : Mark). (m.version < m.at) × (m.at ≤ number_seen v)) v.log.seen.marks
          dated.each;
    }

-- a session at rest looked at the log, and is at rest again
pub rests : (t : TableState) (s z : PassState) → IsAtRest t s → BelongsTo t z → HasNoTurn z.view
    → KnowsMore s.view z.view → IsAtRest t z
rests t s z r of idle k =
    record {
      of = of;
      idle = idle;
      alone = k.taken ∙ r.alone;
      side = k.side ∙ r.side;
      dated = k.dated r.dated;
    }

pub rest_knows : (t : TableState) (s z : PassState) → IsAtRest t s → OnlyReadsLog s.view z.view
    → ViewFacts z.view → KnowsItself z.view
rest_knows t s z r l tells =
    knows_itself z.view tells (l.sees.taken ∙ r.alone) (l.sees.dated r.dated)

pub head_told : (v w : SeatView) (at : ℕ) → OnlyReadsLog v w → at ≡ number_seen w
    → HeadSpec (session_view v) (session_view w) at
head_told v w at l here = record { at_is = here; only = only_sees v w l }

-- the models and the side that a session at rest has are its world's, after a look too
pub models_stay : (t : TableState) (s z : PassState) → IsAtRest t s → OnlyReadsLog s.view z.view
    → z.view.models ≡ t.models
models_stay t s z r l = l.session.models ∙ r.of.models

pub side_stays : (t : TableState) (s z : PassState) → IsAtRest t s → OnlyReadsLog s.view z.view
    → z.view.log.seen.side ≡ z.view.plan.side
side_stays t s z r l =
    l.sees.side ∙ r.side
    ∙ sym (ap (λ (p : Layout). p.side) (l.session.plan ∙ r.of.plan))
