-- What a session does one after another.
use Rattle.std.proofs.Common.{◌≡◌, ◌≤◌, ℕ, List, [], ◌∷◌, ◌++◌, length, sym, ◌∙◌, ap, subst, arith, append_assoc, length-append}
use Rattle.std.specs.List.{Contains}
use Rattle.std.proofs.lemmas.List.Elements.{All-nil, All-append, All-contains, All-weaker, Contains-append_left}
use Rattle.vox_read.specs.Contents.{Content}
use Rattle.history_model.specs.declared.acts.Act.{Act}
use Rattle.history_model.specs.declared.histories.Mark.{Mark}
use Rattle.history_model.specs.Logs.{Log}
use Rattle.node_words.specs.shapes.Shape.{Shape}
use Rattle.node_words.specs.Plans.{Layout}
use Rattle.conformance.specs.Answers.{ExtendsLog}
use Rattle.conformance.specs.Shown.{Accepted}
use Rattle.conformance.specs.scripts.Keeping.{MadeAndMet, MakesPart}
use Rattle.conformance.proofs.OfScripts.Refusals.{wanted_stays}
use Rattle.table_rule.specs.LogKnowing.{IsPrefix}
use Rattle.table_rule.specs.LogViews.{LogView}
use Rattle.table_rule.specs.Rules.{SameSession}
use Rattle.table_rule.specs.Views.{SeatView}
use Rattle.node_table.specs.TableStates.{TableState}
use Rattle.version_log.proofs.LookLaws.{begins_itself, begins_on}
use Rattle.version_log.specs.Seeing.{KeepsFound, IsDated, KnowsMore, OnlyReadsLog}
use Rattle.conformance.specs.declared.sessions.calls.ActAnswer.{ActAnswer}
use Rattle.conformance.specs.declared.sessions.calls.ActAnswer.TheVariants as acts
use Rattle.retain.specs.Retained.{falls_out}
use Rattle.conformance.specs.sessions.Calls.{AcceptsNothing, AppendsOwn, MeetsFullBucket, NotesFor, FollowsHistory, numbered_change}
use Rattle.conformance.specs.sessions.Fallen.{PushesOut}
use Rattle.conformance.specs.sessions.SessionViews.{SessionView}
use Rattle.conformance.specs.sessions.CallSpecs.{ActSpec}
use Rattle.session.specs.Attempts.{AnswersAct, WorksOn}
use Rattle.session.specs.SessionWorlds.{SessionWorld, of_world, session_view}
use Rattle.session.proofs.SeenLaws.{only_sees}

-- ---- histories that go on

goes_through : (a b c : Log) → ExtendsLog a b → ExtendsLog b c → ExtendsLog a c
goes_through a b c f g =
    record {
      side = g.side ∙ f.side;
      coloured = g.coloured ∙ f.coloured;
      more = f.more ++ g.more;
      records = g.records ∙ ap (λ rs. rs ++ g.more) f.records
          ∙ append_assoc a.records f.more g.more;
      marks = All-weaker (Contains b.marks) (Contains c.marks)
          (λ m here. All-contains (Contains c.marks) b.marks m g.marks here) a.marks f.marks;
    }

longer : (a b : Log) → ExtendsLog a b → length a.records ≤ length b.records
longer a b g =
    let more : length b.records ≡ length (a.records ++ g.more) = ap length g.records in
    let both = length-append a.records g.more in
    omega arith

-- ---- two parts of what a session saw and did

module _ (p : Layout) (models : List Content) (act : Act) (a b c : SessionView)
    (nothing : AcceptsNothing a b) where
  sees_on : FollowsHistory b c → FollowsHistory a c
  sees_on m =
      record {
        goes_on = goes_through a.log b.log c.log nothing.sees.goes_on m.goes_on;
        found = All-weaker (Contains b.found) (Contains c.found)
            (λ f here. All-contains (Contains c.found) b.found f m.found here) a.found
            nothing.sees.found;
      }

  pub nothing_on : AcceptsNothing b c → AcceptsNothing a c
  nothing_on n =
      record {
        sees = sees_on n.sees;
        records = n.records ∙ nothing.records;
        marks = n.marks ∙ nothing.marks;
      }

  pub part_from : (s : Shape)
      → MakesPart p models c.log.records act (length b.log.records) (length c.log.records) s
      → MakesPart p models c.log.records act (length a.log.records) (length c.log.records) s
  part_from s m =
      let low = m.low in
      let more = longer a.log b.log nothing.sees.goes_on in
      record { version = m.version; low = omega arith; high = m.high; wanted = m.wanted }

  pub part_to : ExtendsLog b.log c.log → (s : Shape)
      → MakesPart p models b.log.records act (length a.log.records) (length b.log.records) s
      → MakesPart p models c.log.records act (length a.log.records) (length c.log.records) s
  part_to g s m =
      let high = m.high in
      let more = longer b.log c.log g in
      record {
        version = m.version;
        low = m.low;
        high = omega arith;
        wanted = wanted_stays p models b.log c.log g act m.version s m.high m.wanted;
      }

  abbrev pub notes_on : ExtendsLog b.log c.log → NotesFor p models act a b → NotesFor p models act b c
      → NotesFor p models act a c
  notes_on g notes n =
      record {
        more = n.more ++ notes.more;
        made = n.made ∙ ap (λ ms. n.more ++ ms) notes.made
            ∙ sym (append_assoc n.more notes.more a.noted.made);
        parts = All-append
            (MakesPart p models c.log.records act (length a.log.records) (length c.log.records))
            n.more notes.more
            (All-weaker
            (MakesPart p models c.log.records act (length b.log.records) (length c.log.records))
            (MakesPart p models c.log.records act (length a.log.records) (length c.log.records))
            part_from n.more n.parts)
            (All-weaker
            (MakesPart p models b.log.records act (length a.log.records) (length b.log.records))
            (MakesPart p models c.log.records act (length a.log.records) (length c.log.records))
            (part_to g) notes.more notes.parts);
        further = n.further ++ notes.further;
        met = n.met ∙ ap (λ ws. n.further ++ ws) notes.met
            ∙ sym (append_assoc n.further notes.further a.noted.met);
        wanted = All-append
            (λ w. MakesPart p models c.log.records act (length a.log.records)
            (length c.log.records) w.shape) n.further notes.further
            (All-weaker
            (λ w. MakesPart p models c.log.records act (length b.log.records)
            (length c.log.records) w.shape)
            (λ w. MakesPart p models c.log.records act (length a.log.records)
            (length c.log.records) w.shape) (λ w m. part_from w.shape m) n.further n.wanted)
            (All-weaker
            (λ w. MakesPart p models b.log.records act (length a.log.records)
            (length b.log.records) w.shape)
            (λ w. MakesPart p models c.log.records act (length a.log.records)
            (length c.log.records) w.shape) (λ w m. part_to g w.shape m) notes.further
            notes.wanted);
      }

  meets_on : (level bucket : ℕ) → ExtendsLog b.log c.log → NotesFor p models act a b
      → MeetsFullBucket p models act level bucket b c
      → MeetsFullBucket p models act level bucket a c
  meets_on level bucket g notes m =
      record {
        notes = notes_on g notes m.notes;
        shape = m.shape;
        listed = Contains-append_left m.notes.further notes.further
            (record { level = level; bucket = bucket; shape = m.shape }) m.listed;
        sought = m.sought;
        wanted = m.wanted;
      }

  appends_on : (keep session line : ℕ) → AppendsOwn keep session line act b c
      → AppendsOwn keep session line act a c
  appends_on keep session line x =
      let first = longer a.log b.log nothing.sees.goes_on in
      let last = x.longer in
      record {
        sees = sees_on x.sees;
        longer = omega arith;
        last = x.last;
        records = x.records ∙ ap
            (λ (rs : List Accepted). record {
              at = length c.log.records;
              entry = record {
                session = session;
                line = line;
                act = act;
              };
            } ∷ rs) nothing.records;
        marks = subst (λ (ms : List Mark). PushesOut (falls_out (length c.log.records) keep)
            (numbered_change (length c.log.records) session line act) ms c) nothing.marks x.marks;
      }

-- ---- an answer after some work

module _ (t : SessionWorld) (number line : ℕ) (act : Act) (a b c : SessionView)
    (nothing : AcceptsNothing a b)
    (notes : NotesFor t.table.plan t.table.models act a b) where
  pub told_after : (answer : ActAnswer) → ActSpec (of_world t number) line act b c answer
      → ActSpec (of_world t number) line act a c answer
  told_after (acts.Done n) x =
      record {
        at_is = x.at_is;
        appends = appends_on t.table.plan t.table.models act a b c nothing t.keep number line x.appends;
        notes = notes_on t.table.plan t.table.models act a b c nothing x.appends.sees.goes_on
            notes x.notes;
      }
  told_after (acts.Full at full) x =
      record {
        at_is = x.at_is;
        nothing = nothing_on t.table.plan t.table.models act a b c nothing x.nothing;
        meets = meets_on t.table.plan t.table.models act a b c nothing full.level full.bucket
            x.nothing.sees.goes_on notes x.meets;
      }
  told_after acts.LogFull x =
      record {
        all = x.all;
        nothing = nothing_on t.table.plan t.table.models act a b c nothing x.nothing;
        notes = notes_on t.table.plan t.table.models act a b c nothing x.nothing.sees.goes_on
            notes x.notes;
        way = x.way;
      }
  told_after (acts.NothingToUndo at) x =
      record {
        at_is = x.at_is;
        is = x.is;
        nothing = nothing_on t.table.plan t.table.models act a b c nothing x.nothing;
        notes = notes_on t.table.plan t.table.models act a b c nothing x.nothing.sees.goes_on
            notes x.notes;
        none = x.none;
      }
  told_after (acts.NothingToRedo at) x =
      record {
        at_is = x.at_is;
        is = x.is;
        nothing = nothing_on t.table.plan t.table.models act a b c nothing x.nothing;
        notes = notes_on t.table.plan t.table.models act a b c nothing x.nothing.sees.goes_on
            notes x.notes;
        none = x.none;
      }
  told_after (acts.Forgotten at mark) x =
      record {
        at_is = x.at_is;
        nothing = nothing_on t.table.plan t.table.models act a b c nothing x.nothing;
        notes = notes_on t.table.plan t.table.models act a b c nothing x.nothing.sees.goes_on
            notes x.notes;
        target = x.target;
        listed = x.listed;
      }

-- ---- views

pub session_on : (u v w : SeatView) → SameSession u v → SameSession v w → SameSession u w
session_on u v w f g =
    record {
      alive = g.alive ∙ f.alive;
      plan = g.plan ∙ f.plan;
      models = g.models ∙ f.models;
      numbers = g.numbers ∙ f.numbers;
    }

pub knows_on : (u v w : SeatView) → KnowsMore u v → KnowsMore v w → KnowsMore u w
knows_on u v w f g =
    record {
      seen = begins_on u.log.seen v.log.seen w.log.seen f.seen g.seen;
      side = g.side ∙ f.side;
      dated = λ dated. g.dated (f.dated dated);
      taken = g.taken ∙ f.taken;
      found = record { each = λ x c. g.found.each x (f.found.each x c) };
    }

-- the log is known as it was
pub knows_same : (v w : SeatView) → w.log ≡ v.log → KnowsMore v w
knows_same v w e =
    record {
      seen = subst (λ (l : LogView). IsPrefix v.log.seen l.seen) (sym e) (begins_itself v.log.seen);
      side = ap (λ (l : LogView). l.seen.side) e;
      dated = subst (λ (l : LogView). IsDated l.seen) (sym e);
      taken = ap (λ (l : LogView). l.taken) e;
      found = subst (λ (l : LogView). KeepsFound v.log.found l.found) (sym e)
          (record { each = λ f c. c });
    }

pub works_on : (t : TableState) (act : Act) (u v w : SeatView) → WorksOn t act u v
    → WorksOn t act v w → WorksOn t act u w
works_on t act u v w f g =
    record {
      session = session_on u v w f.session g.session;
      sees = knows_on u v w f.sees g.sees;
      nothing = nothing_on t.plan t.models act (session_view u) (session_view v) (session_view w)
          f.nothing g.nothing;
      notes = notes_on t.plan t.models act (session_view u) (session_view v) (session_view w)
          f.nothing g.nothing.sees.goes_on f.notes g.notes;
    }

-- nothing was made or met
pub notes_none : (p : Layout) (models : List Content) (act : Act) (a b : SessionView)
    → b.noted ≡ a.noted → NotesFor p models act a b
notes_none p models act a b same =
    record {
      more = [];
      made = ap (λ (n : MadeAndMet). n.made) same;
      parts = All-nil
          (MakesPart p models b.log.records act (length a.log.records) (length b.log.records));
      further = [];
      met = ap (λ (n : MadeAndMet). n.met) same;
      wanted = All-nil (λ w. MakesPart p models b.log.records act (length a.log.records)
          (length b.log.records) w.shape);
    }

pub looks_work : (t : TableState) (act : Act) (v w : SeatView) → OnlyReadsLog v w → WorksOn t act v w
looks_work t act v w l =
    let only = only_sees v w l in
    record {
      session = l.session;
      sees = l.sees;
      nothing = only.nothing;
      notes = notes_none t.plan t.models act (session_view v) (session_view w) only.noted;
    }

-- what was answered after some work is the answer from before it
pub answers_after : (t : SessionWorld) (line : ℕ) (act : Act) (answer : ActAnswer) (u v w : SeatView)
    → WorksOn t.table act u v → AnswersAct t line act answer v w → AnswersAct t line act answer u w
answers_after t line act answer u v w f g number one =
    told_after t number line act (session_view u) (session_view v) (session_view w) f.nothing
    f.notes answer (g number (f.session.numbers ∙ one))

-- and it stays so while the session sees and does nothing more
pub answers_still : (t : SessionWorld) (line : ℕ) (act : Act) (answer : ActAnswer)
    (v w x : SeatView) → session_view x ≡ session_view w → AnswersAct t line act answer v w
    → AnswersAct t line act answer v x
answers_still t line act answer v w x same g number one =
    subst (λ (s : SessionView). ActSpec (of_world t number) line act (session_view v) s answer)
    (sym same) (g number one)
