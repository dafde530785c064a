-- What a closed table tells of its passes is what a closed world tells of its sessions.
use Rattle.std.proofs.Common.{◌≡◌, ℕ, suc, ◌+◌, ◌<◌, ◌^◌, Bool, Some, List, [], ◌∷◌, ◌++◌, length, get_or, refl, sym, ◌∙◌, ap, subst, arith}
use Rattle.std.specs.Prelude.{All, map, sum_by}
use Rattle.std.specs.List.{Contains, slice_get}
use Rattle.std.proofs.lemmas.List.Elements.{All-append, All-contains_itself, All-map, All-nil, All-weaker}
use Rattle.history_model.specs.declared.histories.Mark.{Mark}
use Rattle.history_model.specs.declared.histories.Record.{Record}
use Rattle.history_model.specs.Logs.{Log, IsLegal}
use Rattle.vox_read.specs.Contents.{Content}
use Rattle.node_words.specs.declared.shapes.names.Name.{Name}
use Rattle.node_words.specs.shapes.Shape.{Shape}
use Rattle.node_words.specs.Enough.{HasEnough}
use Rattle.node_words.specs.Held.{Wanted}
use Rattle.node_words.specs.Plans.{Layout}
use Rattle.history_model.specs.Stores.{store_has}
use Rattle.core_laws.specs.contents.Aligned.{world_block}
use Rattle.core_laws.specs.contents.Contents.{IsFilled}
use Rattle.core_laws.specs.contents.Versions.{HoldsVersion}
use Rattle.core_laws.specs.Counting.{booked, parented, rooted}
use Rattle.core_laws.specs.Soundness.{SoundEntries, SoundVersions}
use Rattle.core_laws.specs.States.{State, IsLive}
use Rattle.conformance.specs.Answers.{ExtendsLog}
use Rattle.retain.specs.Listing.{Accepted, Found, numbered}
use Rattle.report.proofs.RootLaws.{log_side}
use Rattle.table_rule.specs.Knowing as knowing
use Rattle.table_rule.specs.LogKnowing.{WasFound, numbered_from}
use Rattle.node_table.specs.Closing as closing
use Rattle.node_table.specs.Closing.{EndsTable, HadEnough, IsHistoryOfAll, views_of}
use Rattle.node_table.specs.TableStates.{TableState, PassState}
use Rattle.node_table.specs.Closed.{Closed}
use Rattle.node_table.specs.Root.{Root}
use Rattle.conformance.specs.sessions.Ran.{ClosesWorld, StillFound, records_of_all, marks_of_all, made_of_all, met_of_all}
use Rattle.conformance.specs.sessions.SessionViews.{SessionView, MayTint, log_as}
use Rattle.session.proofs.BeginLaws.{get_there}
use Rattle.session.specs.Closes.{CountsLive, coloured_as, session_views}
use Rattle.session.specs.Resting.{IsAtRest}
use Rattle.session.specs.SessionWorlds.{log_seen, session_view}

all_there : {X : Type 0} (P : X → Type 0) (xs : List X) → ((x : X) → Contains xs x → P x) → All P xs
all_there P xs each = All-weaker (Contains xs) P each xs (All-contains_itself xs)

-- ---- the same lists, as sessions have them

all_mapped : {X : Type 0} (P : X → Type 0) (f : PassState → X) (passes : List PassState)
    → ((k : ℕ) (s : PassState) → slice_get passes k ≡ Some s → P (f s)) → All P (map f passes)
all_mapped P f passes each =
    All-map P f passes (λ k d lt. each k (get_or passes k d) (get_there passes k d lt))

records_same : (passes : List PassState)
    → records_of_all (session_views passes) ≡ closing.all_records (views_of passes)
records_same [] = refl
records_same (s ∷ passes) =
    ap (λ (rs : List Accepted). s.view.log.records ++ rs) (records_same passes)

marks_same : (passes : List PassState)
    → marks_of_all (session_views passes) ≡ closing.all_marks (views_of passes)
marks_same [] = refl
marks_same (s ∷ passes) = ap (λ (ms : List Mark). s.view.log.marks ++ ms) (marks_same passes)

made_same : (passes : List PassState)
    → made_of_all (session_views passes) ≡ knowing.all_made (views_of passes)
made_same [] = refl
made_same (s ∷ passes) = ap (λ (ss : List Shape). s.view.made ++ ss) (made_same passes)

numbered_same : (n : ℕ) (records : List Record) → numbered_from n records ≡ numbered n records
unfolding numbered_from
numbered_same n [] = refl
numbered_same n (r ∷ more) =
    ap (λ (rs : List Accepted). record { at = n; entry = r } ∷ rs)
    (numbered_same (suc n) more
    ∙ ap (λ (k : ℕ). numbered k more) (let e : suc n ≡ n + 1 = omega arith in e))

-- ---- what met full buckets

met_of : (P : Wanted → Type 0) (passes : List PassState)
    → ((k : ℕ) (s : PassState) → slice_get passes k ≡ Some s → (m : Wanted) → Contains s.view.met m
    → P m)
    → All P (met_of_all (session_views passes))
met_of P [] each = All-nil P
met_of P (s ∷ passes) each =
    All-append P s.view.met (met_of_all (session_views passes))
    (all_there P s.view.met (each 0 s refl))
    (met_of P passes (λ k t is. each (suc k) t is))

-- ---- a history as coloured as the world

kept_as : (coloured : Bool) (log : Log) (v : ℕ) → HoldsVersion log v → HoldsVersion (log_as coloured log) v
kept_as coloured log v k = record { there = k.there; unmarked = k.unmarked }

kept_back : (coloured : Bool) (log : Log) (v : ℕ) → HoldsVersion (log_as coloured log) v → HoldsVersion log v
kept_back coloured log v k = record { there = k.there; unmarked = k.unmarked }

legal_as : (coloured : Bool) (side : ℕ) (models : List Content) (log : Log)
    → IsLegal side models log → IsLegal side models (log_as coloured log)
legal_as coloured side models log l = record {
  same_side = l.same_side;
  few = l.few;
  fit = l.fit;
  follow = l.follow;
  rising = l.rising;
  marked = l.marked;
}

abbrev state_as : Bool → State → State
state_as coloured state = record {
  book = state.book;
  key = state.key;
  root = state.root;
  log = log_as coloured state.log;
  held = state.held;
}

live_back : (coloured : Bool) (p : Layout) (state : State) (n : Name)
    → IsLive p (state_as coloured state) n → IsLive p state n
live_back coloured p state n l = record { name = l.name; book = l.book }

entries_as : (coloured : Bool) (p : Layout) (state : State) → SoundEntries p state
    → SoundEntries p (state_as coloured state)
unfolding booked parented rooted
entries_as coloured p state e = record {
  fits = λ n live. e.fits n (live_back coloured p state n live);
  placed = λ n live. e.placed n (live_back coloured p state n live);
  once = λ m n a b. e.once m n (live_back coloured p state m a) (live_back coloured p state n b);
  counted = e.counted;
}

versions_as : (coloured : Bool) (p : Layout) (models : List Content) (state : State)
    → SoundVersions p models state → SoundVersions p models (state_as coloured state)
versions_as coloured p models state s = record {
  legal = legal_as coloured (2 ^ p.side) models state.log s.legal;
  kept = λ v n is. kept_as coloured state.log v (s.kept v n is);
  level = s.level;
  shown = λ v k. s.shown v (kept_back coloured state.log v k);
}

-- the table ended so, whatever its world's cells have
pub ends_as : (coloured : Bool) (t : TableState) (closed : Closed) → EndsTable t closed
    → EndsTable t (coloured_as coloured closed)
ends_as coloured t closed ends =
    let log : Log = ends.state.log in
    record {
      state = state_as coloured ends.state;
      sound = record {
        entries = entries_as coloured t.plan ends.state ends.sound.entries;
        versions = versions_as coloured t.plan t.models ends.state ends.sound.versions;
      };
      idle = record { weighs = ends.idle.weighs };
      history = ap (log_as coloured) ends.history;
      roots = record {
        rising = ends.roots.rising;
        kept = All-weaker (λ (r : Root). HoldsVersion log r.version)
            (λ (r : Root). HoldsVersion (log_as coloured log) r.version)
            (λ r k. kept_as coloured log r.version k) closed.roots.items ends.roots.kept;
        named = ends.roots.named;
        all = λ v k. ends.roots.all v (kept_back coloured log v k);
      };
      live = record {
        as_many = ends.live.as_many;
        each = ends.live.each;
        above = ends.live.above;
      };
    }

-- and so are the numbers of live entries
pub lives_as : (coloured : Bool) (t : TableState) (closed : Closed) → CountsLive t closed
    → CountsLive t (coloured_as coloured closed)
lives_as coloured t closed live level below =
    let h = live level below in
    let log : Log = closed.history in
    record {
      sites = h.sites;
      as_many = h.as_many;
      filled = All-weaker
          (IsFilled (world_block t.plan.side) (λ v. store_has t.models log v) (HoldsVersion log) level)
          (IsFilled (world_block t.plan.side) (λ v. store_has t.models log v)
          (HoldsVersion (log_as coloured log)) level)
          (λ s f. record {
            there = kept_as coloured log s.version f.there;
            aligned = f.aligned;
            same_level = f.same_level;
            some = f.some;
          }) h.sites h.filled;
      different = h.different;
      complete = λ s f. h.complete s (record {
        there = kept_back coloured log s.version f.there;
        aligned = f.aligned;
        same_level = f.same_level;
        some = f.some;
      });
    }

-- ---- the world

-- the history of a closed table is legal
pub legal_left : (w : TableState) (closed : Closed) → EndsTable w closed
    → IsLegal (2 ^ w.plan.side) w.models closed.history
legal_left w closed ends =
    subst (λ (log : Log). IsLegal (2 ^ w.plan.side) w.models log)
    (sym ends.history) ends.sound.versions.legal

module _ (tint : Bool) (w : TableState) (may : MayTint tint w.plan w.models)
    (passes : List PassState) (log : Log) (rest : All (IsAtRest w) passes)
    (was_legal : IsLegal (2 ^ w.plan.side) w.models log) (tells : IsHistoryOfAll log passes)
    (had : HadEnough w.plan passes) where
  -- the table's history as that of the world
  abbrev history : Log
  history = log_as tint log

  legal : IsLegal (2 ^ w.plan.side) w.models history
  legal = legal_as tint (2 ^ w.plan.side) w.models log was_legal

  goes_on_to : (k : ℕ) (d : PassState) → k < length passes
      → ExtendsLog (log_as tint (log_seen (get_or passes k d).view.log)) history
  goes_on_to k d lt =
      let s = get_or passes k d in
      let b = tells.seen k s (get_there passes k d lt) in
      record {
        side = log_side w.plan w.models history legal ∙ sym (rest k d lt).side;
        coloured = refl;
        more = b.more;
        records = b.records;
        marks = all_there (Contains log.marks) s.view.log.seen.marks b.marks;
      }

  was_found : (f : Found) → WasFound log f → StillFound history f
  was_found f was = record { there = was.at; still = was.held }

  found_of : (k : ℕ) (s : PassState) → slice_get passes k ≡ Some s
      → All (StillFound history) s.view.log.found
  found_of k s is = all_there (StillFound history) s.view.log.found
      (λ f there. was_found f (tells.found k s is f there))

  pub closes_world : ClosesWorld tint w.plan w.models (session_views passes) history
  closes_world = record {
    legal = legal;
    may = may;
    coloured = refl;
    seen = All-map (λ (s : SessionView). ExtendsLog (log_as tint s.log) history)
        (λ (s : PassState). session_view s.view) passes goes_on_to;
    found = all_mapped (λ (s : SessionView). All (StillFound history) s.found)
        (λ (s : PassState). session_view s.view) passes found_of;
    records = record {
      weighs = λ f.
          ap (sum_by f) (sym (numbered_same 1 log.records)) ∙ sym (tells.records f)
          ∙ ap (sum_by f) (sym (records_same passes));
    };
    marks = record {
      weighs = λ f. sym (tells.marks f) ∙ ap (sum_by f) (sym (marks_same passes));
    };
    enough = met_of
        (λ (m : Wanted). HasEnough w.plan
        (made_of_all (session_views passes)) m.level m.bucket) passes
        (λ k s is m there. subst (λ (ss : List Shape). HasEnough w.plan ss m.level m.bucket)
        (sym (made_same passes)) (had.each k s is m there));
  }
