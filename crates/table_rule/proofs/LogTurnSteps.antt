-- The log's turn is taken, or met in another session's hands, and given back.
use Rattle.std.proofs.Common.{◌≡◌, ℕ, zero, suc, ◌+◌, ◌<◌, ◌≤◌, eqb, eq-eqb, ne_eqb, Bool, true, false, Some, List, set, refl, sym, ap, ◌∙◌, subst, inl, arith}
use Rattle.std.specs.List.{slice_get, Contains}
use prog.Atomic.{either}
use Rattle.vox_read.specs.Contents.{Content}
use Rattle.node_words.specs.Plans.{Layout}
use Rattle.core_laws.specs.places.WordIds.{WordId, Sessions, LogTurn, LogLength, Version}
use Rattle.history_model.specs.Logs.{Log}
use Rattle.core_laws.specs.Events.{Rests}
use Rattle.table_rule.specs.Reading.{Wrote}
use Rattle.table_rule.specs.LogKnowing.{KnowsLog}
use Rattle.table_rule.specs.LogTurnRules.{KeepsLogTurn}
use Rattle.table_rule.specs.LogViews.{LogView}
use Rattle.table_rule.specs.LogWords.{log_in}
use Rattle.table_rule.specs.Rules.{KeepsRule, KeepsOn, table_state, MayWrite, MayWriteAmong}
use Rattle.table_rule.specs.TurnRules.{turn_of}
use Rattle.table_rule.specs.Views.{SeatView}
use Rattle.table_rule.proofs.LogPartA.{log_same_step, log_take_step, log_leave_step, not_log_turn}
use Rattle.table_rule.proofs.LogPartC.{SeatKnows, one_knows, knows_set}
use Rattle.table_rule.proofs.LogReading.{log_reads, written_reads}
use Rattle.table_rule.proofs.PartA.{beside_step, same_seat}
use Rattle.table_rule.proofs.StateSteps.{quiet_log, entries_same, roots_read, same_mem}
use Rattle.table_rule.specs.LogChanges.{under_log_turn, met_busy}
use Rattle.table_rule.proofs.LogLoads.{with_log}

-- the word of the log's turn changes, and with it what the seat says of that turn
module _ (p : Layout) (models : List Content) (old new : WordId → ℕ) (views : List SeatView)
    (seat : ℕ) (v : SeatView) (l : LogView) (r : KeepsRule p models old views)
    (at : slice_get views seat ≡ Some v) (n : ℕ) (wrote : Wrote old LogTurn n new)
    (knows : SeatKnows (log_in p old) v.numbers l) where
  abbrev w : SeatView
  w = with_log v l

  long : new LogLength ≡ old LogLength
  long = wrote.others LogLength (λ e. (let no : ⊥ = cc in no))

  version : (u i : ℕ) → new (Version u i) ≡ old (Version u i)
  version u i = wrote.others (Version u i) (λ e. (let no : ⊥ = cc in no))

  pub log_sessions : new Sessions ≡ old Sessions
  log_sessions = wrote.others Sessions (λ e. (let no : ⊥ = cc in no))

  pub log_turn_written : KeepsLogTurn new (set views seat w)
      → KeepsRule p models new (set views seat w)
      × Rests p (table_state p old views) (table_state p new (set views seat w))
  log_turn_written turn =
      quiet_log p models old new views seat v w r at
      (entries_same p models old new views seat v w r at LogTurn n wrote
      (λ m e. (let no : ⊥ = cc in no)) (λ m i e. (let no : ⊥ = cc in no)))
      (roots_read p old new views (set views seat w) long version)
      (log_reads p old new long version)
      (record {
        turn = turn;
        written = written_reads old new long version r.log.written;
        knows =
            subst (λ (x : ℕ × Log). KnowsLog x.0 x.1 (set views seat w))
            (λ i. (sym log_sessions i, sym (log_reads p old new long version) i))
            (knows_set (old Sessions) (log_in p old) views seat w r.log.knows knows);
      })
      (beside_step p old views r.turns seat v at new w (same_seat v w refl refl refl) log_sessions
      refl refl (λ c. wrote.others (turn_of c) (λ e. (let no : ⊥ = cc in no)))
      (λ c y of. wrote.others y (not_log_turn c y of)))
      refl refl refl refl refl (λ m h. inl h)

module _ (p : Layout) (seat : ℕ) (v : SeatView) (models : List Content) (old : WordId → ℕ)
    (views : List SeatView) (r : KeepsRule p models old views)
    (at : slice_get views seat ≡ Some v) where
  -- the seat knows of the log what it knew
  knows_as : (l : LogView) → l.seen ≡ v.log.seen → l.taken ≡ v.log.taken
      → l.records ≡ v.log.records → l.marks ≡ v.log.marks → l.found ≡ v.log.found
      → SeatKnows (log_in p old) v.numbers l
  knows_as l seen taken records marks found =
      let k = one_knows (old Sessions) (log_in p old) views seat v r.log.knows at in
      let moved : (b : Bool) (ws : List (WordId × ℕ)) (busy : List ℕ)
      → SeatKnows (log_in p old) v.numbers (record v.log { turn = b; words = ws; busy = busy }) =
      λ b ws busy. record {
        seen = k.seen;
        taken = k.taken;
        own = k.own;
        own_seen = k.own_seen;
        found = k.found;
      } in
      subst (λ (x : LogView). SeatKnows (log_in p old) v.numbers x)
      (λ i. record {
        turn = l.turn;
        words = l.words;
        seen = sym seen i;
        taken = sym taken i;
        records = sym records i;
        marks = sym marks i;
        found = sym found i;
        busy = l.busy;
      }) (moved l.turn l.words l.busy)

  log_taken : (k : ℕ) (new : WordId → ℕ) → v.log.turn ≡ false → Contains v.numbers k
      → old LogTurn ≡ 0 → Wrote old LogTurn (either (eqb (old LogTurn) 0) (1 + k) (old LogTurn)) new
      → KeepsRule p models new (set views seat (under_log_turn v true))
      × Rests p (table_state p old views) (table_state p new (set views seat (under_log_turn v true)))
  log_taken k new idle mine free written =
      let l : LogView = (under_log_turn v true).log in
      let wrote : Wrote old LogTurn (1 + k) new =
      subst (λ t. Wrote old LogTurn (either t (1 + k) (old LogTurn)) new)
      (eq-eqb (old LogTurn) 0 free) written in
      let knows = knows_as l refl refl refl refl refl in
      log_turn_written p models old new views seat v l r at (1 + k) wrote knows
      (log_take_step p old views r.turns r.log.turn seat v at new (with_log v l) refl
      (log_sessions p models old new views seat v l r at (1 + k) wrote knows) k idle mine free
      wrote refl refl)

  log_missed : (k other : ℕ) (new : WordId → ℕ) → old LogTurn ≡ suc other
      → Wrote old LogTurn (either (eqb (old LogTurn) 0) (1 + k) (old LogTurn)) new
      → KeepsRule p models new (set views seat (met_busy v other))
      × Rests p (table_state p old views) (table_state p new (set views seat (met_busy v other)))
  log_missed k other new taken written =
      let l : LogView = (met_busy v other).log in
      let wrote : Wrote old LogTurn (old LogTurn) new =
      subst (λ t. Wrote old LogTurn (either t (1 + k) (old LogTurn)) new)
      (ne_eqb (old LogTurn) 0 (λ e. omega arith)) written in
      let knows = knows_as l refl refl refl refl refl in
      log_turn_written p models old new views seat v l r at (old LogTurn) wrote knows
      (log_same_step p old views r.turns r.log.turn seat v at new (with_log v l) refl
      (log_sessions p models old new views seat v l r at (old LogTurn) wrote knows) wrote.here
      (λ x of. ap (λ (m : WordId → ℕ). m x) (same_mem old new LogTurn wrote)) refl refl)

  log_left : (new : WordId → ℕ) → v.log.turn ≡ true → Wrote old LogTurn 0 new
      → KeepsRule p models new (set views seat (under_log_turn v false))
      × Rests p (table_state p old views) (table_state p new (set views seat (under_log_turn v false)))
  log_left new has wrote =
      let l : LogView = (under_log_turn v false).log in
      let knows = knows_as l refl refl refl refl refl in
      log_turn_written p models old new views seat v l r at 0 wrote knows
      (log_leave_step p old views r.turns r.log.turn seat v at new (with_log v l) refl
      (log_sessions p models old new views seat v l r at 0 wrote knows) has wrote refl)

  -- whoever has the turn is another session, one of those that have numbers
  other_has : (sessions other : ℕ) → old Sessions ≤ sessions → v.log.turn ≡ false
      → old LogTurn ≡ suc other → (other < sessions) × ¬ Contains v.numbers other
  other_has sessions other few idle is = (
    (let named = r.log.turn.named in omega arith),
    λ c. not_both (sym idle ∙ r.log.turn.back seat v at
        (record { number = other; carried = c; is = is ∙ one_more other })),
  )
    where
      not_both : false ≡ true → ⊥
      not_both e = cc

      one_more : (n : ℕ) → suc n ≡ 1 + n
      one_more n = omega arith

pub takes_log : (sessions : ℕ) (p : Layout) (seat : ℕ) (v : SeatView) (k : ℕ) → v.log.turn ≡ false
    → Contains v.numbers k
    → MayWriteAmong sessions p seat v LogTurn (λ n. either (eqb n 0) (1 + k) n) (Rests p)
    (λ n w. (n ≡ 0 → w ≡ under_log_turn v true)
    × ((other : ℕ) → n ≡ suc other → (w ≡ met_busy v other) × (other < sessions)
    × ¬ Contains v.numbers other))
takes_log sessions p seat v k idle mine models old views r few at = go (old LogTurn) refl
  where
    go : (n : ℕ) → old LogTurn ≡ n
        → KeepsOn p models seat old views v LogTurn
        (either (eqb (old LogTurn) 0) (1 + k) (old LogTurn)) (Rests p)
        (λ w. (old LogTurn ≡ 0 → w ≡ under_log_turn v true)
        × ((other : ℕ) → old LogTurn ≡ suc other → (w ≡ met_busy v other) × (other < sessions)
        × ¬ Contains v.numbers other))
    go zero free = record {
      view = under_log_turn v true;
      rule = λ new e. (log_taken p seat v models old views r at k new idle mine free e).0;
      event = λ new e. (log_taken p seat v models old views r at k new idle mine free e).1;
      same = record { alive = refl; plan = refl; models = refl; numbers = refl };
      told = ((λ _. refl), λ other e. absurd (omega arith));
    }
    go (suc number) taken = record {
      view = met_busy v number;
      rule = λ new e. (log_missed p seat v models old views r at k number new taken e).0;
      event = λ new e. (log_missed p seat v models old views r at k number new taken e).1;
      same = record { alive = refl; plan = refl; models = refl; numbers = refl };
      told = (
        (λ e. absurd (omega arith)),
        λ other e.
            (let same : number ≡ other = omega arith in
            let h = other_has p seat v models old views r at sessions other few idle e in
            (ap (met_busy v) same, h.0, h.1)),
      );
    }

pub leaves_log : (p : Layout) (seat : ℕ) (v : SeatView) → v.log.turn ≡ true
    → MayWrite p seat v LogTurn (λ _. 0) (Rests p) (λ k w. w ≡ under_log_turn v false)
leaves_log p seat v has models old views r at = record {
  view = under_log_turn v false;
  rule = λ new e. (log_left p seat v models old views r at new has e).0;
  event = λ new e. (log_left p seat v models old views r at new has e).1;
  same = record { alive = refl; plan = refl; models = refl; numbers = refl };
  told = refl;
}
