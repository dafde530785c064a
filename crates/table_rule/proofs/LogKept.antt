-- The rule of the log after a step that leaves its words and what the seat knows of it.
use Rattle.std.proofs.Common.{◌≡◌, ℕ, true, Some, List, [], set, refl, sym, ap, ◌∙◌, subst, arith}
use Rattle.std.specs.List.{slice_get, Contains}
use Rattle.node_words.specs.Plans.{Layout}
use Rattle.core_laws.specs.places.WordIds.{WordId, Sessions, LogTurn, LogLength, Version}
use Rattle.retain.specs.Logs.{Log}
use Rattle.table_rule.specs.LogKnowing.{IsPrefix, ListsOwn, OwnsIn, WasFound, KnowsLog}
use Rattle.table_rule.specs.LogTurnRules.{IsOfLog, KeepsLogTurn}
use Rattle.table_rule.specs.LogViews.{LogView}
use Rattle.retain.specs.Listing.{Found}
use Rattle.table_rule.specs.LogWords.{log_in}
use Rattle.table_rule.specs.Rules.{KeepsLog}
use Rattle.table_rule.specs.TurnRules.{IsTurnWord}
use Rattle.table_rule.specs.Views.{SeatView, known_at}
use Rattle.table_rule.proofs.Lookups.{each}
use Rattle.table_rule.proofs.LogReading.{LogStays, log_same, written_same}
use Rattle.table_rule.proofs.PartA.{remarked}

-- the seat keeps its numbers and what it knows of the log
pub record SameLog (v w : SeatView) : Type 0 where
  pub numbers : w.numbers ≡ v.numbers
  pub log : w.log ≡ v.log

pub same_log : (v w : SeatView) → w.numbers ≡ v.numbers → w.log ≡ v.log → SameLog v w
same_log v w numbers log = record { numbers = numbers; log = log }

-- a word of the log is as before
pub log_word : (old new : WordId → ℕ) (x : WordId) → LogStays old new → IsOfLog x → new x ≡ old x
log_word old new LogLength l of = l.length
log_word old new (Version v i) l of = l.version v i
log_word old new _ l of = absurd of

module _ (p : Layout) (old new : WordId → ℕ) (views : List SeatView) (seat : ℕ) (v w : SeatView)
    (at : slice_get views seat ≡ Some v) (stays : LogStays old new)
    (sessions : new Sessions ≡ old Sessions) (same : SameLog v w) where
  -- what holds of the seat's view of the log holds of it still
  kept : (P : List ℕ → LogView → Type 0) → P v.numbers v.log → P w.numbers w.log
  kept P h =
      subst (λ (x : List ℕ × LogView). P x.0 x.1) (λ i. (sym same.numbers i, sym same.log i)) h

  turn_kept : KeepsLogTurn old views → KeepsLogTurn new (set views seat w)
  turn_kept a = record {
    turn = each (λ i d. d.log.turn ≡ true → IsTurnWord d (new LogTurn)) views seat w
        (λ h. remarked v w _ _ same.numbers stays.turn
        (a.turn seat v at (ap (λ (l : LogView). l.turn) (sym same.log) ∙ h)))
        (λ j d _ e h. remarked d d _ _ refl stays.turn (a.turn j d e h));
    back = each (λ i d. IsTurnWord d (new LogTurn) → d.log.turn ≡ true) views seat w
        (λ m. ap (λ (l : LogView). l.turn) same.log
        ∙ a.back seat v at (remarked w v _ _ (sym same.numbers) (sym stays.turn) m))
        (λ j d _ e m. a.back j d e (remarked d d _ _ refl (sym stays.turn) m));
    named = (let n = a.named in let t = stays.turn in let s = sessions in omega arith);
    known = each
        (λ i d. (x : WordId) (n : ℕ) → d.log.turn ≡ true → IsOfLog x
        → known_at x d.log.words ≡ Some n → new x ≡ n) views seat w
        (λ x n h of l. log_word old new x stays of
        ∙ a.known seat v at x n (ap (λ (u : LogView). u.turn) (sym same.log) ∙ h) of
        (ap (λ (u : LogView). known_at x u.words) (sym same.log) ∙ l))
        (λ j d _ e x n h of l. log_word old new x stays of ∙ a.known j d e x n h of l);
  }

  module _ (made : ℕ) (log : Log) (k : KnowsLog made log views) where
    pub knows_kept : KnowsLog made log (set views seat w)
    knows_kept = record {
      sessions = k.sessions;
      seen = each (λ i d. IsPrefix d.log.seen log) views seat w
          (kept (λ n l. IsPrefix l.seen log) (k.seen seat v at)) (λ j d _ e. k.seen j d e);
      taken = each (λ i d. (l : Log) → Contains d.log.taken l → IsPrefix l log) views seat w
          (kept (λ n u. (l : Log) → Contains u.taken l → IsPrefix l log) (k.taken seat v at))
          (λ j d _ e. k.taken j d e);
      own = each (λ i d. OwnsIn log d) views seat w
          (kept (λ n l. ListsOwn log n l.records l.marks) (k.own seat v at))
          (λ j d _ e. k.own j d e);
      own_seen = each (λ i d. d.log.taken ≡ [] → OwnsIn d.log.seen d) views seat w
          (kept (λ n l. l.taken ≡ [] → ListsOwn l.seen n l.records l.marks)
          (k.own_seen seat v at))
          (λ j d _ e. k.own_seen j d e);
      found = each (λ i d. (f : Found) → Contains d.log.found f → WasFound log f) views seat w
          (kept (λ n l. (f : Found) → Contains l.found f → WasFound log f) (k.found seat v at))
          (λ j d _ e. k.found j d e);
    }

  -- no step but those on the log changes what the rule says of it
  pub log_kept : KeepsLog p old views → KeepsLog p new (set views seat w)
  log_kept k = record {
    turn = turn_kept k.turn;
    written = written_same old new stays k.written;
    knows =
        subst (λ (x : ℕ × Log). KnowsLog x.0 x.1 (set views seat w))
        (λ i. (sym sessions i, sym (log_same p old new stays) i))
        (knows_kept (old Sessions) (log_in p old) k.knows);
  }
