-- The seat that has the right takes the next number.
use Rattle.std.proofs.Common.{◌≡◌, ◌≢◌, ◌⊎◌, ℕ, zero, suc, ◌+◌, ◌<◌, ◌≤◌, true, Some, List, [], ◌∷◌, length, length-set, get_or, set, refl, sym, ◌∙◌, subst, ⊎_elim, inl, inr, arith}
use Rattle.std.proofs.lemmas.Bool.{cases_eq}
use Rattle.std.specs.List.{slice_get, Contains}
use Rattle.vox_read.specs.Contents.{Content}
use Rattle.node_words.specs.Plans.{Layout}
use Rattle.core_laws.specs.places.WordIds.{WordId, LogTurn, LogLength, Version, Sessions, IsWordId}
use Rattle.table_rule.specs.Reading.{Wrote}
use Rattle.table_rule.specs.Views.{SeatView, BucketAt, number_dec, known_at}
use Rattle.table_rule.specs.TurnRules.{IsOf, turn_of, IsTurnWord, KeepsTurns}
use Rattle.core_laws.specs.Events.{Rests}
use Rattle.history_model.specs.Logs.{Log}
use Rattle.table_rule.specs.LogKnowing.{IsPrefix, OwnsIn, WasFound, KnowsLog}
use Rattle.table_rule.specs.LogTurnRules.{IsOfLog, KeepsLogTurn}
use Rattle.retain.specs.Listing.{Found}
use Rattle.table_rule.specs.LogWords.{log_in}
use Rattle.table_rule.specs.Rules.{KeepsRule, KeepsLog, table_state}
use Rattle.table_rule.specs.Seating.{seat_numbered}
use Rattle.table_rule.proofs.Lookups.{each, get_set_same}
use Rattle.table_rule.proofs.LogKept.{log_word}
use Rattle.table_rule.proofs.LogReading.{LogStays, log_same, written_same}
use Rattle.table_rule.proofs.OwnLaws.{own_more, of_sessions}
use Rattle.table_rule.proofs.PartA.{of_not_sessions, unused_stay, carried_set, remarked}
use Rattle.table_rule.proofs.Containing.{contains_more}
use Rattle.table_rule.proofs.StateSteps.{quiet_log, log_roots, entries_same}

pub pick : {A : Type 0} → Dec A → ℕ → ℕ → ℕ
pick (yes e) a b = a
pick (no ne) a b = b

pub pick_yes : {A : Type 0} (d : Dec A) (a b : ℕ) → A → pick d a b ≡ a
unfolding pick
pick_yes (yes e) a b h = refl
pick_yes (no ne) a b h = absurd (ne h)

pub pick_no : {A : Type 0} (d : Dec A) (a b : ℕ) → (A → ⊥) → pick d a b ≡ b
unfolding pick
pick_no (yes e) a b h = absurd (h e)
pick_no (no ne) a b h = refl

contains_cons : (x : ℕ) (xs : List ℕ) (n : ℕ) → Contains (x ∷ xs) n → (x ≡ n) ⊎ Contains xs n
contains_cons x xs n c = go c.0 c.1 c.2
  where
    go : (k : ℕ) → k < length (x ∷ xs) → get_or (x ∷ xs) k n ≡ n → (x ≡ n) ⊎ Contains xs n
    go zero lt e = inl e
    go (suc k) lt e = inr (k, omega arith, e)

module _ (p : Layout) (old new : WordId → ℕ) (views : List SeatView) (a : KeepsTurns p old views)
    (seat : ℕ) (v : SeatView) (at : slice_get views seat ≡ Some v) (right : v.right ≡ true)
    (bare : v.numbers ≡ []) (room : v.next < 64)
    (wrote : Wrote old Sessions (1 + v.next) new) where
  abbrev w : SeatView
  w = seat_numbered v

  own : ℕ → ℕ
  own n = pick (number_dec n v.next) seat (a.owner n)

  was : old Sessions ≡ v.next
  was = (a.right seat v at right).1

  turns_stay : (b : BucketAt) → new (turn_of b) ≡ old (turn_of b)
  turns_stay b = wrote.others (turn_of b) (λ e. (let no : ⊥ = cc in no))

  older : (j : ℕ) (d : SeatView) (n : ℕ) → slice_get views j ≡ Some d → Contains d.numbers n
      → (n < new Sessions) × (own n ≡ j)
  unfolding own
  older j d n e c =
      let o = a.owned j d e n c in let low = o.0 in let s = was in let h = wrote.here in
      (omega arith, pick_no (number_dec n v.next) seat (a.owner n) (λ e. omega arith) ∙ o.1)

  mine : (n : ℕ) → Contains w.numbers n → (n < new Sessions) × (own n ≡ seat)
  unfolding own
  mine n c =
      ⊎_elim (λ (e : v.next ≡ n). (
        let h = wrote.here in
            omega arith,
        pick_yes (number_dec n v.next) seat (a.owner n) (sym e),
      ))
      (λ o. older seat v n at o) (contains_cons v.next v.numbers n c)

  number_turns : KeepsTurns p new (set views seat w)
  number_turns = record {
    owner = own;
    keeper = a.keeper;
    few = (let h = wrote.here in omega arith);
    seats = (let l = length-set views seat w in let s = a.seats in let o = was in
        let h = wrote.here in omega arith);
    fresh = each
        (λ i d. d.right ≡ true → d.numbers ≢ []
        → length (set views seat w) ≤ new Sessions) views seat w
        (λ r ne.
        (let l = length-set views seat w in let s = a.seats in let o = was in
        let h = wrote.here in omega arith))
        (λ j d ne e r x.
        (let l = length-set views seat w in let s = a.seats in let o = was in
        let h = wrote.here in omega arith));
    owned = each
        (λ i d. (n : ℕ) → Contains d.numbers n → (n < new Sessions)
        × (own n ≡ i)) views seat w mine (λ j d _ e n c. older j d n e c);
    carried = λ n lt. elim (cases_eq n v.next) [
      | inl next ↦ record {
        seat = seat;
        view = w;
        there = get_set_same views seat w v at;
        has = (0, omega arith, sym next);
      }
      | inr other ↦
          carried_set views seat v w n at (λ h. contains_more v.next v.numbers n h)
          (a.carried n (let o = was in let h = wrote.here in omega arith))
    ];
    right = each (λ i d. d.right ≡ true → (a.keeper ≡ i) × (new Sessions ≡ d.next)) views seat w
        (λ r. ((a.right seat v at right).0, wrote.here))
        (λ j d ne e r. absurd (ne (sym (a.right j d e r).0 ∙ (a.right seat v at right).0)));
    turn = each
        (λ i d. (b : BucketAt) → d.turn ≡ Some b → IsWordId p (turn_of b)
        × IsTurnWord d (new (turn_of b))) views seat w
        (λ b h. let t = a.turn seat v at b h in absurd (no_mark (old (turn_of b)) t.1))
        (λ j d _ e b h. let t = a.turn j d e b h in (
          t.0,
          record {
            number = t.1.number;
            carried = t.1.carried;
            is = turns_stay b ∙ t.1.is;
          },
        ));
    back = each
        (λ i d. (b : BucketAt) → IsWordId p (turn_of b) → IsTurnWord d (new (turn_of b))
        → d.turn ≡ Some b) views seat w
        (λ b low m. absurd (not_next b low m))
        (λ j d _ e b low m. a.back j d e b low
        (record { number = m.number; carried = m.carried; is = sym (turns_stay b) ∙ m.is }));
    named = λ b low.
        (let n = a.named b low in let e = turns_stay b in let o = was in let h = wrote.here in
        omega arith);
    known = each
        (λ i d. (b : BucketAt) (x : WordId) (n : ℕ) → d.turn ≡ Some b → IsOf b x
        → known_at x d.words ≡ Some n → new x ≡ n) views seat w
        (λ b x n h of l. wrote.others x (λ e. of_not_sessions b x of (sym e))
        ∙ a.known seat v at b x n h of l)
        (λ j d _ e b x n h of l. wrote.others x (λ e. of_not_sessions b x of (sym e))
        ∙ a.known j d e b x n h of l);
    unused = unused_stay old new
        (λ b x of. wrote.others x (λ e. of_not_sessions b x of (sym e))) a.unused;
  }
    where
      no_mark : (word : ℕ) → IsTurnWord v word → ⊥
      no_mark word m =
          (let c = subst (λ (l : List ℕ). Contains l m.number) bare m.carried in let k = c.1 in
          absurd (omega arith))

      not_next : (b : BucketAt) → IsWordId p (turn_of b) → IsTurnWord w (new (turn_of b)) → ⊥
      not_next b low m = ⊎_elim
          (λ (e : v.next ≡ m.number).
          (let i = m.is in let t = turns_stay b in let n = a.named b low in let o = was in
          absurd (omega arith)))
          (λ o. no_mark (old (turn_of b))
          (record { number = m.number; carried = o; is = sym (turns_stay b) ∙ m.is }))
          (contains_cons v.next v.numbers m.number m.carried)

-- the new number is none that the log knows
module _ (p : Layout) (old new : WordId → ℕ) (views : List SeatView) (a : KeepsTurns p old views)
    (seat : ℕ) (v : SeatView) (at : slice_get views seat ≡ Some v) (right : v.right ≡ true)
    (bare : v.numbers ≡ []) (wrote : Wrote old Sessions (1 + v.next) new)
    (stays : LogStays old new) (k : KeepsLog p old views) where
  abbrev after : SeatView
  after = seat_numbered v

  made_was : old Sessions ≡ v.next
  made_was = (a.right seat v at right).1

  no_number : (word : ℕ) → IsTurnWord v word → ⊥
  no_number word m =
      (let c = subst (λ (l : List ℕ). Contains l m.number) bare m.carried in let k = c.1 in
      absurd (omega arith))

  not_marked : IsTurnWord after (new LogTurn) → ⊥
  not_marked m = ⊎_elim
      (λ (e : v.next ≡ m.number).
      (let i = m.is in let t = stays.turn in let n = k.turn.named in let o = made_was in
      absurd (omega arith)))
      (λ o. no_number (old LogTurn)
      (record { number = m.number; carried = o; is = sym stays.turn ∙ m.is }))
      (contains_cons v.next v.numbers m.number m.carried)

  number_log_turn : KeepsLogTurn new (set views seat after)
  number_log_turn = record {
    turn = each (λ i d. d.log.turn ≡ true → IsTurnWord d (new LogTurn)) views seat after
        (λ h. absurd (no_number (old LogTurn) (k.turn.turn seat v at h)))
        (λ j d _ e h. remarked d d _ _ refl stays.turn (k.turn.turn j d e h));
    back = each (λ i d. IsTurnWord d (new LogTurn) → d.log.turn ≡ true) views seat after
        (λ m. absurd (not_marked m))
        (λ j d _ e m. k.turn.back j d e (remarked d d _ _ refl (sym stays.turn) m));
    named = (let n = k.turn.named in let t = stays.turn in let o = made_was in
        let h = wrote.here in omega arith);
    known = each
        (λ i d. (x : WordId) (n : ℕ) → d.log.turn ≡ true → IsOfLog x
        → known_at x d.log.words ≡ Some n → new x ≡ n) views seat after
        (λ x n h of l. log_word old new x stays of ∙ k.turn.known seat v at x n h of l)
        (λ j d _ e x n h of l. log_word old new x stays of ∙ k.turn.known j d e x n h of l);
  }

  number_knows : (log : Log) → KnowsLog v.next log views
      → KnowsLog (1 + v.next) log (set views seat after)
  number_knows log o = record {
    sessions = record {
      records = λ i d lt. (let x = o.sessions.records i d lt in omega arith);
      marks = λ i d lt. (let x = o.sessions.marks i d lt in omega arith);
    };
    seen = each (λ i d. IsPrefix d.log.seen log) views seat after (o.seen seat v at)
        (λ j d _ e. o.seen j d e);
    taken = each (λ i d. (l : Log) → Contains d.log.taken l → IsPrefix l log) views seat after
        (o.taken seat v at) (λ j d _ e. o.taken j d e);
    own = each (λ i d. OwnsIn log d) views seat after
        (own_more v.next v.next log v.numbers v.log.records v.log.marks o.sessions (omega arith)
        (o.own seat v at)) (λ j d _ e. o.own j d e);
    own_seen = each (λ i d. d.log.taken ≡ [] → OwnsIn d.log.seen d) views seat after
        (λ none. own_more v.next v.next v.log.seen v.numbers v.log.records v.log.marks
        (of_sessions v.next v.log.seen log (o.seen seat v at) o.sessions) (omega arith)
        (o.own_seen seat v at none)) (λ j d _ e. o.own_seen j d e);
    found = each (λ i d. (f : Found) → Contains d.log.found f → WasFound log f) views seat after
        (o.found seat v at) (λ j d _ e. o.found j d e);
  }

  number_log : KeepsLog p new (set views seat after)
  number_log = record {
    turn = number_log_turn;
    written = written_same old new stays k.written;
    knows =
        subst (λ (x : ℕ × Log). KnowsLog x.0 x.1 (set views seat after))
        (λ i. (sym wrote.here i, sym (log_same p old new stays) i))
        (number_knows (log_in p old)
        (subst (λ (n : ℕ). KnowsLog n (log_in p old) views) made_was k.knows));
  }

-- the rule after the next number was taken
pub numbers_itself : (p : Layout) (models : List Content) (old new : WordId → ℕ)
    (views : List SeatView) (seat : ℕ) (v : SeatView) → KeepsRule p models old views
    → slice_get views seat ≡ Some v → v.right ≡ true → v.numbers ≡ [] → v.next < 64
    → Wrote old Sessions (1 + v.next) new
    → KeepsRule p models new (set views seat (seat_numbered v))
    × Rests p (table_state p old views) (table_state p new (set views seat (seat_numbered v)))
numbers_itself p models old new views seat v r at right bare room wrote =
    let w : SeatView = seat_numbered v in
    let stays : LogStays old new = record {
      turn = wrote.others LogTurn (λ e. (let no : ⊥ = cc in no));
      length = wrote.others LogLength (λ e. (let no : ⊥ = cc in no));
      version = λ u i. wrote.others (Version u i) (λ e. (let no : ⊥ = cc in no));
    } in
    quiet_log p models old new views seat v w r at
    (entries_same p models old new views seat v w r at Sessions (1 + v.next) wrote
    (λ m e. (let no : ⊥ = cc in no)) (λ m i e. (let no : ⊥ = cc in no)))
    (log_roots p old new views (set views seat w) stays) (log_same p old new stays)
    (number_log p old new views r.turns seat v at right bare wrote stays r.log)
    (number_turns p old new views r.turns seat v at right bare room wrote)
    refl refl refl refl refl (λ m h. inl h)
