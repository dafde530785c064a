-- A seat takes in what another one, that holds nothing and has no turn, has.
use Rattle.std.proofs.Common.{◌≡◌, ◌≢◌, ℕ, zero, suc, ◌<◌, ◌≤◌, true, false, Some, None, List, [], ◌∷◌, ◌++◌, length, set, refl, sym, ap, ◌∙◌, subst, ⊎_elim, inl, inr, length-set, arith}
use Rattle.std.specs.Prelude.{map}
use Rattle.std.specs.List.{slice_get, Contains}
use Rattle.std.specs.Option.{option_map}
use Rattle.std.proofs.lemmas.Bool.{cases_eq}
use Rattle.std.proofs.lemmas.List.{map-set}
use Rattle.std.proofs.lemmas.Option.{same_Some, none-some, slice_get-map}
use Rattle.vox_read.specs.Contents.{Content}
use Rattle.node_words.specs.declared.shapes.names.Name.{Name}
use Rattle.node_words.specs.shapes.Shape.{Shape}
use Rattle.node_words.specs.shapes.Tree.{Tree}
use Rattle.node_words.specs.shapes.Weights.{number_of_trees}
use Rattle.node_words.proofs.OfShapes.WeightLaws.{weigh-nil}
use Rattle.node_words.specs.Plans.{Layout}
use Rattle.node_words.specs.Held.{IsHeld, Wanted}
use Rattle.core_laws.specs.places.WordIds.{WordId, Sessions, LogTurn, IsWordId}
use Rattle.core_laws.specs.LiveTrees.{IsLiveTree}
use Rattle.core_laws.specs.Counting.{holdings}
use Rattle.node_words.specs.Enough.{HasEnough, enough_stays}
use Rattle.core_laws.specs.LogEvents.{Reseats}
use Rattle.core_laws.proofs.StepLaws.{reseats_sound}
use Rattle.table_rule.specs.Reading.{names_of}
use Rattle.table_rule.specs.Views.{SeatView, BucketAt, names_held, known_at, number_dec, spent}
use Rattle.table_rule.specs.TurnRules.{IsOf, turn_of, IsTurnWord, IsCarried, KeepsTurns}
use Rattle.table_rule.specs.Knowing.{all_made, Knows}
use Rattle.history_model.specs.Logs.{Log}
use Rattle.table_rule.specs.LogKnowing.{IsPrefix, OwnsIn, WasFound, KnowsLog}
use Rattle.table_rule.specs.LogTurnRules.{IsOfLog, KeepsLogTurn}
use Rattle.table_rule.specs.LogViews.{no_log}
use Rattle.retain.specs.Listing.{Found}
use Rattle.table_rule.specs.LogWords.{log_in}
use Rattle.table_rule.specs.Rules.{KeepsRule, table_state}
use Rattle.table_rule.proofs.Containing.{contains_left, contains_right, contains_parts}
use Rattle.table_rule.proofs.Lookups.{each, set_again, get_set_same, get_set_kept}
use Rattle.table_rule.proofs.OwnLaws.{own_nothing, own_both, nothing_begins, first_or_more}
use Rattle.table_rule.specs.Seating.{joined}
use Rattle.table_rule.proofs.NumberSteps.{pick, pick_yes, pick_no}

-- the view that made a shape
record MadeBy (views : List SeatView) (s : Shape) : Type 0 where
  pub seat : ℕ
  pub view : SeatView
  pub there : slice_get views seat ≡ Some view
  pub has : Contains view.made s

made_by : (views : List SeatView) (s : Shape) → Contains (all_made views) s → MadeBy views s
made_by [] s c = absurd (let k = c.1 in omega arith)
made_by (v ∷ views) s c = ⊎_elim
    (λ l. record { seat = 0; view = v; there = refl; has = l })
    (λ r. (let m = made_by views s r in
    record { seat = suc m.seat; view = m.view; there = m.there; has = m.has }))
    (contains_parts v.made (all_made views) s c)

made_there : (views : List SeatView) (j : ℕ) (d : SeatView) (s : Shape)
    → slice_get views j ≡ Some d → Contains d.made s → Contains (all_made views) s
made_there [] j d s e c = absurd (none-some d e)
made_there (v ∷ views) zero d s e c =
    contains_left v.made (all_made views) s
    (subst (λ (u : SeatView). Contains u.made s) (sym (same_Some v d e)) c)
made_there (v ∷ views) (suc j) d s e c =
    contains_right v.made (all_made views) s (made_there views j d s e c)

module _ (p : Layout) (models : List Content) (mem : WordId → ℕ) (views : List SeatView)
    (seat other : ℕ) (v w : SeatView) (r : KeepsRule p models mem views)
    (at : slice_get views seat ≡ Some v) (at_other : slice_get views other ≡ Some w)
    (apart : other ≢ seat) (bare : w.held ≡ []) (idle : w.turn ≡ None)
    (calm : w.log.turn ≡ false) where
  abbrev both : SeatView
  both = joined v w

  abbrev mid : List SeatView
  mid = set views seat both

  abbrev all : List SeatView
  all = set mid other spent

  -- what holds of the joined view, of the spent one and of each other one holds of each
  everyone : (P : ℕ → SeatView → Type 0) → P seat both → P other spent
      → ((j : ℕ) (d : SeatView) → j ≢ seat → j ≢ other → slice_get views j ≡ Some d → P j d)
      → (j : ℕ) (d : SeatView) → slice_get all j ≡ Some d → P j d
  everyone P mine gone others j d e =
      each P mid other spent gone
      (λ i x ne f. each (λ k y. k ≢ other → P k y) views seat both (λ _. mine)
      (λ k y of_seat g of_other. others k y of_seat of_other g) i x f ne) j d e

  both_there : slice_get all seat ≡ Some both
  both_there =
      get_set_kept mid other seat spent both (λ e. apart (sym e))
      (get_set_same views seat both v at)

  other_there : (j : ℕ) (d : SeatView) → j ≢ seat → j ≢ other → slice_get views j ≡ Some d
      → slice_get all j ≡ Some d
  other_there j d of_seat of_other e =
      get_set_kept mid other j spent d of_other (get_set_kept views seat j both d of_seat e)

  own : ℕ → ℕ
  own n = pick (number_dec (r.turns.owner n) other) seat (r.turns.owner n)

  of_mine : (n : ℕ) → r.turns.owner n ≡ seat → own n ≡ seat
  unfolding own
  of_mine n e =
      pick_no (number_dec (r.turns.owner n) other) seat (r.turns.owner n)
      (λ same. apart (sym same ∙ e)) ∙ e

  of_theirs : (n : ℕ) → r.turns.owner n ≡ other → own n ≡ seat
  unfolding own
  of_theirs n e = pick_yes (number_dec (r.turns.owner n) other) seat (r.turns.owner n) e

  of_else : (n j : ℕ) → j ≢ other → r.turns.owner n ≡ j → own n ≡ j
  unfolding own
  of_else n j ne e =
      pick_no (number_dec (r.turns.owner n) other) seat (r.turns.owner n)
      (λ same. ne (sym e ∙ same)) ∙ e

  no_number : (n : ℕ) (A : Type 0) → Contains {X = ℕ} [] n → A
  no_number n A c = absurd (let k = c.1 in omega arith)

  carried : (n : ℕ) → n < mem Sessions → IsCarried all n
  carried n lt = let c = r.turns.carried n lt in elim (cases_eq c.seat seat) [
    | inl same ↦ record {
      seat = seat;
      view = both;
      there = both_there;
      has = contains_right w.numbers v.numbers n
          (subst (λ (u : SeatView). Contains u.numbers n) (same_Some c.view v
          (sym c.there ∙ ap (slice_get views) same ∙ at)) c.has);
    }
    | inr of_seat ↦ elim (cases_eq c.seat other) [
      | inl same ↦ record {
        seat = seat;
        view = both;
        there = both_there;
        has = contains_left w.numbers v.numbers n
            (subst (λ (u : SeatView). Contains u.numbers n) (same_Some c.view w
            (sym c.there ∙ ap (slice_get views) same ∙ at_other)) c.has);
      }
      | inr of_other ↦ record {
        seat = c.seat;
        view = c.view;
        there = other_there c.seat c.view of_seat of_other c.there;
        has = c.has;
      }
    ]
  ]

  no_right : (A : Type 0) → false ≡ true → A
  no_right A h = absurd (let no : ⊥ = cc in no)

  long : length all ≡ length views
  long = length-set mid other spent ∙ length-set views seat both

  join_turns : KeepsTurns p mem all
  join_turns = record {
    owner = own;
    keeper = r.turns.keeper;
    few = r.turns.few;
    seats = (let f = r.turns.seats in let l = long in omega arith);
    fresh = everyone (λ i d. d.right ≡ true → d.numbers ≢ [] → length all ≤ mem Sessions)
        (λ h ne. no_right _ h) (λ h ne. absurd (ne refl))
        (λ j d _ _ e h ne. (let f = r.turns.fresh j d e h ne in let l = long in omega arith));
    owned = everyone
        (λ i d. (n : ℕ) → Contains d.numbers n → (n < mem Sessions) × (own n ≡ i))
        (λ n c. ⊎_elim
        (λ l. (let o = r.turns.owned other w at_other n l in (o.0, of_theirs n o.1)))
        (λ m. (let o = r.turns.owned seat v at n m in (o.0, of_mine n o.1)))
        (contains_parts w.numbers v.numbers n c))
        (λ n c. no_number n _ c)
        (λ j d _ of_other e n c. (let o = r.turns.owned j d e n c in
        (o.0, of_else n j of_other o.1)));
    carried = carried;
    right = everyone (λ i d. d.right ≡ true → (r.turns.keeper ≡ i) × (mem Sessions ≡ d.next))
        (λ h. no_right _ h) (λ h. absurd (let no : ⊥ = cc in no))
        (λ j d _ _ e h. r.turns.right j d e h);
    turn = everyone
        (λ i d. (b : BucketAt) → d.turn ≡ Some b → IsWordId p (turn_of b)
        × IsTurnWord d (mem (turn_of b)))
        (λ b h. (let t = r.turns.turn seat v at b h in (
          t.0,
          record {
            number = t.1.number;
            carried = contains_right w.numbers v.numbers t.1.number t.1.carried;
            is = t.1.is;
          },
        )))
        (λ b h. absurd (none-some b h)) (λ j d _ _ e. r.turns.turn j d e);
    back = everyone
        (λ i d. (b : BucketAt) → IsWordId p (turn_of b) → IsTurnWord d (mem (turn_of b))
        → d.turn ≡ Some b)
        (λ b low m. ⊎_elim
        (λ l. absurd (none-some b (sym idle ∙ r.turns.back other w at_other b low
        (record { number = m.number; carried = l; is = m.is }))))
        (λ n. r.turns.back seat v at b low
        (record { number = m.number; carried = n; is = m.is }))
        (contains_parts w.numbers v.numbers m.number m.carried))
        (λ b low m. no_number m.number _ m.carried) (λ j d _ _ e. r.turns.back j d e);
    named = r.turns.named;
    known = everyone
        (λ i d. (b : BucketAt) (x : WordId) (n : ℕ) → d.turn ≡ Some b → IsOf b x
        → known_at x d.words ≡ Some n → mem x ≡ n) (r.turns.known seat v at)
        (λ b x n h of l. absurd (none-some b h)) (λ j d _ _ e. r.turns.known j d e);
    unused = r.turns.unused;
  }

  held_same : map names_held all ≡ map names_held views
  held_same =
      map-set names_held mid other spent
      ∙ ap (λ (l : List (List Name)). set l other (names_held spent))
      (map-set names_held views seat both
      ∙ set_again (map names_held views) seat (names_held both)
      (slice_get-map names_held views seat ∙ ap (option_map names_held) at))
      ∙ set_again (map names_held views) other (names_held spent)
      (slice_get-map names_held views other ∙ ap (option_map names_held) at_other
      ∙ ap (λ (ts : List Tree). Some (names_of ts)) bare)

  grows : (s : Shape) → Contains (all_made views) s → Contains (all_made all) s
  grows s c = let m = made_by views s c in elim (cases_eq m.seat seat) [
    | inl same ↦
        made_there all seat both s both_there
        (contains_right w.made v.made s
        (subst (λ (u : SeatView). Contains u.made s) (same_Some m.view v
        (sym m.there ∙ ap (slice_get views) same ∙ at)) m.has))
    | inr of_seat ↦ elim (cases_eq m.seat other) [
      | inl same ↦
          made_there all seat both s both_there
          (contains_left w.made v.made s
          (subst (λ (u : SeatView). Contains u.made s) (same_Some m.view w
          (sym m.there ∙ ap (slice_get views) same ∙ at_other)) m.has))
      | inr of_other ↦
          made_there all m.seat m.view s
          (other_there m.seat m.view of_seat of_other m.there) m.has
    ]
  ]

  stands : (t : Tree) → IsLiveTree p (table_state p mem views) t → IsLiveTree p (table_state p mem all) t
  stands t s = record {
    name = s.name;
    live = record { name = s.live.name; book = s.live.book };
    tree = s.tree;
  }

  join_knows : Knows p models (table_state p mem all) all
  join_knows = record {
    plan = everyone (λ i d. d.alive ≡ true → d.plan ≡ p) (r.knows.plan seat v at)
        (λ h. absurd (let no : ⊥ = cc in no)) (λ j d _ _ e. r.knows.plan j d e);
    same_models = everyone (λ i d. d.alive ≡ true → d.models ≡ models)
        (r.knows.same_models seat v at) (λ h. absurd (let no : ⊥ = cc in no))
        (λ j d _ _ e. r.knows.same_models j d e);
    held = everyone (λ i d. (t : Tree) → IsHeld d.held t → IsLiveTree p (table_state p mem all) t)
        (λ t h. stands t (r.knows.held seat v at t h))
        (λ t h. absurd (let e = h.weighs (λ _. 1) in let n = weigh-nil (λ _. 1) in omega arith))
        (λ j d _ _ e t h. stands t (r.knows.held j d e t h));
    few = everyone (λ i d. number_of_trees d.held ≤ 4096) (r.knows.few seat v at)
        (let n = weigh-nil (λ _. 1) in omega arith) (λ j d _ _ e. r.knows.few j d e);
    made = λ n live. grows _ (r.knows.made n (record { name = live.name; book = live.book }));
    met = everyone
        (λ i d. (m : Wanted) → Contains d.met m → HasEnough p (all_made all) m.level m.bucket)
        (λ m c. enough_stays p _ _ m.level m.bucket grows (⊎_elim
        (λ l. r.knows.met other w at_other m l) (λ n. r.knows.met seat v at m n)
        (contains_parts w.met v.met m c)))
        (λ m c. absurd (let k = c.1 in omega arith))
        (λ j d _ _ e m h. enough_stays p _ _ m.level m.bucket grows (r.knows.met j d e m h));
  }

  -- no number is carried by both
  two_seats : (s : ℕ) → Contains w.numbers s → Contains v.numbers s → ⊥
  two_seats s theirs mine =
      apart (sym (r.turns.owned other w at_other s theirs).1 ∙ (r.turns.owned seat v at s mine).1)

  join_log_turn : KeepsLogTurn mem all
  join_log_turn = record {
    turn = everyone (λ i d. d.log.turn ≡ true → IsTurnWord d (mem LogTurn))
        (λ h. (let t = r.log.turn.turn seat v at h in
        record {
          number = t.number;
          carried = contains_right w.numbers v.numbers t.number t.carried;
          is = t.is;
        }))
        (λ h. absurd (let no : ⊥ = cc in no)) (λ j d _ _ e. r.log.turn.turn j d e);
    back = everyone (λ i d. IsTurnWord d (mem LogTurn) → d.log.turn ≡ true)
        (λ m. ⊎_elim
        (λ l. no_right _ (sym calm ∙ r.log.turn.back other w at_other
        (record { number = m.number; carried = l; is = m.is })))
        (λ n. r.log.turn.back seat v at
        (record { number = m.number; carried = n; is = m.is }))
        (contains_parts w.numbers v.numbers m.number m.carried))
        (λ m. no_number m.number _ m.carried) (λ j d _ _ e. r.log.turn.back j d e);
    named = r.log.turn.named;
    known = everyone
        (λ i d. (x : WordId) (n : ℕ) → d.log.turn ≡ true → IsOfLog x
        → known_at x d.log.words ≡ Some n → mem x ≡ n) (r.log.turn.known seat v at)
        (λ x n h. absurd (let no : ⊥ = cc in no)) (λ j d _ _ e. r.log.turn.known j d e);
  }

  join_knows_log : KnowsLog (mem Sessions) (log_in p mem) all
  join_knows_log = record {
    sessions = r.log.knows.sessions;
    seen = everyone (λ i d. IsPrefix d.log.seen (log_in p mem)) (r.log.knows.seen seat v at)
        (nothing_begins 0 (log_in p mem)) (λ j d _ _ e. r.log.knows.seen j d e);
    taken = everyone (λ i d. (l : Log) → Contains d.log.taken l → IsPrefix l (log_in p mem))
        (λ l c. first_or_more w.log.seen (w.log.taken ++ v.log.taken) l c
        (λ e. subst (λ (x : Log). IsPrefix x (log_in p mem)) e
        (r.log.knows.seen other w at_other))
        (λ more. ⊎_elim (r.log.knows.taken other w at_other l) (r.log.knows.taken seat v at l)
        (contains_parts w.log.taken v.log.taken l more)))
        (λ l c. absurd (let k = c.1 in omega arith)) (λ j d _ _ e. r.log.knows.taken j d e);
    own = everyone (λ i d. OwnsIn (log_in p mem) d)
        (own_both (log_in p mem) w.numbers v.numbers w.log.records v.log.records w.log.marks
        v.log.marks two_seats (r.log.knows.own other w at_other) (r.log.knows.own seat v at))
        (own_nothing (log_in p mem)) (λ j d _ _ e. r.log.knows.own j d e);
    own_seen = everyone (λ i d. d.log.taken ≡ [] → OwnsIn d.log.seen d)
        (λ none. absurd (let no : ⊥ = cc in no)) (λ none. own_nothing (no_log 0))
        (λ j d _ _ e. r.log.knows.own_seen j d e);
    found = everyone (λ i d. (f : Found) → Contains d.log.found f → WasFound (log_in p mem) f)
        (λ f c. ⊎_elim (r.log.knows.found other w at_other f) (r.log.knows.found seat v at f)
        (contains_parts w.log.found v.log.found f c))
        (λ f c. absurd (let k = c.1 in omega arith)) (λ j d _ _ e. r.log.knows.found j d e);
  }

  pub joined_event : Reseats p (table_state p mem views) (table_state p mem all)
  joined_event = record {
    entries = record { book = λ m is. refl; key = λ m live. refl };
    roots = λ u. refl;
    log = refl;
    held = λ f. ap (λ ns. holdings f ns) held_same;
  }

  pub joins : KeepsRule p models mem all
  joins = record {
    plan = r.plan;
    turns = join_turns;
    sound =
        reseats_sound p models (table_state p mem views)
        (table_state p mem all) r.sound joined_event;
    knows = join_knows;
    log = record {
      turn = join_log_turn;
      written = r.log.written;
      knows = join_knows_log;
    };
  }
