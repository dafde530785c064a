-- A view hands the right to a new one.
use Rattle.std.proofs.Common.{◌≡◌, ◌≢◌, ◌⊎◌, ℕ, zero, suc, ◌+◌, ◌<◌, ◌≤◌, true, Some, List, [], ◌∷◌, ◌++◌, length, length-set, set, refl, sym, ap, ◌∙◌, subst, ⊎_elim, inl, inr, arith, sum_by}
use Rattle.std.specs.Prelude.{map}
use Rattle.std.specs.Option.{option_map}
use Rattle.std.specs.List.{slice_get, Contains}
use Rattle.std.proofs.lemmas.List.{map-set, length-append}
use Rattle.std.proofs.lemmas.List.Sums.{sum_by-cons}
use Rattle.std.proofs.lemmas.Option.{slice_get-map, same_Some, none-some}
use Rattle.vox_read.specs.Contents.{Content}
use Rattle.node_words.specs.declared.shapes.names.Name.{Name}
use Rattle.node_words.specs.shapes.Shape.{Shape}
use Rattle.node_words.specs.shapes.Tree.{Tree}
use Rattle.node_words.specs.shapes.Weights.{number_of_trees}
use Rattle.node_words.proofs.OfShapes.WeightLaws.{weigh-nil}
use Rattle.node_words.specs.Plans.{Layout}
use Rattle.node_words.specs.Held.{IsHeld, Wanted}
use Rattle.core_laws.specs.places.WordIds.{WordId, Sessions, LogTurn, IsWordId}
use Rattle.core_laws.specs.Counting.{holdings}
use Rattle.node_words.specs.Enough.{HasEnough, enough_stays}
use Rattle.core_laws.specs.LogEvents.{Reseats}
use Rattle.core_laws.proofs.StepLaws.{reseats_sound}
use Rattle.table_rule.specs.Reading.{names_of}
use Rattle.table_rule.specs.Views.{SeatView, BucketAt, names_held, known_at}
use Rattle.table_rule.specs.TurnRules.{IsOf, turn_of, IsTurnWord, KeepsTurns, IsCarried}
use Rattle.table_rule.specs.Knowing.{all_made, Knows}
use Rattle.core_laws.specs.LiveTrees.{IsLiveTree}
use Rattle.history_model.specs.Logs.{Log}
use Rattle.table_rule.specs.LogKnowing.{IsPrefix, OwnsIn, WasFound}
use Rattle.table_rule.specs.LogTurnRules.{IsOfLog}
use Rattle.table_rule.specs.LogViews.{no_log}
use Rattle.retain.specs.Listing.{Found}
use Rattle.table_rule.specs.LogWords.{log_in}
use Rattle.table_rule.specs.Rules.{KeepsRule, KeepsLog, table_state}
use Rattle.table_rule.specs.Seating.{handing, handed}
use Rattle.table_rule.proofs.Lookups.{each, set_again}
use Rattle.table_rule.proofs.Containing.{contains_left, contains_right, contains_parts}
use Rattle.table_rule.proofs.OwnLaws.{own_nothing, nothing_begins}
use Rattle.table_rule.proofs.PartA.{carried_set, remarked}
use Rattle.table_rule.proofs.PartC.{made_grows}

module _ {A : Type 0} where
  -- the new element stands at the end
  pub get_end : (l : List A) (a b : A) (j : ℕ) → slice_get (l ++ a ∷ []) j ≡ Some b
      → (slice_get l j ≡ Some b) ⊎ ((j ≡ length l) × (a ≡ b))
  get_end [] a b zero e = inr (refl, same_Some a b e)
  get_end [] a b (suc j) e = absurd (none-some b e)
  get_end (x ∷ xs) a b zero e = inl e
  get_end (x ∷ xs) a b (suc j) e =
      ⊎_elim inl (λ t. let n = t.0 in inr (omega arith, t.1)) (get_end xs a b j e)

  pub get_front : (l : List A) (a b : A) (j : ℕ) → slice_get l j ≡ Some b
      → slice_get (l ++ a ∷ []) j ≡ Some b
  get_front [] a b j e = absurd (none-some b e)
  get_front (x ∷ xs) a b zero e = e
  get_front (x ∷ xs) a b (suc j) e = get_front xs a b j e

made_left : (xs ys : List SeatView) (s : Shape) → Contains (all_made xs) s
    → Contains (all_made (xs ++ ys)) s
made_left [] ys s c = absurd (let k = c.1 in omega arith)
made_left (v ∷ xs) ys s c =
    ⊎_elim (λ l. contains_left v.made (all_made (xs ++ ys)) s l)
    (λ r. contains_right v.made (all_made (xs ++ ys)) s (made_left xs ys s r))
    (contains_parts v.made (all_made xs) s c)

held_end : (f : Name → ℕ) (views : List SeatView) (v : SeatView) → v.held ≡ []
    → holdings f (map names_held (views ++ v ∷ [])) ≡ holdings f (map names_held views)
unfolding holdings
held_end f [] v none =
    let all = sum_by-cons (λ (ns : List Name). sum_by f ns) (names_held v) [] in
    let e : sum_by f (names_held v) ≡ 0 = ap (λ (ts : List Tree). sum_by f (names_of ts)) none in
    omega (arith, all, e)
held_end f (x ∷ views) v none =
    let more = held_end f views v none in
    let a = sum_by-cons (λ (ns : List Name). sum_by f ns) (names_held x)
    (map names_held (views ++ v ∷ [])) in
    let b = sum_by-cons (λ (ns : List Name). sum_by f ns) (names_held x) (map names_held views) in
    omega (arith, more, a, b)

module _ (p : Layout) (models : List Content) (mem : WordId → ℕ) (views : List SeatView) (seat : ℕ)
    (v : SeatView) (r : KeepsRule p models mem views) (at : slice_get views seat ≡ Some v)
    (right : v.right ≡ true) (some : v.numbers ≢ []) where
  abbrev a : SeatView
  a = handing v

  abbrev b : SeatView
  b = handed v

  abbrev after : List SeatView
  after = set views seat a

  abbrev all : List SeatView
  all = after ++ b ∷ []

  -- what holds of the old views, of the one that hands on and of the new one
  dealt : (P : ℕ → SeatView → Type 0) → P seat a
      → ((j : ℕ) (d : SeatView) → j ≢ seat → slice_get views j ≡ Some d → P j d)
      → P (length after) b → (j : ℕ) (d : SeatView) → slice_get all j ≡ Some d → P j d
  dealt P mine others new j d e = ⊎_elim (each P views seat a mine others j d)
      (λ (t : (j ≡ length after) × (b ≡ d)). subst (λ (x : ℕ × SeatView). P x.0 x.1)
      (λ i. (sym t.0 i, t.1 i)) new) (get_end after b d j e)

  none_has : (n : ℕ) (A : Type 0) → Contains {X = ℕ} [] n → A
  none_has n A c = absurd (let k = c.1 in omega arith)

  one_right : (j : ℕ) (d : SeatView) (A : Type 0) → j ≢ seat → slice_get views j ≡ Some d
      → d.right ≡ true → A
  one_right j d A ne e h =
      absurd (ne (sym (r.turns.right j d e h).0 ∙ (r.turns.right seat v at right).0))

  long : length all ≡ length views + 1
  long = length-append after (b ∷ []) ∙ (let l = length-set views seat a in omega arith)

  still_carried : (n : ℕ) → n < mem Sessions → IsCarried all n
  still_carried n lt =
      let c = carried_set views seat v a n at (λ h. h) (r.turns.carried n lt) in
      record {
        seat = c.seat;
        view = c.view;
        there = get_front after b c.view c.seat c.there;
        has = c.has;
      }

  deal_turns : KeepsTurns p mem all
  deal_turns = record {
    owner = r.turns.owner;
    keeper = length after;
    few = r.turns.few;
    seats = (let f = r.turns.fresh seat v at right some in let l = long in omega arith);
    fresh = dealt (λ i d. d.right ≡ true → d.numbers ≢ [] → length all ≤ mem Sessions)
        (λ h ne. absurd (let no : ⊥ = cc in no)) (λ j d ne e h x. one_right j d _ ne e h)
        (λ h ne. absurd (ne refl));
    owned = dealt
        (λ i d. (n : ℕ) → Contains d.numbers n → (n < mem Sessions) × (r.turns.owner n ≡ i))
        (r.turns.owned seat v at) (λ j d _ e. r.turns.owned j d e) (λ n c. none_has n _ c);
    right = dealt (λ i d. d.right ≡ true → (length after ≡ i) × (mem Sessions ≡ d.next))
        (λ h. absurd (let no : ⊥ = cc in no)) (λ j d ne e h. one_right j d _ ne e h)
        (λ h. (refl, (r.turns.right seat v at right).1));
    turn = dealt
        (λ i d. (c : BucketAt) → d.turn ≡ Some c → IsWordId p (turn_of c)
        × IsTurnWord d (mem (turn_of c)))
        (λ c h. let t = r.turns.turn seat v at c h in
        (t.0, record { number = t.1.number; carried = t.1.carried; is = t.1.is }))
        (λ j d _ e. r.turns.turn j d e) (λ c h. absurd (none-some c h));
    back = dealt
        (λ i d. (c : BucketAt) → IsWordId p (turn_of c) → IsTurnWord d (mem (turn_of c))
        → d.turn ≡ Some c)
        (λ c low m. r.turns.back seat v at c low
        (record { number = m.number; carried = m.carried; is = m.is }))
        (λ j d _ e. r.turns.back j d e) (λ c low m. none_has m.number _ m.carried);
    carried = still_carried;
    named = r.turns.named;
    known = dealt
        (λ i d. (c : BucketAt) (x : WordId) (n : ℕ) → d.turn ≡ Some c → IsOf c x
        → known_at x d.words ≡ Some n → mem x ≡ n) (r.turns.known seat v at)
        (λ j d _ e. r.turns.known j d e) (λ c x n h of l. absurd (none-some c h));
    unused = r.turns.unused;
  }

  held_same : (f : Name → ℕ)
      → holdings f (map names_held all) ≡ holdings f (map names_held views)
  held_same f =
      held_end f after b refl
      ∙ ap (λ ns. holdings f ns)
      (map-set names_held views seat a
      ∙ set_again (map names_held views) seat (names_held a)
      (slice_get-map names_held views seat ∙ ap (option_map names_held) at))

  grows : (s : Shape) → Contains (all_made views) s → Contains (all_made all) s
  grows s c =
      made_left after (b ∷ []) s (made_grows views seat v a at (record { made = λ s h. h }) s c)

  stands : (t : Tree) → IsLiveTree p (table_state p mem views) t → IsLiveTree p (table_state p mem all) t
  stands t s =
      record {
        name = s.name;
        live = record { name = s.live.name; book = s.live.book };
        tree = s.tree;
      }

  deal_knows : Knows p models (table_state p mem all) all
  deal_knows = record {
    plan = dealt (λ i d. d.alive ≡ true → d.plan ≡ p) (r.knows.plan seat v at)
        (λ j d _ e. r.knows.plan j d e) (r.knows.plan seat v at);
    same_models =
        dealt (λ i d. d.alive ≡ true → d.models ≡ models) (r.knows.same_models seat v at)
        (λ j d _ e. r.knows.same_models j d e) (r.knows.same_models seat v at);
    held = dealt (λ i d. (t : Tree) → IsHeld d.held t → IsLiveTree p (table_state p mem all) t)
        (λ t h. stands t (r.knows.held seat v at t h))
        (λ j d _ e t h. stands t (r.knows.held j d e t h))
        (λ t h. absurd (let e = h.weighs (λ _. 1) in let n = weigh-nil (λ _. 1) in omega arith));
    few = dealt (λ i d. number_of_trees d.held ≤ 4096) (r.knows.few seat v at)
        (λ j d _ e. r.knows.few j d e) (let n = weigh-nil (λ _. 1) in omega arith);
    made = λ n live. grows _ (r.knows.made n (record { name = live.name; book = live.book }));
    met = dealt
        (λ i d. (m : Wanted) → Contains d.met m → HasEnough p (all_made all) m.level m.bucket)
        (λ m h. enough_stays p _ _ m.level m.bucket grows (r.knows.met seat v at m h))
        (λ j d _ e m h. enough_stays p _ _ m.level m.bucket grows (r.knows.met j d e m h))
        (λ m c. absurd (let k = c.1 in omega arith));
  }

  deal_log : KeepsLog p mem all
  deal_log = record {
    turn = record {
      turn = dealt (λ i d. d.log.turn ≡ true → IsTurnWord d (mem LogTurn))
          (λ h. remarked v a _ _ refl refl (r.log.turn.turn seat v at h))
          (λ j d _ e. r.log.turn.turn j d e) (λ h. absurd (let no : ⊥ = cc in no));
      back = dealt (λ i d. IsTurnWord d (mem LogTurn) → d.log.turn ≡ true)
          (λ m. r.log.turn.back seat v at (remarked a v _ _ refl refl m))
          (λ j d _ e. r.log.turn.back j d e) (λ m. none_has m.number _ m.carried);
      named = r.log.turn.named;
      known = dealt
          (λ i d. (x : WordId) (n : ℕ) → d.log.turn ≡ true → IsOfLog x
          → known_at x d.log.words ≡ Some n → mem x ≡ n) (r.log.turn.known seat v at)
          (λ j d _ e. r.log.turn.known j d e) (λ x n h. absurd (let no : ⊥ = cc in no));
    };
    written = r.log.written;
    knows = record {
      sessions = r.log.knows.sessions;
      seen = dealt (λ i d. IsPrefix d.log.seen (log_in p mem)) (r.log.knows.seen seat v at)
          (λ j d _ e. r.log.knows.seen j d e) (nothing_begins v.plan.side (log_in p mem));
      taken = dealt (λ i d. (l : Log) → Contains d.log.taken l → IsPrefix l (log_in p mem))
          (r.log.knows.taken seat v at) (λ j d _ e. r.log.knows.taken j d e)
          (λ l c. absurd (let k = c.1 in omega arith));
      own = dealt (λ i d. OwnsIn (log_in p mem) d) (r.log.knows.own seat v at)
          (λ j d _ e. r.log.knows.own j d e) (own_nothing (log_in p mem));
      own_seen = dealt (λ i d. d.log.taken ≡ [] → OwnsIn d.log.seen d)
          (r.log.knows.own_seen seat v at) (λ j d _ e. r.log.knows.own_seen j d e)
          (λ none. own_nothing (no_log v.plan.side));
      found = dealt
          (λ i d. (f : Found) → Contains d.log.found f → WasFound (log_in p mem) f)
          (r.log.knows.found seat v at) (λ j d _ e. r.log.knows.found j d e)
          (λ f c. absurd (let k = c.1 in omega arith));
    };
  }

  pub dealt_event : Reseats p (table_state p mem views) (table_state p mem all)
  dealt_event = record {
    entries = record { book = λ m is. refl; key = λ m live. refl };
    roots = λ u. refl;
    log = refl;
    held = held_same;
  }

  pub deals : KeepsRule p models mem all
  deals = record {
    plan = r.plan;
    turns = deal_turns;
    sound = reseats_sound p models (table_state p mem views)
        (table_state p mem all) r.sound dealt_event;
    knows = deal_knows;
    log = deal_log;
  }
