-- The word of a version's mark is stored, and with it the version is forgotten.
use Rattle.std.proofs.Common.{◌≡◌, ◌≢◌, ◌⊎◌, ℕ, suc, ◌+◌, ◌*◌, ◌/◌, ◌%◌, ◌^◌, ◌<◌, ◌≤◌, true, Some, None, Option, List, ◌∷◌, length, set, refl, sym, ap, ◌∙◌, subst, ⊎_elim, inl, inr, arith, false}
use Rattle.std.specs.Prelude.{map}
use Rattle.std.specs.List.{slice_get, Contains}
use Rattle.std.proofs.lemmas.List.Elements.{All-contains}
use Rattle.std.proofs.lemmas.List.Sums.{sum_by-cons}
use Rattle.std.proofs.lemmas.Nat.{div-mul-add, mod-mul-add}
use Rattle.vox_read.specs.Contents.{Content}
use Rattle.node_words.specs.declared.shapes.names.Name.{Name}
use Rattle.node_words.specs.shapes.Shape.{ShowsCells}
use Rattle.node_words.specs.shapes.Tree.{Tree, root_of, shape_of}
use Rattle.node_words.specs.shapes.Weights.{weigh, weight_of, number_of_trees}
use Rattle.node_words.proofs.OfShapes.WeightLaws.{weigh-cons, weight_of-there, weight_of-gone, weight_of-one}
use Rattle.node_words.specs.Held.{IsHeld}
use Rattle.node_words.specs.Plans.{Layout}
use Rattle.core_laws.specs.places.WordIds.{WordId, Sessions, LogLength, Version, versions}
use Rattle.history_model.specs.Logs.{Log}
use Rattle.history_model.specs.declared.histories.Mark.{Mark}
use Rattle.core_laws.specs.contents.Aligned.{top, world_block}
use Rattle.core_laws.specs.contents.Versions.{IsUnmarked, InsertsMark}
use Rattle.core_laws.proofs.OfContents.MarkLaws.{each_mark}
use Rattle.core_laws.proofs.EntrySteps.{was_live}
use Rattle.core_laws.specs.Events.{Trades, TakesRoot, no_weight, at_most_one}
use Rattle.core_laws.specs.LogEvents.{Forgets, forgets}
use Rattle.core_laws.specs.LiveTrees.{IsLiveTree}
use Rattle.core_laws.specs.States.{State, tree_at}
use Rattle.table_rule.specs.Reading.{Wrote}
use Rattle.table_rule.proofs.Readings.{traded, forgets_root}
use Rattle.table_rule.specs.LogKnowing.{IsPrefix, WasFound, KnowsLog, ListsOwn, if_among}
use Rattle.table_rule.specs.LogFacts.{number_seen, seen_has, SeesAll, IsShownRoot}
use Rattle.retain.specs.Listing.{Accepted, Found}
use Rattle.table_rule.specs.LogWords.{log_in, records_in, mark_of_words, marks_in}
use Rattle.table_rule.specs.Rules.{KeepsRule, KeepsOn, KeepsLog, table_state, MayWrite}
use Rattle.table_rule.specs.TurnRules.{turn_of}
use Rattle.table_rule.specs.Views.{SeatView, names_held, known_at}
use Rattle.table_rule.proofs.LogPartA.{log_word_step, of_log_not_bucket_turn, not_of_log}
use Rattle.table_rule.proofs.LogPartC.{SeatKnows, one_knows, knows_move}
use Rattle.table_rule.proofs.LogReading.{records_kept, written_stays, length_records, no_mark}
use Rattle.table_rule.proofs.LogTellingLaw.{log_few, log_known, shown_root, shown_lives, shown_cells}
use Rattle.table_rule.proofs.OwnLaws.{all_from, among_in, among_out}
use Rattle.table_rule.proofs.PartA.{beside_step, same_seat}
use Rattle.table_rule.proofs.Standings.{root_at}
use Rattle.table_rule.proofs.StateSteps.{ruled_event}
use Rattle.table_rule.proofs.TellingLaw.{lives}
use Rattle.table_rule.specs.LogChanges.{marks_with, forgetting, Forgot}
use Rattle.table_rule.proofs.Books.{by_name, weigh_names, child_weighs}
use Rattle.table_rule.proofs.LogStores.{same_version, same_word}
use Rattle.table_rule.proofs.MarkComing.{OneMarked, mark_comes, comes_sum, comes_new, comes_keeps}
use Rattle.table_rule.proofs.MarkLists.{begins_mark, with_new, placed_sum}
use Rattle.table_rule.proofs.Shares.{held_cons}

-- what is held with a tree, where there is one
pub record Taken (held : List Tree) (t : Tree) : Type 0 where
  pub all : List Tree
  pub weighs : (f : Tree → ℕ) → weigh f all ≡ weight_of f t + weigh f held
  pub each : (u : Tree) → IsHeld all u
      → ((u ≡ t) × ((n : Name) × (root_of t ≡ Some n))) ⊎ IsHeld held u

taken : (held : List Tree) (t : Tree) (o : Option Name) → root_of t ≡ o → Taken held t
taken held t None e = record {
  all = held;
  weighs = λ f. (let w = weight_of-gone f t e in omega arith);
  each = λ u h. inr h;
}
taken held t (Some n) e = record {
  all = t ∷ held;
  weighs = λ f. (let w = weight_of-there f t n e in let a = weigh-cons f t held in omega arith);
  each = λ u h. ⊎_elim (λ s. inl (s, (n, e))) (λ o. inr o) (held_cons t u held h);
}

module _ (seat : ℕ) (v : SeatView) (m : Mark) (root : Option Name) (old : WordId → ℕ)
    (views : List SeatView) (k : KeepsRule v.plan v.models old views)
    (at : slice_get views seat ≡ Some v) (sees : SeesAll v) (shown : IsShownRoot v m.version root)
    (earlier : m.version < number_seen v) (now : m.at ≡ number_seen v)
    (own : Contains v.numbers m.session) (low : m.line < 2 ^ 32)
    (who : known_at (Version m.version 7) v.log.words ≡ Some (m.session + 2 ^ 16 * m.line))
    (room : number_of_trees v.held ≤ 4095) where
  abbrev p : Layout
  p = v.plan

  abbrev u : ℕ
  u = m.version

  abbrev c : State
  c = table_state p old views

  abbrev log : Log
  log = log_in p old

  all : old LogLength ≡ number_seen v
  all = k.log.turn.known seat v at LogLength (number_seen v) sees.turn tt sees.known

  long : length log.records ≡ old LogLength
  long = length_records old (old LogLength)

  none : old (Version u 6) ≡ 0
  none = log_known p v.models old views seat v k at u 6 0 sees.turn shown.unmarked.unmarked

  small : m.session < 64
  small = let o = (k.turns.owned seat v at m.session own).0 in let few = k.turns.few in omega arith

  mark_is : mark_of_words u m.at (old (Version u 7)) ≡ m
  mark_is =
      let word = log_known p v.models old views seat v k at u 7 _ sees.turn who in
      let s = small in
      let up : m.session + 2 ^ 16 * m.line ≡ m.line * 2 ^ 16 + m.session = omega arith in
      let session : old (Version u 7) % 2 ^ 16 ≡ m.session =
      ap (λ (n : ℕ). n % 2 ^ 16) (word ∙ up)
      ∙ mod-mul-add m.line (2 ^ 16) m.session (omega arith) in
      let line : old (Version u 7) / 2 ^ 16 % 2 ^ 32 ≡ m.line =
      ap (λ (n : ℕ). n / 2 ^ 16 % 2 ^ 32) (word ∙ up)
      ∙ ap (λ (n : ℕ). n % 2 ^ 32) (div-mul-add m.line (2 ^ 16) m.session (omega arith))
      ∙ ap (λ (n : ℕ). n % 2 ^ 32) (let e : m.line ≡ 0 * 2 ^ 32 + m.line = omega arith in e)
      ∙ mod-mul-add 0 (2 ^ 32) m.line low in
      λ i. record { version = u; at = m.at; session = session i; line = line i }

  -- the root and its tree
  root_was : c.root u ≡ root
  root_was =
      shown_root old views seat v k at (lives p v.models old views seat v k at) u root shown

  abbrev pub tree : Tree
  tree = tree_at c.key (top p.side) root

  pub tree_root : root_of tree ≡ root
  tree_root = root_at c.key (top p.side) root

  pub tree_shows : ShowsCells (world_block p.side) (shape_of tree) (seen_has v u)
  tree_shows =
      shown_cells old views seat v k at (lives p v.models old views seat v k at) u root shown

  tree_stands : (n : Name) → root_of tree ≡ Some n → IsLiveTree p c tree
  tree_stands n e =
      let is : root ≡ Some n = sym tree_root ∙ e in
      let live = shown_lives old views seat v k at (lives p v.models old views seat v k at) u n
      (subst (λ (o : Option Name). IsShownRoot v u o) is shown) in
      let level = k.sound.versions.level u n (root_was ∙ is) in
      record {
        name = n;
        live = live;
        tree = ap (λ (l : ℕ). tree_at c.key l (Some n)) level
            ∙ ap (λ (o : Option Name). tree_at c.key (top p.side) o) (sym is);
      }

  pub held_more : Taken v.held tree
  held_more = taken v.held tree root tree_root

  abbrev pub forgot_view : SeatView
  forgot_view = forgetting v m held_more.all

  abbrev after : List SeatView
  after = set views seat forgot_view

  trade : Trades (map names_held views) seat no_weight (at_most_one (c.root u))
      (map names_held after)
  trade =
      traded names_held views seat v forgot_view no_weight (at_most_one (c.root u)) at
      (λ f. omega arith)
      (λ f. (let a = weigh_names f v in let b = weigh_names f forgot_view in
      let e = held_more.weighs (by_name f) in
      let s = child_weighs f (c.root u) tree (tree_root ∙ sym root_was) in omega arith))

  -- no mark of the version was seen
  seen_none : IsUnmarked v.log.seen.marks u
  seen_none =
      all_from (λ y. y.version ≢ u) v.log.seen.marks
      (λ y h. All-contains (λ z. z.version ≢ u) log.marks y (no_mark old versions u none)
      ((k.log.knows.seen seat v at).marks y h))

  pub mark_seen : Contains (marks_with m v.log.seen.marks) m
  mark_seen =
      with_new m v.log.seen.marks
      (λ y h e. absurd (All-contains (λ z. z.version ≢ u) v.log.seen.marks y seen_none h e))

  module _ (new : WordId → ℕ) (wrote : Wrote old (Version u 6) (suc m.at) new) where
    abbrev d : State
    d = table_state p new after

    other_word : (w i : ℕ) → i ≢ 6 → new (Version w i) ≡ old (Version w i)
    other_word w i ne = wrote.others (Version w i) (λ e. ne (same_word w u i 6 e))

    length_stays : new LogLength ≡ old LogLength
    length_stays = wrote.others LogLength (λ e. (let no : ⊥ = cc in no))

    sessions_stay : new Sessions ≡ old Sessions
    sessions_stay = wrote.others Sessions (λ e. (let no : ⊥ = cc in no))

    marked : OneMarked old new m
    marked = record {
      six = λ w ne. wrote.others (Version w 6) (λ e. ne (same_version w u 6 6 e));
      seven = λ w. other_word w 7 (λ e. omega arith);
      was = none;
      now = wrote.here;
      is = mark_is;
    }

    comes : InsertsMark log.marks m (marks_in new versions)
    comes = mark_comes old new m marked versions
        (let few = log_few p v.models old views seat v k at in let a = all in omega arith)

    records_stay : records_in new (new LogLength) ≡ records_in old (old LogLength)
    records_stay =
        ap (records_in new) length_stays
        ∙ records_kept old new (old LogLength)
        (λ w i lt low. other_word (suc w) i (λ e. omega arith))

    takes : TakesRoot p seat u c d
    takes =
        forgets_root p (log_in p) old new (map names_held views) (map names_held after) seat u m.at
        (let few = log_few p v.models old views seat v k at in let a = all in omega arith) wrote
        trade

    pub forgets_event : Forgets p seat m c d
    forgets_event = record {
      earlier = (let l = long in let a = all in omega arith);
      now = (let l = long in let a = all in omega arith);
      side = refl;
      coloured = refl;
      records = records_stay;
      marks = comes;
      takes = takes;
    }

    -- the log with the mark
    abbrev more : Log
    more = record log { marks = marks_in new versions }

    log_more : log_in p new ≡ more
    log_more = λ i. record {
      side = p.side;
      coloured = false;
      records = records_stay i;
      marks = marks_in new versions;
    }

    begins_more : (l : Log) → IsPrefix l log → IsPrefix l more
    begins_more l b = record {
      more = b.more;
      records = b.records;
      marks = λ y h. comes_keeps log.marks m (marks_in new versions) y comes (b.marks y h);
    }

    found_more : (f : Found) → WasFound log f → WasFound more f
    found_more f w = record {
      at = w.at;
      held = each_mark log.marks (marks_in new versions) m comes
          (λ y. y.version ≡ f.version → f.at ≤ y.at) w.held
          (λ e. (let a = w.at in let l = long in let b = all in omega arith));
    }

    own_more : (numbers : List ℕ) (rs : List Accepted) (ms : List Mark)
        → Contains numbers m.session → ListsOwn log numbers rs ms
        → ListsOwn more numbers rs (m ∷ ms)
    own_more numbers rs ms has o = record {
      records_are = o.records_are;
      marks_are = λ f.
          (let g : Mark → ℕ = λ y. if_among numbers y.session (f y) in
          let a = o.marks_are f in
          let b = comes_sum g log.marks m (marks_in new versions) comes in
          let here = among_in numbers m.session (f m) has in
          let e = sum_by-cons f m ms in omega arith);
    }

    other_more : (numbers : List ℕ) (rs : List Accepted) (ms : List Mark)
        → (Contains numbers m.session → ⊥) → ListsOwn log numbers rs ms
        → ListsOwn more numbers rs ms
    other_more numbers rs ms out o = record {
      records_are = o.records_are;
      marks_are = λ f.
          (let g : Mark → ℕ = λ y. if_among numbers y.session (f y) in
          let a = o.marks_are f in
          let b = comes_sum g log.marks m (marks_in new versions) comes in
          let no = among_out numbers m.session (f m) out in omega arith);
    }

    seen_more : ListsOwn v.log.seen v.numbers v.log.records v.log.marks
        → ListsOwn (record v.log.seen { marks = marks_with m v.log.seen.marks }) v.numbers
        v.log.records (m ∷ v.log.marks)
    seen_more o = record {
      records_are = o.records_are;
      marks_are = λ f.
          (let g : Mark → ℕ = λ y. if_among v.numbers y.session (f y) in
          let a = o.marks_are f in
          let b = placed_sum g m v.log.seen.marks seen_none in
          let here = among_in v.numbers m.session (f m) own in
          let e = sum_by-cons f m v.log.marks in omega arith);
    }

    seat_more : SeatKnows more v.numbers forgot_view.log
    seat_more =
        let s = one_knows (old Sessions) log views seat v k.log.knows at in
        record {
          seen = begins_mark v.log.seen more m (begins_more v.log.seen s.seen)
              (comes_new log.marks m (marks_in new versions) comes);
          taken = λ t h. begins_more t (s.taken t h);
          own = own_more v.numbers v.log.records v.log.marks own s.own;
          own_seen = λ nothing. seen_more (s.own_seen nothing);
          found = λ f h. found_more f (s.found f h);
        }

    knows_more : KnowsLog (old Sessions) more after
    knows_more =
        knows_move (old Sessions) log more views seat forgot_view k.log.knows
        (record {
          records = k.log.knows.sessions.records;
          marks = each_mark log.marks (marks_in new versions) m comes
              (λ y. y.session < old Sessions) k.log.knows.sessions.marks
              (k.turns.owned seat v at m.session own).0;
        })
        begins_more found_more
        (λ j s ne e o. other_more s.numbers s.log.records s.log.marks
        (λ h. ne (sym (k.turns.owned j s e m.session h).1
        ∙ (k.turns.owned seat v at m.session own).1)) o)
        seat_more

    log_ruled : KeepsLog p new after
    log_ruled = record {
      turn =
          log_word_step p old views k.turns k.log.turn seat v at new forgot_view refl sessions_stay
          (Version u 6) (suc m.at) sees.turn tt wrote refl refl;
      written = record {
        words = λ w i lt low.
            written_stays old new (old LogLength)
            (λ a b less few. other_word (suc a) b (λ e. omega arith))
            (λ a b less few. k.log.written.words a b less few) w i
            (subst (λ (z : ℕ). w < z) length_stays lt) low;
      };
      knows =
          subst (λ (x : ℕ × Log). KnowsLog x.0 x.1 after)
          (λ i. (sym sessions_stay i, sym log_more i)) knows_more;
    }

    pub forget_ruled : KeepsRule p v.models new after
    forget_ruled =
        ruled_event p v.models old new views seat v forgot_view k at
        (beside_step p old views k.turns seat v at new forgot_view (same_seat v forgot_view refl
        refl refl) sessions_stay refl refl
        (λ b. wrote.others (turn_of b) (of_log_not_bucket_turn (Version u 6) b tt))
        (λ b y of. wrote.others y (not_of_log b (Version u 6) y of tt)))
        (forgets m forgets_event) log_ruled
        (record {
          plan = refl;
          same_models = refl;
          alive = λ e. e;
          grew = record { made = λ s h. h };
          held = λ t h. inl (⊎_elim
              (λ (x : (t ≡ tree) × ((n : Name) × (root_of tree ≡ Some n))).
              subst (λ (y : Tree). IsLiveTree p c y) (sym x.0) (tree_stands x.1.0 x.1.1))
              (λ (o : IsHeld v.held t). k.knows.held seat v at t o) (held_more.each t h));
          few = (let e = held_more.weighs (λ _. 1) in let o = weight_of-one tree in omega arith);
          made = λ n live. inl (was_live p c d n takes.entries live);
          met = λ n h. inl h;
        })

  pub forgets_here : KeepsOn p v.models seat old views v (Version u 6) (suc m.at)
      (Forgets p seat m) (λ w. Forgot v m root w)
  forgets_here = record {
    view = forgot_view;
    rule = λ new wrote. forget_ruled new wrote;
    event = λ new wrote. forgets_event new wrote;
    same = record { alive = refl; plan = refl; models = refl; numbers = refl };
    told = record {
      tree = tree;
      is_root = tree_root;
      shows = tree_shows;
      held = held_more.all;
      weighs = held_more.weighs;
      comes = mark_seen;
      is = refl;
    };
  }

-- the word of a version's mark is stored
pub forgets_version : (p : Layout) (seat : ℕ) (v : SeatView) (m : Mark) (root : Option Name)
    → v.alive ≡ true → SeesAll v → IsShownRoot v m.version root → m.version < number_seen v
    → m.at ≡ number_seen v → Contains v.numbers m.session → m.line < 2 ^ 32
    → known_at (Version m.version 7) v.log.words ≡ Some (m.session + 2 ^ 16 * m.line)
    → number_of_trees v.held ≤ 4095
    → MayWrite p seat v (Version m.version 6) (λ _. suc m.at) (Forgets p seat m)
    (λ k w. Forgot v m root w)
forgets_version p seat v m root alive sees shown earlier now own low who room models old views rule at =
    let plan : v.plan ≡ p = rule.knows.plan seat v at alive in
    let same : v.models ≡ models = rule.knows.same_models seat v at alive in
    let k : KeepsRule v.plan v.models old views =
    subst (λ (x : Layout × List Content). KeepsRule x.0 x.1 old views)
    (λ i. (sym plan i, sym same i)) rule in
    subst (λ (x : Layout × List Content). KeepsOn x.0 x.1 seat old views v (Version m.version 6)
    (suc m.at) (Forgets x.0 seat m) (λ w. Forgot v m root w)) (λ i. (plan i, same i))
    (forgets_here seat v m root old views k at sees shown earlier now own low who room)
