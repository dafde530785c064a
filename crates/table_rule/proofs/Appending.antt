-- The length becomes one more, and with it a record is appended.
use Rattle.std.proofs.Common.{◌≡◌, ◌⊎◌, ℕ, zero, suc, ◌+◌, ◌^◌, ◌<◌, ◌≤◌, true, Some, None, Option, List, [], ◌∷◌, ◌++◌, length, set, refl, sym, ap, ◌∙◌, subst, ⊎_elim, inl, inr, arith, length-append, false}
use Rattle.std.specs.Prelude.{map, slice_index}
use Rattle.std.specs.List.{slice_get, Contains}
use Rattle.std.proofs.Math.Nat.{pow-le-pow_right, mod-lt}
use Rattle.std.proofs.lemmas.Bool.{cases_eq}
use Rattle.std.proofs.lemmas.List.{take_all, append-nil}
use Rattle.vox_read.specs.Contents.{Content}
use Rattle.node_words.specs.declared.shapes.names.Name.{Name}
use Rattle.node_words.specs.shapes.Shape.{ShowsCells}
use Rattle.node_words.specs.shapes.Tree.{Tree, Gone, root_of, shape_of}
use Rattle.node_words.specs.shapes.Weights.{weigh, weight_of}
use Rattle.node_words.proofs.OfShapes.WeightLaws.{weight_of-there, weight_of-gone}
use Rattle.node_words.specs.Held.{IsHeld}
use Rattle.node_words.specs.Plans.{Layout}
use Rattle.core_laws.specs.places.KeyWords.{child_of_word}
use Rattle.core_laws.specs.places.WordIds.{WordId, Sessions, LogLength, Version, versions}
use Rattle.core_laws.specs.places.Words.{word_of_child, IsChildAt}
use Rattle.core_laws.proofs.OfPlaces.Children.{one_child}
use Rattle.core_laws.proofs.OfPlaces.KeyLaws.{word_back}
use Rattle.history_model.specs.Logs.{Log, HasTarget, MayFollow}
use Rattle.history_model.specs.Packing.{log_words}
use Rattle.history_model.specs.Positions.{position_after}
use Rattle.history_model.specs.declared.acts.Act.{Act}
use Rattle.history_model.specs.declared.acts.Act.TheVariants.{Fill, Erase, Ball, Carve, Copy, Stamp, Tint, Undo, Redo}
use Rattle.history_model.specs.declared.histories.Record.{Record}
use Rattle.core_laws.specs.contents.Aligned.{top, world_block}
use Rattle.core_laws.proofs.EntrySteps.{was_live}
use Rattle.core_laws.proofs.SeenNodes.{gone_tree}
use Rattle.core_laws.specs.Events.{Trades, PutsRoot, no_weight, at_most_one}
use Rattle.core_laws.specs.LogEvents.{MayAppend, Appends, appends}
use Rattle.core_laws.specs.Making.{Makes}
use Rattle.core_laws.specs.LiveTrees.{IsLiveTree}
use Rattle.core_laws.specs.States.{State, tree_at}
use Rattle.table_rule.specs.Reading.{Wrote, root_word}
use Rattle.table_rule.proofs.Readings.{traded, appends_root}
use Rattle.table_rule.specs.LogKnowing.{KnowsLog}
use Rattle.table_rule.specs.LogFacts.{number_seen, SeesAll}
use Rattle.table_rule.specs.LogWords.{log_in, records_in, record_of_words, word_in, IsLogWritten}
use Rattle.table_rule.specs.Rules.{KeepsRule, KeepsLog, table_state, MayWrite}
use Rattle.table_rule.specs.TurnRules.{turn_of}
use Rattle.table_rule.specs.Views.{SeatView, names_held}
use Rattle.table_rule.proofs.Decoding.{record_back}
use Rattle.table_rule.proofs.LogPartA.{log_word_step, of_log_not_bucket_turn, not_of_log}
use Rattle.table_rule.proofs.LogPartC.{SeatKnows, one_knows, knows_move, own_appended, other_appended, begins_appended}
use Rattle.table_rule.proofs.LogReading.{record_same, records_kept, records_suc, marks_kept, written_stays, no_mark}
use Rattle.table_rule.proofs.LogTellingLaw.{seen_take, log_known}
use Rattle.table_rule.proofs.OwnLaws.{all_end}
use Rattle.table_rule.proofs.PartA.{beside_step, same_seat}
use Rattle.table_rule.proofs.Standings.{root_stands}
use Rattle.table_rule.proofs.StateSteps.{ruled_event}
use Rattle.table_rule.specs.LogChanges.{IsOpenTarget, HasOpenTarget, HasNextWords, IsAppendable, appending, Appended}
use Rattle.table_rule.proofs.Books.{by_name, weigh_names, child_weighs, kept_held}
use Rattle.table_rule.proofs.LogLoads.{marked_there}
use Rattle.table_rule.proofs.Shares.{take_one}

-- what is held without a tree, where there is one
pub record Given (held : List Tree) (root : Tree) : Type 0 where
  pub rest : List Tree
  pub weighs : (f : Tree → ℕ) → weigh f held ≡ weight_of f root + weigh f rest

gone_given : (held : List Tree) (root : Tree) → root_of root ≡ None → Given held root
gone_given held root none = record {
  rest = held;
  weighs = λ f. (let w = weight_of-gone f root none in omega arith);
}

held_given : (held : List Tree) (root : Tree) (n : Name) → root_of root ≡ Some n
    → IsHeld held root → Given held root
held_given held root n is h =
    let one = take_one held root h in record {
      rest = one.rest;
      weighs = λ f.
          (let w = weight_of-there f root n is in let e = one.weighs f in omega arith);
    }

child_at_level : (level word : ℕ) → IsChildAt level (child_of_word level word)
child_at_level level zero = tt
child_at_level level (suc word) = (refl, mod-lt word (omega arith))

-- a child is read from its word
pub child_back : (level word : ℕ) (o : Option Name) → IsChildAt level o → word ≡ word_of_child o
    → child_of_word level word ≡ o
child_back level word o is e =
    one_child level (child_of_word level word) o (child_at_level level word) is
    (word_back level word ∙ e)

pub side_small : (side : ℕ) → side ≤ 12 → 2 ^ side < 2 ^ 16
side_small side le = let p = pow-le-pow_right {n = 2} (omega arith) le in omega arith

module _ (p : Layout) (seat : ℕ) (v : SeatView) (r : Record) (root : Tree) (old : WordId → ℕ)
    (views : List SeatView) (k : KeepsRule p v.models old views)
    (at : slice_get views seat ≡ Some v) (sees : SeesAll v) (own : Contains v.numbers r.session)
    (words : HasNextWords v r (root_of root)) (may : IsAppendable p v r root) where
  abbrev n : ℕ
  n = number_seen v

  abbrev c : State
  c = table_state p old views

  abbrev log : Log
  log = log_in p old

  all : old LogLength ≡ n
  all = k.log.turn.known seat v at LogLength n sees.turn tt sees.known

  seen_is : v.log.seen.records ≡ log.records
  seen_is =
      sym (take_all n v.log.seen.records (omega arith))
      ∙ seen_take p v.models old views seat v k at n (omega arith)
      ∙ ap (records_in old) (sym all)

  long : length log.records ≡ n
  long = ap (λ (l : List Record). length l) (sym seen_is)

  next_words : (i : ℕ) → i < 5 → old (Version (suc n) i)
      ≡ slice_index (log_words (v.log.seen.records ++ r ∷ []) r) i
  next_words i low =
      log_known p v.models old views seat v k at (suc n) i _ sees.turn (words.words i low)

  is_record : record_of_words (word_in old (suc n)) ≡ r
  is_record =
      let small = (k.turns.owned seat v at r.session own).0 in let few = k.turns.few in
      record_same (word_in old (suc n))
      (slice_index (log_words (v.log.seen.records ++ r ∷ []) r)) next_words
      ∙ record_back (2 ^ p.side) v.models (v.log.seen.records ++ r ∷ []) r
      (side_small p.side k.plan.side_high) may.fits (omega arith) may.is_record

  not_marked : old (Version (suc n) 6) ≡ 0
  not_marked = go (old (Version (suc n) 6)) refl
    where
      go : (word : ℕ) → old (Version (suc n) 6) ≡ word → old (Version (suc n) 6) ≡ 0
      go zero e = e
      go (suc when) e =
          absurd (let room = may.room in let same = all in
          let m = (marked_there p v.models old views (suc n) when k (omega arith) e).1 in
          let a = m.0 in let b = m.1 in omega arith)

  stands : (root ≡ Gone) ⊎ IsLiveTree p c root
  stands = ⊎_elim (λ e. inl e) (λ h. inr (k.knows.held seat v at root h)) may.is_held

  pub given : Given v.held root
  given = ⊎_elim (λ (e : root ≡ Gone). gone_given v.held root (ap root_of e))
      (λ (h : IsHeld v.held root). (let s = k.knows.held seat v at root h in
      held_given v.held root s.name (root_stands p c root s) h)) may.is_held

  tree_is : tree_at c.key (top p.side) (root_of root) ≡ root
  tree_is = ⊎_elim
      (λ (e : root ≡ Gone). ap (λ (t : Tree). tree_at c.key (top p.side) (root_of t)) e
      ∙ gone_tree c.key (top p.side) ∙ sym e)
      (λ (s : IsLiveTree p c root). (let name = root_stands p c root s in
      ap (λ (o : Option Name). tree_at c.key (top p.side) o) name
      ∙ ap (λ (l : ℕ). tree_at c.key l (Some s.name)) (sym (may.level s.name name))
      ∙ s.tree)) stands

  is_child : IsChildAt (top p.side) (root_of root)
  is_child = ⊎_elim
      (λ (e : root ≡ Gone). subst (λ (o : Option Name). IsChildAt (top p.side) o)
      (sym (ap root_of e)) tt)
      (λ (s : IsLiveTree p c root). (let name = root_stands p c root s in
      subst (λ (o : Option Name). IsChildAt (top p.side) o) (sym name) (
        may.level s.name name,
        (let a = s.live.name.slot_in in let b = k.plan.cap_high in omega arith),
      ))) stands

  root_known : root_word p old (suc n) ≡ root_of root
  root_known =
      child_back (top p.side) (old (Version (suc n) 5)) (root_of root) is_child
      (log_known p v.models old views seat v k at (suc n) 5 _ sees.turn words.root_word)

  -- the version that an undo or a redo goes to has no mark
  has_target : (to : List ℕ) → IsOpenTarget v to → HasTarget log.marks (length log.records + 1) to
  has_target [] open_at = absurd open_at
  has_target (u ∷ others) open_at = λ i d lt same.
      absurd (no_mark old versions u (log_known p v.models old views seat v k at u 6 0 open_at.turn
      open_at.unmarked) i d lt same)

  follows_seen : (act : Act) → HasOpenTarget v act
      → MayFollow log.marks (length log.records + 1) act
      (position_after v.log.seen.records)
  follows_seen Undo h = has_target (position_after v.log.seen.records).past h
  follows_seen Redo h = has_target (position_after v.log.seen.records).future h
  follows_seen (Fill b) h = h
  follows_seen (Erase b) h = h
  follows_seen (Ball b) h = h
  follows_seen (Carve b) h = h
  follows_seen (Copy b to) h = h
  follows_seen (Stamp m to) h = h
  follows_seen (Tint t) h = h

  may_append : MayAppend p v.models r (root_of root) c
  may_append = record {
    room = (let room = may.room in let l = long in omega arith);
    fits = may.fits;
    follows = subst (λ (rs : List Record). MayFollow log.marks (length log.records + 1) r.act
        (position_after rs)) seen_is (follows_seen r.act may.target);
    level = may.level;
    cells = may.cells;
    shows = subst (λ (t : Tree). ShowsCells (world_block p.side) (shape_of t) may.cells)
        (sym tree_is) may.shows;
    makes = subst (λ (rs : List Record). Makes (2 ^ p.side) v.models rs r.act may.cells) seen_is
        may.makes;
  }

  abbrev pub appended_view : SeatView
  appended_view = appending v r given.rest

  abbrev after : List SeatView
  after = set views seat appended_view

  -- the log with one record more
  abbrev more : Log
  more = record log { records = log.records ++ r ∷ [] }

  -- what is held weighs what it did less the root
  trade : Trades (map names_held views) seat (at_most_one (root_of root)) no_weight
      (map names_held after)
  trade =
      traded names_held views seat v appended_view (at_most_one (root_of root)) no_weight at
      (λ f. (let a = weigh_names f v in let e = given.weighs (by_name f) in
      let s = child_weighs f (root_of root) root refl in omega arith))
      (λ f. (let a = weigh_names f v in let b = weigh_names f appended_view in
      let e = given.weighs (by_name f) in let s = child_weighs f (root_of root) root refl in
      omega arith))

  seat_more : SeatKnows more v.numbers appended_view.log
  seat_more =
      let s = one_knows (old Sessions) log views seat v k.log.knows at in
      record {
        seen = record {
          more = [];
          records = ap (λ (l : List Record). l ++ r ∷ []) (sym seen_is)
              ∙ sym (append-nil (v.log.seen.records ++ r ∷ []));
          marks = s.seen.marks;
        };
        taken = λ t h. begins_appended t log r (s.taken t h);
        own = own_appended log v.numbers v.log.records v.log.marks r (suc n)
            (let l = long in omega arith) own s.own;
        own_seen = λ none.
            own_appended v.log.seen v.numbers v.log.records v.log.marks r (suc n) (omega arith) own
            (s.own_seen none);
        found = λ f h. (let w = s.found f h in let a = w.at in record {
          at = (let l = length-append log.records (r ∷ []) in omega arith);
          held = w.held;
        });
      }

  knows_more : KnowsLog (old Sessions) more after
  knows_more =
      knows_move (old Sessions) log more views seat appended_view k.log.knows
      (record {
        records =
            all_end (λ x. x.session < old Sessions) log.records r k.log.knows.sessions.records
            (k.turns.owned seat v at r.session own).0;
        marks = k.log.knows.sessions.marks;
      })
      (λ l b. begins_appended l log r b)
      (λ f w. (let a = w.at in record {
        at = (let l = length-append log.records (r ∷ []) in omega arith);
        held = w.held;
      }))
      (λ j d ne e o. other_appended log d.numbers d.log.records d.log.marks r
      (λ h. ne (sym (k.turns.owned j d e r.session h).1
      ∙ (k.turns.owned seat v at r.session own).1)) o)
      seat_more

  module _ (new : WordId → ℕ) (wrote : Wrote old LogLength (suc n) new) where
    abbrev d : State
    d = table_state p new after

    same_words : (u i : ℕ) → new (Version u i) ≡ old (Version u i)
    same_words u i = wrote.others (Version u i) (λ e. (let no : ⊥ = cc in no))

    records_more : records_in new (suc n) ≡ log.records ++ r ∷ []
    records_more =
        records_kept old new (suc n) (λ u i lt low. same_words (suc u) i)
        ∙ records_suc old n
        ∙ (let front : records_in old n ≡ log.records = ap (records_in old) (sym all) in
        let last = is_record in λ i. front i ++ last i ∷ [])

    log_more : log_in p new ≡ more
    log_more =
        let rs = ap (records_in new) wrote.here ∙ records_more in
        let ms =
        marks_kept old new versions (λ u lt. same_words u 6) (λ u lt ne. same_words u 7) in
        λ i. record { side = p.side; coloured = false; records = rs i; marks = ms i }

    puts : PutsRoot p seat (length c.log.records + 1) (root_of root) c d
    puts =
        let next : ℕ = length c.log.records + 1 in
        let same : suc n ≡ next = (let l = long in omega arith) in
        let root_is : root_word p old next ≡ root_of root =
        ap (root_word p old) (sym same) ∙ root_known in
        subst (λ (o : Option Name). PutsRoot p seat next o c d) root_is
        (appends_root p (log_in p) old new (map names_held views) (map names_held after) seat next
        (let l = long in let a = all in omega arith)
        (let room = may.room in let l = long in omega arith)
        (ap (λ (u : ℕ). old (Version u 6)) (sym same) ∙ not_marked)
        (subst (λ (u : ℕ). Wrote old LogLength u new) same wrote)
        (subst (λ (o : Option Name). Trades (map names_held views) seat (at_most_one o) no_weight
        (map names_held after)) (sym root_is) trade))

    pub appends_event : Appends p v.models seat r (root_of root) c d
    appends_event = record { may = may_append; log = log_more; puts = puts }

    written_more : IsLogWritten new
    written_more = record {
      words = λ m i lt low.
          written_stays old new (suc n) (λ u j _ _. same_words (suc u) j) known_words m i
          (subst (λ (x : ℕ). m < x) wrote.here lt) low;
    }
      where
        known_words : (u i : ℕ) → u < suc n → i < 5 → old (Version (suc u) i)
            ≡ slice_index
            (log_words (records_in old (suc u)) (record_of_words (word_in old (suc u)))) i
        known_words u i lt low = elim (cases_eq u n) [
          | inl same ↦
              subst (λ (x : ℕ). old (Version (suc x) i)
              ≡ slice_index
              (log_words (records_in old (suc x)) (record_of_words (word_in old (suc x)))) i)
              (sym same)
              (next_words i low
              ∙ (let rs : v.log.seen.records ++ r ∷ [] ≡ records_in old (suc n) =
              ap (λ (l : List Record). l ++ r ∷ []) (seen_is ∙ ap (records_in old) all)
              ∙ ap (λ (x : Record). records_in old n ++ x ∷ []) (sym is_record)
              ∙ sym (records_suc old n) in
              let last = is_record in
              λ j. slice_index (log_words (rs j) (sym last j)) i))
          | inr other ↦
              k.log.written.words u i (let a = all in omega arith) low
        ]

    log_ruled : KeepsLog p new after
    log_ruled =
        let sessions : new Sessions ≡ old Sessions =
        wrote.others Sessions (λ e. (let no : ⊥ = cc in no)) in record {
          turn =
              log_word_step p old views k.turns k.log.turn seat v at new appended_view refl sessions
              LogLength (suc n) sees.turn tt wrote refl refl;
          written = written_more;
          knows =
              subst (λ (x : ℕ × Log). KnowsLog x.0 x.1 after)
              (λ i. (sym sessions i, sym log_more i)) knows_more;
        }

    pub append_ruled : KeepsRule p v.models new after
    append_ruled =
        ruled_event p v.models old new views seat v appended_view k at
        (beside_step p old views k.turns seat v at new appended_view (same_seat v appended_view refl
        refl refl) (wrote.others Sessions (λ e. (let no : ⊥ = cc in no))) refl refl
        (λ b. wrote.others (turn_of b) (of_log_not_bucket_turn LogLength b tt))
        (λ b y of. wrote.others y (not_of_log b LogLength y of tt)))
        (appends r (root_of root) appends_event) log_ruled
        (record {
          plan = refl;
          same_models = refl;
          alive = λ e. e;
          grew = record { made = λ s h. h };
          held = λ t h. inl (k.knows.held seat v at t (kept_held v.held given.rest t
              (λ f. (let e = given.weighs f in omega arith)) h));
          few = (let e = given.weighs (λ _. 1) in let f = k.knows.few seat v at in omega arith);
          made = λ m live. inl (was_live p c d m puts.entries live);
          met = λ m h. inl h;
        })

-- the length is stored
pub appends_record : (p : Layout) (seat : ℕ) (v : SeatView) (r : Record) (root : Tree)
    → v.alive ≡ true → SeesAll v → Contains v.numbers r.session → HasNextWords v r (root_of root)
    → IsAppendable p v r root
    → MayWrite p seat v LogLength (λ _. suc (number_seen v))
    (Appends p v.models seat r (root_of root))
    (λ k w. Appended v r root w)
appends_record p seat v r root alive sees own words may models old views rule at =
    let same : v.models ≡ models = rule.knows.same_models seat v at alive in
    let k : KeepsRule p v.models old views =
    subst (λ (ms : List Content). KeepsRule p ms old views) (sym same) rule in
    let g = given p seat v r root old views k at sees own words may in
    record {
      view = appending v r g.rest;
      rule = λ new wrote. subst (λ (ms : List Content). KeepsRule p ms new
          (set views seat (appending v r g.rest))) same
          (append_ruled p seat v r root old views k at sees own words may new wrote);
      event = λ new wrote. appends_event p seat v r root old views k at sees own words may new wrote;
      same = record { alive = refl; plan = refl; models = refl; numbers = refl };
      told = record { held = g.rest; weighs = g.weighs; is = refl };
    }
