-- What the rule tells of one view's log, and of the roots that the log's turn has shown.
use Rattle.std.proofs.Common.{◌≡◌, ℕ, suc, ◌^◌, ◌≤◌, true, false, Some, None, Option, List, length, take, refl, sym, ◌∙◌, ap, subst, arith, length-append}
use Rattle.std.specs.Prelude.{nat_lt, slice_index}
use Rattle.std.specs.List.{slice_get}
use Rattle.std.proofs.lemmas.Bool.{le-ltb}
use Rattle.std.proofs.lemmas.List.{take-append-le}
use Rattle.std.proofs.lemmas.Option.{same_Some, slice_get_within}
use Rattle.vw_cell.specs.declared.cells.Cell.{Cell}
use Rattle.vox_read.specs.Contents.{Content}
use Rattle.node_words.specs.declared.shapes.names.Name.{Name}
use Rattle.node_words.specs.shapes.Shape.{ShowsCells}
use Rattle.node_words.specs.shapes.Tree.{Tree, root_of, shape_of}
use Rattle.node_words.specs.Held.{IsReached}
use Rattle.node_words.specs.Plans.{Layout}
use Rattle.core_laws.specs.places.KeyWords.{child_of_word}
use Rattle.core_laws.specs.places.WordIds.{WordId, LogLength, Version, versions}
use Rattle.retain.specs.StoreLaws.{stored_stays}
use Rattle.retain.specs.Logs.{Log}
use Rattle.retain.specs.Stores.{stored_in}
use Rattle.retain.specs.Packing.{log_words}
use Rattle.retain.specs.Record.{Record}
use Rattle.core_laws.specs.contents.Aligned.{top, world_block}
use Rattle.core_laws.specs.contents.Versions.{HoldsVersion, SameWorld}
use Rattle.core_laws.proofs.Lives.{root_lives}
use Rattle.core_laws.proofs.LogSteps.{root_in_range}
use Rattle.core_laws.proofs.RootCells.{same_cells, same_root, no_root_no_cell}
use Rattle.core_laws.specs.States.{State, IsLive, tree_at, tree_of}
use Rattle.table_rule.specs.Reading.{root_if_held, book_of}
use Rattle.table_rule.specs.LogKnowing.{IsPrefix}
use Rattle.table_rule.specs.LogFacts.{number_seen, seen_has, IsShownUnmarked, IsShownRoot, LogFacts, RootFacts}
use Rattle.table_rule.specs.LogWords.{log_in, records_in, record_of_words, word_in}
use Rattle.table_rule.specs.Rules.{KeepsRule, table_state}
use Rattle.table_rule.specs.Views.{SeatView, bucket_of, known_at}
use Rattle.table_rule.proofs.LogReading.{length_records, take_records, get_record, get_before, no_mark}

-- a version up to the length has just the root that its words say, where it has no mark
pub root_there : (level long u mark word : ℕ) → u ≤ long → mark ≡ 0
    → root_if_held (nat_lt long u) mark (child_of_word level word) ≡ child_of_word level word
root_there level long u mark word le none =
    let late : nat_lt long u ≡ false = le-ltb long u le in
    λ i. root_if_held (late i) (none i) (child_of_word level word)

module _ (p : Layout) (models : List Content) (mem : WordId → ℕ) (views : List SeatView) (seat : ℕ)
    (v : SeatView) (r : KeepsRule p models mem views) (at : slice_get views seat ≡ Some v) where
  abbrev log : Log
  log = log_in p mem

  pub seen_begins : IsPrefix v.log.seen log
  seen_begins = r.log.knows.seen seat v at

  pub seen_le : number_seen v ≤ mem LogLength
  seen_le =
      let b = seen_begins in
      let all = length-append v.log.seen.records b.more in
      let long = length_records mem (mem LogLength) in
      let same = ap (λ (rs : List Record). length rs) b.records in omega arith

  pub log_few : mem LogLength ≤ 65535
  log_few = let few = r.sound.versions.legal.few in
      let long = length_records mem (mem LogLength) in omega arith

  -- what is known of the log's words under its turn
  pub log_known : (u i n : ℕ) → v.log.turn ≡ true → known_at (Version u i) v.log.words ≡ Some n
      → mem (Version u i) ≡ n
  log_known u i n turn known = r.log.turn.known seat v at (Version u i) n turn tt known

  -- the records that are seen are those that the words say
  pub seen_record : (n : ℕ) (c : Record) → slice_get v.log.seen.records n ≡ Some c
      → c ≡ record_of_words (word_in mem (suc n))
  seen_record n c is =
      let b = seen_begins in let lt = slice_get_within v.log.seen.records n c is in
      let le = seen_le in
      same_Some c (record_of_words (word_in mem (suc n)))
      (sym is ∙ sym (get_before v.log.seen.records b.more n lt)
      ∙ ap (λ (rs : List Record). slice_get rs n) (sym b.records)
      ∙ get_record mem n (mem LogLength) (omega arith))

  pub seen_take : (n : ℕ) → n ≤ number_seen v → take n v.log.seen.records ≡ records_in mem n
  seen_take n le =
      let b = seen_begins in let less = seen_le in
      sym (take-append-le n v.log.seen.records b.more le)
      ∙ ap (λ (rs : List Record). take n rs) (sym b.records)
      ∙ take_records mem n (mem LogLength) (omega arith)

  pub log_tells : LogFacts v
  log_tells = record {
    few = (let a = seen_le in let b = log_few in omega arith);
    own = r.log.knows.own_seen seat v at;
    long = λ n turn known.
        (let is = r.log.turn.known seat v at LogLength n turn tt known in let a = seen_le in
        let b = log_few in (omega arith, omega arith));
    words = λ n i word c turn is low known.
        (let lt = slice_get_within v.log.seen.records n c is in let le = seen_le in
        sym (log_known (suc n) i word turn known)
        ∙ r.log.written.words n i (omega arith) low
        ∙ (let t = seen_take (suc n) (omega arith) in let s = seen_record n c is in
        λ j. slice_index (log_words (sym t j) (sym s j)) i));
  }

  -- the cells of a version are the same by what is seen
  pub same_has : (u : ℕ) → u ≤ number_seen v → (q : Cell)
      → stored_in (2 ^ p.side) models log.records u q ≡ stored_in
      (2 ^ p.side) models v.log.seen.records u q
  same_has u le q =
      let b = seen_begins in
      ap (λ (rs : List Record). stored_in (2 ^ p.side) models rs u q) b.records
      ∙ stored_stays (2 ^ p.side) models v.log.seen.records b.more u q le

  pub is_kept : (u : ℕ) → IsShownUnmarked v u → HoldsVersion log u
  is_kept u s = record {
    there = (let le = seen_le in let low = s.there in
        let long = length_records mem (mem LogLength) in omega arith);
    unmarked = no_mark mem versions u (log_known u 6 0 s.turn s.unmarked);
  }

  abbrev c : State
  c = table_state p mem views

  pub root_is : (u word : ℕ) → IsShownUnmarked v u → known_at (Version u 5) v.log.words ≡ Some word
      → c.root u ≡ child_of_word (top p.side) word
  root_is u word s known =
      let le = seen_le in let low = s.there in
      root_there (top p.side) (mem LogLength) u (mem (Version u 6)) (mem (Version u 5))
      (omega arith) (log_known u 6 0 s.turn s.unmarked)
      ∙ ap (child_of_word (top p.side)) (log_known u 5 word s.turn known)

-- of a view whose plan and models are those of the table
module _ (mem : WordId → ℕ) (views : List SeatView) (seat : ℕ) (v : SeatView)
    (r : KeepsRule v.plan v.models mem views) (at : slice_get views seat ≡ Some v)
    (lives : (t : Tree) (n : Name) → IsReached v.held t → root_of t ≡ Some n
    → IsLive v.plan (table_state v.plan mem views) n
    × (tree_of (table_state v.plan mem views) n ≡ t)) where
  abbrev d : State
  d = table_state v.plan mem views

  abbrev p : Layout
  p = v.plan

  shown_kept : (u : ℕ) → IsShownUnmarked v u → HoldsVersion d.log u
  shown_kept u s = is_kept p v.models mem views seat v r at u s

  pub shown_root : (u : ℕ) (root : Option Name) → IsShownRoot v u root → d.root u ≡ root
  shown_root u root s =
      root_is p v.models mem views seat v r at u s.word s.unmarked s.known ∙ sym s.is

  shown_has : (u : ℕ) → IsShownUnmarked v u → (q : Cell)
      → stored_in (2 ^ p.side) v.models d.log.records u q ≡ seen_has v u q
  shown_has u s q = same_has p v.models mem views seat v r at u s.there q

  shown_level : (u : ℕ) (n : Name) → IsShownRoot v u (Some n) → n.level ≡ top p.side
  shown_level u n s = r.sound.versions.level u n (shown_root u (Some n) s)

  pub shown_lives : (u : ℕ) (n : Name) → IsShownRoot v u (Some n) → IsLive p d n
  shown_lives u n s =
      let root = shown_root u (Some n) s in
      root_lives p d u n r.sound.entries (root_in_range p v.models d u n r.sound.versions root) root

  -- the tree of a root that was shown has just the cells of its version
  pub shown_cells : (u : ℕ) (root : Option Name) → IsShownRoot v u root
      → ShowsCells (world_block p.side) (shape_of (tree_at d.key (top p.side) root)) (seen_has v u)
  shown_cells u root s =
      let shown = r.sound.versions.shown u (shown_kept u s.unmarked) in
      let all = subst (λ (o : Option Name). ShowsCells (world_block p.side)
      (shape_of (tree_at d.key (top p.side) o)) (stored_in (2 ^ p.side) v.models d.log.records u))
      (shown_root u root s) shown in
      record { each = λ q inside. all.each q inside ∙ shown_has u s.unmarked q }

  same_worlds : (u w : ℕ) → IsShownUnmarked v u → IsShownUnmarked v w
      → SameWorld (2 ^ p.side) (stored_in (2 ^ p.side) v.models d.log.records u)
      (stored_in (2 ^ p.side) v.models d.log.records w)
      → SameWorld (2 ^ p.side) (seen_has v u) (seen_has v w)
  same_worlds u w a b same = record {
    each = λ q inside. sym (shown_has u a q) ∙ same.each q inside ∙ shown_has w b q;
  }

  back_worlds : (u w : ℕ) → IsShownUnmarked v u → IsShownUnmarked v w
      → SameWorld (2 ^ p.side) (seen_has v u) (seen_has v w)
      → SameWorld (2 ^ p.side) (stored_in (2 ^ p.side) v.models d.log.records u)
      (stored_in (2 ^ p.side) v.models d.log.records w)
  back_worlds u w a b same = record {
    each = λ q inside. shown_has u a q ∙ same.each q inside ∙ sym (shown_has w b q);
  }

  pub roots_tell : RootFacts v
  roots_tell = record {
    none = λ u s q inside.
        sym (shown_has u s.unmarked q)
        ∙ no_root_no_cell p v.models d r.plan.side_low r.sound u (shown_kept u s.unmarked)
        (shown_root u None s) q inside;
    named = λ u n s. (shown_level u n s, (shown_lives u n s).name);
    live = λ u n book s turn known.
        (let some = (shown_lives u n s).book in
        let is = r.turns.known seat v at (bucket_of n) (book_of n) book turn (refl, refl) known in
        omega arith);
    shows = λ u n t s h root.
        (let all = shown_cells u (Some n) s in let l = lives t n h root in
        let tree : tree_at d.key (top p.side) (Some n) ≡ t =
        ap (λ (k : ℕ). tree_at d.key k (Some n)) (sym (shown_level u n s)) ∙ l.1 in
        subst (λ (x : Tree). ShowsCells (world_block p.side) (shape_of x) (seen_has v u)) tree all);
    one_root = λ u w m n a b e.
        same_worlds u w a.unmarked b.unmarked
        (same_cells p v.models d r.plan.side_low r.sound u w (shown_kept u a.unmarked)
        (shown_kept w b.unmarked) (shown_root u m a ∙ e ∙ sym (shown_root w n b)));
    one_world = λ u w m n a b same.
        sym (shown_root u m a)
        ∙ same_root p v.models d r.plan.side_low r.sound u w (shown_kept u a.unmarked)
        (shown_kept w b.unmarked) (back_worlds u w a.unmarked b.unmarked same)
        ∙ shown_root w n b;
  }
