-- Book 1 in a free entry is a new entry of the store.
use Rattle.std.proofs.Common.{◌≡◌, ◌≢◌, ◌⊎◌, ℕ, zero, suc, ◌+◌, ◌-◌, ◌<◌, ◌≤◌, Option, Some, None, List, ◌∷◌, set, refl, sym, ap, ◌∙◌, subst, ⊎_elim, inl, inr, arith, sum_by}
use Rattle.std.specs.Prelude.{map}
use Rattle.std.specs.List.{slice_get, Contains}
use Rattle.vox_read.specs.Contents.{Content}
use Rattle.node_words.specs.declared.shapes.names.Name.{Name}
use Rattle.node_words.specs.shapes.Tree.{Tree, LeafAt, node_at, root_of, shape_of}
use Rattle.node_words.specs.shapes.Weights.{weigh, weight_below, number_of_trees}
use Rattle.node_words.proofs.OfShapes.TreeEqual.{Name-discrete}
use Rattle.node_words.proofs.OfShapes.TreeLaws.{gone_from_root}
use Rattle.node_words.proofs.OfShapes.WeightLaws.{weigh-cons, weight_of-there, weight_below-part}
use Rattle.node_words.specs.declared.keys.Key as keys
use Rattle.node_words.specs.declared.keys.Key.TheVariants.{Leaf, Node}
use Rattle.node_words.specs.Keys.{bucket_of_key}
use Rattle.node_words.specs.Plans.{Layout}
use Rattle.node_words.specs.Held.{IsHeld}
use Rattle.node_words.proofs.PlanLaws.{few_buckets}
use Rattle.core_laws.specs.places.KeyWords.{key_word, FitsHalf, IsKeyAt}
use Rattle.core_laws.specs.places.Names.{IsName, named, key_bits, key_child}
use Rattle.core_laws.specs.places.WordIds.{WordId, buckets_at, Sessions}
use Rattle.core_laws.proofs.OfPlaces.KeyLaws.{key_back, words_key}
use Rattle.core_laws.specs.States.{State, IsLive, tree_at, tree_of, shape_in}
use Rattle.core_laws.specs.Soundness.{SoundEntries, FitsLevel}
use Rattle.core_laws.specs.Events.{Trades, Adds, adds, one_name, children_named}
use Rattle.core_laws.proofs.Lives.{child_lives, child_level}
use Rattle.core_laws.proofs.Trees.{node_at-same}
use Rattle.core_laws.proofs.EntrySteps.{add_entries, add_keys}
use Rattle.core_laws.proofs.StepLaws.{tree_kept}
use Rattle.core_laws.proofs.SeenNodes.{gone_tree, leaf_tree, node_tree}
use Rattle.core_laws.proofs.Bounds.{missing_in_bucket}
use Rattle.table_rule.specs.Reading.{Wrote, book_of}
use Rattle.table_rule.proofs.Readings.{traded, adds_book}
use Rattle.table_rule.specs.Views.{SeatView, bucket_of, key_word_id, known_at, names_held}
use Rattle.table_rule.specs.TurnRules.{used_of}
use Rattle.table_rule.specs.Knowing.{all_made}
use Rattle.table_rule.specs.LogWords.{log_in}
use Rattle.table_rule.specs.Rules.{KeepsRule, table_state, MayWrite}
use Rattle.table_rule.proofs.Standings.{standing_at}
use Rattle.table_rule.proofs.PartC.{made_here}
use Rattle.table_rule.proofs.Containing.{contains_more}
use Rattle.table_rule.proofs.StateSteps.{ruled_step}
use Rattle.table_rule.proofs.LogKept.{same_log}
use Rattle.table_rule.specs.Changes.{making, IsUsed, HasKeyWords, PassesEntry, PassesBelow, tree_for, Published}
use Rattle.table_rule.proofs.Shares.{take_row, held_cons}
use Rattle.table_rule.proofs.Books.{book_log, kept_held, by_name, weigh_names, by_root, children_weigh, book_turns}

-- a key of an entry's level whose children words can say
key_fits : (level : ℕ) (key : keys.Key) → FitsLevel level key
    → ((k : ℕ) → k < 8 → FitsHalf (level - 1) (key_child key k)) → IsKeyAt level key
key_fits zero (Leaf bits) fits halves = refl
key_fits zero (Node children) fits halves = absurd fits
key_fits (suc level) (Leaf bits) fits halves = absurd fits
key_fits (suc level) (Node children) fits halves =
    record { above = omega arith; eight = fits.0; each = halves }

root_for : (n : Name) (key : keys.Key) (row : ℕ → Tree) → root_of (tree_for n key row) ≡ Some n
root_for n (Leaf bits) row = refl
root_for n (Node children) row = refl

-- what a new entry needs
pub record MayPublish (p : Layout) (v : SeatView) (n : Name) (key : keys.Key)
    (row : ℕ → Tree) : Type 0 where
  pub turn : v.turn ≡ Some (bucket_of n)
  pub slot : n.slot < p.cap
  pub free : known_at (book_of n) v.words ≡ Some 0
  pub used : IsUsed v.words n
  pub has_key : HasKeyWords v.words key n
  pub fits : FitsLevel n.level key
  pub bucket : n.bucket ≡ bucket_of_key key (buckets_at p n.level)
  pub missing : PassesBelow v.words key (bucket_of n) p.cap
  pub names : (k : ℕ) → k < 8 → root_of (row k) ≡ key_child key k
  pub held : (f : Tree → ℕ) → weight_below f row 8 ≤ weigh f v.held
  pub room : number_of_trees v.held ≤ 4095

-- the tree of the new entry, where its children stand
tree_new : (p : Layout) (c : State) (level : ℕ) (n : Name) (key : keys.Key) (row : ℕ → Tree)
    → n.level ≡ level → FitsLevel n.level key → c.key n ≡ key
    → ((k : ℕ) → k < 8 → root_of (row k) ≡ key_child key k)
    → ((k : ℕ) (m : Name) → k < 8 → key_child key k ≡ Some m → tree_of c m ≡ row k)
    → tree_of c n ≡ tree_for n key row
tree_new p c zero n (Leaf bits) row of fits is names stand = leaf_tree c.key n.level n of
    ∙ ap (λ (k : keys.Key). LeafAt n (key_bits k)) is
tree_new p c zero n (Node children) row of fits is names stand =
    absurd (subst (λ (l : ℕ). FitsLevel l (Node children)) of fits)
tree_new p c (suc level) n (Leaf bits) row of fits is names stand =
    absurd (subst (λ (l : ℕ). FitsLevel l (Leaf bits)) of fits)
tree_new p c (suc level) n (Node cs) row of fits is names stand =
    node_tree c.key n.level level n of
    ∙ ap (λ (k : keys.Key). node_at n (λ j. tree_at c.key level (key_child k j))) is
    ∙ node_at-same n (λ j. tree_at c.key level (key_child (Node cs) j)) row
    (λ k lt. at_child k lt (key_child (Node cs) k) refl)
  where
    at_child : (k : ℕ) → k < 8 → (o : Option Name) → key_child (Node cs) k ≡ o
        → tree_at c.key level o ≡ row k
    at_child k lt None e = gone_tree c.key level ∙ sym (gone_from_root (row k) (names k lt ∙ e))
    at_child k lt (Some m) e =
        let lower = child_level n.level (Node cs) m k fits lt e in
        let same : level ≡ m.level = omega arith in
        ap (λ (l : ℕ). tree_at c.key l (Some m)) same ∙ stand k m lt e

module _ (p : Layout) (models : List Content) (old : WordId → ℕ) (views : List SeatView) (seat : ℕ)
    (v : SeatView) (n : Name) (key : keys.Key) (row : ℕ → Tree) (r : KeepsRule p models old views)
    (at : slice_get views seat ≡ Some v) (may : MayPublish p v n key row) where
  abbrev c : State
  c = table_state p old views

  name : IsName p n
  name = let t = (r.turns.turn seat v at (bucket_of n) may.turn).0 in
      record { level_in = t.0; bucket_in = t.1; slot_in = may.slot }

  -- the tree of each child stands
  child_stands : (k : ℕ) (m : Name) → k < 8 → key_child key k ≡ Some m → IsLive p c m
      × (tree_of c m ≡ row k)
  child_stands k m lt e =
      let root : root_of (row k) ≡ Some m = may.names k lt ∙ e in
      let held : IsHeld v.held (row k) =
      record {
        weighs =
            λ f. (let a = weight_of-there f (row k) m root in
            let b = weight_below-part f row k 8 lt in let h = may.held f in omega arith);
      } in
      standing_at p c (row k) m (inr (r.knows.held seat v at (row k) held)) root

  half_fits : (k : ℕ) → k < 8 → (o : Option Name) → key_child key k ≡ o → FitsHalf (n.level - 1) o
  half_fits k lt None e = record { is_child = tt; low = omega arith }
  half_fits k lt (Some m) e =
      let live = (child_stands k m lt e).0.name in
      let lower = child_level n.level key m k may.fits lt e in
      let slot = live.slot_in in let cap = r.plan.cap_high in let bucket = live.bucket_in in
      let few = few_buckets p m.level r.plan in
      record { is_child = (omega arith, omega arith); low = omega arith }

  key_is : c.key n ≡ key
  key_is = words_key n.level key (λ i. old (key_word_id n i))
      (key_fits n.level key may.fits (λ k lt. half_fits k lt (key_child key k) refl))
      (λ i lt. r.turns.known seat v at (bucket_of n) (key_word_id n i) (key_word key i) may.turn
      (refl, refl) (may.has_key.each i lt))

  -- no live entry of the level has the key
  passed : (m : Name) → m.level ≡ n.level → m.bucket ≡ n.bucket → PassesEntry v.words key m
      → 0 < old (book_of m) → c.key m ≢ key
  passed m level bucket (inl free) some e =
      (let z = r.turns.known seat v at (bucket_of n) (book_of m) 0 may.turn (level, bucket) free in
      absurd (omega arith))
  passed m level bucket (inr other) some e =
      let word =
      r.turns.known seat v at (bucket_of n)
      (key_word_id m other.word) other.found may.turn (level, bucket) other.known in
      other.other
      (sym word ∙ sym (key_back m.level (λ j. old (key_word_id m j)) other.word other.inside)
      ∙ ap (λ (k : keys.Key). key_word k other.word) e)

  none_has : (m : Name) → IsLive p c m → m.level ≡ n.level → c.key m ≢ key
  none_has m live level = missing_in_bucket p c n.level key r.sound.entries
      (λ slot lt some. subst
      (λ (b : ℕ). 0 < old (book_of (named n.level b slot))
      → c.key (named n.level b slot) ≢ key) may.bucket
      (passed (named n.level n.bucket slot) refl refl (may.missing.each slot lt)) some)
      m live level

  -- the step itself, where the children leave these trees
  module _ (rest : List Tree)
      (weighs : (f : Tree → ℕ) → weight_below f row 8 + weigh f rest ≡ weigh f v.held) where
    abbrev tree : Tree
    tree = tree_for n key row

    abbrev w : SeatView
    w = making v n (tree ∷ rest) (shape_of tree)

    gains_name : (f : Name → ℕ)
        → sum_by f (names_held w) + children_named key f ≡ sum_by f (names_held v) + f n
    gains_name f =
        let a = weigh_names f v in let b = weigh_names f w in let e = weighs (by_name f) in
        let s = by_root f tree n (root_for n key row) in
        let t = weigh-cons (by_name f) tree rest in let k = children_weigh f key row may.names in
        omega arith

    gives_children : (f : Name → ℕ) → children_named key f ≤ sum_by f (names_held v)
    gives_children f = let a = weigh_names f v in let e = may.held (by_name f) in
        let k = children_weigh f key row may.names in omega arith

    module _ (new : WordId → ℕ) (wrote : Wrote old (book_of n) 1 new) where
      abbrev d : State
      d = table_state p new (set views seat w)

      pub adds_entry : Adds p seat n key c d
      adds_entry =
          let none : old (book_of n) ≡ 0 =
          r.turns.known seat v at (bucket_of n) (book_of n) 0 may.turn (refl, refl) may.free in
          let trade : Trades (map names_held views) seat (children_named key) (one_name n)
          (map names_held (set views seat w)) =
          traded names_held views seat v w (children_named key) (one_name n) at gives_children
          gains_name in
          adds_book p (log_in p) old new (map names_held views) (map names_held (set views seat w))
          seat n key name none wrote key_is may.fits may.bucket none_has trade

      sound' : SoundEntries p d
      sound' = add_entries p seat n key c d r.sound.entries adds_entry

      new_live : IsLive p d n
      new_live = record { name = name; book = (let b = adds_entry.book in omega arith) }

      new_tree : tree_of d n ≡ tree
      new_tree =
          tree_new p d n.level n key row refl may.fits adds_entry.new_key may.names (λ k m lt e. (
          let s = child_stands k m lt e in
          let live : IsLive p d m =
          child_lives p d n m k sound' new_live lt
          (ap (λ (x : keys.Key). key_child x k) adds_entry.new_key ∙ e) in
          tree_kept p c d m r.sound.entries sound' (add_keys p seat n key c d adds_entry) s.0 live
          ∙ s.1))

      new_or_old : (m : Name) → IsLive p d m
          → IsLive p c m ⊎ Contains (all_made (set views seat w)) (shape_in d m)
      new_or_old m live = elim (Name-discrete m n) [
        | yes same ↦
            inr (made_here views seat v w (shape_in d m) at
            (0, omega arith, sym (ap (λ (x : Name). shape_in d x) same ∙ ap shape_of new_tree)))
        | no other ↦
            inl (record {
              name = live.name;
              book = (let e = adds_entry.others.book m live.name other in let b = live.book in
                  omega arith);
            })
      ]

      in_used : n.slot < old (used_of (bucket_of n))
      in_used =
          let known =
          r.turns.known seat v at (bucket_of n) (used_of (bucket_of n)) may.used.number may.turn
          (refl, refl) may.used.known in let low = may.used.inside in omega arith

      pub published : KeepsRule p models new (set views seat w)
      published =
          ruled_step p models old new views seat v w r at
          (book_turns p models old new views seat v w r at n 1 may.turn wrote (inr in_used) refl
          refl refl refl refl) (adds n key adds_entry)
          (book_log old new n 1 wrote) (wrote.others Sessions (λ e. (let no : ⊥ = cc in no)))
          (same_log v w refl refl)
          (record {
            plan = refl;
            same_models = refl;
            alive = λ e. e;
            grew = record { made = λ s h. contains_more (shape_of tree) v.made s h };
            held = λ u h. ⊎_elim
                (λ e. inr (record { name = n; live = new_live; tree = new_tree ∙ sym e }))
                (λ o. inl
                (r.knows.held seat v at u
                (kept_held v.held rest u (λ f. (let e = weighs f in omega arith)) o)))
                (held_cons tree u rest h);
            few = (let e = weighs (λ _. 1) in let a = weigh-cons (λ _. 1) tree rest in
                let m = may.room in omega arith);
            made = new_or_old;
            met = λ m h. inl h;
          })

pub publishes : (p : Layout) (seat : ℕ) (v : SeatView) (n : Name) (key : keys.Key) (row : ℕ → Tree)
    → MayPublish p v n key row
    → MayWrite p seat v (book_of n) (λ _. 1) (Adds p seat n key) (λ _ w. Published v n key row w)
publishes p seat v n key row may models old views r at =
    let all = take_row v.held row 8 may.held in
    let t : Tree = tree_for n key row in
    record {
      view = making v n (t ∷ all.rest) (shape_of t);
      rule = λ new wrote. published p models old views seat v n key row r at may all.rest
          all.weighs new wrote;
      event = λ new wrote. adds_entry p models old views seat v n key row r at may all.rest
          all.weighs new wrote;
      same = record { alive = refl; plan = refl; models = refl; numbers = refl };
      told = record {
        held = t ∷ all.rest;
        weighs = λ f. (let a = weigh-cons f t all.rest in let e = all.weighs f in omega arith);
        is = refl;
      };
    }
