-- Steps that write a book, each one event of the store.
use Rattle.std.proofs.Common.{◌≡◌, ◌⊎◌, ℕ, zero, suc, ◌+◌, ◌<◌, ◌≤◌, Option, Some, None, List, ◌∷◌, ◌++◌, set, refl, sym, ap, ◌∙◌, subst, ⊎_elim, inl, inr, arith, sum_by}
use Rattle.std.specs.Prelude.{map}
use Rattle.std.specs.List.{slice_get, Contains}
use Rattle.core_laws.specs.Sums.{sum_below}
use Rattle.vox_read.specs.Contents.{Content}
use Rattle.node_words.specs.declared.shapes.names.Name.{Name}
use Rattle.node_words.specs.shapes.Tree.{Tree, root_of, child_of}
use Rattle.node_words.specs.shapes.Weights.{weigh, weight_of, weight_below, number_of_trees}
use Rattle.node_words.proofs.OfShapes.TreeEqual.{Name-discrete}
use Rattle.node_words.proofs.OfShapes.TreeLaws.{child_of-node_at}
use Rattle.node_words.proofs.OfShapes.WeightLaws.{weigh-cons, weigh-append, weight_of-there, weight_of-gone, weight_below-one}
use Rattle.node_words.specs.declared.keys.Key as keys
use Rattle.node_words.specs.declared.keys.Key.TheVariants.{Leaf, Node}
use Rattle.node_words.specs.Plans.{Layout}
use Rattle.node_words.specs.Held.{IsHeld, most_before_freeing}
use Rattle.core_laws.specs.places.Names.{key_child}
use Rattle.core_laws.specs.places.WordIds.{WordId, LogTurn, LogLength, Version, Sessions}
use Rattle.core_laws.proofs.OfPlaces.KeyLaws.{key_back}
use Rattle.core_laws.specs.States.{State, IsLive, tree_at, tree_of}
use Rattle.core_laws.specs.LiveTrees.{IsLiveTree, IsLiveOrGone}
use Rattle.core_laws.specs.Soundness.{FitsLevel}
use Rattle.core_laws.specs.Counting.{weight, children_weight}
use Rattle.core_laws.specs.Events.{Trades, StoreStep, Raises, Lowers, Frees, OthersStay, raises, lowers, frees, no_weight, one_name, children_named}
use Rattle.core_laws.proofs.SeenNodes.{leaf_tree, node_tree}
use Rattle.table_rule.specs.Reading.{name_or, Wrote, book_of}
use Rattle.table_rule.proofs.Readings.{traded, raises_book, lowers_book, frees_book}
use Rattle.table_rule.specs.Views.{SeatView, bucket_of, key_word_id, known_at, names_held}
use Rattle.table_rule.specs.TurnRules.{used_of, KeepsTurns}
use Rattle.table_rule.specs.LogWords.{log_in}
use Rattle.table_rule.specs.Rules.{KeepsRule, table_state, MayWrite}
use Rattle.table_rule.proofs.Lookups.{get_set_same}
use Rattle.table_rule.proofs.Standings.{root_at, standing_at, standing_child}
use Rattle.table_rule.proofs.TellingLaw.{word_of_tree}
use Rattle.table_rule.proofs.PartA.{word_step}
use Rattle.table_rule.proofs.PartC.{names_weigh}
use Rattle.table_rule.proofs.StateSteps.{ruled_step}
use Rattle.table_rule.proofs.LogReading.{LogStays}
use Rattle.table_rule.proofs.LogKept.{same_log}
use Rattle.table_rule.specs.Changes.{holding, Raised, Lowered, Freed}
use Rattle.table_rule.proofs.Freeing.{written, is_written, freed_unheld}
use Rattle.table_rule.proofs.Unused.{unused_book, used_where_live}
use Rattle.table_rule.proofs.Shares.{take_one, held_cons, held_append, row_list, row_list-weighs, row_held}

pub book_log : (old new : WordId → ℕ) (n : Name) (k : ℕ) → Wrote old (book_of n) k new
    → LogStays old new
book_log old new n k wrote =
    record {
      turn = wrote.others LogTurn (λ e. (let no : ⊥ = cc in no));
      length = wrote.others LogLength (λ e. (let no : ⊥ = cc in no));
      version = λ u i. wrote.others (Version u i) (λ e. (let no : ⊥ = cc in no));
    }

-- a tree of the rest is one of the list
pub kept_held : (held rest : List Tree) (u : Tree) → ((f : Tree → ℕ) → weigh f rest ≤ weigh f held)
    → IsHeld rest u → IsHeld held u
kept_held held rest u less h =
    record { weighs = λ f. (let a = less f in let b = h.weighs f in omega arith) }

-- by the names of trees
pub by_name : (Name → ℕ) → Tree → ℕ
by_name f t = f (name_or (root_of t))

pub weigh_names : (f : Name → ℕ) (v : SeatView) → sum_by f (names_held v) ≡ weigh (by_name f) v.held
unfolding by_name
weigh_names f v = names_weigh f v.held

pub by_root : (f : Name → ℕ) (t : Tree) (n : Name) → root_of t ≡ Some n → by_name f t ≡ f n
unfolding by_name
by_root f t n e = ap (λ o. f (name_or o)) e

pub child_weighs : (f : Name → ℕ) (o : Option Name) (t : Tree) → root_of t ≡ o
    → weight f o ≡ weight_of (by_name f) t
child_weighs f None t e = sym (weight_of-gone (by_name f) t e)
child_weighs f (Some n) t e = sym (weight_of-there (by_name f) t n e ∙ by_root f t n e)

row_sum : (h : ℕ → ℕ) (f : Tree → ℕ) (row : ℕ → Tree) (n : ℕ)
    → ((k : ℕ) → k < n → h k ≡ weight_of f (row k)) → sum_below n h ≡ weight_below f row n
unfolding sum_below
row_sum h f row zero same = refl
row_sum h f row (suc n) same = let below = row_sum h f row n (λ k lt. same k (omega arith)) in
    let last = same n (omega arith) in omega arith

pub children_weigh : (f : Name → ℕ) (key : keys.Key) (row : ℕ → Tree)
    → ((k : ℕ) → k < 8 → root_of (row k) ≡ key_child key k)
    → children_named key f ≡ weight_below (by_name f) row 8
unfolding children_weight
children_weigh f key row names =
    row_sum (λ k. weight f (key_child key k))
    (by_name f) row 8 (λ k lt. child_weighs f (key_child key k) (row k) (names k lt))

module _ (p : Layout) (models : List Content) (old new : WordId → ℕ) (views : List SeatView)
    (seat : ℕ) (v w : SeatView) (r : KeepsRule p models old views)
    (at : slice_get views seat ≡ Some v) where
  abbrev pub c : State
  c = table_state p old views

  abbrev pub d : State
  d = table_state p new (set views seat w)

  -- Part A where the book of n is written under its turn, in a used slot or with 0
  pub book_turns : (n : Name) (k : ℕ) → v.turn ≡ Some (bucket_of n) → Wrote old (book_of n) k new
      → (k ≡ 0) ⊎ (n.slot < old (used_of (bucket_of n))) → w.numbers ≡ v.numbers → w.right ≡ v.right
      → w.next ≡ v.next → w.turn ≡ v.turn
      → w.words ≡ (book_of n, k) ∷ v.words → KeepsTurns p new (set views seat w)
  book_turns n k has wrote used numbers right next turn words =
      word_step p old views r.turns seat v at new w
      (record { numbers = numbers; right = right; next = next })
      (wrote.others Sessions (λ e. (let no : ⊥ = cc in no))) (bucket_of n)
      (book_of n) k has (refl, refl) wrote turn words
      (unused_book old new n k wrote used r.turns.unused)

  -- the rule where a book is written and no entry is new
  book_ruled : (n : Name) (k : ℕ) → v.turn ≡ Some (bucket_of n) → Wrote old (book_of n) k new
      → (k ≡ 0) ⊎ (n.slot < old (used_of (bucket_of n))) → StoreStep p seat c d
      → ((m : Name) → IsLive p d m → IsLive p c m) → (held : List Tree)
      → w ≡ holding v n k held → ((t : Tree) → IsHeld held t → IsLiveTree p c t)
      → number_of_trees held ≤ 4096 → KeepsRule p models new (set views seat w)
  book_ruled n k has wrote used step before held is stands few =
      ruled_step p models old new views seat v w r at
      (book_turns n k has wrote used (ap (λ (x : SeatView). x.numbers) is)
      (ap (λ (x : SeatView). x.right) is) (ap (λ (x : SeatView). x.next) is)
      (ap (λ (x : SeatView). x.turn) is) (ap (λ (x : SeatView). x.words) is))
      step (book_log old new n k wrote) (wrote.others Sessions (λ e. (let no : ⊥ = cc in no)))
      (same_log v w (ap (λ (x : SeatView). x.numbers) is) (ap (λ (x : SeatView). x.log) is))
      (record {
        plan = ap (λ (x : SeatView). x.plan) is;
        same_models = ap (λ (x : SeatView). x.models) is;
        alive = λ e. sym (ap (λ (x : SeatView). x.alive) is) ∙ e;
        grew = record { made = λ s h. subst (λ (x : SeatView). Contains x.made s) (sym is) h };
        held = λ t h. inl (stands t (subst (λ (x : SeatView). IsHeld x.held t) is h));
        few = subst (λ (x : SeatView). number_of_trees x.held ≤ 4096) (sym is) few;
        made = λ m live. inl (before m live);
        met = λ m h. inl (subst (λ (x : SeatView). Contains x.met m) is h);
      })

-- who is live after the book of a live entry was written, was live
still_live : (p : Layout) (c d : State) (n : Name) → OthersStay p n c d → IsLive p c n → (m : Name)
    → IsLive p d m → IsLive p c m
still_live p c d n others live m now = elim (Name-discrete m n) [
  | yes same ↦ subst (λ (x : Name). IsLive p c x) (sym same) live
  | no other ↦
      record {
        name = now.name;
        book = (let e = others.book m now.name other in let b = now.book in omega arith);
      }
]

-- a share comes
pub raises_share : (p : Layout) (seat : ℕ) (v : SeatView) (n : Name) (book : ℕ)
    → v.turn ≡ Some (bucket_of n) → n.slot < p.cap → known_at (book_of n) v.words ≡ Some book
    → 0 < book → number_of_trees v.held ≤ 4095
    → MayWrite p seat v (book_of n) (λ _. book + 1) (Raises p seat n)
    (λ _ w. Raised v n (book + 1) w)
raises_share p seat v n book has low known some room models old views r at =
    let c : State = table_state p old views in
    let turn = (r.turns.turn seat v at (bucket_of n) has).0 in
    let was : old (book_of n) ≡ book =
    r.turns.known seat v at (bucket_of n) (book_of n) book has (refl, refl) known in
    let live : IsLive p c n =
    record {
      name = record { level_in = turn.0; bucket_in = turn.1; slot_in = low };
      book = omega arith;
    } in
    let t : Tree = tree_of c n in
    let w : SeatView = holding v n (book + 1) (t ∷ v.held) in
    let root : root_of t ≡ Some n = root_at c.key n.level (Some n) in
    let trade : Trades (map names_held views) seat no_weight (one_name n)
    (map names_held (set views seat w)) =
    traded names_held views seat v w no_weight (one_name n) at (λ f. omega arith)
    (λ f. (let a = weigh_names f v in let b = weigh_names f w in
    let e = weigh-cons (by_name f) t v.held in let s = by_root f t n root in omega arith)) in
    let step : (new : WordId → ℕ) → Wrote old (book_of n) (book + 1) new
    → Raises p seat n c (table_state p new (set views seat w)) =
    λ new wrote. raises_book p (log_in p) old new (map names_held views)
    (map names_held (set views seat w)) seat n live.name live.book
    (record { here = (let h = wrote.here in omega arith); others = wrote.others }) trade in
    record {
      view = w;
      event = step;
      rule = λ new wrote.
          book_ruled p models old new views seat v w r at n (book + 1) has wrote
          (inr (used_where_live old n r.turns.unused live.book))
          (raises n (step new wrote))
          (still_live p c (table_state p new (set views seat w)) n (step new wrote).others live)
          (t ∷ v.held) refl
          (λ u h. ⊎_elim (λ e. record { name = n; live = live; tree = sym e })
          (λ o. r.knows.held seat v at u o) (held_cons t u v.held h))
          (let a = weigh-cons (λ _. 1) t v.held in omega arith);
      same = record { alive = refl; plan = refl; models = refl; numbers = refl };
      told = record {
        tree = t;
        root = root;
        words = λ i k lt is.
            sym (r.turns.known seat v at (bucket_of n) (key_word_id n i) k has (refl, refl) is)
            ∙ sym (key_back n.level (λ j. old (key_word_id n j)) i lt)
            ∙ word_of_tree c n.level n i refl (r.sound.entries.fits n live) lt;
        is = refl;
      };
    }

-- what is held loses one
loses_one : (f : Name → ℕ) (v w : SeatView) (t : Tree) (n : Name) → root_of t ≡ Some n
    → ((g : Tree → ℕ) → weigh g v.held ≡ g t + weigh g w.held)
    → sum_by f (names_held w) + f n ≡ sum_by f (names_held v)
loses_one f v w t n root weighs = let a = weigh_names f v in let b = weigh_names f w in
    let e = weighs (by_name f) in let s = by_root f t n root in omega arith

holds_one : (f : Name → ℕ) (v : SeatView) (t : Tree) (n : Name) → root_of t ≡ Some n
    → IsHeld v.held t → f n ≤ sum_by f (names_held v)
holds_one f v t n root h = let a = weigh_names f v in let e = h.weighs (by_name f) in
    let s = by_root f t n root in omega arith

-- a share goes
pub lowers_share : (p : Layout) (seat : ℕ) (v : SeatView) (t : Tree) (n : Name) (book : ℕ)
    → v.turn ≡ Some (bucket_of n) → IsHeld v.held t → root_of t ≡ Some n
    → known_at (book_of n) v.words ≡ Some (book + 1) → 0 < book
    → MayWrite p seat v (book_of n) (λ _. book) (Lowers p seat n) (λ _ w. Lowered v t n book w)
lowers_share p seat v t n book has held root known some models old views r at =
    let c : State = table_state p old views in
    let was : old (book_of n) ≡ book + 1 =
    r.turns.known seat v at (bucket_of n) (book_of n) (book + 1) has (refl, refl) known in
    let stands = standing_at p c t n (inr (r.knows.held seat v at t held)) root in
    let rest = take_one v.held t held in
    let w : SeatView = holding v n book rest.rest in
    let trade : Trades (map names_held views) seat (one_name n) no_weight
    (map names_held (set views seat w)) =
    traded names_held views seat v w (one_name n) no_weight at (λ f. holds_one f v t n root held)
    (λ f. (let all = loses_one f v w t n root rest.weighs in omega arith)) in
    let step : (new : WordId → ℕ) → Wrote old (book_of n) book new
    → Lowers p seat n c (table_state p new (set views seat w)) =
    λ new wrote. lowers_book p (log_in p) old new (map names_held views)
    (map names_held (set views seat w)) seat book n stands.0.name was some wrote trade in
    record {
      view = w;
      event = step;
      rule = λ new wrote.
          book_ruled p models old new views seat v w r at n book has wrote
          (inr (used_where_live old n r.turns.unused (omega arith)))
          (lowers n (step new wrote))
          (still_live p c (table_state p new (set views seat w)) n (step new wrote).others stands.0)
          rest.rest refl
          (λ u h. r.knows.held seat v at u (kept_held v.held rest.rest u
          (λ f. (let e = rest.weighs f in omega arith)) h))
          (let e = rest.weighs (λ _. 1) in let f = r.knows.few seat v at in omega arith);
      same = record { alive = refl; plan = refl; models = refl; numbers = refl };
      told = record { held = rest.rest; weighs = rest.weighs; is = refl };
    }

-- the children of a node's tree are those of its key
tree_names : (c : State) (level : ℕ) (n : Name) (k : ℕ) → n.level ≡ level
    → FitsLevel n.level (c.key n) → k < 8
    → root_of (child_of (tree_of c n) k) ≡ key_child (c.key n) k
tree_names c zero n k of fits lt =
    ap (λ (t : Tree). root_of (child_of t k)) (leaf_tree c.key n.level n of)
    ∙ sym (no_child n.level (c.key n) k of fits)
  where
    no_child : (level : ℕ) (key : keys.Key) (k : ℕ) → level ≡ 0 → FitsLevel level key
        → key_child key k ≡ None
    no_child level (Leaf bits) k e fits = refl
    no_child level (Node children) k e fits =
        absurd (subst (λ (l : ℕ). FitsLevel l (Node children)) e fits)
tree_names c (suc level) n k of fits lt =
    ap (λ (t : Tree). root_of (child_of t k)) (node_tree c.key n.level level n of)
    ∙ ap root_of (child_of-node_at n (λ j. tree_at c.key level (key_child (c.key n) j)) k lt)
    ∙ root_at c.key level (key_child (c.key n) k)

-- what is held loses one and gains its children
frees_one : (f : Name → ℕ) (v w : SeatView) (t : Tree) (n : Name) (key : keys.Key)
    → root_of t ≡ Some n → ((k : ℕ) → k < 8 → root_of (child_of t k) ≡ key_child key k)
    → ((g : Tree → ℕ)
    → weigh g w.held + g t ≡ weight_below g (λ k. child_of t k) 8 + weigh g v.held)
    → sum_by f (names_held w) + f n ≡ sum_by f (names_held v) + children_named key f
frees_one f v w t n key root names weighs =
    let a = weigh_names f v in let b = weigh_names f w in let e = weighs (by_name f) in
    let s = by_root f t n root in let k = children_weigh f key (λ k. child_of t k) names in
    omega arith

-- a share goes, and the entry with it
pub frees_share : (p : Layout) (seat : ℕ) (v : SeatView) (t : Tree) (n : Name)
    → v.turn ≡ Some (bucket_of n) → IsHeld v.held t → root_of t ≡ Some n
    → known_at (book_of n) v.words ≡ Some 1 → number_of_trees v.held ≤ most_before_freeing
    → MayWrite p seat v (book_of n) (λ _. 0) (Frees p seat n) (λ _ w. Freed v t n w)
frees_share p seat v t n has held root known room models old views r at =
    let c : State = table_state p old views in
    let was : old (book_of n) ≡ 1 =
    r.turns.known seat v at (bucket_of n) (book_of n) 1 has (refl, refl) known in
    let stands = standing_at p c t n (inr (r.knows.held seat v at t held)) root in
    let rest = take_one v.held t held in
    let row : ℕ → Tree = λ k. child_of t k in
    let all : List Tree = row_list row 8 ++ rest.rest in
    let weighs : (f : Tree → ℕ)
    → weigh f all + f t ≡ weight_below f row 8 + weigh f v.held =
    λ f. (let a = weigh-append f (row_list row 8) rest.rest in
    let b = row_list-weighs f row 8 in let e = rest.weighs f in omega arith) in
    let w : SeatView = holding v n 0 all in
    let names : (k : ℕ) → k < 8 → root_of (row k) ≡ key_child (c.key n) k =
    λ k lt. subst (λ (u : Tree). root_of (child_of u k) ≡ key_child (c.key n) k) stands.1
    (tree_names c n.level n k refl (r.sound.entries.fits n stands.0) lt) in
    let trade : Trades (map names_held views) seat (one_name n) (children_named (c.key n))
    (map names_held (set views seat w)) =
    traded names_held views seat v w (one_name n) (children_named (c.key n)) at
    (λ f. holds_one f v t n root held) (λ f. frees_one f v w t n (c.key n) root names weighs) in
    let step : (new : WordId → ℕ) → Wrote old (book_of n) 0 new
    → Frees p seat n c (table_state p new (set views seat w)) =
    λ new wrote. frees_book p (log_in p) old new (map names_held views)
    (map names_held (set views seat w)) seat n stands.0.name was wrote trade in
    let rule : (new : WordId → ℕ) → Wrote old (book_of n) 0 new
    → KeepsRule p models new (set views seat w) =
    λ new wrote. book_ruled p models old new views seat v w r at n 0 has wrote (inl refl)
    (frees n (step new wrote))
    (still_live p c (table_state p new (set views seat w)) n (step new wrote).others stands.0)
    all refl
    (λ u h. ⊎_elim
    (λ l. (let k = row_held row 8 u l in
    let s = standing_child p c r.sound.entries t k.place
    (inr (r.knows.held seat v at t held)) in
    let q = standing_at p c u k.name (subst (IsLiveOrGone p c) (sym k.same) s) k.root in
    record { name = k.name; live = q.0; tree = q.1 }))
    (λ o. r.knows.held seat v at u (kept_held v.held rest.rest u
    (λ f. (let e = rest.weighs f in omega arith)) o))
    (held_append (row_list row 8) rest.rest u h))
    (let e = weighs (λ _. 1) in let o = weight_below-one row 8 in omega arith) in
    let now : WordId → ℕ = written old (book_of n) 0 in
    let wrote : Wrote old (book_of n) 0 now = is_written old (book_of n) 0 in
    let unheld = freed_unheld p models old now views (set views seat w) seat w t n r
    (rule now wrote) (step now wrote) wrote (get_set_same views seat w v at) stands.1 in
    record {
      view = w;
      event = step;
      rule = rule;
      same = record { alive = refl; plan = refl; models = refl; numbers = refl };
      told = record { held = all; weighs = weighs; unheld = unheld; is = refl };
    }
