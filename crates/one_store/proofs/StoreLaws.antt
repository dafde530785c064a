-- The steps of a store that change books keep it one.
use Rattle.std.proofs.Common.{◌≡◌, ℕ, ◌+◌, ◌-◌, ◌*◌, ◌≤◌, Some, Option, List, [], ◌∷◌, refl, sym, ◌∙◌, ap, subst, arith, inl, inr}
use Rattle.std.specs.Prelude.{All, length}
use Rattle.std.proofs.lemmas.Nat.{mul-le}
use Rattle.std.specs.List.{Contains}
use Rattle.node_words.specs.declared.shapes.names.Name.{Name}
use Rattle.node_words.specs.shapes.Shape.{Shape}
use Rattle.node_words.specs.shapes.Tree.{Tree, Gone, LeafAt, NodeAt, root_of, shape_of}
use Rattle.node_words.proofs.OfShapes.WeightLaws.{weigh-nil, weigh-cons}
use Rattle.node_words.specs.shapes.Weights.{number_of_trees, weigh}
use Rattle.node_words.specs.declared.keys.Key.{Key}
use Rattle.node_words.specs.Held.{IsHeld, HoldsName, Wanted}
use Rattle.node_words.specs.Plans.{Layout}
use Rattle.core_laws.specs.places.Names.{IsName}
use Rattle.core_laws.specs.places.WordIds.{levels}
use Rattle.core_laws.specs.States.{IsLive, tree_at, shape_in}
use Rattle.core_laws.specs.Counting.{weight, children_weight}
use Rattle.node_words.specs.Enough.{HasEnough}
use Rattle.core_laws.specs.Soundness.{SoundEntries}
use Rattle.core_laws.specs.LiveTrees.{AreLiveTrees}
use Rattle.core_laws.specs.Events.{Raises, Lowers, Frees, OthersStay, RootsStay, no_weight, one_name, children_named}
use Rattle.core_laws.proofs.EntrySteps.{raise_entries, lower_entries, free_entries, raise_keys, lower_keys, free_keys}
use Rattle.core_laws.proofs.Bounds.{book_small}
use Rattle.one_store.specs.entries.Words.{Written, book_in, key_in}
use Rattle.one_store.specs.entries.Changes.{SetsBook}
use Rattle.node_words.proofs.PlanLaws.{few_buckets}
use Rattle.one_store.specs.notes.Changes.{MakesNothing}
use Rattle.one_store.proofs.OfNotes.HeldLists.{held_gained, held_lost, held_parted}
use Rattle.one_store.specs.Known.{Known, IsStore, IsStoreOf, core_of, tree_in, trees_below, stored_root}
use Rattle.one_store.specs.Steps.{Moves, RaisesShare, LowersShare, FreesNode}
use Rattle.one_store.proofs.StateLaws.{root_weight, trade, tree_root, row_weighs, row_number, holdings-one, live_held, standing_at, stand_again, octant_stands, was_live_too}

-- what stays where one book changes
book_keys : (old new : Written) (n : Name) (book : ℕ) → SetsBook old n book new
    → key_in new ≡ key_in old
book_keys old new n book s = ap key_in s.keys

book_others : (p : Layout) (old new : Known) (n : Name) (book : ℕ) → p ≡ old.words.plan
    → SetsBook old.words n book new.words → OthersStay p n (core_of old) (core_of new)
book_others p old new n book e s = record {
  book = λ m i ne. s.others.each m (subst (λ (q : Layout). IsName q m) e i) ne;
  key = λ m l ne. ap (λ (k : Name → Key). k m) (book_keys old.words new.words n book s);
}

roots_stay : (old new : Known) → new.roots ≡ old.roots → RootsStay (core_of old) (core_of new)
roots_stay old new e v = ap (λ (r : List (Option Name)). stored_root r v) e

pub book_moves : (old new : Known) (n : Name) (book : ℕ) → SetsBook old.words n book new.words
    → new.roots ≡ old.roots → Moves old new
book_moves old new n book s r = record { words = s.keys; roots = r }

pub same_plan : (a b : Known) → Moves a b → b.words.plan ≡ a.words.plan
same_plan a b m = ap (λ (w : Written). w.plan) m.words

pub same_keys : (a b : Known) → Moves a b → key_in b.words ≡ key_in a.words
same_keys a b m = ap key_in m.words

-- a step that changes books alone keeps the store one
moved_store : (old new : Known) (number left : ℕ) → IsStore old number → Moves old new
    → MakesNothing old.told new.told → SoundEntries old.words.plan (core_of new)
    → AreLiveTrees old.words.plan (core_of new) new.told.held
    → ((m : Name) → IsLive old.words.plan (core_of new) m → IsLive old.words.plan (core_of old) m)
    → left ≡ number_of_trees new.told.held → IsStore new left
moved_store old new number left st m only sound stand was count =
    let p = old.words.plan in
    subst (λ (q : Layout). IsStoreOf q new left) (sym (same_plan old new m)) (record {
      plan = st.plan;
      sound = sound;
      stand = stand;
      number_is = count;
      listed = λ n l.
          subst (λ (made : List Shape). Contains made (shape_in (core_of new) n)) (sym only.made)
          (subst (λ (s : Shape). Contains old.told.made s)
          (ap (λ (k : Name → Key). shape_of (tree_at k n.level (Some n)))
          (sym (same_keys old new m))) (st.listed n (was n l)));
      enough =
          subst (λ (met : List Wanted). All (λ w. HasEnough p new.told.made w.level w.bucket) met)
          (sym only.met)
          (subst (λ (made : List Shape). All (λ w. HasEnough p made w.level w.bucket) old.told.met)
          (sym only.made) st.enough);
      places = ap (λ (r : List (Option Name)). length r) m.roots ∙ st.places;
      tops = λ place n e. st.tops place n
          (ap (λ (r : List (Option Name)). stored_root r place) (sym m.roots) ∙ e);
    })

-- a held name is live, and its tree is held
pub held_name : (v : Known) (number : ℕ) (n : Name) → IsStore v number → HoldsName v.told.held n
    → IsLive v.words.plan (core_of v) n
held_name v number n s h = live_held v.words.plan v h.tree n s.sound h.is_held h.root

pub held_is : (v : Known) (number : ℕ) (t : Tree) (n : Name) → IsStore v number
    → IsHeld v.told.held t → root_of t ≡ Some n → t ≡ tree_in v n
held_is v number t n s h e =
    sym (standing_at v.words.plan (core_of v) t n (inr (s.stand.each t h)) e).1

pub held_tree : (v : Known) (number : ℕ) (n : Name) → IsStore v number → HoldsName v.told.held n
    → IsHeld v.told.held (tree_in v n)
held_tree v number n s h =
    subst (λ t. IsHeld v.told.held t) (held_is v number h.tree n s h.is_held h.root) h.is_held

pub held_some : (v : Known) (number : ℕ) (n : Name) → IsStore v number → HoldsName v.told.held n
    → 1 ≤ number
held_some v number n s h = omega (arith, s.number_is, h.is_held.weighs (λ _. 1))

pub held_weighs : (v : Known) (n : Name) (f : Name → ℕ) → HoldsName v.told.held n
    → f n ≤ weigh (root_weight f) v.told.held
held_weighs v n f h =
    let same : root_weight f h.tree ≡ f n = ap (weight f) h.root in omega
    (arith, h.is_held.weighs (root_weight f), same)

pub tree_weighs : (v : Known) (n : Name) (f : Name → ℕ) → root_weight f (tree_in v n) ≡ f n
tree_weighs v n f = ap (weight f) (tree_root (key_in v.words) n.level n)

one_root : (t : Tree) → root_weight (λ _. 1) t ≤ 1
one_root Gone = omega arith
one_root (LeafAt n b) = omega arith
one_root (NodeAt n a b c d e f g h) = omega arith

ones_weigh : (ts : List Tree) → weigh (root_weight (λ _. 1)) ts ≤ number_of_trees ts
ones_weigh [] = omega (arith, weigh-nil (root_weight (λ _. 1)))
ones_weigh (t ∷ ts) =
    omega (
      arith,
      weigh-cons (root_weight (λ _. 1)) t ts,
      weigh-cons
          (λ _. 1) t ts,
      one_root t,
      ones_weigh ts,
    )

-- books are small
pub book_low : (v : Known) (number : ℕ) (n : Name) → IsStore v number
    → IsLive v.words.plan (core_of v) n → book_in v.words n ≤ 92340224 + number_of_trees v.told.held
book_low v number n s l =
    let p = v.words.plan in
    let small =
    book_small p (core_of v) n 4096 s.sound (λ level lt. few_buckets p level s.plan) l in
    let cap : p.cap * 8 ≤ 2048 = omega (arith, s.plan.cap_high) in
    let one : 4096 * (p.cap * 8) ≤ 8388608 = omega (arith, cap) in
    let all : levels p * (4096 * (p.cap * 8)) ≤ 11 * 8388608 =
    mul-le (levels p) (4096 * (p.cap * 8)) 11 8388608 (omega (arith, s.plan.side_high)) one in
    omega (arith, small, all, holdings-one (λ _. 1) v.told.held, ones_weigh v.told.held)

-- one more share
pub raise_event : (old new : Known) (n : Name) → IsLive old.words.plan (core_of old) n
    → RaisesShare old n new → Raises old.words.plan 0 n (core_of old) (core_of new)
raise_event old new n live r = record {
  live = live;
  book = r.words.book_is;
  key = ap (λ (k : Name → Key). k n) (book_keys old.words new.words n _ r.words);
  others = book_others old.words.plan old new n _ refl r.words;
  roots = roots_stay old new r.roots;
  held = trade old.told.held new.told.held no_weight (one_name n) (λ f. omega arith)
      (λ f. omega (arith, r.told.gains.weighs (root_weight f), tree_weighs old n f));
}

pub raise_store : (old new : Known) (n : Name) (number : ℕ) → IsStore old number
    → IsLive old.words.plan (core_of old) n → RaisesShare old n new → IsStore new (number + 1)
raise_store old new n number s live r =
    let p = old.words.plan in
    let event = raise_event old new n live r in
    let sound = raise_entries p 0 n (core_of old) (core_of new) s.sound event in
    let stand =
    stand_again p old new s.sound sound (raise_keys p 0 n (core_of old) (core_of new) event)
    (λ t h. elim (held_gained old.told.held new.told.held (tree_in old n) t r.told.gains h) [
      | inl e ↦ inl (record { name = n; live = live; tree = sym e })
      | inr i ↦ inl (s.stand.each t i)
    ]) in
    moved_store old new number (number + 1) s
    (book_moves old new n _ r.words r.roots) r.told.only sound stand
    (was_live_too p (core_of old) (core_of new) n live event.others.book)
    (omega (arith, s.number_is, r.told.gains.weighs (λ _. 1)))

-- one share less
pub lower_event : (old new : Known) (n : Name) (number : ℕ) → IsStore old number
    → HoldsName old.told.held n → 2 ≤ book_in old.words n → LowersShare old n new
    → Lowers old.words.plan 0 n (core_of old) (core_of new)
lower_event old new n number s h more r = record {
  name = (held_name old number n s h).name;
  left = omega (arith, r.words.book_is, more);
  book = omega (arith, r.words.book_is, more);
  key = ap (λ (k : Name → Key). k n) (book_keys old.words new.words n _ r.words);
  others = book_others old.words.plan old new n _ refl r.words;
  roots = roots_stay old new r.roots;
  held = trade old.told.held new.told.held (one_name n) no_weight (λ f. held_weighs old n f h)
      (λ f. omega (arith, r.told.loses.weighs (root_weight f), tree_weighs old n f));
}

pub lower_store : (old new : Known) (n : Name) (number : ℕ) → IsStore old number
    → HoldsName old.told.held n → 2 ≤ book_in old.words n → LowersShare old n new
    → IsStore new (number - 1)
lower_store old new n number s h more r =
    let p = old.words.plan in
    let event = lower_event old new n number s h more r in
    let sound = lower_entries p 0 n (core_of old) (core_of new) s.sound event in
    let stand =
    stand_again p old new s.sound sound (lower_keys p 0 n (core_of old) (core_of new) event)
    (λ t i. inl (s.stand.each t
    (held_lost old.told.held new.told.held (tree_in old n) t r.told.loses i))) in
    moved_store old new number (number - 1) s
    (book_moves old new n _ r.words r.roots) r.told.only sound stand
    (was_live_too p (core_of old) (core_of new) n (held_name old number n s h) event.others.book)
    (omega (arith, s.number_is, r.told.loses.weighs (λ _. 1)))

-- the last share goes
pub free_event : (old new : Known) (n : Name) (number : ℕ) → IsStore old number
    → HoldsName old.told.held n → book_in old.words n ≡ 1 → FreesNode old n new
    → Frees old.words.plan 0 n (core_of old) (core_of new)
free_event old new n number s h last r = record {
  name = (held_name old number n s h).name;
  last = last;
  book = r.words.book_is;
  others = book_others old.words.plan old new n _ refl r.words;
  roots = roots_stay old new r.roots;
  held = trade old.told.held new.told.held (one_name n) (children_named (key_in old.words n))
      (λ f. held_weighs old n f h)
      (λ f. omega (
        arith,
        r.told.parts.weighs (root_weight f),
        tree_weighs old n f,
        row_weighs f
            (key_in old.words) (n.level - 1) (key_in old.words n),
      ));
}

pub free_store : (old new : Known) (n : Name) (number children : ℕ) → IsStore old number
    → HoldsName old.told.held n → book_in old.words n ≡ 1
    → children ≡ children_weight (λ _. 1) (key_in old.words n) → FreesNode old n new
    → IsStore new (number - 1 + children)
free_store old new n number children s h last c r =
    let p = old.words.plan in
    let live = held_name old number n s h in
    let event = free_event old new n number s h last r in
    let sound = free_entries p 0 n (core_of old) (core_of new) s.sound event in
    let stand =
    stand_again p old new s.sound sound (free_keys p 0 n (core_of old) (core_of new) event)
    (λ t i. elim
    (held_parted old.told.held new.told.held (tree_in old n) t
    (trees_below (key_in old.words) (n.level - 1) (key_in old.words n)) r.told.parts i) [
      | inl o ↦ inl (octant_stands p (core_of old) n o.place t s.sound live o.below o.is o.there)
      | inr j ↦ inl (s.stand.each t j)
    ]) in
    moved_store old new number (number - 1 + children) s
    (book_moves old new n _ r.words r.roots) r.told.only sound stand
    (was_live_too p (core_of old) (core_of new) n live event.others.book)
    (omega (
      arith,
      s.number_is,
      r.told.parts.weighs (λ _. 1),
      row_number (key_in old.words)
          (n.level - 1) (key_in old.words n),
      c,
      held_some old number n s h,
    ))
