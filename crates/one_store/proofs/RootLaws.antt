-- Roots come to their places and leave them.
use Rattle.std.proofs.Common.{◌≡◌, ℕ, ◌+◌, ◌-◌, ◌<◌, Some, None, Option, List, length, set, refl, sym, ◌∙◌, ap, subst, arith, inl, inr, get_or-set_same, get_or-set_other}
use Rattle.std.specs.Prelude.{All}
use Rattle.std.specs.List.{Contains}
use Rattle.std.proofs.lemmas.Bool.{cases_eq}
use Rattle.std.proofs.lemmas.Option.{none-some, same_Some}
use Rattle.std.proofs.lemmas.List.{length-set}
use Rattle.node_words.specs.declared.shapes.names.Name.{Name}
use Rattle.node_words.specs.shapes.Shape.{Shape}
use Rattle.node_words.specs.shapes.Weights.{weight_of, number_of_trees}
use Rattle.node_words.proofs.OfShapes.WeightLaws.{weight_of-there}
use Rattle.node_words.specs.Held.{HoldsName, Wanted}
use Rattle.node_words.specs.Gathering.{Loses}
use Rattle.core_laws.specs.places.WordIds.{versions}
use Rattle.core_laws.specs.contents.Aligned.{top}
use Rattle.core_laws.specs.States.{IsLive, tree_at, shape_in}
use Rattle.core_laws.specs.Counting.{weight}
use Rattle.core_laws.specs.Events.{PutsRoot, TakesRoot, EntriesStay, no_weight, at_most_one}
use Rattle.node_words.specs.Enough.{HasEnough}
use Rattle.core_laws.specs.Soundness.{SoundEntries}
use Rattle.core_laws.specs.LiveTrees.{AreLiveTrees}
use Rattle.core_laws.proofs.EntrySteps.{put_root_entries, take_root_entries, keys_stay}
use Rattle.core_laws.proofs.Lives.{root_lives}
use Rattle.one_store.specs.entries.Words.{key_in}
use Rattle.one_store.specs.notes.StoreNotes.{StoreNotes}
use Rattle.one_store.specs.notes.Changes.{MakesNothing, NotesGain, NotesLoss}
use Rattle.one_store.proofs.OfNotes.HeldLists.{held_gained, held_lost}
use Rattle.one_store.specs.Known.{Known, IsStore, core_of, tree_in, stored_root, root_tree}
use Rattle.one_store.specs.Steps.{KeepsRoot, GivesRoot}
use Rattle.one_store.proofs.StateLaws.{root_weight, trade, tree_root, stand_again}
use Rattle.one_store.proofs.StoreLaws.{held_weighs, tree_weighs}
use Rattle.one_store.proofs.BackLaws.{released_none}

-- the store with other roots and notes
abbrev pub with_roots : Known → List (Option Name) → StoreNotes → Known
with_roots v roots told = record { words = v.words; roots = roots; told = told }

-- a step that changes roots and what is held keeps the store one
rooted_store : (old : Known) (roots : List (Option Name)) (told : StoreNotes) (number left : ℕ)
    → IsStore old number → MakesNothing old.told told
    → SoundEntries old.words.plan (core_of (with_roots old roots told))
    → AreLiveTrees old.words.plan (core_of (with_roots old roots told)) told.held
    → left ≡ number_of_trees told.held → length roots ≡ versions
    →
    ((place : ℕ) (n : Name) → stored_root roots place ≡ Some n → n.level
    ≡ top old.words.plan.side) → IsStore (with_roots old roots told) left
rooted_store old roots told number left st only sound stand count long tops =
    let p = old.words.plan in
    record {
      plan = st.plan;
      sound = sound;
      stand = stand;
      number_is = count;
      listed = λ n l. subst (λ (made : List Shape). Contains made (shape_in (core_of old) n))
          (sym only.made) (st.listed n (record { name = l.name; book = l.book }));
      enough =
          subst (λ (met : List Wanted). All (λ w. HasEnough p told.made w.level w.bucket) met)
          (sym only.met)
          (subst (λ (made : List Shape). All (λ w. HasEnough p made w.level w.bucket) old.told.met)
          (sym only.made) st.enough);
      places = long;
      tops = tops;
    }

entries_same : (old : Known) (roots : List (Option Name)) (told : StoreNotes)
    → EntriesStay old.words.plan (core_of old) (core_of (with_roots old roots told))
entries_same old roots told = record { book = λ m i. refl; key = λ m l. refl }

-- a root comes to its place
pub keep_event : (old : Known) (told : StoreNotes) (place : ℕ) (n : Name) (number : ℕ)
    → IsStore old number → place < versions → stored_root old.roots place ≡ None
    → HoldsName old.told.held n → NotesLoss old.told (tree_in old n) told
    → PutsRoot old.words.plan 0 place (Some n) (core_of old)
    (core_of (with_roots old (set old.roots place (Some n)) told))
keep_event old told place n number st lt none h t = record {
  in_range = lt;
  free = none;
  new_root = get_or-set_same old.roots place (Some n) None (omega (arith, lt, st.places));
  roots = λ v ne. get_or-set_other old.roots place v (Some n) None ne;
  entries = entries_same old (set old.roots place (Some n)) told;
  held = trade old.told.held told.held (at_most_one (Some n)) no_weight
      (λ f. held_weighs old n f h)
      (λ f. omega (arith, t.loses.weighs (root_weight f), tree_weighs old n f));
}

pub top_tree : (v : Known) (n : Name) → n.level ≡ top v.words.plan.side
    → root_tree v (Some n) ≡ tree_in v n
top_tree v n e = ap (λ (l : ℕ). tree_at (key_in v.words) l (Some n)) (sym e)

pub keeps_root : (old : Known) (told : StoreNotes) (place : ℕ) (n : Name) (number : ℕ)
    → IsStore old number → place < versions → n.level ≡ top old.words.plan.side
    → NotesLoss old.told (tree_in old n) told
    → KeepsRoot old place (Some n) (with_roots old (set old.roots place (Some n)) told)
keeps_root old told place n number st lt e t = record {
  words = refl;
  here = get_or-set_same old.roots place (Some n) None (omega (arith, lt, st.places));
  elsewhere = λ other ne. get_or-set_other old.roots place other (Some n) None ne;
  only = t.only;
  loses = record {
    weighs = λ f. omega (
      arith,
      t.loses.weighs f,
      ap (weight_of f) (top_tree old n e),
      weight_of-there f
          (tree_in old n) n (tree_root (key_in old.words) n.level n),
    );
  };
}

set_tops : (side : ℕ) (roots : List (Option Name)) (place at : ℕ) (n m : Name)
    → place < length roots → n.level ≡ top side
    → ((place : ℕ) (n : Name) → stored_root roots place ≡ Some n → n.level ≡ top side)
    → stored_root (set roots place (Some n)) at ≡ Some m → m.level ≡ top side
set_tops side roots place at n m lt e tops q = elim (cases_eq at place) [
  | inl same ↦
      (let here : stored_root (set roots place (Some n)) at
      ≡ Some n = ap (stored_root (set roots place (Some n))) same
      ∙ get_or-set_same roots place (Some n) None lt in
      ap (λ (x : Name). x.level) (sym (same_Some n m (sym here ∙ q))) ∙ e)
  | inr ne ↦ tops at m (sym (get_or-set_other roots place at (Some n) None ne) ∙ q)
]

pub keep_store : (old : Known) (told : StoreNotes) (place : ℕ) (n : Name) (number : ℕ)
    → IsStore old number → place < versions → stored_root old.roots place ≡ None
    → HoldsName old.told.held n → n.level ≡ top old.words.plan.side
    → NotesLoss old.told (tree_in old n) told
    → IsStore (with_roots old (set old.roots place (Some n)) told) (number - 1)
keep_store old told place n number st lt none h e t =
    let p = old.words.plan in
    let roots = set old.roots place (Some n) in
    let new : Known = with_roots old roots told in
    let event = keep_event old told place n number st lt none h t in
    let sound = put_root_entries p 0 place (Some n) (core_of old) (core_of new) st.sound event in
    let stand =
    stand_again p old new st.sound sound (keys_stay p (core_of old) (core_of new) event.entries)
    (λ u i. inl (st.stand.each u
    (held_lost old.told.held told.held (tree_in old n) u t.loses i))) in
    rooted_store old roots told number (number - 1) st t.only sound stand
    (omega (arith, st.number_is, t.loses.weighs (λ _. 1)))
    (length-set old.roots place (Some n) ∙ st.places)
    (λ at m q. set_tops p.side old.roots place at n m
    (omega (arith, lt, st.places)) e st.tops q)

-- no root comes to a place
pub keeps_none : (v : Known) (place : ℕ) → stored_root v.roots place ≡ None
    → KeepsRoot v place None v
keeps_none v place e = record {
  words = refl;
  here = e;
  elsewhere = λ other ne. refl;
  only = record { made = refl; met = refl };
  loses = (released_none v 0 (top v.words.plan.side)).loses;
}

pub none_event : (v : Known) (place : ℕ) → place < versions → stored_root v.roots place ≡ None
    → PutsRoot v.words.plan 0 place None (core_of v) (core_of v)
none_event v place lt e = record {
  in_range = lt;
  free = e;
  new_root = e;
  roots = λ other ne. refl;
  entries = record { book = λ m i. refl; key = λ m l. refl };
  held = trade v.told.held v.told.held (at_most_one None) no_weight (λ f. omega arith)
      (λ f. omega arith);
}

-- a root leaves its place
pub root_live : (v : Known) (number place : ℕ) (n : Name) → IsStore v number → place < versions
    → stored_root v.roots place ≡ Some n → IsLive v.words.plan (core_of v) n
root_live v number place n st lt e = root_lives v.words.plan (core_of v) place n st.sound lt e

pub take_event : (old : Known) (told : StoreNotes) (place : ℕ) (n : Name) (number : ℕ)
    → IsStore old number → place < versions → stored_root old.roots place ≡ Some n
    → NotesGain old.told (tree_in old n) told
    → TakesRoot old.words.plan 0 place (core_of old)
    (core_of (with_roots old (set old.roots place None) told))
take_event old told place n number st lt e t = record {
  in_range = lt;
  no_root = get_or-set_same old.roots place None None (omega (arith, lt, st.places));
  roots = λ v ne. get_or-set_other old.roots place v None None ne;
  entries = entries_same old (set old.roots place None) told;
  held = trade old.told.held told.held no_weight (at_most_one (stored_root old.roots place))
      (λ f. omega arith)
      (λ f. omega (arith, t.gains.weighs (root_weight f), tree_weighs old n f, ap (weight f) e));
}

pub gives_root : (old : Known) (told : StoreNotes) (place : ℕ) (n : Name) (number : ℕ)
    → IsStore old number → place < versions → stored_root old.roots place ≡ Some n
    → NotesGain old.told (tree_in old n) told
    → GivesRoot old place (with_roots old (set old.roots place None) told)
gives_root old told place n number st lt e t = record {
  words = refl;
  here = get_or-set_same old.roots place None None (omega (arith, lt, st.places));
  elsewhere = λ other ne. get_or-set_other old.roots place other None None ne;
  only = t.only;
  gains = record {
    weighs = λ f. omega (
      arith,
      t.gains.weighs f,
      ap (λ (o : Option Name). weight_of f (root_tree old o)) e,
      ap
          (weight_of f) (top_tree old n (st.tops place n e)),
      weight_of-there f (tree_in old n) n
          (tree_root (key_in old.words) n.level n),
    );
  };
}

empty_tops : (side : ℕ) (roots : List (Option Name)) (place at : ℕ) (m : Name)
    → place < length roots
    → ((place : ℕ) (n : Name) → stored_root roots place ≡ Some n → n.level ≡ top side)
    → stored_root (set roots place None) at ≡ Some m → m.level ≡ top side
empty_tops side roots place at m lt tops q = elim (cases_eq at place) [
  | inl same ↦
      (let here : stored_root (set roots place None) at
      ≡ None = ap (stored_root (set roots place None)) same
      ∙ get_or-set_same roots place None None lt in absurd (none-some m (sym here ∙ q)))
  | inr ne ↦ tops at m (sym (get_or-set_other roots place at None None ne) ∙ q)
]

pub take_store : (old : Known) (told : StoreNotes) (place : ℕ) (n : Name) (number : ℕ)
    → IsStore old number → place < versions → stored_root old.roots place ≡ Some n
    → NotesGain old.told (tree_in old n) told
    → IsStore (with_roots old (set old.roots place None) told) (number + 1)
take_store old told place n number st lt e t =
    let p = old.words.plan in
    let roots = set old.roots place None in
    let new : Known = with_roots old roots told in
    let live = root_live old number place n st lt e in
    let event = take_event old told place n number st lt e t in
    let sound = take_root_entries p 0 place (core_of old) (core_of new) st.sound event in
    let stand =
    stand_again p old new st.sound sound (keys_stay p (core_of old) (core_of new) event.entries)
    (λ u i. elim (held_gained old.told.held told.held (tree_in old n) u t.gains i) [
      | inl q ↦ inl (record { name = n; live = live; tree = sym q })
      | inr j ↦ inl (st.stand.each u j)
    ]) in
    rooted_store old roots told number (number + 1) st t.only sound stand
    (omega (arith, st.number_is, t.gains.weighs (λ _. 1)))
    (length-set old.roots place None ∙ st.places)
    (λ at m q. empty_tops p.side old.roots place at m (omega (arith, lt, st.places)) st.tops q)

-- no root leaves a place
pub gives_none : (v : Known) (place : ℕ) → stored_root v.roots place ≡ None → GivesRoot v place v
gives_none v place e = record {
  words = refl;
  here = e;
  elsewhere = λ other ne. refl;
  only = record { made = refl; met = refl };
  gains = subst (λ (o : Option Name). Loses v.told.held (root_tree v o) v.told.held) (sym e)
      (released_none v 0 (top v.words.plan.side)).loses;
}

pub empty_event : (v : Known) (place : ℕ) → place < versions → stored_root v.roots place ≡ None
    → TakesRoot v.words.plan 0 place (core_of v) (core_of v)
empty_event v place lt e = record {
  in_range = lt;
  no_root = e;
  roots = λ other ne. refl;
  entries = record { book = λ m i. refl; key = λ m l. refl };
  held = trade v.told.held v.told.held no_weight (at_most_one (stored_root v.roots place))
      (λ f. omega arith) (λ f. omega (arith, ap (weight f) e));
}
