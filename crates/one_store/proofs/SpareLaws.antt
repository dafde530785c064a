-- The calls of a store leave the roots in their places, each with its tree.
use Rattle.std.proofs.Common.{◌≡◌, ◌≢◌, ℕ, ◌-◌, ◌<◌, Some, None, Option, refl, sym, ◌∙◌, ap, subst, arith, inl, inr}
use Rattle.std.specs.Prelude.{Result, Ok, Err, IfOk, IfErr}
use Rattle.std.proofs.lemmas.Bool.{cases_lt}
use Rattle.std.proofs.lemmas.List.{get_or_past}
use Rattle.std.proofs.lemmas.Option.{none-some}
use Rattle.node_words.specs.declared.shapes.names.Name.{Name}
use Rattle.node_words.specs.shapes.Weights.{weight_of}
use Rattle.node_words.proofs.OfShapes.WeightLaws.{weight_of-there}
use Rattle.node_words.specs.Gathering.{Loses}
use Rattle.node_words.specs.Plans.{Layout}
use Rattle.core_laws.specs.places.WordIds.{versions}
use Rattle.core_laws.specs.contents.Aligned.{top}
use Rattle.core_laws.specs.States.{IsLive, tree_at}
use Rattle.core_laws.specs.Events.{Adds, IsMissing, KeysStay}
use Rattle.core_laws.specs.Soundness.{SoundEntries}
use Rattle.core_laws.proofs.EntrySteps.{add_entries, add_keys}
use Rattle.core_laws.proofs.SeenNodes.{gone_tree}
use Rattle.core_laws.proofs.StepLaws.{tree_kept}
use Rattle.one_store.specs.entries.Words.{Written, book_in, key_in}
use Rattle.one_store.specs.notes.Changes.{HoldsRow}
use Rattle.one_store.specs.declared.sought.SoughtKey.{SoughtKey}
use Rattle.one_store.specs.Known.{Known, IsStore, core_of, tree_in, trees_below, stored_root, root_tree}
use Rattle.one_store.specs.Steps.{Moves, RaisesShare, AddsNode, MeetsFull, IsSoughtKey, sought_key, SparesRoots, GainsRoot, spares_itself}
use Rattle.one_store.proofs.StateLaws.{tree_root}
use Rattle.one_store.proofs.StoreLaws.{book_moves, same_plan}
use Rattle.one_store.proofs.AddLaws.{add_event}
use Rattle.one_store.proofs.RootLaws.{root_live, top_tree}
use Rattle.one_store.proofs.BackLaws.{released_none}

-- where books alone change
pub moves_spare : (old new : Known) → Moves old new → SparesRoots old new
moves_spare old new m = record {
  plan = same_plan old new m;
  roots = m.roots;
  trees = λ place.
      ap (λ (w : Written). tree_at (key_in w) (top w.plan.side)
      (stored_root old.roots place)) m.words;
}

pub raise_spares : (old new : Known) (n : Name) → RaisesShare old n new → SparesRoots old new
raise_spares old new n r = moves_spare old new (book_moves old new n _ r.words r.roots)

-- a live entry stays live where one is added
add_stays : (old new : Known) (s : SoughtKey) (n : Name)
    → Adds old.words.plan 0 n (sought_key s) (core_of old) (core_of new) → (m : Name)
    → IsLive old.words.plan (core_of old) m → IsLive old.words.plan (core_of new) m
add_stays old new s n event m l =
    let some = l.book in
    let ne : m ≢ n = λ e. (
    let none : book_in old.words m ≡ 0 = ap (book_in old.words) e ∙ event.free in omega arith) in
    let same = event.others.book m l.name ne in
    record { name = l.name; book = omega arith }

-- the root in a place keeps its tree, where what stays live keeps its key
root_kept : (old new : Known) (number place : ℕ) (root : Option Name) → IsStore old number
    → SoundEntries old.words.plan (core_of new)
    → KeysStay old.words.plan (core_of old) (core_of new)
    → ((m : Name) → IsLive old.words.plan (core_of old) m
    → IsLive old.words.plan (core_of new) m)
    → new.words.plan ≡ old.words.plan → stored_root old.roots place ≡ root
    → root_tree new root ≡ root_tree old root
root_kept old new number place None st sound keys stays plan e =
    gone_tree (key_in new.words) (top new.words.plan.side)
    ∙ sym (gone_tree (key_in old.words) (top old.words.plan.side))
root_kept old new number place (Some n) st sound keys stays plan e =
    let lt : place < versions = elim (cases_lt place versions) [
      | inl low ↦ low
      | inr high ↦ absurd (none-some n
          (sym (get_or_past old.roots place None (omega (arith, high, st.places))) ∙ e))
    ] in
    let live = root_live old number place n st lt e in
    let tops = st.tops place n e in
    ap (λ (p : Layout). tree_at (key_in new.words) (top p.side) (Some n)) plan
    ∙ ap (λ (l : ℕ). tree_at (key_in new.words) l (Some n)) (sym tops)
    ∙ tree_kept old.words.plan (core_of old) (core_of new) n st.sound sound keys live (stays n live)
    ∙ ap (λ (l : ℕ). tree_at (key_in old.words) l (Some n)) tops

-- where an entry was added
pub adds_spare : (old new : Known) (s : SoughtKey) (n : Name) (number : ℕ) → IsStore old number
    → IsSoughtKey old.words.plan s
    → IsMissing old.words.plan (core_of old) s.level (sought_key s)
    → HoldsRow old.told.held (trees_below (key_in old.words) (s.level - 1) (sought_key s))
    → AddsNode old s n new → SparesRoots old new
adds_spare old new s n number st q missing h a =
    let p = old.words.plan in
    let event = add_event old new s n q missing h a in
    let sound = add_entries p 0 n (sought_key s) (core_of old) (core_of new) st.sound event in
    let keys = add_keys p 0 n (sought_key s) (core_of old) (core_of new) event in
    record {
      plan = a.words.plan;
      roots = a.roots;
      trees = λ place. root_kept old new number place (stored_root old.roots place) st sound keys
          (add_stays old new s n event) a.words.plan refl;
    }

-- where a full bucket was met
pub meets_spare : (old new : Known) (s : SoughtKey) → MeetsFull old s new → SparesRoots old new
meets_spare old new s m = record {
  plan = ap (λ (w : Written). w.plan) m.words;
  roots = m.roots;
  trees = λ place.
      ap (λ (w : Written). tree_at (key_in w) (top w.plan.side)
      (stored_root old.roots place)) m.words;
}

-- where an entry was added or a full bucket met
pub result_spares : {A E : Type 0} {P : A → Type 0} {Q : E → Type 0} {R : Type 0} (r : Result A E)
    → ((a : A) → P a → R) → ((e : E) → Q e → R) → IfOk r P → IfErr r Q → R
result_spares (Ok a) f g p q = f a p
result_spares (Err e) f g p q = g e q

-- one more share of a root, and of none
pub gains_root : (old new : Known) (n : Name) (number place : ℕ) → IsStore old number
    → stored_root old.roots place ≡ Some n → RaisesShare old n new → GainsRoot old place new
gains_root old new n number place st e r = record {
  spares = raise_spares old new n r;
  only = r.told.only;
  gains = record {
    weighs = λ f. omega (
      arith,
      r.told.gains.weighs f,
      ap (λ (o : Option Name). weight_of f (root_tree old o)) e,
      ap (weight_of f) (top_tree old n (st.tops place n e)),
      weight_of-there f (tree_in old n) n (tree_root (key_in old.words) n.level n),
    );
  };
}

pub gains_none : (v : Known) (place : ℕ) → stored_root v.roots place ≡ None → GainsRoot v place v
gains_none v place e = record {
  spares = spares_itself v;
  only = record { made = refl; met = refl };
  gains = subst (λ (o : Option Name). Loses v.told.held (root_tree v o) v.told.held) (sym e)
      (released_none v 0 (top v.words.plan.side)).loses;
}
