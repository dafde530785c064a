-- A new entry, and a full bucket that is met, keep the store one; and an empty store is one.
use Rattle.std.proofs.Common.{◌≡◌, ◌≢◌, ℕ, zero, suc, ◌+◌, ◌-◌, ◌<◌, ◌≤◌, Some, None, Option, List, [], ◌∷◌, refl, sym, ◌∙◌, ap, subst, arith, inl, inr, replicate}
use Rattle.std.specs.Prelude.{All, length}
use Rattle.std.specs.List.{Contains}
use Rattle.std.proofs.lemmas.Option.{none-some}
use Rattle.std.proofs.lemmas.List.Elements.{All-nil, All-cons, All-weaker}
use Rattle.node_words.specs.declared.shapes.names.Name.{Name}
use Rattle.node_words.specs.shapes.Shape.{Shape}
use Rattle.node_words.specs.shapes.Tree.{Tree, LeafAt, root_of, shape_of}
use Rattle.node_words.specs.shapes.Weights.{number_of_trees}
use Rattle.node_words.proofs.OfShapes.TreeEqual.{Name-discrete}
use Rattle.node_words.proofs.OfShapes.WeightLaws.{weigh-nil}
use Rattle.node_words.proofs.OfShapes.TreeLaws.{shape_of-node}
use Rattle.node_words.specs.declared.keys.Key.{Key}
use Rattle.node_words.specs.declared.keys.Key.TheVariants.{Leaf, Node}
use Rattle.node_words.specs.Held.{Wanted, name_in}
use Rattle.node_words.specs.Plans.{Layout, IsPlan}
use Rattle.node_words.specs.Keys.{bucket_of_key}
use Rattle.core_laws.specs.places.WordIds.{buckets_at, versions}
use Rattle.core_laws.specs.places.Names.{IsName, HasNames, named, key_bits, key_child}
use Rattle.core_laws.specs.places.KeyWords.{FitsHalf, IsKeyAt}
use Rattle.node_words.proofs.PlanLaws.{few_buckets}
use Rattle.core_laws.specs.States.{IsLive, tree_at, shape_in}
use Rattle.core_laws.specs.Counting.{weight, children_weight}
use Rattle.node_words.specs.Enough.{HasEnough, enough_stays}
use Rattle.core_laws.specs.Soundness.{FitsLevel, SoundEntries, IsFull}
use Rattle.core_laws.specs.Events.{Adds, IsMissing, one_name, children_named}
use Rattle.core_laws.specs.LiveTrees.{AreLiveTrees}
use Rattle.core_laws.proofs.Enough.{enough}
use Rattle.core_laws.proofs.EntrySteps.{add_entries, add_keys, given_lives}
use Rattle.core_laws.proofs.Lives.{child_level}
use Rattle.core_laws.proofs.RootCells.{empty_sound}
use Rattle.core_laws.proofs.SeenNodes.{leaf_tree, node_tree}
use Rattle.core_laws.proofs.StepLaws.{tree_kept}
use Rattle.core_laws.proofs.Trees.{node_at-same, tree_stays}
use Rattle.core_laws.proofs.Sums.{is_name}
use Rattle.one_store.specs.entries.Words.{Written, book_in, key_in}
use Rattle.one_store.proofs.OfEntries.SlotLaws.{slot_name}
use Rattle.one_store.specs.notes.StoreNotes.{no_notes}
use Rattle.one_store.specs.notes.Changes.{HoldsRow}
use Rattle.one_store.proofs.OfNotes.HeldLists.{held_closed}
use Rattle.one_store.specs.declared.sought.SoughtKey.{SoughtKey}
use Rattle.one_store.specs.Known.{Known, IsStore, IsStoreOf, core_of, tree_in, trees_below, stored_root}
use Rattle.one_store.specs.Steps.{AddsNode, MeetsFull, IsSoughtKey, sought_key, tree_over, shape_over}
use Rattle.one_store.proofs.StateLaws.{root_weight, trade, row_weighs, row_number, holdings-one, child_weighs, stand_again}

-- a key that fits, of children of the plan, can be said by words
child_fits : (p : Layout) (level : ℕ) (o : Option Name) → IsPlan p
    → ((n : Name) → o ≡ Some n → IsName p n × (n.level + 1 ≡ level)) → FitsHalf (level - 1) o
child_fits p level None plan f = record { is_child = tt; low = omega arith }
child_fits p level (Some n) plan f =
    let c = f n refl in
    let few = few_buckets p n.level plan in
    record {
      is_child = (omega (arith, c.1), omega (arith, c.0.slot_in, plan.cap_high));
      low = omega
          (arith, c.0.bucket_in, c.0.slot_in, plan.cap_high, few);
    }

pub fits_words : (p : Layout) (level : ℕ) (k : Key) → IsPlan p → FitsLevel level k → HasNames p k
    → IsKeyAt level k
fits_words p zero (Leaf bits) plan f names = refl
fits_words p zero (Node children) plan f names = absurd f
fits_words p (suc level) (Leaf bits) plan f names = absurd f
fits_words p (suc level) (Node children) plan f names = record {
  above = omega arith;
  eight = f.0;
  each = λ k lt. child_fits p (suc level) (name_in children k) plan
      (λ n e. (names.each k n lt e, f.1.each k n lt e));
}

root_over : (level : ℕ) (key : Name → Key) (n : Name) (k : Key)
    → root_of (tree_over level key n k) ≡ Some n
root_over zero key n k = refl
root_over (suc level) key n k = refl

-- the new entry is an event of the core
name_level : (s : SoughtKey) (n : Name) → n ≡ named s.level s.bucket n.slot → n.level ≡ s.level
name_level s n e = ap (λ (m : Name). m.level) e

is_new : (old : Known) (s : SoughtKey) (n : Name) → n ≡ named s.level s.bucket n.slot
    → IsSoughtKey old.words.plan s → n.slot < old.words.plan.cap → IsName old.words.plan n
is_new old s n e q lt =
    subst (λ (m : Name). IsName old.words.plan m) (sym e)
    (slot_name old.words.plan s.level s.bucket n.slot q.bucket_in lt)

pub add_event : (old new : Known) (s : SoughtKey) (n : Name) → IsSoughtKey old.words.plan s
    → IsMissing old.words.plan (core_of old) s.level (sought_key s)
    → HoldsRow old.told.held (trees_below (key_in old.words) (s.level - 1) (sought_key s))
    → AddsNode old s n new → Adds old.words.plan 0 n (sought_key s) (core_of old) (core_of new)
add_event old new s n q missing h a =
    let p = old.words.plan in
    let k = sought_key s in
    let level = name_level s n a.name_is in
    let free : book_in old.words n ≡ 0 = ap (book_in old.words) a.name_is ∙ a.lowest.free in
    record {
      name = is_new old s n a.name_is q a.lowest.below;
      free = free;
      fits = subst (λ (l : ℕ). FitsLevel l k) (sym level) q.fits;
      bucket = ap (λ (m : Name). m.bucket) a.name_is ∙ q.bucket_is
          ∙ ap (λ (l : ℕ). bucket_of_key k (buckets_at p l)) (sym level);
      missing = λ m l e. missing m l (e ∙ level);
      book = a.words.book_is;
      new_key = a.words.key_is;
      others = record {
        book = λ m i ne. a.words.other_books.each m i ne;
        key = λ m l ne. a.words.other_keys.each m l.name ne;
      };
      roots = λ v. ap (λ (r : List (Option Name)). stored_root r v) a.roots;
      held = trade old.told.held new.told.held (children_named k) (one_name n)
          (λ f. omega (
            arith,
            h.weighs (root_weight f),
            row_weighs f (key_in old.words)
                (s.level - 1) k,
          ))
          (λ f. let root : root_weight f (tree_over s.level (key_in old.words) n k)
          ≡ f n = ap (λ (o : Option Name). weight f o)
          (root_over s.level (key_in old.words) n k) in
          omega (
            arith,
            a.told.closes.weighs (root_weight f),
            root,
            row_weighs f (key_in old.words)
                (s.level - 1) k,
          ));
    }

module _ (old new : Known) (s : SoughtKey) (n : Name)
    (event : Adds old.words.plan 0 n (sought_key s) (core_of old) (core_of new))
    (so : SoundEntries old.words.plan (core_of old))
    (sn : SoundEntries old.words.plan (core_of new)) where
  -- a live entry stays live
  stays : (m : Name) → IsLive old.words.plan (core_of old) m → IsLive old.words.plan (core_of new) m
  stays m l =
      let some = l.book in
      let ne : m ≢ n =
      λ e. (let none : book_in old.words m ≡ 0 = ap (book_in old.words) e
      ∙ event.free in omega arith) in
      let same = event.others.book m l.name ne in
      record { name = l.name; book = omega arith }

  -- the children of the new key are live, and keep their trees
  child_live : (k : Key) (m : Name) (j : ℕ) → k ≡ sought_key s → j < 8 → key_child k j ≡ Some m
      → IsLive old.words.plan (core_of old) m
  child_live k m j e lt c =
      given_lives old.words.plan (core_of old) 0 (children_named (sought_key s)) (one_name n)
      (core_of new).held m so event.held
      (subst (λ (x : Key). 0 < children_weight (is_name m) x) e (child_weighs k m j lt c))

  octant_same : (level j : ℕ) → j < 8 → FitsLevel (suc level) (sought_key s)
      → tree_at (key_in new.words) level (key_child (sought_key s) j) ≡ tree_at
      (key_in old.words) level (key_child (sought_key s) j)
  octant_same level j lt fits =
      tree_stays old.words.plan (core_of old) (core_of new) so sn
      (add_keys old.words.plan 0 n (sought_key s) (core_of old) (core_of new) event) level
      (key_child (sought_key s) j)
      (λ m e. (let live = child_live (sought_key s) m j refl lt e in
      let lower = child_level (suc level) (sought_key s) m j fits lt e in
      record { same_level = omega arith; before = live; after = stays m live }))

  tree_new : (level : ℕ) → FitsLevel level (sought_key s)
      → tree_at (key_in new.words) level (Some n) ≡ tree_over level (key_in old.words) n
      (sought_key s)
  tree_new zero fits = leaf_tree (key_in new.words) 0 n refl
      ∙ ap (λ (k : Key). LeafAt n (key_bits k)) event.new_key
  tree_new (suc level) fits =
      node_tree (key_in new.words) (suc level) level n refl
      ∙ node_at-same n _ _
      (λ j lt. ap (λ (k : Key). tree_at (key_in new.words) level (key_child k j)) event.new_key
      ∙ octant_same level j lt fits)

  -- the tree of the new name
  pub new_tree : n.level ≡ s.level → FitsLevel s.level (sought_key s)
      → tree_in new n ≡ tree_over s.level (key_in old.words) n (sought_key s)
  new_tree level fits = ap (λ (l : ℕ). tree_at (key_in new.words) l (Some n)) level
      ∙ tree_new s.level fits

  new_live : IsLive old.words.plan (core_of new) n
  new_live = let one = event.book in record { name = event.name; book = omega arith }

  -- what is live is the new entry, or was live
  was_live : (m : Name) → IsLive old.words.plan (core_of new) m → m ≢ n
      → IsLive old.words.plan (core_of old) m
  was_live m l ne = let same = event.others.book m l.name ne in let some = l.book in
      record { name = l.name; book = omega arith }

shape_same : (level : ℕ) (key : Name → Key) (n : Name) (k : Key)
    → shape_of (tree_over level key n k) ≡ shape_over level key k
unfolding shape_of
shape_same zero key n k = refl
shape_same (suc level) key n k = shape_of-node n (trees_below key level k)

head_there : (s : Shape) (made : List Shape) → Contains (s ∷ made) s
head_there s made = (0, omega arith, refl)

tail_there : (s t : Shape) (made : List Shape) → Contains made t → Contains (s ∷ made) t
tail_there s t made h = (suc h.0, omega (arith, h.1), h.2)

pub enough_more : (p : Layout) (s : Shape) (made : List Shape) (level bucket : ℕ)
    → HasEnough p made level bucket → HasEnough p (s ∷ made) level bucket
enough_more p s made level bucket h =
    enough_stays p made (s ∷ made) level bucket (λ t c. tail_there s t made c) h

pub add_store : (old new : Known) (s : SoughtKey) (n : Name) (number children : ℕ)
    → IsStore old number → IsSoughtKey old.words.plan s
    → IsMissing old.words.plan (core_of old) s.level (sought_key s)
    → HoldsRow old.told.held (trees_below (key_in old.words) (s.level - 1) (sought_key s))
    → children ≡ children_weight (λ _. 1) (sought_key s) → AddsNode old s n new
    → IsStore new (number + 1 - children)
add_store old new s n number children st q missing h c a =
    let p = old.words.plan in
    let k = sought_key s in
    let event = add_event old new s n q missing h a in
    let sound = add_entries p 0 n k (core_of old) (core_of new) st.sound event in
    let keys = add_keys p 0 n k (core_of old) (core_of new) event in
    let level = name_level s n a.name_is in
    let tree = new_tree old new s n event st.sound sound level q.fits in
    let shape : shape_in (core_of new) n ≡ shape_over s.level (key_in old.words) k =
    ap shape_of tree ∙ shape_same s.level (key_in old.words) n k in
    let live = new_live old new s n event st.sound sound in
    subst (λ (x : Layout). IsStoreOf x new (number + 1 - children)) (sym a.words.plan) (record {
      plan = st.plan;
      sound = sound;
      stand = stand_again p old new st.sound sound keys
          (λ t i. elim
          (held_closed old.told.held new.told.held (tree_over s.level (key_in old.words) n k) t
          (trees_below (key_in old.words) (s.level - 1) k) a.told.closes i) [
            | inl e ↦ inr (record { name = n; live = live; tree = tree ∙ sym e })
            | inr j ↦ inl (st.stand.each t j)
          ]);
      number_is = omega (
        arith,
        st.number_is,
        a.told.closes.weighs (λ _. 1),
        row_number (key_in old.words)
            (s.level - 1) k,
        c,
      );
      listed = λ m l. subst (λ (made : List Shape). Contains made (shape_in (core_of new) m))
          (sym a.told.made)
          (elim (Name-discrete m n) [
            | yes e ↦ subst
                (λ (x : Name). Contains (shape_over s.level (key_in old.words) k ∷ old.told.made)
                (shape_in (core_of new) x)) (sym e)
                (subst (λ (x : Shape). Contains
                (shape_over s.level (key_in old.words) k ∷ old.told.made) x) (sym shape)
                (head_there _ old.told.made))
            | no ne ↦ (let before = was_live old new s n event st.sound sound m l ne in
                tail_there _ _ old.told.made
                (subst (λ (x : Tree). Contains old.told.made (shape_of x))
                (sym (tree_kept p (core_of old) (core_of new) m st.sound sound keys before l))
                (st.listed m before)))
          ]);
      enough = subst
          (λ (met : List Wanted). All (λ w. HasEnough p new.told.made w.level w.bucket) met)
          (sym a.told.met)
          (subst (λ (made : List Shape). All (λ w. HasEnough p made w.level w.bucket) old.told.met)
          (sym a.told.made)
          (All-weaker (λ w. HasEnough p old.told.made w.level w.bucket)
          (λ w. HasEnough p
          (shape_over s.level (key_in old.words) k ∷ old.told.made) w.level w.bucket)
          (λ w e. enough_more p _ old.told.made w.level w.bucket e) old.told.met st.enough));
      places = ap (λ (r : List (Option Name)). length r) a.roots ∙ st.places;
      tops = λ place m e. st.tops place m
          (ap (λ (r : List (Option Name)). stored_root r place) (sym a.roots) ∙ e);
    })

pub row_count : (v : Known) (number children level : ℕ) (k : Key) → IsStore v number
    → HoldsRow v.told.held (trees_below (key_in v.words) level k)
    → children ≡ children_weight (λ _. 1) k → children ≤ number + 1
row_count v number children level k s h c =
    omega (arith, s.number_is, h.weighs (λ _. 1), row_number (key_in v.words) level k, c)

-- a full bucket has enough
bucket_full : (v : Known) (s : SoughtKey) → IsSoughtKey v.words.plan s
    → ((k : ℕ) → k < v.words.plan.cap → 1 ≤ book_in v.words (named s.level s.bucket k))
    → IsFull v.words.plan (core_of v) s.level s.bucket
bucket_full v s q f = record { level_in = q.level_in; bucket_in = q.bucket_in.bucket_in; each = f }

pub has_enough : (v : Known) (s : SoughtKey) (number : ℕ) → IsStore v number
    → IsSoughtKey v.words.plan s
    → ((k : ℕ) → k < v.words.plan.cap → 1 ≤ book_in v.words (named s.level s.bucket k))
    → HasEnough v.words.plan v.told.made s.level s.bucket
has_enough v s number st q f =
    enough v.words.plan (core_of v) s.level s.bucket st.sound (bucket_full v s q f) v.told.made
    (λ slot lt. st.listed (named s.level s.bucket slot)
    (record { name = slot_name v.words.plan s.level s.bucket slot q.bucket_in lt; book = f slot lt }))

pub full_store : (old new : Known) (s : SoughtKey) (number : ℕ) → IsStore old number
    → IsSoughtKey old.words.plan s → MeetsFull old s new → IsStore new number
full_store old new s number st q m =
    let p = old.words.plan in
    let at : Known = record { words = old.words; roots = old.roots; told = new.told } in
    let wanted : Wanted =
    record {
      level = s.level;
      bucket = s.bucket;
      shape = shape_over s.level (key_in old.words)
          (sought_key s);
    } in
    let kept : IsStore at number = record {
      plan = st.plan;
      sound = subst
          (λ (h : List Tree). SoundEntries p
          (core_of (record {
            words = old.words;
            roots = old.roots;
            told =
                record { held = h; made = new.told.made; met = new.told.met };
          })))
          (sym m.told.held) st.sound;
      stand = subst
          (λ (h : List Tree). AreLiveTrees p
          (core_of (record {
            words = old.words;
            roots = old.roots;
            told =
                record { held = h; made = new.told.made; met = new.told.met };
          })) h)
          (sym m.told.held) st.stand;
      number_is = st.number_is ∙ ap number_of_trees (sym m.told.held);
      listed = λ n l. subst (λ (made : List Shape). Contains made (shape_in (core_of old) n))
          (sym m.told.made) (st.listed n (record { name = l.name; book = l.book }));
      enough = subst
          (λ (met : List Wanted). All (λ w. HasEnough p new.told.made w.level w.bucket) met)
          (sym m.told.met)
          (subst (λ (made : List Shape). All (λ w. HasEnough p made w.level w.bucket)
          (wanted ∷ old.told.met)) (sym m.told.made)
          (All-cons (λ w. HasEnough p old.told.made w.level w.bucket) wanted old.told.met
          (has_enough old s number st q m.full) st.enough));
      places = st.places;
      tops = st.tops;
    } in
    subst (λ (r : List (Option Name)). IsStore
    (record { words = new.words; roots = r; told = new.told }) number) (sym m.roots)
    (subst (λ (w : Written). IsStore
    (record { words = w; roots = old.roots; told = new.told }) number) (sym m.words) kept)

-- an empty store
pub begun_store : (w : Written) (roots : List (Option Name)) → IsPlan w.plan
    → ((n : Name) → book_in w n ≡ 0) → length roots ≡ versions
    → ((place : ℕ) → stored_root roots place ≡ None)
    → IsStore (record { words = w; roots = roots; told = no_notes }) 0
begun_store w roots plan none long empty =
    let v : Known = record { words = w; roots = roots; told = no_notes } in
    record {
      plan = plan;
      sound = (empty_sound w.plan [] (core_of v) (record {
        book = λ n i. none n;
        root = empty;
        log = refl;
        held = λ f. holdings-one f [] ∙ weigh-nil (root_weight f);
      })).entries;
      stand = record {
        each = λ t h. absurd
            (omega (arith, h.weighs (λ _. 1), weigh-nil (λ _. 1)));
      };
      number_is = sym (weigh-nil (λ _. 1));
      listed = λ n l. absurd (omega (arith, l.book, none n));
      enough = All-nil (λ x. HasEnough w.plan [] x.level x.bucket);
      places = long;
      tops = λ place n e. absurd (none-some n (sym (empty place) ∙ e));
    }

pub no_roots : (n place : ℕ) → stored_root (replicate n None) place ≡ None
no_roots zero zero = refl
no_roots zero (suc place) = refl
no_roots (suc n) zero = refl
no_roots (suc n) (suc place) = no_roots n place
