-- What the calls of a store promise.
use Rattle.std.proofs.Common.{◌≡◌, ◌≢◌, ℕ, zero, suc, ◌+◌, ◌-◌, ◌*◌, ◌^◌, ◌≤◌, ◌<◌, Option, Some, None, ◌∷◌, refl, sym, ◌∙◌, ap, subst, arith, inl, inr}
use Rattle.std.specs.Prelude.{Result, Ok, Err, IfOk, IfErr, OnOk}
use Rattle.std.proofs.lemmas.Option.{none-some}
use Rattle.node_words.specs.declared.shapes.names.Name.{Name}
use Rattle.node_words.specs.shapes.Shape as shape
use Rattle.node_words.specs.shapes.Shape.{Shape, Clear, branch_of, IsCanonical}
use Rattle.node_words.specs.shapes.Buckets.{bucket_of_shape}
use Rattle.node_words.specs.shapes.Tree.{Tree, LeafAt, node_at, root_of, child_of, shape_of, bits_in}
use Rattle.node_words.specs.shapes.Weights.{number_of_trees, weight_of, weight_below}
use Rattle.node_words.proofs.OfShapes.TreeLaws.{child_of-node_at, gone_from_root}
use Rattle.node_words.proofs.OfShapes.WeightLaws.{weight_of-there}
use Rattle.node_words.specs.declared.keys.Key.{Key}
use Rattle.node_words.specs.declared.keys.Key.TheVariants.{Leaf}
use Rattle.node_words.specs.Plans.{Layout}
use Rattle.node_words.specs.Held.{IsHeld, IsReached, HoldsName, ReachesName, AreTrees, AreCanonical, Gains, OnlyHeldChanges, OnlyMeets, Grants, ReturnsWithin, IsSought}
use Rattle.node_words.specs.Keys.{bucket_of_key, of_leaf}
use Rattle.node_words.proofs.HeldLaws.{reached_child}
use Rattle.node_words.proofs.KeyLaws.{key_bucket}
use Rattle.core_laws.specs.places.WordIds.{levels, buckets_at}
use Rattle.core_laws.specs.places.Names.{HasNames, key_bits, key_child}
use Rattle.core_laws.specs.States.{State, IsLive, tree_at}
use Rattle.core_laws.specs.Counting.{children_weight}
use Rattle.core_laws.specs.Events.{IsMissing}
use Rattle.core_laws.specs.Soundness.{SoundEntries, FitsLevel}
use Rattle.core_laws.specs.LiveTrees.{AreLiveTrees}
use Rattle.core_laws.proofs.Frees.{returns_within}
use Rattle.core_laws.proofs.SeenNodes.{leaf_tree}
use Rattle.core_laws.proofs.Standings.{parts_stand, standing_trees, standing_canonical}
use Rattle.one_store.specs.entries.Words.{Written, book_in, key_in, child_bits, HasEntry}
use Rattle.one_store.specs.notes.Changes.{HoldsRow}
use Rattle.one_store.specs.declared.sought.SoughtKey.{SoughtKey}
use Rattle.one_store.specs.Known.{Known, IsStore, known_state, core_of, tree_in, trees_below}
use Rattle.one_store.specs.Steps.{Moves, RaisesShare, Releases, AddsNode, MeetsFull, IsSoughtKey, sought_key, tree_over, shape_over}
use Rattle.one_store.proofs.OfEntries.ReadLaws.{child_below}
use Rattle.one_store.proofs.StateLaws.{row_root, standing_at}
use Rattle.one_store.proofs.StoreLaws.{held_name, held_is, book_moves, same_plan, same_keys}
use Rattle.one_store.proofs.BackLaws.{leaf_row, leaf_none, leaf_key, live_names, node_tree}

-- what is reached is live
pub reached : (v : Known) (number : ℕ) (t : Tree) (n : Name) → IsStore v number
    → IsReached v.told.held t → root_of t ≡ Some n
    → IsLive v.words.plan (core_of v) n × (tree_in v n ≡ t)
reached v number t n s r e =
    standing_at v.words.plan (core_of v) t n
    (parts_stand v.words.plan (core_of v) s.sound t r.over r.stands
    (inr (s.stand.each r.over r.is_held))) e

pub reaches : (v : Known) (number : ℕ) (n : Name) → IsStore v number → ReachesName v.told.held n
    → IsLive v.words.plan (core_of v) n
reaches v number n s r = (reached v number r.tree n s r.reached r.root).0

pub reached_names : (v : Known) (number : ℕ) (n : Name) → IsStore v number
    → ReachesName v.told.held n → HasNames v.words.plan (key_in v.words n)
reached_names v number n s r = live_names v number n s (reaches v number n s r)

pub store_trees : (v : Known) (number : ℕ) → IsStore v number
    → AreTrees v.words.plan.side v.told.held
store_trees v number s = standing_trees v.words.plan (core_of v) s.sound v.told.held s.stand

pub store_canonical : (v : Known) (number : ℕ) → IsStore v number → AreCanonical v.told.held
store_canonical v number s = standing_canonical v.words.plan (core_of v) s.sound v.told.held s.stand

pub store_bits : (v : Known) (number : ℕ) (t : Tree) (n : Name) → IsStore v number → n.level ≡ 0
    → IsReached v.told.held t → root_of t ≡ Some n → key_bits (key_in v.words n) ≡ bits_in t
store_bits v number t n s z r e =
    ap bits_in (sym (leaf_tree (key_in v.words) n.level n z) ∙ (reached v number t n s r e).1)

pub store_child : (v : Known) (number : ℕ) (t : Tree) (n : Name) (k : ℕ) → IsStore v number
    → 1 ≤ n.level → k < 8 → IsReached v.told.held t → root_of t ≡ Some n
    → key_child (key_in v.words n) k ≡ root_of (child_of t k)
store_child v number t n k s above lt r e =
    let row : ℕ → Tree = trees_below (key_in v.words) (n.level - 1) (key_in v.words n) in
    let node : node_at n row ≡ t =
    sym (node_tree (key_in v.words) n.level n above) ∙ (reached v number t n s r e).1 in
    sym (row_root (key_in v.words) (n.level - 1) (key_child (key_in v.words n) k))
    ∙ ap root_of (sym (child_of-node_at n row k lt))
    ∙ ap (λ (u : Tree). root_of (child_of u k)) node

-- the bits of a leaf below a node that is reached
leaf_in : (v : Known) (number : ℕ) (t : Tree) (o : Option Name) → IsStore v number
    → IsReached v.told.held t → root_of t ≡ o → ((m : Name) → o ≡ Some m → m.level ≡ 0)
    → child_bits v.words o ≡ bits_in t
leaf_in v number t None s r e levels = sym (ap bits_in (gone_from_root t e))
leaf_in v number t (Some m) s r e levels = store_bits v number t m s (levels m refl) r e

pub store_leaf : (v : Known) (number : ℕ) (t : Tree) (n : Name) (k : ℕ) → IsStore v number
    → n.level ≡ 1 → k < 8 → IsReached v.told.held t → root_of t ≡ Some n
    → child_bits v.words (key_child (key_in v.words n) k) ≡ bits_in (child_of t k)
store_leaf v number t n k s one lt r e =
    leaf_in v number (child_of t k) (key_child (key_in v.words n) k) s
    (reached_child v.told.held t k r)
    (sym (store_child v number t n k s (omega (arith, one)) lt r e))
    (λ m q. (let l = child_below n.level _ _ k m (omega (arith, one)) lt q in
    omega (arith, l, one)))

-- a share of what is reached comes
pub raised_gains : (old new : Known) (number : ℕ) (t : Tree) (n : Name) → IsStore old number
    → RaisesShare old n new → IsReached old.told.held t → root_of t ≡ Some n
    → Gains old.told.held t new.told.held
raised_gains old new number t n s r h e =
    subst (λ (u : Tree). Gains old.told.held u new.told.held)
    (reached old number t n s h e).1 r.told.gains

pub raised_only : (old new : Known) (n : Name) → RaisesShare old n new
    → OnlyHeldChanges (known_state old) (known_state new)
raised_only old new n r =
    record {
      plan = same_plan old new
          (book_moves old new n _ r.words r.roots);
      made = r.told.only.made;
      met = r.told.only.met;
    }

-- a share goes back
pub back_gains : (old new : Known) (number steps now : ℕ) (t : Tree) (n : Name) → IsStore old number
    → Releases old (tree_in old n) new steps now → IsHeld old.told.held t → root_of t ≡ Some n
    → Gains new.told.held t old.told.held
back_gains old new number steps now t n s r h e =
    let q = held_is old number t n s h e in
    record {
      weighs = λ f. omega
          (arith, r.loses.weighs f, ap (λ (u : Tree). weight_of f u) q, weight_of-there f t n e);
    }

pub back_only : (old new : Known) (t : Tree) (steps now : ℕ) → Releases old t new steps now
    → OnlyHeldChanges (known_state old) (known_state new)
back_only old new t steps now r =
    record { plan = same_plan old new r.moves; made = r.only.made; met = r.only.met }

-- the entries after books fell, with the keys, the plan and the roots of before
abbrev pub core_after : Known → Known → State
core_after old new = record (core_of new) { key = key_in old.words }

pub sound_after : (old new : Known) (number : ℕ) → IsStore new number → Moves old new
    → SoundEntries old.words.plan (core_after old new)
    × AreLiveTrees old.words.plan (core_after old new) new.told.held
sound_after old new number s m =
    subst (λ (p : Layout). SoundEntries p (core_after old new)
    × AreLiveTrees p (core_after old new) new.told.held) (same_plan old new m)
    (subst (λ (k : Name → Key). SoundEntries new.words.plan (record (core_of new) { key = k })
    × AreLiveTrees new.words.plan (record (core_of new) { key = k }) new.told.held)
    (same_keys old new m) (s.sound, s.stand))

pub back_turns : (old new : Known) (number left steps now : ℕ) (t : Tree) (n : Name)
    → IsStore old number → IsStore new left → Releases old (tree_in old n) new steps now
    → IsHeld old.told.held t → root_of t ≡ Some n
    → ReturnsWithin new.told.held (shape_of t) steps now
back_turns old new number left steps now t n s a r h e =
    subst (λ (u : Tree). ReturnsWithin new.told.held (shape_of u) steps now)
    (sym (held_is old number t n s h e))
    (let s' = sound_after old new left a r.moves in
    returns_within old.words.plan (core_after old new) (book_in old.words) new.told.held
    (shape_of (tree_in old n)) steps now s'.0 s'.1 r.frees)

pub back_room : (v : Known) (number : ℕ) (n m : Name) → IsStore v number → HoldsName v.told.held n
    → m ≡ n → number_of_trees v.told.held ≤ 4008 → number_of_trees v.told.held + 8 * m.level ≤ 8192
back_room v number n m s h q room =
    let i = held_name v number n s h in
    omega (arith, room, i.name.level_in, s.plan.side_high, ap (λ (x : Name). x.level) q)

-- leaves
pub leaf_level : (v : Known) (number : ℕ) → IsStore v number → 0 < levels v.words.plan
leaf_level v number s = omega (arith, s.plan.side_low)

pub leaf_fits : (bits : ℕ) → bits ≢ 0 → bits < 2 ^ 64 → FitsLevel 0 (Leaf bits)
leaf_fits bits ne lt = (omega arith, lt)

pub leaf_names : (p : Layout) (bits : ℕ) → HasNames p (Leaf bits)
leaf_names p bits = record { each = λ k m lt e. absurd (none-some m e) }

pub leaf_holds : (v : Known) (level bits : ℕ) (k : Key) → k ≡ Leaf bits
    → HoldsRow v.told.held (trees_below (key_in v.words) level k)
leaf_holds v level bits k e =
    record {
      weighs = λ f. omega (
        arith,
        ap (λ (x : Key). weight_below f
            (trees_below (key_in v.words) level x) 8) e,
        leaf_row f (key_in v.words) level bits,
      );
    }

pub leaf_count : (k : Key) (bits : ℕ) → k ≡ Leaf bits → 0 ≡ children_weight (λ _. 1) k
leaf_count k bits e = sym (ap (children_weight (λ _. 1)) e ∙ leaf_none bits)

leaf_at_name : (key : Name → Key) (level : ℕ) (n : Name) (bits : ℕ) → level ≡ 0 → key n ≡ Leaf bits
    → tree_at key level (Some n) ≡ LeafAt n bits
leaf_at_name key level n bits z e =
    leaf_tree key level n z ∙ ap (λ (k : Key). LeafAt n (key_bits k)) e

leaf_bits_of : (key : Name → Key) (level : ℕ) (m : Name) (bits : ℕ)
    → tree_at key level (Some m) ≡ LeafAt m bits → (level ≡ 0) × (key_bits (key m) ≡ bits)
unfolding tree_at
leaf_bits_of key zero m bits e = (refl, ap bits_in e)
leaf_bits_of key (suc level) m bits e = cc

-- the name under which a leaf is reached has its bits as its key
pub leaf_named : (v : Known) (number bits : ℕ) (m : Name) → IsStore v number
    → IsReached v.told.held (LeafAt m bits) → HasEntry v.words m (Leaf bits) × (m.level ≡ 0)
leaf_named v number bits m s r =
    let l = reached v number (LeafAt m bits) m s r refl in
    let b = leaf_bits_of (key_in v.words) m.level m bits l.1 in
    let k = leaf_key m.level (key_in v.words m) b.0 (s.sound.fits m l.0) in (
      record {
        is_name = l.0.name;
        live = l.0.book;
        key_is = k.is
            ∙ ap Leaf (sym (ap key_bits k.is) ∙ b.1);
      },
      b.0,
    )

-- a live entry that was found
abbrev pub IsFound : Known → SoughtKey → Name → Type 0
IsFound v s n = HasEntry v.words n (sought_key s) × (n.level ≡ s.level)

pub found_live : (v : Known) (s : SoughtKey) (n : Name) → IsFound v s n
    → IsLive v.words.plan (core_of v) n
found_live v s n f = record { name = f.0.is_name; book = f.0.live }

pub leaf_found : (old new : Known) (s : SoughtKey) (n m : Name) (bits number : ℕ)
    → IsStore old number → s.level ≡ 0 → sought_key s ≡ Leaf bits → IsFound old s n
    → RaisesShare old n new → m ≡ n → Gains old.told.held (LeafAt m bits) new.told.held
leaf_found old new s n m bits number st z k f r q =
    let t : tree_in old n ≡ LeafAt m bits =
    leaf_at_name (key_in old.words) n.level n bits (f.1 ∙ z) (f.0.key_is ∙ k)
    ∙ ap (λ (x : Name). LeafAt x bits) (sym q) in
    subst (λ (u : Tree). Gains old.told.held u new.told.held) t r.told.gains

entry_live : (v : Known) (n : Name) (k : Key) → HasEntry v.words n k
    → IsLive v.words.plan (core_of v) n
entry_live v n k h = record { name = h.is_name; book = h.live }

pub leaf_hit : (old new : Known) (s : SoughtKey) (n m r : Name) (bits number : ℕ)
    → IsStore old number → s.level ≡ 0 → sought_key s ≡ Leaf bits → IsFound old s n
    → RaisesShare old n new → r ≡ n → IsReached old.told.held (LeafAt m bits)
    → (r ≡ m) × (new.told.made ≡ old.told.made)
leaf_hit old new s n m r bits number st z k f a q h =
    let l = leaf_named old number bits m st h in (
      q ∙ st.sound.once n m (found_live old s n f) (entry_live old m (Leaf bits) l.0)
          (f.1 ∙ z ∙ sym l.1) (f.0.key_is ∙ k ∙ sym l.0.key_is),
      a.told.only.made,
    )

pub leaf_missed : (old : Known) (s : SoughtKey) (m : Name) (bits number : ℕ) → IsStore old number
    → s.level ≡ 0 → sought_key s ≡ Leaf bits
    → IsMissing old.words.plan (core_of old) s.level (sought_key s)
    → IsReached old.told.held (LeafAt m bits) → ⊥
leaf_missed old s m bits number st z k w h =
    let l = leaf_named old number bits m st h in
    w m (entry_live old m (Leaf bits) l.0) (l.1 ∙ sym z) (l.0.key_is ∙ sym k)

over_leaf : (key : Name → Key) (level : ℕ) (n : Name) (k : Key) (bits : ℕ) → level ≡ 0
    → k ≡ Leaf bits → tree_over level key n k ≡ LeafAt n bits
over_leaf key zero n k bits z e = ap (λ (x : Key). LeafAt n (key_bits x)) e
over_leaf key (suc level) n k bits z e = absurd (omega arith)

shape_leaf : (key : Name → Key) (level : ℕ) (k : Key) (bits : ℕ) → level ≡ 0 → k ≡ Leaf bits
    → shape_over level key k ≡ shape.Leaf bits
shape_leaf key zero k bits z e = ap (λ (x : Key). shape.Leaf (key_bits x)) e
shape_leaf key (suc level) k bits z e = absurd (omega arith)

pub leaf_added : (old new : Known) (s : SoughtKey) (n : Name) (bits : ℕ) → s.level ≡ 0
    → sought_key s ≡ Leaf bits → AddsNode old s n new
    → Gains old.told.held (LeafAt n bits) new.told.held
leaf_added old new s n bits z k a = record {
  weighs = λ f. omega (
    arith,
    a.told.closes.weighs f,
    ap f (over_leaf (key_in old.words) s.level n (sought_key s) bits z k),
    ap (λ (x : Key). weight_below f (trees_below (key_in old.words) (s.level - 1) x) 8) k,
    leaf_row f (key_in old.words) (s.level - 1) bits,
  );
}

pub leaf_grants : (old new : Known) (s : SoughtKey) (n : Name) (bits : ℕ) → s.level ≡ 0
    → sought_key s ≡ Leaf bits → AddsNode old s n new
    → Grants (known_state old) (shape.Leaf bits) (known_state new)
leaf_grants old new s n bits z k a = record {
  plan = a.words.plan;
  made = inr (a.told.made
      ∙ ap (λ (x : Shape). x ∷ old.told.made)
      (shape_leaf (key_in old.words) s.level (sought_key s) bits z k));
  met = a.told.met;
}

pub leaf_shares : (old new : Known) (n : Name) (t : Shape) → RaisesShare old n new
    → Grants (known_state old) t (known_state new)
leaf_shares old new n t r =
    record {
      plan = same_plan old new
          (book_moves old new n _ r.words r.roots);
      made = inl r.told.only.made;
      met = r.told.only.met;
    }

pub met_same : (old new : Known) (s : SoughtKey) (level bucket : ℕ) (t : Shape)
    → MeetsFull old s new → level ≡ s.level → bucket ≡ s.bucket
    → shape_over s.level (key_in old.words) (sought_key s) ≡ t
    → IsSought old.words.plan (record { level = s.level; bucket = s.bucket; shape = t })
    → OnlyMeets (known_state old) level bucket t (known_state new)
met_same old new s level bucket t m e f g sought = record {
  sought = subst
      (λ (l : ℕ). IsSought old.words.plan (record { level = l; bucket = bucket; shape = t }))
      (sym e) (subst
      (λ (b : ℕ). IsSought old.words.plan
      (record { level = s.level; bucket = b; shape = t })) (sym f) sought);
  plan = ap (λ (w : Written). w.plan) m.words;
  held = m.told.held;
  made = m.told.made;
  met = m.told.met
      ∙ ap (λ (l : ℕ).
      record {
        level = l;
        bucket = s.bucket;
        shape = shape_over s.level (key_in old.words)
            (sought_key s);
      } ∷ old.told.met) (sym e)
      ∙ ap
      (λ (b : ℕ). record {
        level = level;
        bucket = b;
        shape = shape_over s.level
            (key_in old.words) (sought_key s);
      } ∷ old.told.met) (sym f)
      ∙ ap (λ (x : Shape). record { level = level; bucket = bucket; shape = x } ∷ old.told.met) g;
}

leaf_some : {bits : ℕ} → shape.Leaf bits ≢ Clear
leaf_some e = cc

leaf_canonical : (bits : ℕ) → 0 < bits → bits < 2 ^ 64 → IsCanonical 0 (shape.Leaf bits)
unfolding IsCanonical
leaf_canonical bits some fits = (some, fits)

leaf_of : (bits level : ℕ) (k : Key) → level ≡ 0 → k ≡ Leaf bits → FitsLevel level k
    → (0 < bits) × (bits < 2 ^ 64)
leaf_of bits level k z e f =
    let f0 : FitsLevel 0 k = subst (λ (l : ℕ). FitsLevel l k) z f in
    subst (λ (x : Key). FitsLevel 0 x) e f0

leaf_sought : (p : Layout) (s : SoughtKey) (bits : ℕ) → IsSoughtKey p s → s.level ≡ 0
    → sought_key s ≡ Leaf bits
    → IsSought p (record { level = s.level; bucket = s.bucket; shape = shape.Leaf bits })
leaf_sought p s bits q z k =
    let b = leaf_of bits s.level (sought_key s) z k q.fits in
    let bucket : s.bucket ≡ bucket_of_shape p.buckets 0 (shape.Leaf bits) =
    q.bucket_is ∙ ap (λ (x : Key). bucket_of_key x (buckets_at p s.level)) k
    ∙ ap (λ (l : ℕ). bucket_of_key (Leaf bits) (buckets_at p l)) z
    ∙ key_bucket p.buckets 0 (shape.Leaf bits) (Leaf bits) (of_leaf bits) in
    record {
      canonical = subst (λ (l : ℕ). IsCanonical l (shape.Leaf bits)) (sym z)
          (leaf_canonical bits b.0 b.1);
      some = leaf_some;
      bucket_is = bucket ∙ ap (λ (l : ℕ). bucket_of_shape p.buckets l (shape.Leaf bits)) (sym z);
      bucket_in = q.bucket_in.bucket_in;
    }

pub leaf_met : (old new : Known) (s : SoughtKey) (level bucket bits : ℕ)
    → IsSoughtKey old.words.plan s → MeetsFull old s new → level ≡ s.level → bucket ≡ s.bucket
    → s.level ≡ 0 → sought_key s ≡ Leaf bits
    → OnlyMeets (known_state old) level bucket (shape.Leaf bits) (known_state new)
leaf_met old new s level bucket bits q m e f z k =
    met_same old new s level bucket (shape.Leaf bits) m e f
    (shape_leaf (key_in old.words) s.level (sought_key s) bits z k)
    (leaf_sought old.words.plan s bits q z k)

-- from one clause of a result to another
pub if_ok : {A E : Type 0} {P Q : A → Type 0} (r : Result A E) → ((a : A) → P a → Q a) → IfOk r P
    → IfOk r Q
if_ok (Ok a) h p = h a p
if_ok (Err e) h p = tt

pub on_ok : {A E : Type 0} {P : A → Type 0} {Q : Type 0} (r : Result A E) → ((a : A) → P a → Q)
    → IfOk r P → OnOk r Q
on_ok (Ok a) h p = h a p
on_ok (Err e) h p = tt

pub if_errs : {A E : Type 0} {P Q R : E → Type 0} (r : Result A E) → ((e : E) → P e → Q e → R e)
    → IfErr r P → IfErr r Q → IfErr r R
if_errs (Ok a) h p q = tt
if_errs (Err e) h p q = h e p q
