-- Roots that are taken out of their places while a file is written, and come back.
use Rattle.std.proofs.Common.{◌≡◌, ◌≢◌, ℕ, zero, suc, ◌+◌, ◌-◌, ◌<◌, ◌≤◌, List, [], ◌∷◌, length, Some, None, Option, refl, sym, ap, subst, ◌∙◌, inl, inr, ◌⊎◌, arith}
use Rattle.std.specs.declared.vec.Vec.{Vec}
use Rattle.std.specs.Prelude.{Result, Ok, Err, IfOk}
use Rattle.std.specs.List.{Contains}
use Rattle.std.specs.Option.{ForSome}
use Rattle.std.proofs.lemmas.Bool.{cases_eq}
use Rattle.std.proofs.lemmas.List.{ext_get_or}
use Rattle.vox_read.specs.Contents.{Content}
use Rattle.history_model.specs.declared.histories.Mark.{Mark}
use Rattle.node_words.specs.declared.shapes.names.Name.{Name}
use Rattle.node_words.specs.shapes.Tree.{Tree, root_of}
use Rattle.node_words.specs.shapes.Weights.{weigh, weight_of, number_of_trees}
use Rattle.node_words.proofs.OfShapes.WeightLaws.{weight_of-one}
use Rattle.node_words.specs.Held.{IsHeld, HoldsName, StoreState}
use Rattle.node_words.specs.Plans.{Layout}
use Rattle.core_laws.specs.contents.Aligned.{top}
use Rattle.core_laws.specs.contents.Versions.{HoldsVersion}
use Rattle.core_laws.specs.States.{tree_at}
use Rattle.core_laws.proofs.SeenNodes.{gone_tree}
use Rattle.dag_file.specs.Lists.{HoldsList, DoNumbersRise, AreNumbersSmall, IsFileOfList}
use Rattle.one_store.proofs.StateLaws.{tree_root}
use Rattle.one_store.specs.entries.Words.{Written, key_in}
use Rattle.one_store.specs.Known.{Known, IsStore, known_state, root_tree, stored_root}
use Rattle.one_store.specs.Steps.{GivesRoot, KeepsRoot, SparesRoots}
use Rattle.store_run.specs.declared.stored_versions.Versions.{Versions}
use Rattle.store_run.specs.Kept.{plan_of, log_of, moment_of, mark_in, AreStoredVersions, AreVersions, HoldsNothing, HoldsTree}
use Rattle.store_run.specs.Marked.{Rooted, HoldsVersions}
use Rattle.store_run.specs.Steps.{LeavesAll}
use Rattle.store_run.specs.Taken.{rooted_weight, AreTakenRoots, AreToBeTaken, AreLeftOut, AreLent, CanComeBack, IsFileOfHeld}
use Rattle.store_run.proofs.Holding.{root_is, some_weighs, holds_some}
use Rattle.store_run.proofs.Listed.{roots_held, roots_rise, roots_small}
use Rattle.store_run.proofs.Sparing.{with_store, are_spared, plain_spared, stay_spared, stored_same}
use Rattle.store_run.proofs.Taken.{none_in, none_taken, weight_in, tree_of_words, all_taken}

-- ---- they leave their places

pub one_more : (s t : Known) (n : ℕ) → GivesRoot s n t
    → number_of_trees t.told.held ≤ number_of_trees s.told.held + 1
one_more s t n gives =
    omega (
      arith,
      gives.gains.weighs (λ _. 1),
      weight_of-one (root_tree s (stored_root s.roots n)),
    )

pub taken_of : (v : Versions) (s : Known) (marks : List (Option Mark)) (count : ℕ)
    (roots : List Rooted) → AreStoredVersions v → HoldsNothing v.store → v.marks.items ≡ marks
    → moment_of v + 1 ≡ count
    → ((u : Versions) → AreToBeTaken u v.store marks count → AreTakenRoots u count s roots)
    → AreTakenRoots v (moment_of v + 1) s roots
taken_of v s marks count roots are free same many took =
    subst (λ (n : ℕ). AreTakenRoots v n s roots) (sym many)
    (took v (record {
      are = are;
      nothing = free;
      store_is = refl;
      marks_are = same;
      many = many;
    }))

-- ---- what was read of a store leaves each held tree that of its name

abbrev name_or : Name → Option Name → Name
name_or d None = d
name_or d (Some n) = n

live_root : (t : Known) (number : ℕ) (n : Name) (x : Tree) → IsStore t number
    → IsHeld t.told.held x → root_of x ≡ Some n → n.level ≡ top t.words.plan.side
    → root_tree t (Some n) ≡ x
live_root t number n x st held root level =
    let l = st.stand.each x held in
    let same = sym (tree_root (key_in t.words) l.name.level l.name) ∙ ap root_of l.tree ∙ root in
    subst (λ (k : ℕ). tree_at (key_in t.words) k (Some n) ≡ x) level
    (subst (λ (m : Name). tree_at (key_in t.words) m.level (Some m) ≡ x)
    (ap (name_or n) same) l.tree)

module _ (v : Versions) (s t : Known) (roots : List Rooted) (number : ℕ)
    (of_v : AreStoredVersions v) (are : AreTakenRoots v (moment_of v + 1) s roots)
    (spares : SparesRoots s t) (seen : known_state t ≡ known_state s) (st : IsStore t number) where
  plan_same : t.words.plan ≡ v.store.words.plan
  plan_same = spares.plan ∙ ap (λ (w : Written). w.plan) are.words

  held_here : (p : ℕ) (n : Name) → stored_root v.store.roots p ≡ Some n
      → IsHeld t.told.held (root_tree v.store (Some n))
  held_here p n e =
      let kept = of_v.sound.kept p n e in
      let there = kept.there in
      let has = are.all p (omega (arith, there)) kept in
      record {
        weighs = λ f. (
            let in_all = weight_in f v.store roots (p, stored_root v.store.roots p) has in
            let held = ap (λ (k : StoreState). weigh f k.held) seen in
            let same = ap (λ (r : Option Name). weight_of f (root_tree v.store r)) e in
            omega (arith, are.weighs f, in_all, held, same, some_weighs v.store n f));
      }

  kept_tree : (p : ℕ) (o : Option Name) → stored_root v.store.roots p ≡ o
      → root_tree t o ≡ root_tree v.store o
  kept_tree p None e =
      gone_tree (key_in t.words) (top t.words.plan.side)
      ∙ sym (gone_tree (key_in v.store.words) (top v.store.words.plan.side))
  kept_tree p (Some n) e =
      live_root t number n (root_tree v.store (Some n)) st (held_here p n e)
      (root_is v.store (Some n))
      (of_v.sound.level p n e ∙ ap (λ (q : Layout). top q.side) (sym plan_same))

  pub left_all : AreLeftOut v.store t roots
  left_all = record {
    plan = plan_same;
    trees = λ p. kept_tree p (stored_root v.store.roots p) refl;
    only = record {
      made = ap (λ (k : StoreState). k.made) seen ∙ are.only.made;
      met = ap (λ (k : StoreState). k.met) seen ∙ are.only.met;
    };
    weighs = λ f. ap (λ (k : StoreState). weigh f k.held) seen ∙ are.weighs f;
    rising = are.rising;
    small = λ x has. (
        let lt = are.below x has in let few = of_v.sound.legal.few in omega (arith, lt, few));
    tops = λ x has n e. of_v.sound.level x.0 n (sym (are.roots_are x has) ∙ e);
    roots_are = are.roots_are;
    gone = λ x has. stored_same s t x.0 spares ∙ are.gone x has;
    others = λ p none.
        stored_same s t p spares
        ∙ are.others p
        (λ kept. (
        let there = kept.there in
        none (p, stored_root v.store.roots p) (are.all p (omega (arith, there)) kept) refl));
  }

  pub lent_all : AreLent t roots
  lent_all = record { from = v.store; left = left_all }

pub back_again : (v : Versions) (s t u : Known) (roots : List Rooted) (n : ℕ)
    → AreStoredVersions v → AreTakenRoots v (moment_of v + 1) s roots → SparesRoots s t
    → known_state t ≡ known_state s → IsStore t n
    → ((from : Known) → AreLeftOut from t roots → AreLeftOut from u [])
    → AreLeftOut v.store u []
back_again v s t u roots n of_v are spares seen st back =
    back v.store (left_all v s t roots n of_v are spares seen st)

-- ---- one comes back

module _ (a s : Known) (x : Rooted) (more : List Rooted) (left : AreLeftOut a s (x ∷ more)) where
  first : Contains (x ∷ more) x
  first = (0, omega arith, refl)

  later : (y : Rooted) → Contains more y → Contains (x ∷ more) y
  later y (k, lt, is) = (suc k, omega (arith, lt), is)

  after_first : (y : Rooted) → Contains more y → x.0 < y.0
  after_first y (k, lt, is) =
      subst (λ (z : Rooted). x.0 < z.0) is
      (left.rising 0 (suc k) y (omega arith) (omega (arith, lt)))

  tree_here : root_tree s x.1 ≡ root_tree a x.1
  tree_here = subst (λ (r : Option Name). root_tree s r ≡ root_tree a r)
      (sym (left.roots_are x first)) (left.trees x.0)

  holds_first : HoldsTree s x.1
  holds_first = record {
    each = λ n e. record {
      weighs = λ f. (
          let same = ap (λ (r : Option Name). weight_of f (root_tree s r)) e in
          let tree = ap (λ (u : Tree). weight_of f u) tree_here in
          omega (arith, left.weighs f, same, tree, some_weighs s n f));
    };
  }

  first_back : CanComeBack s x
  first_back = record {
    place = left.small x first;
    empty = left.gone x first;
    held = holds_some s x.1 holds_first;
    at_top = λ n e. left.tops x first n e ∙ ap (λ (q : Layout). top q.side) (sym left.plan);
  }

  module _ (t : Known) (keeps : KeepsRoot s x.0 x.1 t) where
    none_here : (p : ℕ) → ((y : Rooted) → Contains more y → y.0 ≢ p) → (p ≡ x.0 → ⊥)
        → (y : Rooted) → Contains (x ∷ more) y → y.0 ≢ p
    none_here p none other y (zero, lt, is) =
        λ same. other (sym (ap (λ (z : Rooted). z.0) is ∙ same))
    none_here p none other y (suc k, lt, is) = none y (k, omega (arith, lt), is)

    others_now : (p : ℕ) → ((y : Rooted) → Contains more y → y.0 ≢ p)
        → (p ≡ x.0) ⊎ (p ≡ x.0 → ⊥) → stored_root t.roots p ≡ stored_root a.roots p
    others_now p none (inl same) =
        ap (stored_root t.roots) same ∙ keeps.here ∙ left.roots_are x first
        ∙ ap (stored_root a.roots) (sym same)
    others_now p none (inr other) =
        keeps.elsewhere p other ∙ left.others p (none_here p none other)

    left_less : AreLeftOut a t more
    left_less = record {
      plan = ap (λ (w : Written). w.plan) keeps.words ∙ left.plan;
      trees = λ p. tree_of_words s t (stored_root a.roots p) keeps.words ∙ left.trees p;
      only = record {
        made = keeps.only.made ∙ left.only.made;
        met = keeps.only.met ∙ left.only.met;
      };
      weighs = λ f. (
          let tree = ap (λ (u : Tree). weight_of f u) tree_here in
          omega (arith, keeps.loses.weighs f, left.weighs f, tree));
      rising = λ i j d lt within.
          left.rising (suc i) (suc j) d (omega (arith, lt)) (omega (arith, within));
      small = λ y has. left.small y (later y has);
      tops = λ y has. left.tops y (later y has);
      roots_are = λ y has. left.roots_are y (later y has);
      gone = λ y has. (
          let lt = after_first y has in
          keeps.elsewhere y.0 (λ same. absurd (omega (arith, lt, same)))
          ∙ left.gone y (later y has));
      others = λ p none. others_now p none (cases_eq p x.0);
    }

-- the same of a list that begins with it
pub comes_back : (s : Known) (x : Rooted) (more all : List Rooted) → all ≡ x ∷ more
    → AreLent s all → CanComeBack s x
comes_back s x more all is lent =
    first_back lent.from s x more
    (subst (λ (l : List Rooted). AreLeftOut lent.from s l) is lent.left)

pub left_then : (a s t : Known) (x : Rooted) (more all : List Rooted) → all ≡ x ∷ more
    → KeepsRoot s x.0 x.1 t → AreLeftOut a s all → AreLeftOut a t more
left_then a s t x more all is keeps left =
    left_less a s x more (subst (λ (l : List Rooted). AreLeftOut a s l) is left) t keeps

pub lent_then : (s t : Known) (x : Rooted) (more all : List Rooted) → all ≡ x ∷ more
    → KeepsRoot s x.0 x.1 t → AreLent s all → AreLent t more
lent_then s t x more all is keeps lent =
    record { from = lent.from; left = left_then lent.from s t x more all is keeps lent.left }

-- ---- all came back

pub no_more : (roots : List Rooted) → length roots ≡ 0 → roots ≡ []
no_more [] none = refl
no_more (x ∷ roots) none = absurd (omega (arith, none))

module _ (v : Versions) (t : Known) (m n : ℕ) (left : AreLeftOut v.store t [])
    (was : IsStore v.store m) (now : IsStore t n) where
  back_all : SparesRoots v.store t
  back_all = record {
    plan = left.plan;
    roots = ext_get_or None t.roots v.store.roots (now.places ∙ sym was.places)
        (λ k lt. left.others k (λ x has. absurd (none_in x has)));
    trees = left.trees;
  }

  pub lent_are : AreStoredVersions v → AreStoredVersions (with_store v t)
  lent_are are = are_spared v t are back_all

  pub lent_plain : AreVersions v → AreVersions (with_store v t)
  lent_plain are = plain_spared v t back_all are

  pub lent_leaves : LeavesAll v (with_store v t)
  lent_leaves = record { stay = stay_spared v t back_all; only = left.only }

  pub lent_nothing : HoldsNothing t
  lent_nothing = record { weighs = λ f. left.weighs f }

-- ---- the list that is written

module _ (v : Versions) (s : Known) (roots : List Rooted) (m : ℕ) (of_v : AreStoredVersions v)
    (are : AreTakenRoots v (moment_of v + 1) s roots) (was : IsStore v.store m) where
  low : 2 ≤ v.side
  low = let at = of_v.side in let two = was.plan.side_low in omega (arith, at, two)

  lent_versions : HoldsVersions v.side v.models.models (log_of v) s.told.held roots
  lent_versions =
      subst (λ (k : ℕ). HoldsVersions k v.models.models (log_of v) s.told.held roots)
      (sym of_v.side) (all_taken v s roots of_v are)

  pub lent_held : HoldsList s.told.held (v.side - 1) roots
  lent_held = roots_held v.models.models (log_of v) s.told.held roots low lent_versions

  pub lent_rise : DoNumbersRise roots
  lent_rise = roots_rise v.models.models (log_of v) s.told.held roots low lent_versions

  pub lent_small : AreNumbersSmall roots
  lent_small =
      roots_small v.models.models (log_of v) s.told.held roots low lent_versions
      of_v.sound.legal.few

  pub lent_side : s.words.plan.side ≡ v.side
  lent_side = ap (λ (w : Written). w.plan.side) are.words ∙ sym of_v.side

  pub lent_file : {E Z : Type 0} (result : Result (Vec ℕ Z) E)
      → IfOk result (λ file. IsFileOfList s.told.held (v.side - 1) roots file.items)
      → IfOk result (λ file. IsFileOfHeld v.models.models (log_of v) file.items)
  lent_file (Err e) told = tt
  lent_file (Ok file) told = record {
    low = low;
    held = s.told.held;
    roots = roots;
    versions = lent_versions;
    file_is = told;
  }
