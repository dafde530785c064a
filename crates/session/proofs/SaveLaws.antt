-- Versions that are pinned for saves, and the shares that are held for them.
use Rattle.std.proofs.Common.{◌≡◌, ◌+◌, ◌≤◌, ◌^◌, ℕ, Option, List, [], ◌∷◌, ◌++◌, length, length-append, refl, sym, ◌∙◌, ap, subst, arith}
use Rattle.std.specs.List.{AllZip, Contains, sum_by}
use Rattle.std.proofs.lemmas.List.Elements.{All-contains}
use Rattle.std.proofs.lemmas.List.Sums.{sum_by-append, sum_by-cons}
use Rattle.vw_cell.specs.declared.boxes.Boxed.{Boxed}
use Rattle.vw_cell.specs.Counts.{number_in}
use Rattle.vox_read.specs.Contents.{Content}
use Rattle.history_model.specs.Stores.{store_has, stored_in}
use Rattle.history_model.specs.Worlds.{World}
use Rattle.node_words.proofs.OfShapes.WeightLaws.{weigh-cons, weight_of-one}
use Rattle.node_words.specs.declared.shapes.names.Name.{Name}
use Rattle.node_words.specs.shapes.Shape.{ShowsCells}
use Rattle.node_words.specs.shapes.Tree.{Tree, shape_of}
use Rattle.node_words.specs.shapes.Weights.{weigh, weight_of, number_of_trees}
use Rattle.node_words.specs.Gathering.{Loses, MayHold}
use Rattle.node_words.specs.Held.{SameHeld}
use Rattle.node_words.specs.Plans.{Layout}
use Rattle.edit_walk.specs.blocks.Blocks.{ReturnsShare, MayGoBack}
use Rattle.core_laws.specs.contents.Aligned.{top, world_block}
use Rattle.conformance.specs.Answers.{asked_version}
use Rattle.table_rule.specs.LogFacts.{seen_has}
use Rattle.table_rule.specs.ViewFacts.{ViewFacts}
use Rattle.node_table.proofs.LogActs.{one_tree}
use Rattle.node_table.specs.TableStates.{TableState, PassState, SamePass}
use Rattle.version_log.specs.Pins.{PinsVersion}
use Rattle.version_log.specs.Seeing.{OnlyReadsLog}
use Rattle.version_log.specs.declared.answers.Pinned.{Pinned}
use Rattle.conformance.proofs.OfSessions.SuitLaws.{store_stays}
use Rattle.conformance.specs.sessions.SessionViews.{SessionView}
use Rattle.conformance.specs.sessions.Calls.{FindsVersion, FollowsHistory}
use Rattle.conformance.specs.sessions.CallSpecs.{Saved}
use Rattle.session.proofs.AskLaws.{asked_as, held_or_gone}
use Rattle.session.proofs.SameLaws.{finds}
use Rattle.session.proofs.SeenLaws.{models_stay, only_sees}
use Rattle.session.specs.Resting.{IsAtRest}
use Rattle.session.specs.Saves.{AddsPin, HoldsSaves, IsSavedRoot}
use Rattle.session.specs.SessionWorlds.{SessionWorld, of_world, session_view}

module _ (t : SessionWorld) (asked : Option ℕ) (v w : PassState) (p : Pinned) (r : IsAtRest t.table v)
    (looks : OnlyReadsLog v.view w.view) (is : PinsVersion v.view asked p w.view) where
  plan_is : w.view.plan ≡ t.table.plan
  plan_is = looks.session.plan ∙ r.of.plan

  models_is : w.view.models ≡ t.table.models
  models_is = models_stay t.table v w r looks

  -- the log that is seen is of a store of the world's side
  side_is : w.view.plan.side ≡ w.view.log.seen.side
  side_is = ap (λ (q : Layout). q.side) plan_is ∙ sym (looks.sees.side ∙ r.side)

  pub version_is : p.version ≡ asked_version asked p.moment
  version_is = is.version ∙ asked_as asked p.moment

  -- the version that was saved was found, and its cells were counted
  pub save_told : (number : ℕ) (x : PassState) (part : Boxed) (cells : ℕ)
      → session_view x.view ≡ session_view w.view
      → cells ≡ number_in part (seen_has w.view p.version)
      → Saved (of_world t number) asked part (session_view v.view) (session_view x.view)
      (record { at = p.moment; cells = cells })
  save_told number x part cells same counted =
      subst (λ (s : SessionView). Saved (of_world t number) asked part (session_view v.view) s
      (record { at = p.moment; cells = cells })) (sym same)
      (record {
        at_is = is.moment;
        only = only_sees v.view w.view looks;
        finds = subst (λ (u : ℕ). FindsVersion (session_view w.view) u) version_is
            (finds w.view p.version p.moment is.moment
            (record { there = is.pinned.version; unmarked = is.unmarked; found = is.pinned.found }));
        cells =
            counted
            ∙ ap
            (λ (ms : List Content). number_in part
            (stored_in (2 ^ w.view.plan.side) ms w.view.log.seen.records p.version)) models_is
            ∙ ap
            (λ (n : ℕ). number_in part
            (stored_in (2 ^ n) t.table.models w.view.log.seen.records p.version)) side_is
            ∙ ap
            (λ (u : ℕ). number_in part (store_has t.table.models w.view.log.seen u)) version_is;
      })

  may_have : MayHold w.view.held is.gains.tree
  may_have = record { weighs = λ f. (let l = is.gains.loses.weighs f in omega arith) }

  module _ (tells : ViewFacts w.view) where
    tree_is : is.pinned.root.tree ≡ is.gains.tree
    tree_is =
        one_tree w.view is.pinned.root.tree is.gains.tree tells
        (held_or_gone w.view.held is.pinned.root.tree is.pinned.root.held)
        (held_or_gone w.view.held is.gains.tree may_have) (is.pinned.root.name ∙ sym is.gains.name)

    shows_here : ShowsCells (world_block t.table.plan.side) (shape_of is.gains.tree)
        (store_has t.table.models w.view.log.seen p.version)
    shows_here =
        subst (λ (q : Layout). ShowsCells (world_block q.side) (shape_of is.gains.tree)
        (store_has t.table.models w.view.log.seen p.version)) plan_is
        (subst (λ (n : ℕ). ShowsCells (world_block w.view.plan.side) (shape_of is.gains.tree)
        (stored_in (2 ^ n) t.table.models w.view.log.seen.records p.version)) side_is
        (subst (λ (ms : List Content). ShowsCells (world_block w.view.plan.side)
        (shape_of is.gains.tree)
        (stored_in (2 ^ w.view.plan.side) ms w.view.log.seen.records p.version)) models_is
        (subst (λ (u : Tree). ShowsCells (world_block w.view.plan.side) (shape_of u)
        (seen_has w.view p.version)) tree_is is.pinned.root.shows)))

    pin_here : IsSavedRoot t.table (session_view w.view) p is.gains.tree
    pin_here = record {
      version = is.pinned.version;
      moment = is.pinned.moment;
      found = is.pinned.found;
      name = is.gains.name;
      level = λ n e. is.pinned.root.level n e ∙ ap (λ (q : Layout). top q.side) plan_is;
      shows = shows_here;
    }

    pub adds_pin : (x : PassState) → session_view x.view ≡ session_view w.view
        → x.view.held ≡ w.view.held
        → AddsPin t.table (session_view x.view) v.view.held x.view.held p
    adds_pin x same held = record {
      tree = is.gains.tree;
      is = subst (λ (s : SessionView). IsSavedRoot t.table s p is.gains.tree) (sym same) pin_here;
      gains = subst (λ (ts : List Tree). Loses ts is.gains.tree v.view.held)
          (sym held) is.gains.loses;
    }

-- ---- pins with their trees

module _ (of : TableState) (s : SessionView) where
  pub pin_added : (pins : List Pinned) (trees : List Tree) (p : Pinned) (t : Tree)
      → AllZip (IsSavedRoot of s) pins trees → IsSavedRoot of s p t
      → AllZip (IsSavedRoot of s) (pins ++ p ∷ []) (trees ++ t ∷ [])
  pin_added [] [] p t are is = (is, tt)
  pin_added [] (u ∷ trees) p t are is = absurd are
  pin_added (q ∷ pins) [] p t are is = absurd are
  pin_added (q ∷ pins) (u ∷ trees) p t are is = (are.0, pin_added pins trees p t are.1 is)

  -- no more trees are held than there are pins
  pub pins_few : (pins : List Pinned) (trees : List Tree) → AllZip (IsSavedRoot of s) pins trees
      → sum_by (weight_of (λ _. 1)) trees ≤ length pins
  pins_few [] [] are = omega arith
  pins_few [] (u ∷ trees) are = absurd are
  pins_few (q ∷ pins) [] are = absurd are
  pins_few (q ∷ pins) (u ∷ trees) are =
      let rest = pins_few pins trees are.1 in
      let one = weight_of-one u in
      let both = sum_by-cons (weight_of (λ _. 1)) u trees in
      omega arith

  -- the last pin, and the others
  pub record HasLastPin (pins : List Pinned) (p : Pinned) (trees : List Tree) : Type 0 where
    pub rest : List Tree
    pub tree : Tree
    pub are : AllZip (IsSavedRoot of s) pins rest
    pub is : IsSavedRoot of s p tree
    pub weighs : (f : Tree → ℕ)
        → sum_by (weight_of f) trees ≡ weight_of f tree + sum_by (weight_of f) rest

  pub last_pin : (pins : List Pinned) (p : Pinned) (trees : List Tree)
      → AllZip (IsSavedRoot of s) (pins ++ p ∷ []) trees → HasLastPin pins p trees
  last_pin [] p [] are = absurd are
  last_pin [] p (t ∷ []) are = record {
    rest = [];
    tree = t;
    are = tt;
    is = are.0;
    weighs = λ f.
        (let one = sum_by-cons (weight_of f) t [] in let none : sum_by (weight_of f) []
        ≡ 0 = refl in omega arith);
  }
  last_pin [] p (t ∷ u ∷ trees) are = absurd are.1
  last_pin (q ∷ pins) p [] are = absurd are
  last_pin (q ∷ pins) p (t ∷ trees) are =
      let l = last_pin pins p trees are.1 in
      record {
        rest = t ∷ l.rest;
        tree = l.tree;
        are = (are.0, l.are);
        is = l.is;
        weighs = λ f. (
            let a = l.weighs f in
            let b = sum_by-cons (weight_of f) t trees in
            let c = sum_by-cons (weight_of f) t l.rest in
            omega arith);
      }

-- a session that has seen more keeps its pins
pub pins_later : (of : TableState) (s z : SessionView) (pins : List Pinned) (trees : List Tree)
    → FollowsHistory s z → AllZip (IsSavedRoot of s) pins trees
    → AllZip (IsSavedRoot of z) pins trees
pins_later of s z [] [] more are = tt
pins_later of s z [] (u ∷ trees) more are = absurd are
pins_later of s z (p ∷ pins) [] more are = absurd are
pins_later of s z (p ∷ pins) (u ∷ trees) more are = (
  record {
    version = are.0.version;
    moment = (let there = are.0.moment in let long = ap length more.goes_on.records in let both = longer s.log.records more.goes_on.more in omega arith);
    found = All-contains (Contains z.found) s.found _ more.found are.0.found;
    name = are.0.name;
    level = are.0.level;
    shows = subst (λ (w : World). ShowsCells (world_block of.plan.side) (shape_of u) w)
        (sym (store_stays of.models s.log z.log p.version more.goes_on
        (let v = are.0.version in let m = are.0.moment in omega arith))) are.0.shows;
  },
  pins_later of s z pins trees more are.1,
)
  where
    longer : {X : Type 0} (xs ys : List X) → length (xs ++ ys) ≡ length xs + length ys
    longer xs ys = length-append xs ys

-- ---- what is held for them

pub no_pins : (of : TableState) (s : SessionView) (held : List Tree) (pins : List Pinned) → held ≡ []
    → pins ≡ [] → HoldsSaves of s held pins
unfolding weigh
no_pins of s held pins none no_pin =
    subst (λ (ps : List Pinned). HoldsSaves of s held ps) (sym no_pin)
    (subst (λ (ts : List Tree). HoldsSaves of s ts []) (sym none)
    (record { trees = []; are = tt; weighs = λ f. refl }))

pub few_held : (of : TableState) (s : SessionView) (held : List Tree) (pins : List Pinned)
    → HoldsSaves of s held pins → number_of_trees held ≤ length pins
few_held of s held pins h =
    (let few = pins_few of s pins h.trees h.are in let w = h.weighs (λ _. 1) in omega arith)

pub still_held : (of : TableState) (s z : SessionView) (held more : List Tree) (pins : List Pinned)
    → HoldsSaves of s held pins → SameHeld held more → FollowsHistory s z
    → HoldsSaves of z more pins
still_held of s z held more pins h same sees = record {
  trees = h.trees;
  are = pins_later of s z pins h.trees sees h.are;
  weighs = λ f. same.weighs f ∙ h.weighs f;
}

pub one_more : (of : TableState) (s z : SessionView) (held more : List Tree) (pins now : List Pinned)
    (p : Pinned) → HoldsSaves of s held pins → FollowsHistory s z → AddsPin of z held more p
    → now ≡ pins ++ p ∷ []
    → HoldsSaves of z more now
one_more of s z held more pins now p h sees adds is =
    subst (λ (ps : List Pinned). HoldsSaves of z more ps) (sym is) (record {
      trees = h.trees ++ adds.tree ∷ [];
      are = pin_added of z pins h.trees p adds.tree (pins_later of s z pins h.trees sees h.are) adds.is;
      weighs = λ f. (
          let a = adds.gains.weighs f in
          let b = h.weighs f in
          let c = sum_by-append (weight_of f) h.trees (adds.tree ∷ []) in
          let d = sum_by-cons (weight_of f) adds.tree [] in
          let e : sum_by (weight_of f) [] ≡ 0 = refl in
          omega arith);
    })

-- ---- the last pin goes back

none_held : (held : List Tree) → weigh (λ _. 1) held ≡ 0 → held ≡ []
none_held [] e = refl
none_held (t ∷ held) e = absurd (let more = weigh-cons (λ _. 1) t held in omega arith)

pub all_back : (of : TableState) (s : SessionView) (held : List Tree) (pins : List Pinned)
    → HoldsSaves of s held pins → pins ≡ [] → held ≡ []
all_back of s held pins h none =
    let few = few_held of s held pins h in
    let long = ap length none in
    none_held held (omega arith)

module _ (of : TableState) (s : SessionView) (held : List Tree) (pins all : List Pinned)
    (p : Pinned) (h : HoldsSaves of s held all) (is : all ≡ pins ++ p ∷ []) where
  last : HasLastPin of s pins p h.trees
  last = last_pin of s pins p h.trees
      (subst (λ (ps : List Pinned). AllZip (IsSavedRoot of s) ps h.trees) is h.are)

  may_last : MayHold held last.tree
  may_last = record { weighs = λ f. (let a = h.weighs f in let b = last.weighs f in omega arith) }

  pub last_may_go : (root : Option Name) → root ≡ p.root → MayGoBack held root
  last_may_go root same = (last.tree, last.is.name ∙ sym same, may_last)

  pub last_gone : (root : Option Name) (more : List Tree) → root ≡ p.root → ReturnsShare root held more
      → HoldsSaves of s more pins
  last_gone root more same goes =
      let l = goes last.tree (last.is.name ∙ sym same) may_last in
      record {
        trees = last.rest;
        are = last.are;
        weighs = λ f.
            (let a = h.weighs f in let b = last.weighs f in let c = l.weighs f in omega arith);
      }

-- the same pass over two calls
pub passes_on : (s t u : PassState) → SamePass s t → SamePass t u → SamePass s u
passes_on s t u f g =
    let v = f.session in
    let z = g.session in
    record {
      table = g.table ∙ f.table;
      session = record {
        alive = z.alive ∙ v.alive;
        plan = z.plan ∙ v.plan;
        models = z.models
            ∙ v.models;
        numbers = z.numbers ∙ v.numbers;
      };
    }
