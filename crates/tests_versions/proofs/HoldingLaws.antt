-- What edits of a world of side 4 that set all cells, or none, need and leave of a pass.
use Rattle.std.proofs.Common.{◌≡◌, ℕ, zero, suc, ◌+◌, ◌-◌, ◌^◌, ◌<◌, ◌≤◌, true, false, Option, Some, None, List, [], ◌∷◌, All, length, get_or, refl, sym, ap, ◌∙◌, subst, arith}
use Rattle.std.specs.List.{slice_get}
use Rattle.vw_cell.specs.declared.cells.Cell.{Cell}
use Rattle.vw_cell.specs.Places.{IsInWorld}
use Rattle.vox_read.specs.Contents.{Content}
use Rattle.history_model.specs.declared.acts.Act.{Act}
use Rattle.history_model.specs.declared.histories.Record.{Record}
use Rattle.history_model.specs.Logs.{FitsWorld}
use Rattle.history_model.specs.Making.{MayMake}
use Rattle.history_model.specs.Stores.{stored_in}
use Rattle.history_model.specs.Worlds.{World, is_edit}
use Rattle.node_words.specs.declared.shapes.names.Name.{Name}
use Rattle.node_words.specs.shapes.Shape.{ShowsCells, has}
use Rattle.node_words.specs.shapes.Tree.{Tree, Gone, LeafAt, NodeAt, shape_of, root_of}
use Rattle.node_words.specs.shapes.Weights.{weigh, weight_of, number_of_trees}
use Rattle.node_words.proofs.OfShapes.ShapeLaws.{has-clear}
use Rattle.node_words.proofs.OfShapes.WeightLaws.{weight_of-gone, weight_of-there, weigh-cons, weigh-nil}
use Rattle.node_words.specs.Gathering.{Loses, MayHold}
use Rattle.node_words.specs.Held.{Gains, HoldsName, IsHeld, SameHeld}
use Rattle.node_words.specs.declared.shares.Full.{Full}
use Rattle.core_laws.specs.contents.Aligned.{top, world_block}
use Rattle.edit_walk.specs.blocks.Blocks.{ReturnsShare}
use Rattle.table_rule.specs.LogFacts.{number_seen, seen_has}
use Rattle.table_rule.specs.LogViews.{LogView}
use Rattle.table_rule.specs.Views.{SeatView}
use Rattle.table_rule.specs.LogChanges.{HasOpenTarget}
use Rattle.intern.specs.Leaves.{InternsLeaf, LeafRefused}
use Rattle.node_table.specs.Begins.{AreNewPasses, terms_of}
use Rattle.node_table.specs.Closing.{IsSpare}
use Rattle.node_table.specs.LogTurns.{HasNoTurn, TakesLog}
use Rattle.node_table.specs.TableStates.{TableState, PassState, BelongsTo}
use Rattle.version_log.specs.declared.lookahead.Lookahead.{Lookahead}
use Rattle.version_log.specs.declared.answers.Committed.{Committed}
use Rattle.version_log.specs.declared.answers.Forgot.{Forgot}
use Rattle.version_log.specs.declared.answers.Pinned.{Pinned}
use Rattle.version_log.specs.Commits.{AppendsNext, IsMadeOver}
use Rattle.retain.specs.Retained.{falls_out}
use Rattle.version_log.specs.Falling.{CommitsNext}
use Rattle.version_log.specs.Forgets.{ForgetsVersion}
use Rattle.version_log.specs.Keeping.{OnlyKeeps}
use Rattle.version_log.specs.Roots.{HoldsRootOf, GetsRoot}
use Rattle.version_log.specs.Targets.{IsMadeNow, KnowsNext}
use Rattle.version_log.proofs.AppendLaws.{edit_made, open_of_edit}
use Rattle.version_log.proofs.FallLaws.{falls_gets}
use Rattle.version_log.proofs.WordLaws.{edit_knows}
use Rattle.tests_versions.proofs.UniformLaws.{first_edit, fits_first, fits_uniform, leaf_root, makes_first, makes_uniform, shows_first, shows_uniform, uniform_edit}
use Rattle.tests_versions.specs.Holding.{HoldsLeaf, HoldsUniform, PinsBlank}
use Rattle.tests_versions.specs.Uniform.{first_act, first_cells, leaf_tree, uniform_act, uniform_cells, uniform_tree}

pub nothing_held : (held : List Tree) → SameHeld [] held → held ≡ []
nothing_held [] same = refl
nothing_held (t ∷ held) same =
    absurd (let e = same.weighs (λ _. 1) in let c = weigh-cons (λ _. 1) t held in
    let n = weigh-nil (λ _. 1) in omega arith)

pub few_held : (held : List Tree) → held ≡ [] → number_of_trees held ≤ 3000
few_held held none =
    (let e = ap (λ (ts : List Tree). number_of_trees ts) none in let n = weigh-nil (λ _. 1) in
    omega arith)

pub same_nothing : (held : List Tree) → held ≡ [] → SameHeld [] held
same_nothing held none = record { weighs = λ f. ap (λ (ts : List Tree). weigh f ts) none }

pub idle_spare : (t : TableState) (s : PassState) → IsSpare t s → HasNoTurn s.view
idle_spare t s spare = record { bucket = spare.turn; log = spare.log_turn }

pub spare_again : (t : TableState) (s : PassState) → BelongsTo t s → HasNoTurn s.view
    → SameHeld [] s.view.held → IsSpare t s
spare_again t s of idle same = record {
  of = of;
  turn = idle.bucket;
  log_turn = idle.log;
  held = nothing_held s.view.held same;
}

-- what it holds may be held, and is one tree at most
pub whole_held : (held : List Tree) (t : Tree) → Loses held t [] → MayHold held t
whole_held held t is = record { weighs = λ f. (let e = is.weighs f in omega arith) }

-- where it went nothing is held
pub whole_gone : (bits : ℕ) (old new : List Tree) (root : Option Name)
    → Loses old (leaf_tree bits root) [] → ReturnsShare root old new → SameHeld [] new
whole_gone bits old new root is gone =
    let l = gone (leaf_tree bits root) (leaf_root bits root)
    (whole_held old (leaf_tree bits root) is) in
    record { weighs = λ f. (let e = is.weighs f in let g = l.weighs f in omega arith) }

tree_light : (t : Tree) → weight_of (λ _. 1) t ≤ 1
tree_light Gone = let z = weight_of-gone (λ _. 1) Gone refl in omega arith
tree_light (LeafAt n bits) =
    let e = weight_of-there (λ _. 1) (LeafAt n bits) n refl in omega arith
tree_light (NodeAt n a b c d e f g h) =
    let x = weight_of-there (λ _. 1) (NodeAt n a b c d e f g h) n refl in omega arith

whole_light : (bits : ℕ) (root : Option Name) → weight_of (λ _. 1) (leaf_tree bits root) ≤ 1
whole_light bits root = tree_light (leaf_tree bits root)

-- the root of a world of side 4 that is held
holds_cells : (bits : ℕ) (cells : World) (v : SeatView) (root : Option Name) → v.plan.side ≡ 2
    → Loses v.held (leaf_tree bits root) [] → ((n : Name) → root ≡ Some n → n.level ≡ 0)
    → ShowsCells (world_block 2) (shape_of (leaf_tree bits root)) cells → HoldsRootOf v root cells
holds_cells bits cells v root side is low shows = record {
  tree = leaf_tree bits root;
  name = leaf_root bits root;
  held = whole_held v.held (leaf_tree bits root) is;
  level = λ n e. low n e ∙ sym (ap top side);
  shows = subst
      (λ (k : ℕ). ShowsCells (world_block k) (shape_of (leaf_tree bits root)) cells)
      (sym side) shows;
}

module _ (v : SeatView) (root : Option Name) (side : v.plan.side ≡ 2)
    (is : Loses v.held (uniform_tree root) []) (low : (n : Name) → root ≡ Some n → n.level ≡ 0)
  where
    pub holds : HoldsRootOf v root (uniform_cells root)
    holds = holds_cells (2 ^ 64 - 1) (uniform_cells root) v root side is low (shows_uniform root)

    pub made_then : (n : ℕ) → IsMadeOver v n (uniform_act root) root
    made_then n = record {
      cells = uniform_cells root;
      holds = holds;
      makes = subst
          (λ (k : ℕ).
          MayMake (2 ^ k) v.models (uniform_act root) (seen_has v n) (uniform_cells root))
          (sym side) (makes_uniform root v.models (seen_has v n));
    }

    pub made_now : IsMadeNow v (uniform_act root) root
    made_now =
        edit_made v (number_seen v) (uniform_act root) root (uniform_edit root) refl
        (made_then (number_seen v))

pub fits_side : (side : ℕ) (models : List Content) (root : Option Name) → side ≡ 2
    → FitsWorld (2 ^ side) models (uniform_act root)
fits_side side models root two =
    subst (λ (k : ℕ). FitsWorld (2 ^ k) models (uniform_act root)) (sym two)
    (fits_uniform root models)

-- the act whose root this is, whatever it is called
pub fits_act : (side : ℕ) (models : List Content) (root : Option Name) (act : Act) → side ≡ 2
    → act ≡ uniform_act root → FitsWorld (2 ^ side) models act
fits_act side models root act two is =
    subst (λ (a : Act). FitsWorld (2 ^ side) models a) (sym is) (fits_side side models root two)

pub edit_act : (root : Option Name) (act : Act) → act ≡ uniform_act root → is_edit act ≡ true
edit_act root act is = ap is_edit is ∙ uniform_edit root

pub open_act : (v : SeatView) (root : Option Name) (act : Act) → act ≡ uniform_act root
    → HasOpenTarget v act
open_act v root act is = open_of_edit v act (edit_act root act is)

pub knows_act : (records : List Record) (root : Option Name) (act : Act) (a : Lookahead)
    → act ≡ uniform_act root → KnowsNext records act a
knows_act records root act a is = edit_knows records act a (edit_act root act is)

-- what the pass holds it holds under the log's turn
module _ (t : TableState) (s : PassState) (root : Option Name) (h : HoldsUniform t s root) where
  here : s.view.plan.side ≡ 2
  here = ap (λ p. p.side) h.of.plan ∙ h.side

  pub made_act : {made : ℕ} (u : SeatView) (act : Act) → TakesLog made s.view u
      → act ≡ uniform_act root
      → IsMadeNow u act root
  made_act u act takes is =
      let side = ap (λ (x : SeatView). x.plan.side) takes.is ∙ here in
      let held = subst (λ (ts : List Tree). Loses ts (uniform_tree root) [])
      (sym (ap (λ (x : SeatView). x.held) takes.is)) h.held in
      subst (λ (a : Act). IsMadeNow u a root) (sym is) (made_now u root side held h.level)

  pub made_over : (n : ℕ) (act : Act) → act ≡ uniform_act root → IsMadeOver s.view n act root
  made_over n act is =
      subst (λ (a : Act). IsMadeOver s.view n a root) (sym is)
      (made_then s.view root here h.held h.level n)

-- the same of any leaf
module _ {bits : ℕ} (t : TableState) (s : PassState) (root : Option Name)
    (h : HoldsLeaf t s bits root) where
  -- a record took it
  pub appended_spare : (u : SeatView) (w : PassState) (line : ℕ) (act : Act) (n : ℕ)
      → u.held ≡ s.view.held → AppendsNext u line act root n w.view → BelongsTo t w
      → HasNoTurn w.view → IsSpare t w
  appended_spare u w line act n same a of idle =
      spare_again t w of idle
      (whole_gone bits s.view.held w.view.held root h.held
      (subst (λ (ts : List Tree). ReturnsShare root ts w.view.held) same a.gone))

  -- it came back with a refusal
  pub refused_whole : (w : PassState) (back : Option Name) → back ≡ root
      → w.view.held ≡ s.view.held → BelongsTo t w → HasNoTurn w.view → HoldsLeaf t w bits back
  refused_whole w back is same of idle =
      subst (λ (r : Option Name). HoldsLeaf t w bits r) (sym is)
      (record {
        of = of;
        idle = idle;
        side = h.side;
        held = subst (λ (ts : List Tree). Loses ts (leaf_tree bits root) []) (sym same) h.held;
        level = h.level;
      })

  -- it may be given back, and then nothing is held
  pub back_named : (n : Name) → root ≡ Some n → HoldsName s.view.held n
  back_named n is = record {
    tree = leaf_tree bits (Some n);
    is_held = record {
      weighs = λ f.
          (let e = subst (λ (r : Option Name). Loses s.view.held (leaf_tree bits r) []) is h.held in
          let w = weight_of-there f (leaf_tree bits (Some n)) n refl in let l = e.weighs f in
          omega arith);
    };
    root = refl;
  }

  pub back_few : number_of_trees s.view.held ≤ 1
  back_few =
      let e = h.held.weighs (λ _. 1) in let n = weigh-nil (λ _. 1) in
      let one = whole_light bits root in omega arith

  pub back_spare_again : (w : PassState) → BelongsTo t w → w.view.turn ≡ None
      → w.view.log ≡ s.view.log → ReturnsShare root s.view.held w.view.held → IsSpare t w
  back_spare_again w of idle log gone =
      spare_again t w of
      (record { bucket = idle; log = ap (λ (l : LogView). l.turn) log ∙ h.idle.log })
      (whole_gone bits s.view.held w.view.held root h.held gone)

-- a root that came may be given back, and then the same is held
module _ (old mid : List Tree) (root : Option Name) (g : GetsRoot old root mid) where
  pub gets_named : (n : Name) → root ≡ Some n → HoldsName mid n
  gets_named n is = record {
    tree = g.tree;
    is_held = record {
      weighs = λ f.
          (let w = weight_of-there f g.tree n (g.name ∙ is) in let l = g.loses.weighs f in
          omega arith);
    };
    root = g.name ∙ is;
  }

  pub gets_few : (k : ℕ) → number_of_trees old ≤ k → number_of_trees mid ≤ k + 1
  gets_few k few =
      let l = g.loses.weighs (λ _. 1) in let one = tree_light g.tree in omega arith

  pub gets_back : (new : List Tree) → ReturnsShare root mid new → SameHeld old new
  gets_back new gone =
      let l = gone g.tree g.name
      (record { weighs = λ f. (let e = g.loses.weighs f in omega arith) }) in
      record { weighs = λ f. (let e = g.loses.weighs f in let k = l.weighs f in omega arith) }

-- no root came
pub no_root_came : (old new : List Tree) (root : Option Name) → GetsRoot old root new → root ≡ None
    → SameHeld old new
no_root_came old new root g none = record {
  weighs = λ f.
      (let w = weight_of-gone f g.tree (g.name ∙ none) in let l = g.loses.weighs f in omega arith);
}

-- what came of the leaf
pub leaf_holds : {bits : ℕ} (t : TableState) (s w : PassState) (n : Name) → IsSpare t s
    → t.plan.side ≡ 2 → InternsLeaf s.view bits n w.view → BelongsTo t w → HoldsLeaf t w bits (Some n)
leaf_holds {bits} t s w n spare side came of =
    record {
      of = of;
      idle = record {
        bucket = came.turn;
        log = ap (λ (l : LogView). l.turn) came.log ∙ spare.log_turn;
      };
      side = side;
      held = record {
        weighs = λ f.
            (let g = came.gains.weighs f in
            let w = weight_of-there f (LeafAt n bits) n refl in
            let e = ap (λ (ts : List Tree). weigh f ts) spare.held in omega arith);
      };
      level = λ m e. subst (λ (k : Name). k.level ≡ 0) (let same : n ≡ m = cc in same) came.level;
    }

-- a pass that holds nothing holds no root
pub none_holds : {bits : ℕ} (t : TableState) (s : PassState) → BelongsTo t s → HasNoTurn s.view
    → t.plan.side ≡ 2 → SameHeld [] s.view.held → HoldsLeaf t s bits None
none_holds t s of idle side same =
    record {
      of = of;
      idle = idle;
      side = side;
      held = record {
        weighs = λ f.
            (let e = same.weighs f in let z = weight_of-gone f Gone refl in omega arith);
      };
      level = λ m e. absurd (let no : ⊥ = cc in no);
    }

-- nor does one whose leaf found a full bucket
pub full_holds : {bits : ℕ} (t : TableState) (s w : PassState) (full : Full) → IsSpare t s
    → t.plan.side ≡ 2 → LeafRefused s.view bits full w.view → BelongsTo t w
    → HoldsLeaf t w bits None
full_holds t s w full spare side refused of =
    none_holds t w of
    (record {
      bucket = refused.turn;
      log = ap (λ (l : LogView). l.turn) refused.log ∙ spare.log_turn;
    })
    side (same_nothing w.view.held (refused.meets.held ∙ spare.held))

get_there : (passes : List PassState) (k : ℕ) (d : PassState) → k < length passes
    → slice_get passes k ≡ Some (get_or passes k d)
get_there [] k d lt = absurd (omega arith)
get_there (p ∷ passes) zero d lt = refl
get_there (p ∷ passes) (suc k) d lt = get_there passes k d (omega arith)

-- new passes are spare
pub new_spare : (t : TableState) (passes : List PassState) → AreNewPasses t.id (terms_of t) passes
    → All (IsSpare t) passes
new_spare t passes all = λ k d lt.
    (let n = all.each k (get_or passes k d) (get_there passes k d lt) in
    record {
      of = record { table = n.table_is; plan = n.plan; models = n.models };
      turn = n.turn;
      log_turn = ap (λ (l : LogView). l.turn) n.log;
      held = n.held;
    })

-- a share of a node that went, whichever held tree has its name
pub gone_named : (old new : List Tree) (root : Option Name) (n : Name) → root ≡ Some n
    → ((t : Tree) → IsHeld old t → root_of t ≡ Some n → Gains new t old) → ReturnsShare root old new
gone_named old new root n is gives t name may =
    let named : root_of t ≡ Some n = name ∙ is in
    let held : IsHeld old t = record {
      weighs = λ f.
          (let w = weight_of-there f t n named in let l = may.weighs f in omega arith);
    } in
    record {
      weighs = λ f.
          (let g = (gives t held named).weighs f in let w = weight_of-there f t n named in
          omega arith);
    }

pub gone_none : (old new : List Tree) (root : Option Name) → root ≡ None → new ≡ old
    → ReturnsShare root old new
gone_none old new root none same t name may = record {
  weighs = λ f.
      (let w = weight_of-gone f t (name ∙ none) in
      let e = ap (λ (ts : List Tree). weigh f ts) same in
      omega arith);
}

-- what came back is spare
pub back_spare : (t u : TableState) (passes back : List PassState) → All (IsSpare t) passes
    → u ≡ t → back ≡ passes → All (IsSpare u) back
back_spare t u passes back all table same =
    subst (λ (l : List PassState). All (IsSpare u) l) (sym same)
    (subst (λ (x : TableState). All (IsSpare x) passes) (sym table) all)

-- a call that kept what is held leaves a pass spare that was
pub kept_spare : (t : TableState) (s w : PassState) → IsSpare t s → BelongsTo t w → HasNoTurn w.view
    → w.view.held ≡ s.view.held → IsSpare t w
kept_spare t s w spare of idle same = record {
  of = of;
  turn = idle.bucket;
  log_turn = idle.log;
  held = same ∙ spare.held;
}

-- so does one whose root came and went
pub went_spare : (t : TableState) (s w : PassState) (mid : List Tree) (root : Option Name)
    → IsSpare t s → GetsRoot s.view.held root mid → ReturnsShare root mid w.view.held
    → BelongsTo t w → HasNoTurn w.view → IsSpare t w
went_spare t s w mid root spare came went of idle =
    spare_again t w of idle
    (subst (λ (ts : List Tree). SameHeld ts w.view.held) spare.held
    (gets_back s.view.held mid root came w.view.held went))

pub gets_little : (t : TableState) (s : PassState) (mid : List Tree) (root : Option Name)
    → IsSpare t s → GetsRoot s.view.held root mid → number_of_trees mid ≤ 4000
gets_little t s mid root spare came =
    let few = gets_few s.view.held mid root came 3000 (few_held s.view.held spare.held) in
    omega arith

-- what a mark gives back
pub forgot_gets : (v w : SeatView) (version line : ℕ) (f : Forgot)
    → ForgetsVersion v version line f w → GetsRoot v.held f.root w.held
forgot_gets v w version line f e = record { tree = e.tree; name = e.name; loses = e.loses }

-- a root came under the log's turn, and a record took it
pub taken_spare : (t : TableState) (w : PassState) (old mid : List Tree) (root : Option Name)
    → old ≡ [] → GetsRoot old root mid → ReturnsShare root mid w.view.held → BelongsTo t w
    → HasNoTurn w.view → IsSpare t w
taken_spare t w old mid root none came went of idle =
    spare_again t w of idle
    (subst (λ (ts : List Tree). SameHeld ts w.view.held) none
    (gets_back old mid root came w.view.held went))

-- the same behind the log's turn
module _ {bits : ℕ} (t : TableState) (s : PassState) (root : Option Name)
    (h : HoldsLeaf t s bits root) where
  -- nothing but what is seen changed
  pub holds_still : (w : PassState) → BelongsTo t w → HasNoTurn w.view
      → SameHeld s.view.held w.view.held → HoldsLeaf t w bits root
  holds_still w of idle same = record {
    of = of;
    idle = idle;
    side = h.side;
    held = record {
      weighs = λ f. (let a = h.held.weighs f in let b = same.weighs f in omega arith);
    };
    level = h.level;
  }

pub gets_still : (old mid left : List Tree) (root back : Option Name) → GetsRoot old root mid
    → left ≡ mid → back ≡ root → GetsRoot old back left
gets_still old mid left root back came same is = record {
  tree = came.tree;
  name = came.name ∙ sym is;
  loses = subst (λ (ts : List Tree). Loses ts came.tree old) (sym same) came.loses;
}

pub few_left : (old mid left : List Tree) (root : Option Name) → old ≡ [] → GetsRoot old root mid
    → left ≡ mid → number_of_trees left ≤ 4000
few_left old mid left root none came same =
    let few = gets_few old mid root came 3000 (few_held old none) in
    let is = ap (λ (ts : List Tree). number_of_trees ts) same in omega arith

-- the log's turn was taken, and no more is held
pub few_taken : {made : ℕ} (v u : SeatView) → TakesLog made v u → number_of_trees v.held ≤ 1
    → number_of_trees u.held ≤ 4095
few_taken v u takes few =
    let same : number_of_trees u.held ≡ number_of_trees v.held =
    ap (λ (x : SeatView). number_of_trees x.held) takes.is in
    omega arith

-- a root went to a record, and then nothing but the share of the version that fell out is held
module _ (u w : SeatView) (keep line : ℕ) (act : Act) (root : Option Name) (c : Committed)
    (made : CommitsNext u keep line act root c w) (nothing : SameHeld [] made.behind.held) where
  fell_gets : GetsRoot made.behind.held c.fallen w.held
  fell_gets = falls_gets (falls_out c.n keep) line c.n c.fallen made.behind w made.falls

  pub fell_named : (n : Name) → c.fallen ≡ Some n → HoldsName w.held n
  fell_named = gets_named made.behind.held w.held c.fallen fell_gets

  pub fell_few : number_of_trees w.held ≤ 4000
  fell_few =
      let e = nothing.weighs (λ _. 1) in let z = weigh-nil (λ _. 1) in
      let few = gets_few made.behind.held w.held c.fallen fell_gets 3000 (omega arith) in
      omega arith

  pub fell_nothing : (x : List Tree) → ReturnsShare c.fallen w.held x → SameHeld [] x
  fell_nothing x gone =
      let same = gets_back made.behind.held w.held c.fallen fell_gets x gone in
      record { weighs = λ f. (let a = nothing.weighs f in let b = same.weighs f in omega arith) }

-- whoever held a whole world's root and appended it holds nothing
module _ {bits : ℕ} (t : TableState) (s : PassState) (root : Option Name)
    (h : HoldsLeaf t s bits root) where
  pub gone_whole : (u behind : SeatView) (line : ℕ) (act : Act) (n : ℕ) → u.held ≡ s.view.held
      → AppendsNext u line act root n behind → SameHeld [] behind.held
  gone_whole u behind line act n same a =
      whole_gone bits s.view.held behind.held root h.held
      (subst (λ (ts : List Tree). ReturnsShare root ts behind.held) same a.gone)

  pub fallen_none : (x : PassState) → BelongsTo t x → HasNoTurn x.view → SameHeld [] x.view.held
      → HoldsLeaf t x bits None
  fallen_none x of idle same = none_holds t x of idle h.side same

-- and so does one to whom a root came that it appended
pub gone_taken : (u behind : SeatView) (old mid : List Tree) (line : ℕ) (act : Act)
    (root : Option Name) (n : ℕ) → old ≡ [] → GetsRoot old root mid → u.held ≡ mid
    → AppendsNext u line act root n behind → SameHeld [] behind.held
gone_taken u behind old mid line act root n none came same a =
    subst (λ (ts : List Tree). SameHeld ts behind.held) none
    (gets_back old mid root came behind.held
    (subst (λ (ts : List Tree). ReturnsShare root ts behind.held) same a.gone))

-- a version's cells are the same behind the share that was taken of its root
pub kept_root : (v w : SeatView) (root : Option Name) (n : ℕ) → OnlyKeeps v w
    → HoldsRootOf w root (seen_has v n) → HoldsRootOf w root (seen_has w n)
kept_root v w root n k h =
    let plan = k.session.plan in
    let models = k.session.models in
    let log = k.log in
    let same : seen_has w n ≡ seen_has v n =
    (λ i. stored_in (2 ^ (plan i).side) (models i) ((log i).seen.records) n) in
    subst (λ (c : World). HoldsRootOf w root c) (sym same) h

-- ---- the first cell, over a version of no set cell

no_cells_of : (tree : Tree) → root_of tree ≡ None → (x y z : ℕ)
    → has 0 (shape_of tree) x y z ≡ false
unfolding shape_of
no_cells_of Gone none x y z = has-clear 0 x y z
no_cells_of (LeafAt n bits) none x y z = absurd (let no : ⊥ = cc in no)
no_cells_of (NodeAt n a b c d e f g h) none x y z = absurd (let no : ⊥ = cc in no)

blank_cells : (v : SeatView) (p : Pinned) → PinsBlank v p → v.plan.side ≡ 2 → (q : Cell)
    → IsInWorld 4 q → seen_has v p.moment q ≡ false
blank_cells v p blank side q inside =
    let root = blank.pinned.root in
    let shows : ShowsCells (world_block 2) (shape_of root.tree) (seen_has v p.moment) =
    subst (λ (k : ℕ). ShowsCells (world_block k) (shape_of root.tree) (seen_has v p.moment)) side
    (subst (λ (n : ℕ). ShowsCells (world_block v.plan.side) (shape_of root.tree) (seen_has v n))
    blank.head root.shows)
    in
    let x = inside.x in
    let y = inside.y in
    let z = inside.z in
    sym (shows.each q (record {
      x = (omega arith, omega arith);
      y = (omega arith, omega arith);
      z = (omega arith, omega arith);
    }))
    ∙ no_cells_of root.tree (root.name ∙ blank.none) (q.x - 0) (q.y - 0) (q.z - 0)

pub made_first : (t : TableState) (s : PassState) (root : Option Name) → HoldsLeaf t s 1 root
    → (p : Pinned) → PinsBlank s.view p → (act : Act) → act ≡ first_act root
    → IsMadeOver s.view p.moment act root
made_first t s root h p blank act is =
    let side : s.view.plan.side ≡ 2 = ap (λ p. p.side) h.of.plan ∙ h.side in
    let cells : World = first_cells root in
    subst (λ (a : Act). IsMadeOver s.view p.moment a root) (sym is) (record {
      cells = cells;
      holds = holds_cells 1 cells s.view root side h.held h.level (shows_first root);
      makes = subst
          (λ (k : ℕ). MayMake (2 ^ k) s.view.models (first_act root)
          (seen_has s.view p.moment) cells) (sym side)
          (makes_first root s.view.models (seen_has s.view p.moment)
          (blank_cells s.view p blank side));
    })

pub fits_first_act : (side : ℕ) (models : List Content) (root : Option Name) (act : Act) → side ≡ 2
    → act ≡ first_act root → FitsWorld (2 ^ side) models act
fits_first_act side models root act two is =
    subst (λ (a : Act). FitsWorld (2 ^ side) models a) (sym is)
    (subst (λ (k : ℕ). FitsWorld (2 ^ k) models (first_act root)) (sym two)
    (fits_first root models))

pub edit_first_act : (root : Option Name) (act : Act) → act ≡ first_act root → is_edit act ≡ true
edit_first_act root act is = ap is_edit is ∙ first_edit root

-- ---- behind a turn that was spent, which leaves the pass so

pub few_behind : (held was : List Tree) → held ≡ was → number_of_trees was ≤ 4000
    → number_of_trees held ≤ 4000
few_behind held was same few =
    let is = ap (λ (ts : List Tree). number_of_trees ts) same in omega arith

pub spare_behind : (t : TableState) (x : PassState) (u w : SeatView) (held : List Tree)
    (keep line : ℕ) (act : Act) (root : Option Name) (c : Committed)
    (made : CommitsNext u keep line act root c w)
    → SameHeld [] made.behind.held → held ≡ w.held → BelongsTo t x → HasNoTurn x.view
    → ReturnsShare c.fallen held x.view.held → IsSpare t x
spare_behind t x u w held keep line act root c made nothing same of idle gone =
    spare_again t x of idle
    (fell_nothing u w keep line act root c made nothing x.view.held
    (subst (λ (ts : List Tree). ReturnsShare c.fallen ts x.view.held) same gone))
