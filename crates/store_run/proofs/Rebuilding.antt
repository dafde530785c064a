-- What rebuilding the newest version's root leaves.
use Rattle.std.proofs.Common.{◌≡◌, ℕ, ◌+◌, ◌-◌, ◌^◌, ◌≤◌, Some, None, Option, List, ◌∷◌, Result, Ok, Err, length, refl, sym, ◌∙◌, ap, subst, arith, Bool, true, false, ◌/◌}
use Rattle.vox_read.specs.Contents.{Content}
use Rattle.history_model.specs.declared.acts.Act.{Act}
use Rattle.history_model.specs.declared.acts.Act.TheVariants.{Fill, Erase, Ball, Carve, Copy, Stamp, Tint, Undo, Redo}
use Rattle.history_model.specs.Logs.{Log, IsLegal, side_of_world, suits_tints, world_side}
use Rattle.history_model.specs.Stores.{edited_in, stored_in}
use Rattle.history_model.specs.Worlds.{World}
use Rattle.node_words.specs.declared.shapes.names.Name.{Name}
use Rattle.node_words.specs.shapes.Shape.{Shape, ShowsCells}
use Rattle.node_words.specs.shapes.Tree.{Tree, shape_of}
use Rattle.std.specs.Prelude.{IfOk, IfErr}
use Rattle.history_model.specs.declared.questions.Question.{Question}
use Rattle.history_model.specs.Logs.{FitsWorld}
use Rattle.script.specs.Fitting.{QuestionFits}
use Rattle.transcript.specs.declared.answers.Answer.{Answer}
use Rattle.conformance.specs.QuestionAnswers.{AnswersTo}
use Rattle.core_laws.proofs.OfTints.VersionLaws.{versions_plainly_tinted}
use Rattle.act_rebuilds.specs.questions.AnswersByRoots.{AnswersByRoot, AnswersByTints}
use Rattle.node_words.specs.descent.Roots.{HoldsRoot}
use Rattle.node_words.specs.shapes.Weights.{weigh, weight_of, number_of_trees}
use Rattle.node_words.proofs.OfShapes.TreeLaws.{level_of, gone_from_root}
use Rattle.node_words.proofs.OfShapes.WeightLaws.{weight_of-there, weight_of-one}
use Rattle.node_words.specs.declared.shares.Full.{Full}
use Rattle.node_words.specs.Held.{StoreState, IsHeld, Wanted, IsSought}
use Rattle.node_words.specs.Gathering.{Grew}
use Rattle.node_words.proofs.GatherLaws.{grew_into}
use Rattle.node_words.specs.Plans.{Layout}
use Rattle.core_laws.specs.contents.Aligned.{top, world_block}
use Rattle.core_laws.specs.contents.Versions.{HoldsVersion}
use Rattle.core_laws.proofs.SeenNodes.{gone_tree}
use Rattle.edit_walk.specs.cells.Worlds.{ShowsWorld, Rebuilt}
use Rattle.act_rebuilds.specs.Acts.{IsLargeFor, room_for, IsOfAct, MakesAct}
use Rattle.act_rebuilds.proofs.Rooms.{large_for_all, least_room}
use Rattle.act_rebuilds.specs.Made.{FailsBy}
use Rattle.one_store.specs.entries.Words.{key_in}
use Rattle.one_store.specs.Known.{Known, IsStore, known_state, root_tree, stored_root}
use Rattle.one_store.specs.Steps.{SparesRoots, spares_on}
use Rattle.one_store.proofs.RootLaws.{top_tree}
use Rattle.one_store.proofs.StoreLaws.{held_is}
use Rattle.store_run.specs.declared.stored_versions.Versions.{Versions}
use Rattle.store_run.specs.Kept.{plan_of, log_of, moment_of, stored_of, world_of, tints_of, AreStoredVersions, AreVersions, IsLargeStore, HoldsTree, GainsTree, HoldsSame}
use Rattle.store_run.specs.Steps.{AnswersHeldVersion, StayVersions, StaysSeen, IsOverStore, LeavesAll, SharesRootOfVersion, PutsDown, MakesBeside, MakesRoot, MeetsBucket, edited_world, side_of, WantsFor}
use Rattle.store_run.proofs.Holding.{gained_tree, gained_few, holds_root, holds_shows}
use Rattle.store_run.proofs.KeptWorlds.{plain_acts, plain_log, stored_plainly, keeps_tints, small_tints, set_tints}
use Rattle.store_run.proofs.Sparing.{with_store, tree_same}

-- the newest version has no mark
pub newest_kept : (side : ℕ) (models : List Content) (log : Log) → IsLegal side models log
    → HoldsVersion log (length log.records)
newest_kept side models log legal = record {
  there = omega arith;
  unmarked = λ k m lt same. (let dated = legal.marked k m lt in omega arith);
}

pub stays_on : (a b c : Versions) → StayVersions a b → StayVersions b c → StayVersions a c
stays_on a b c f g =
    record {
      models = g.models ∙ f.models;
      log = g.log
          ∙ f.log;
      spares = spares_on a.store b.store c.store f.spares g.spares;
    }

pub edited_same : (old new : Versions) (act : Act) → StayVersions old new
    → edited_world new act ≡ edited_world old act
edited_same old new act stay =
    λ i. edited_in (2 ^ (stay.log i).side) (stay.models i) act
    (stored_in (2 ^ (stay.log i).side) (stay.models i)
    ((stay.log i).records) (length ((stay.log i).records)))

pub wants_on : (old new : Versions) (act : Act) → StayVersions old new → (s : Shape)
    → WantsFor new act s → WantsFor old act s
wants_on old new act stay s wants =
    subst (λ (l : Log). IsOfAct l.side old.models.models act
    (stored_in (2 ^ l.side) old.models.models l.records (length l.records)) s) stay.log
    (subst (λ (ms : List Content). IsOfAct new.side ms act
    (stored_in (2 ^ new.side) ms new.records.items (moment_of new)) s) stay.models wants)

-- what a share of the version shows
pub share_level : (v : Versions) (version : ℕ) (root : Option Name) (n : Name) → AreStoredVersions v
    → root ≡ stored_root v.store.roots version
    → root ≡ Some n → n.level ≡ top v.side
share_level v version root n are is e =
    are.sound.level version n (sym is ∙ e) ∙ ap top (sym are.side)

pub share_shows : (v : Versions) (version : ℕ) (root : Option Name) → AreStoredVersions v
    → HoldsVersion (log_of v) version
    → HoldsTree v.store root → root ≡ stored_root v.store.roots version
    → ShowsWorld v.store.told.held (v.side - 2) root (stored_of v version)
share_shows v version root are kept holds is =
    holds_shows v.store v.side root (stored_of v version) holds
    (λ n e. share_level v version root n are is e)
    (subst (λ (l : ℕ). ShowsCells (world_block l) (shape_of (root_tree v.store root))
    (stored_in (2 ^ l) v.models.models v.records.items version)) (sym are.side)
    (subst (λ (r : Option Name). ShowsCells (world_block (plan_of v).side)
    (shape_of (root_tree v.store r))
    (stored_in (2 ^ (plan_of v).side) v.models.models v.records.items version)) (sym is)
    (are.sound.shown version kept)))

-- which are those of the world where no cell has a tint
pub shows_plainly : (v : Versions) (version : ℕ) (root : Option Name) → AreVersions v
    → HoldsVersion (log_of v) version
    → HoldsTree v.store root → root ≡ stored_root v.store.roots version
    → ShowsWorld v.store.told.held (v.side - 2) root (world_of v version)
shows_plainly v version root are kept holds is =
    subst (λ (w : World). ShowsWorld v.store.told.held (v.side - 2) root w)
    (stored_plainly v (plain_log v are) version)
    (share_shows v version root are.stored kept holds is)

pub base_root : (v : Versions) (version : ℕ) (base : Option Name) → AreStoredVersions v
    → HoldsTree v.store base
    → base ≡ stored_root v.store.roots version → HoldsRoot v.store.told.held v.side base
base_root v version base are holds is =
    holds_root v.store v.side base holds (λ n e. share_level v version base n are is e)

pub newest_is_kept : (v : Versions) (version : ℕ) → AreStoredVersions v → version ≡ moment_of v
    → HoldsVersion (log_of v) version
newest_is_kept v version are is =
    subst (λ (n : ℕ). HoldsVersion (log_of v) n) (sym is)
    (newest_kept (2 ^ (plan_of v).side) v.models.models (log_of v) are.sound.legal)

pub over_store : (v : Versions) (s : Known) → SparesRoots v.store s → IsOverStore v (with_store v s)
over_store v s spares =
    record { side = refl; models = refl; records = refl; marks = refl; trail = refl; spares = spares }

-- ---- what the rebuild leaves beside the base

module _ (v : Versions) (s : Known) (base : Option Name) (act : Act) (version : ℕ)
    (result : Result (Option Name) Full)
    (are : AreStoredVersions v) (holds : HoldsTree v.store base)
    (is : base ≡ stored_root v.store.roots (moment_of v)) where
  abbrev before : World
  before = stored_of v (moment_of v)

  shown : ShowsWorld v.store.told.held (v.side - 2) base before
  shown = share_shows v (moment_of v) base are (newest_is_kept v (moment_of v) are refl) holds is

  pub makes_beside : MakesAct (known_state v.store) v.side base v.models.models act result
      (known_state s)
      → IfOk result (λ root. MakesBeside v act root (with_store v s))
  makes_beside = go result
    where
      go : (r : Result (Option Name) Full)
          → MakesAct (known_state v.store) v.side base v.models.models act r (known_state s)
          → IfOk r (λ root. MakesBeside v act root (with_store v s))
      go (Err e) makes = tt
      go (Ok root) makes =
          let made = makes before shown in record { rebuilt = made.came; grows = made.grows }

  pub fails_beside : MakesAct (known_state v.store) v.side base v.models.models act result
      (known_state s)
      → IfErr result
      (λ full. FailsBy (WantsFor v act) full.level full.bucket (known_state v.store)
      (known_state s))
  fails_beside = go result
    where
      go : (r : Result (Option Name) Full)
          → MakesAct (known_state v.store) v.side base v.models.models act r (known_state s)
          → IfErr r
          (λ full. FailsBy (WantsFor v act) full.level full.bucket (known_state v.store)
          (known_state s))
      go (Ok root) makes = tt
      go (Err full) makes = makes before shown

  more : (r : Result (Option Name) Full)
      → MakesAct (known_state v.store) v.side base v.models.models act r (known_state s)
      → (f : Tree → ℕ) → weigh f v.store.told.held ≤ weigh f s.told.held
  more (Ok root) makes f = let made = makes before shown in omega (arith, made.came.weighs f)
  more (Err full) makes f = let fails = makes before shown in omega (arith, fails.held f)

  pub still_held : MakesAct (known_state v.store) v.side base v.models.models act result
      (known_state s)
      → SparesRoots v.store s → HoldsTree s base
  still_held makes spares = record {
    each = λ n e. record {
      weighs = λ f. (
          let same = ap (λ (r : Option Name). root_tree s r) e in
          let here = ap (λ (r : Option Name). root_tree v.store r) e in
          let tree = tree_same v.store s (moment_of v) base spares is in
          let f_same : f (root_tree s (Some n)) ≡ f (root_tree v.store (Some n)) =
          ap f (sym same ∙ tree ∙ here) in
          omega (arith, (holds.each n e).weighs f, more result makes f, f_same));
    };
  }

  pub few_held : MakesAct (known_state v.store) v.side base v.models.models act result
      (known_state s)
      → number_of_trees v.store.told.held ≤ 2049 → number_of_trees s.told.held ≤ 2050
  few_held = go result
    where
      go : (r : Result (Option Name) Full)
          → MakesAct (known_state v.store) v.side base v.models.models act r (known_state s)
          → number_of_trees v.store.told.held ≤ 2049 → number_of_trees s.told.held ≤ 2050
      go (Ok root) makes few =
          let came = (makes before shown).came in
          omega (arith, came.weighs (λ _. 1), weight_of-one came.tree, few)
      go (Err full) makes few =
          let fails = makes before shown in omega (arith, fails.held (λ _. 1), few)

-- ---- and once the base went back

module _ (v u w : Versions) (base root : Option Name) (act : Act) (number : ℕ) (before : Known)
    (are : AreStoredVersions v) (st : IsStore w.store number)
    (shared : GainsTree before base v.store)
    (is : base ≡ stored_root v.store.roots (moment_of v)) (over : IsOverStore v u)
    (puts : PutsDown u base w) where
  -- of what came since the base was shared, only the new root's share is left
  left_over : (f : Tree → ℕ)
      →
      (r : Rebuilt (v.side - 2) (edited_world v act) root (known_state v.store)
      (known_state u.store))
      → weigh f w.store.told.held ≡ weight_of f r.tree + weigh f before.told.held
  left_over f r =
      let tree = ap (weight_of f) (tree_same v.store u.store (moment_of v) base over.spares is) in
      omega (arith, r.weighs f, shared.weighs f, puts.loses.weighs f, tree)

  plan_same : w.store.words.plan ≡ v.store.words.plan
  plan_same = puts.leaves.stay.spares.plan ∙ over.spares.plan

  over_log : log_of u ≡ log_of v
  over_log = λ i.
      record {
        side = over.side i;
        coloured = (over.models i).tint;
        records =
            (over.records i).items;
        marks = Rattle.core_laws.specs.contents.MarkLists.marks_below
            (Rattle.store_run.specs.Kept.mark_in
            ((over.marks i).items)) Rattle.one_store.specs.WordIds.versions;
      }

  pub all_stay : StayVersions v w
  all_stay = record {
    models = puts.leaves.stay.models ∙ (λ i. (over.models i).models);
    log = puts.leaves.stay.log ∙ over_log;
    spares = spares_on v.store u.store w.store over.spares puts.leaves.stay.spares;
  }

  new_level : (n : Name)
      →
      (r : Rebuilt (v.side - 2) (edited_world v act) root (known_state v.store)
      (known_state u.store))
      → root ≡ Some n → n.level ≡ top (plan_of v).side
  new_level n r e = level_of (v.side - 2) r.tree n r.levels (r.root ∙ e) ∙ ap top are.side

  new_tree : (o : Option Name)
      →
      (r : Rebuilt (v.side - 2) (edited_world v act) root (known_state v.store)
      (known_state u.store))
      → root ≡ o → r.tree ≡ root_tree w.store root
  new_tree None r e =
      gone_from_root r.tree (r.root ∙ e)
      ∙ sym (gone_tree (key_in w.store.words) (top (plan_of w).side))
      ∙ ap (root_tree w.store) (sym e)
  new_tree (Some n) r e =
      let held : IsHeld w.store.told.held r.tree =
      record {
        weighs = λ f. omega
            (arith, left_over f r, weight_of-there f r.tree n (r.root ∙ e));
      } in
      let level : n.level ≡ top (plan_of w).side =
      new_level n r e ∙ ap (λ (p : Layout). top p.side) (sym plan_same) in
      held_is w.store number r.tree n st held (r.root ∙ e) ∙ sym (top_tree w.store n level)
      ∙ ap (root_tree w.store) (sym e)

  root_gained : MakesBeside v act root u → GainsTree before root w.store
  root_gained makes =
      let r = makes.rebuilt in
      let tree = new_tree root r refl in
      record { weighs = λ f. (let t = ap (weight_of f) tree in omega (arith, left_over f r, t)) }

  makes_root : MakesBeside v act root u → MakesRoot v act root w
  makes_root makes =
      let r = makes.rebuilt in
      let tree = new_tree root r refl in
      record {
        stay = all_stay;
        level = λ n e. new_level n r e;
        shows =
            subst (λ (t : Tree). ShowsCells (world_block (plan_of v).side) (shape_of t)
            (edited_world v act)) tree
            (subst (λ (l : ℕ). ShowsCells (world_block l) (shape_of r.tree)
            (edited_world v act)) are.side r.shows);
        grows = record {
          plan = plan_same;
          made =
              subst (λ (list : List Shape). Grew (WantsFor v act) v.store.told.made list)
              (sym puts.leaves.only.made) makes.grows.made;
          met = puts.leaves.only.met ∙ makes.grows.met;
        };
      }

-- the same as seen before the base was shared
makes_on : (a v w : Versions) (version : ℕ) (base root : Option Name) (act : Act)
    → SharesRootOfVersion a version base v → MakesRoot v act root w → MakesRoot a act root w
makes_on a v w version base root act shares makes =
    let plan = shares.stay.spares.plan in
    record {
      stay = stays_on a v w shares.stay makes.stay;
      level = λ n e. makes.level n e ∙ ap (λ (p : Layout). top p.side) plan;
      shows =
          subst (λ (p : Layout). ShowsCells (world_block p.side)
          (shape_of (root_tree w.store root)) (edited_world a act)) plan
          (subst (λ (x : World). ShowsCells (world_block (plan_of v).side)
          (shape_of (root_tree w.store root)) x) (edited_same a v act shares.stay) makes.shows);
      grows = record {
        plan = makes.grows.plan ∙ plan;
        made =
            subst (λ (list : List Shape). Grew
            (WantsFor a act) list w.store.told.made) shares.only.made
            (grew_into (wants_on a v act shares.stay) makes.grows.made);
        met = makes.grows.met ∙ shares.only.met;
      };
    }

module _ (a v u w : Versions) (base : Option Name) (act : Act) (number version : ℕ)
    (result : Result (Option Name) Full)
    (shares : SharesRootOfVersion a version base v) (now : version ≡ moment_of a)
    (are : AreStoredVersions v) (over : IsOverStore v u) (puts : PutsDown u base w) where
  pub base_place : base ≡ stored_root v.store.roots (moment_of v)
  base_place = shares.is
      ∙ ap (stored_root v.store.roots)
      (now ∙ sym (ap (λ (l : Log). length l.records) shares.stay.log))

  pub made_all : IsStore w.store number → IfOk result (λ root. MakesBeside v act root u)
      → IfOk result (λ root. MakesRoot a act root w)
  made_all st = go result
    where
      go : (r : Result (Option Name) Full) → IfOk r (λ root. MakesBeside v act root u)
          → IfOk r (λ root. MakesRoot a act root w)
      go (Err e) makes = tt
      go (Ok root) makes =
          makes_on a v w version base root act shares
          (makes_root v u w base root act number a.store are st shares.gains base_place over puts makes)

  pub gained_all : IsStore w.store number → IfOk result (λ root. MakesBeside v act root u)
      → IfOk result (λ root. GainsTree a.store root w.store)
  gained_all st = go result
    where
      go : (r : Result (Option Name) Full) → IfOk r (λ root. MakesBeside v act root u)
          → IfOk r (λ root. GainsTree a.store root w.store)
      go (Err e) makes = tt
      go (Ok root) makes = root_gained v u w base root act number a.store are st shares.gains base_place over puts makes

  nothing_left : (full : Full)
      → FailsBy (WantsFor v act) full.level full.bucket (known_state v.store) (known_state u.store)
      → (f : Tree → ℕ) → weigh f w.store.told.held ≡ weigh f a.store.told.held
  nothing_left full fails f =
      let tree =
      ap (weight_of f) (tree_same v.store u.store (moment_of v) base over.spares base_place) in
      omega (arith, puts.loses.weighs f, fails.held f, shares.gains.weighs f, tree)

  pub met_all : IsStore w.store number
      → IfErr result
      (λ full. FailsBy (WantsFor v act) full.level full.bucket (known_state v.store)
      (known_state u.store))
      → IfErr result (λ full. MeetsBucket a act full w)
  met_all st = go result
    where
      go : (r : Result (Option Name) Full)
          → IfErr r
          (λ full. FailsBy (WantsFor v act) full.level full.bucket (known_state v.store)
          (known_state u.store))
          → IfErr r (λ full. MeetsBucket a act full w)
      go (Ok root) fails = tt
      go (Err full) fails =
          let plan = shares.stay.spares.plan in
          record {
            stay = stays_on a v w shares.stay
                (all_stay v u w base None act number a.store are st shares.gains base_place over puts);
            fails = record {
              plan = puts.leaves.stay.spares.plan ∙ fails.plan ∙ plan;
              made =
                  subst (λ (list : List Shape). Grew
                  (WantsFor a act) list w.store.told.made) shares.only.made
                  (subst (λ (list : List Shape). Grew (WantsFor a act) v.store.told.made list)
                  (sym puts.leaves.only.made)
                  (grew_into (wants_on a v act shares.stay) fails.made));
              wanted = fails.wanted;
              wants = wants_on a v act shares.stay fails.wanted fails.wants;
              sought = subst
                  (λ (p : Layout). IsSought p
                  (record { level = full.level; bucket = full.bucket; shape = fails.wanted })) plan fails.sought;
              met = puts.leaves.only.met ∙ fails.met
                  ∙ ap
                  (λ (list : List Wanted).
                  record { level = full.level; bucket = full.bucket; shape = fails.wanted } ∷ list) shares.only.met;
              held = λ f. nothing_left full fails f;
            };
          }

pub fits_still : (a v : Versions) (act : Act) → StayVersions a v
    → FitsWorld (2 ^ a.side) a.models.models act → FitsWorld (2 ^ v.side) v.models.models act
fits_still a v act stay fits =
    subst (λ (l : Log). FitsWorld (2 ^ l.side) v.models.models act) (sym stay.log)
    (subst (λ (ms : List Content). FitsWorld (2 ^ a.side) ms act) (sym stay.models) fits)

pub suits_still : (a v : Versions) (act : Act) → StayVersions a v
    → suits_tints a.models.tint act ≡ true
    → suits_tints v.models.tint act ≡ true
suits_still a v act stay suits =
    subst (λ (l : Log). suits_tints l.coloured act ≡ true) (sym stay.log) suits

-- the store is large enough for each act that suits, and has room for it
pub enough_large : (v : Versions) (act : Act) → AreStoredVersions v
    → suits_tints v.models.tint act ≡ true
    → IsLargeFor act v.side
enough_large v act are suits =
    subst (λ (l : ℕ). IsLargeFor act l) (sym are.side)
    (large_for v.models.tint act (plan_of v).side are.large suits)
  where
    large_for : (tint : Bool) (act : Act) (side : ℕ) → IsLargeStore tint side
        → suits_tints tint act ≡ true
        → IsLargeFor act side
    large_for true act side large suits = large_for_all act side large
    large_for false (Fill b) side large suits = tt
    large_for false (Erase b) side large suits = tt
    large_for false (Ball b) side large suits = tt
    large_for false (Carve b) side large suits = tt
    large_for false (Copy b to) side large suits = tt
    large_for false (Stamp m at) side large suits = tt
    large_for false (Tint t) side large suits = absurd (let no : ⊥ = cc in no)
    large_for false Undo side large suits = tt
    large_for false Redo side large suits = tt

pub enough_room : (v : Versions) (act : Act) → number_of_trees v.store.told.held ≤ 2049
    → number_of_trees (known_state v.store).held ≤ room_for act
enough_room v act few = least_room act (number_of_trees v.store.told.held) (omega (arith, few))

-- where no cell has a tint, an act without one suits
pub suits_here : (v : Versions) (act : Act) → AreVersions v → suits_tints false act ≡ true
    → suits_tints v.models.tint act ≡ true
suits_here v act are plain = subst (λ (b : Bool). suits_tints b act ≡ true) (sym are.plain) plain

pub plain_as : (a v : Versions) → log_of v ≡ log_of a → AreStoredVersions v → AreVersions a
    → AreVersions v
plain_as a v log stored are =
    record { stored = stored; plain = ap (λ (l : Log). l.coloured) log ∙ are.plain }

-- ---- questions

-- of versions without tints, and of versions with them
pub root_told : (v : Versions) (version : ℕ) (base : Option Name) (question : Question)
    (answer : Answer) → AreStoredVersions v → HoldsVersion (log_of v) version
    → HoldsTree v.store base → base ≡ stored_root v.store.roots version → v.models.tint ≡ false
    → AnswersByRoot v.store.told.held v.side base question answer
    → AnswersHeldVersion v version question answer
root_told v version base question answer are kept holds is plain tells =
    subst (λ (b : Bool). AnswersTo (side_of_world b (2 ^ v.side)) (world_of v version)
    (tints_of v version) question answer)
    (sym plain)
    (tells (world_of v version) (tints_of v version)
    (subst (λ (w : World). ShowsWorld v.store.told.held (v.side - 2) base w)
    (stored_plainly v (plain_acts v are plain) version)
    (share_shows v version base are kept holds is))
    (λ c inside. versions_plainly_tinted v.models.models (log_of v)
    (plain_acts v are plain) version c))

pub tints_told : (v : Versions) (version : ℕ) (base : Option Name) (question : Question)
    (answer : Answer) → AreStoredVersions v → HoldsVersion (log_of v) version
    → HoldsTree v.store base → base ≡ stored_root v.store.roots version → v.models.tint ≡ true
    → AnswersByTints v.store.told.held v.side base question answer
    → AnswersHeldVersion v version question answer
tints_told v version base question answer are kept holds is tinted tells =
    subst (λ (b : Bool). AnswersTo (side_of_world b (2 ^ v.side)) (world_of v version)
    (tints_of v version) question answer)
    (sym tinted)
    (tells (stored_of v version) (world_of v version) (tints_of v version)
    (share_shows v version base are kept holds is) (keeps_tints v are tinted version)
    (λ c inside. small_tints v are tinted version c) (λ c inside. set_tints v are version c))

pub large_tints : (v : Versions) → AreStoredVersions v → v.models.tint ≡ true → 4 ≤ v.side
large_tints v are tinted =
    subst (λ (l : ℕ). 4 ≤ l) (sym are.side)
    (subst (λ (b : Bool). IsLargeStore b (plan_of v).side) tinted are.large)

-- the question fits the world that the store keeps
pub question_plain : (v : Versions) (question : Question) → v.models.tint ≡ false
    → QuestionFits (side_of v) question
    → QuestionFits (2 ^ v.side) question
question_plain v question plain fits =
    subst (λ (b : Bool). QuestionFits (side_of_world b (2 ^ v.side)) question) plain fits

pub question_tinted : (v : Versions) (question : Question) → v.models.tint ≡ true
    → QuestionFits (side_of v) question
    → QuestionFits (2 ^ v.side / 4) question
question_tinted v question tinted fits =
    subst (λ (b : Bool). QuestionFits (side_of_world b (2 ^ v.side)) question) tinted fits

pub question_here : (v : Versions) (question : Question) → AreVersions v
    → QuestionFits (2 ^ v.side) question
    → QuestionFits (side_of v) question
question_here v question are fits =
    subst (λ (b : Bool). QuestionFits (side_of_world b (2 ^ v.side)) question) (sym are.plain) fits

pub seen_tree : (v : Versions) (s : Known) (version : ℕ) (base : Option Name)
    → HoldsTree v.store base → base ≡ stored_root v.store.roots version
    → SparesRoots v.store s → known_state s ≡ known_state v.store → HoldsTree s base
seen_tree v s version base holds is spares seen = record {
  each = λ n e. record {
    weighs = λ f. (
        let held = ap (λ (k : StoreState). weigh f k.held) seen in
        let tree : f (root_tree s (Some n)) ≡ f (root_tree v.store (Some n)) =
        ap f (sym (ap (root_tree s) e) ∙ tree_same v.store s version base spares is
        ∙ ap (root_tree v.store) e) in
        omega (arith, (holds.each n e).weighs f, held, tree));
  };
}

pub stays_seen : (v : Versions) (s : Known) → SparesRoots v.store s
    → known_state s ≡ known_state v.store → StaysSeen v (with_store v s)
stays_seen v s spares seen =
    record { stay = record { models = refl; log = refl; spares = spares }; seen = seen }

pub question_still : (a v : Versions) (question : Question) → StayVersions a v
    → QuestionFits (side_of a) question → QuestionFits (side_of v) question
question_still a v question stay fits =
    subst (λ (l : Log). QuestionFits (world_side l) question) (sym stay.log) fits

pub shared_tree : (a v : Versions) (version : ℕ) (base : Option Name)
    → SharesRootOfVersion a version base v → HoldsTree v.store base
shared_tree a v version base shares = gained_tree a.store base v.store shares.gains

pub shared_few : (a v : Versions) (version : ℕ) (base : Option Name)
    → SharesRootOfVersion a version base v
    → number_of_trees a.store.told.held ≤ 2048 → number_of_trees v.store.told.held ≤ 2049
shared_few a v version base shares few =
    let one = gained_few a.store base v.store 2048 shares.gains few in omega arith

pub asked_same : (a v u w : Versions) (version : ℕ) (base : Option Name)
    → SharesRootOfVersion a version base v → StaysSeen v u → PutsDown u base w
    → HoldsSame a.store w.store
asked_same a v u w version base shares seen puts = record {
  weighs = λ f. (
      let held = ap (λ (k : StoreState). weigh f k.held) seen.seen in
      let tree =
      ap (weight_of f) (tree_same v.store u.store version base seen.stay.spares shares.is) in
      omega (arith, shares.gains.weighs f, puts.loses.weighs f, held, tree));
}

pub asked_all : (a v u w : Versions) (version : ℕ) (base : Option Name)
    → SharesRootOfVersion a version base v → StaysSeen v u → LeavesAll u w → LeavesAll a w
asked_all a v u w version base shares seen leaves = record {
  stay = stays_on a u w (stays_on a v u shares.stay seen.stay) leaves.stay;
  only = record {
    made = leaves.only.made ∙ ap (λ (k : StoreState). k.made) seen.seen ∙ shares.only.made;
    met = leaves.only.met ∙ ap (λ (k : StoreState). k.met) seen.seen ∙ shares.only.met;
  };
}
