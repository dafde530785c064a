-- What a memo keeps stays true: blocks that are reached stay so while shares come and are joined.
use Rattle.std.proofs.Common.{◌≡◌, ℕ, zero, suc, refl, ◌+◌, ◌-◌, ◌<◌, ◌≤◌, ◌⊎◌, Some, None, Option, List, Result, Ok, Err, [], ◌∷◌, set, slice_index_or, length, sym, ◌∙◌, ap, subst, arith, inl, inr, get_or-set_other, get_or-set_same}
use Rattle.std.proofs.Math.ListN.{replicate}
use Rattle.std.proofs.lemmas.Bool.{cases_eq}
use Rattle.edit_walk.specs.declared.blocks.full_blocks.FullBlocks.{FullBlocks}
use Rattle.node_words.specs.declared.shapes.names.Name.{Name}
use Rattle.node_words.specs.shapes.Shape.{Shape, octant_shape}
use Rattle.node_words.specs.shapes.Tree.{Tree, shape_of}
use Rattle.node_words.proofs.OfShapes.WeightLaws.{weight_of-there}
use Rattle.node_words.specs.Held.{StoreState}
use Rattle.node_words.specs.declared.shares.Full.{Full}
use Rattle.node_words.specs.Gathering.{Grows, IsTreeOf, Loses}
use Rattle.node_words.proofs.GatherLaws.{grows_none, tree_of-more}
use Rattle.node_words.proofs.HeldLaws.{Keeps, keeps_itself, held_reached}
use Rattle.node_words.specs.contents.CellShapes.{Cells, leaf_shape, shape_with}
use Rattle.edit_walk.specs.cells.Tasks.{Making, Lasts, OneEach}
use Rattle.edit_walk.specs.blocks.Blocks.{Aside, GainedShare, ReachesAll, Joined, no_full_blocks}
use Rattle.edit_walk.proofs.OfBlocks.AsideLaws.{aside_same, meets_refuses}
use Rattle.edit_walk.proofs.OfBlocks.JoinLaws.{grows_on, nones, refuses_after}
use Rattle.edit_walk.proofs.OfBlocks.ReachLaws.{keeps_reaches, came_keeps, tree_reached}
use Rattle.edit_walk.specs.declared.memos.MemoEntry.{MemoEntry}
use Rattle.edit_walk.specs.Memos.{MemoSet, IsInMemo, IsMade, Recalls, RecallsHeld}
use Rattle.edit_walk.specs.Walks.{Walk, walk_at, Starts, Begins, BlockFound, Built, Found, FoundTo, FoundTurns, Partway, TookTurns}
use Rattle.edit_walk.specs.declared.outcomes.WalkedBlock.{WalkedBlock}
use Rattle.edit_walk.specs.declared.outcomes.WalkedBlock.TheVariants.{Stands, Made}
use Rattle.edit_walk.specs.Outcomes.{Comes, FoundBeside, IsLaid, IsStanding, LeafFound, NodeFound, TakenTurns, WithinTurns, name_of_block}
use Rattle.edit_walk.specs.cells.Paints.{IsOld}
use Rattle.edit_walk.proofs.OfCells.PaintLaws.{old_block}
use Rattle.edit_walk.proofs.OutcomeLaws.{comes_keeps, finds_none, finds_one, found_share, found_standing, leaf_of_bits}
use Rattle.edit_walk.proofs.WalkLaws.{leaf_done, part_starts, starts_none, starts_held, target_grows, target_refuses}

-- places

nothing_at : (T : Type 0) (n i : ℕ)
    → slice_index_or (replicate {A = Option (MemoEntry T)} n None) i None ≡ None
nothing_at T zero i = refl
nothing_at T (suc n) zero = refl
nothing_at T (suc n) (suc i) = nothing_at T n i

pub none_kept : (T : Type 0) (n level : ℕ) (e : MemoEntry T) → IsInMemo (replicate n None) level e → ⊥
none_kept T n level e (k, h, _) = let none = nothing_at T n k in cc

pub one_kept : (T : Type 0) (old new : List (Option (MemoEntry T))) (k : ℕ) (kept : MemoEntry T)
    → k < length old → new ≡ set old k (Some kept) → (level : ℕ) (e : MemoEntry T) → IsInMemo new level e
    → ((level ≡ kept.level) × (e ≡ kept)) ⊎ IsInMemo old level e
one_kept T old new k kept lt q level e (j, h, at) = elim (cases_eq j k) [
  | inl same ↦
      let here : slice_index_or new j None ≡ Some kept =
      ap (λ (ps : List (Option (MemoEntry T))). slice_index_or ps j None) q
      ∙ ap (λ (i : ℕ). slice_index_or (set old k (Some kept)) i None) same
      ∙ get_or-set_same old k (Some kept) None lt
      in
      let is : e ≡ kept = (let w : Some e ≡ Some kept = sym h ∙ here in cc) in
      inl (sym at ∙ ap (λ (d : MemoEntry T). d.level) is, is)
  | inr other ↦
      let there : slice_index_or new j None ≡ slice_index_or old j None =
      ap (λ (ps : List (Option (MemoEntry T))). slice_index_or ps j None) q
      ∙ get_or-set_other old k j (Some kept) None other
      in
      inr (j, sym there ∙ h, at)
]

-- the memo

pub recalls_on : {T : Type 0} (makes : T → Making) (base a b : List Tree) (memo : MemoSet T)
    → ReachesAll a b → Recalls makes base a memo → Recalls makes base b memo
recalls_on makes base a b memo r h = record {
  each = λ level e k. let m = h.each level e k in
      record { tree = m.tree; of = tree_reached a b level m.tree e.name r m.of; cells = m.cells; made = m.made; shape = m.shape };
}

pub recalls_nothing : {T : Type 0} (makes : T → Making) (base held : List Tree) (memo : MemoSet T)
    → ((level : ℕ) (e : MemoEntry T) → memo level e → ⊥) → Recalls makes base held memo
recalls_nothing makes base held memo none = record { each = λ level e k. absurd (none level e k) }

-- the block that was found has a tree, which is reached
found_tree : (rest now : List Tree) (level : ℕ) (target : Shape) (block : WalkedBlock)
    → Comes rest level target block now → IsStanding now level target (name_of_block block)
found_tree rest now level target (Stands name) c =
    subst (λ (h : List Tree). IsStanding h level target name) (sym c.same) c.standing
found_tree rest now level target (Made name) c =
    record {
      tree = c.tree;
      of = record {
        root = c.root;
        reached = λ n e. held_reached now c.tree
            (record { weighs = λ f. omega (arith, c.weighs f, weight_of-there f c.tree n (c.root ∙ e)) });
        levels = c.levels;
      };
      shape = c.shape;
    }

-- a block that was found is kept
pub found_kept : (T : Type 0) (makes : T → Making) (base rest : List Tree) (level : ℕ) (task : T)
    (cells : Cells) (kept : Option Name) (block : WalkedBlock) (seen : StoreState)
    (full : FullBlocks) (old new : MemoSet T)
    → ((l : ℕ) (e : MemoEntry T) → new l e
    → ((l ≡ level) × (e ≡ record { level = level; task = task; name = kept })) ⊎ old l e)
    → kept ≡ name_of_block block
    → makes task base level cells
    → Found makes base rest level (shape_with level cells) block (walk_at seen full old)
    → Found makes base rest level (shape_with level cells) block (walk_at seen full new)
found_kept T makes base rest level task cells kept block seen full old new keeps same m b =
    record { came = b.came; recalls = record { each = λ l e k. cases l e (keeps l e k) } }
  where
    stands : IsStanding b.came.now level (shape_with level cells) kept
    stands = subst (λ (n : Option Name). IsStanding b.came.now level (shape_with level cells) n)
        (sym same) (found_tree rest b.came.now level (shape_with level cells) block b.came.comes)

    itself : IsMade makes base b.came.now level (record { level = level; task = task; name = kept })
    itself = record {
      tree = stands.tree;
      of = stands.of;
      cells = cells;
      made = m;
      shape = stands.shape;
    }

    cases : (l : ℕ) (e : MemoEntry T)
        → ((l ≡ level) × (e ≡ record { level = level; task = task; name = kept })) ⊎ old l e
        → IsMade makes base b.came.now l e
    cases l e (inl (p, q)) = subst (λ (j : ℕ). IsMade makes base b.came.now j e) (sym p)
        (subst (λ (k : MemoEntry T). IsMade makes base b.came.now level k) (sym q) itself)
    cases l e (inr k) = b.recalls.each l e k

-- a block that stands
pub told_found : {T : Type 0} (makes : T → Making) (base rest : List Tree) (level : ℕ) (task : T)
    (cells : Cells) (name : Option Name) (walk : Walk T) → Begins makes base rest level task cells walk
    → IsStanding rest level (shape_with level cells) name
    → FoundTo makes base rest level (shape_with level cells) (Stands name) walk walk
told_found makes base rest level task cells name walk b s = record {
  found = record {
    came = found_standing rest walk.seen.held walk.full level (shape_with level cells) name
        b.starts.aside s;
    recalls = b.recalls;
  };
  grows = grows_none _ _;
}

-- a block that was found while the memo stayed
pub found_recalls : {T : Type 0} (makes : T → Making) (base rest : List Tree) (level : ℕ)
    (target : Shape) (block : WalkedBlock) (walk : Walk T)
    → Recalls makes base rest walk.memo
    → FoundBeside rest level target block walk.seen.held walk.full
    → Found makes base rest level target block walk
found_recalls makes base rest level target block walk r w =
    record {
      came = w;
      recalls = recalls_on makes base rest w.now walk.memo
          (keeps_reaches rest w.now (comes_keeps rest w.now level target block w.comes)) r;
    }

-- a share that came
pub built_found : {T : Type 0} (makes : T → Making) (base rest : List Tree) (level : ℕ)
    (target : Shape) (name : Option Name) (walk : Walk T)
    → Built makes base rest level target name walk
    → Found makes base rest level target (Made name) walk
built_found makes base rest level target name walk b = record {
  came = found_share rest walk.seen.held walk.full level target name b.came;
  recalls = b.recalls;
}

-- a share that came while the memo stayed
pub came_built : {T : Type 0} (makes : T → Making) (base rest : List Tree) (level : ℕ)
    (target : Shape) (name : Option Name) (walk : Walk T)
    → Recalls makes base rest walk.memo → GainedShare rest level target name walk.seen.held walk.full
    → Built makes base rest level target name walk
came_built makes base rest level target name walk r w =
    record {
      came = w;
      recalls = recalls_on makes base rest w.now walk.memo
          (keeps_reaches rest w.now
          (came_keeps rest walk.seen.held level target name walk.full w)) r;
    }

pub joined_built : {T : Type 0} (makes : T → Making) (base rest was : List Tree) (level : ℕ)
    (target : Shape) (name : Option Name) (walk : Walk T)
    → Recalls makes base was walk.memo → Joined rest was level target name walk.seen.held walk.full
    → Built makes base rest level target name walk
joined_built makes base rest was level target name walk r j =
    record { came = j.came; recalls = recalls_on makes base was j.came.now walk.memo j.reaches r }

pub target_found : {T : Type 0} (makes : T → Making) (base rest : List Tree) (level : ℕ)
    (s t : Shape) (block : WalkedBlock) (walk : Walk T)
    → s ≡ t → Found makes base rest level s block walk → Found makes base rest level t block walk
target_found makes base rest level s t block walk e b =
    subst (λ (u : Shape). Found makes base rest level u block walk) e b

-- a leaf: the old one, one that came, or a full bucket
pub leaf_walked : {T : Type 0} (makes : T → Making) (base rest : List Tree) (level bits : ℕ)
    (old : Option Name) (t : Tree) (cells : Cells) (result : Result WalkedBlock Full)
    (seen mid new : StoreState) (full : FullBlocks) (memo : MemoSet T)
    → level ≡ 0 → leaf_shape bits ≡ shape_with level cells → mid ≡ seen
    → Starts base rest seen full → Recalls makes base rest memo → IsOld base level t old
    → LeafFound old bits result mid new
    → BlockFound makes base rest level (shape_with level cells) result (walk_at seen full memo)
    (walk_at new full memo)
leaf_walked makes base rest level bits old t cells (Ok (Stands name)) seen mid new full memo z
    target e s r o k =
    let o0 = subst (λ (l : ℕ). IsOld base l t old) z o in
    let held : Keeps base mid.held =
    subst (λ (v : StoreState). Keeps base v.held) (sym e) (starts_held base rest seen full s) in
    let shape : shape_of t ≡ shape_with level cells =
    sym (leaf_of_bits (shape_of t) o0.canonical)
    ∙ ap leaf_shape (k.told t (old_block base mid.held 0 t old held o0)) ∙ target in
    record {
      found = found_recalls makes base rest level (shape_with level cells) (Stands name)
          (walk_at new full memo) r
          (found_standing rest new.held full level (shape_with level cells) name
          (subst (λ (v : StoreState). Aside v.held full rest) (sym (k.seen ∙ e)) s.aside)
          (record {
            tree = t;
            of = subst (λ (n : Option Name). IsTreeOf rest level t n) (sym k.is)
                (tree_of-more base rest level t old s.keeps o.of);
            shape = shape;
          }));
      grows = subst (λ (v : StoreState). Grows (shape_with level cells) seen v) (sym (k.seen ∙ e))
          (grows_none _ _);
    }
leaf_walked makes base rest level bits old t cells (Ok (Made name)) seen mid new full memo z
    target e s r o k =
    record {
      found = built_found makes base rest level (shape_with level cells) name
          (walk_at new full memo)
          (came_built makes base rest level (shape_with level cells) name (walk_at new full memo) r
          (leaf_done level bits cells rest new.held name full z target
          (k.came rest full
          (subst (λ (v : StoreState). Aside v.held full rest) (sym e) s.aside))));
      grows = target_grows _ _ _ _ _ target e k.grows;
    }
leaf_walked makes base rest level bits old t cells (Err met) seen mid new full memo z target e s r
    o k =
    record {
      refuses = target_refuses _ _ _ _ _ _ _ refl e (meets_refuses _ _ _ _ _ _ target k);
      aside = aside_same _ _ _ rest (k.held ∙ ap (λ (v : StoreState). v.held) e) s.aside;
    }

-- a block whose octants were found: the old one, one that came, or a full bucket
pub node_walked : {T : Type 0} (makes : T → Making) (base rest was : List Tree) (level : ℕ)
    (old : Option Name) (t : Tree) (target : Shape) (result : Result WalkedBlock Full)
    (first seen new : StoreState) (before full : FullBlocks) (memo other : MemoSet T)
    → Keeps base rest → Keeps base seen.held → IsOld base level t old
    → Grows target first seen → Recalls makes base was memo
    → NodeFound rest was level old target result seen new full
    → BlockFound makes base rest level target result (walk_at first before other)
    (walk_at new full memo)
node_walked makes base rest was level old t target (Ok (Stands name)) first seen new before full
    memo other k h o g r n = record {
      found = record {
        came = found_standing rest new.held full level target name n.aside
            (record {
              tree = t;
              of = subst (λ (m : Option Name). IsTreeOf rest level t m) (sym n.is)
                  (tree_of-more base rest level t old k o.of);
              shape = n.shape t (old_block base seen.held level t old h o) o.canonical;
            });
        recalls = recalls_on makes base was rest memo n.reaches r;
      };
      grows = grows_on _ _ _ _ g n.grows;
    }
node_walked makes base rest was level old t target (Ok (Made name)) first seen new before full memo
    other k h o g r n = record {
      found = built_found makes base rest level target name (walk_at new full memo)
          (joined_built makes base rest was level target name (walk_at new full memo) r n.joined);
      grows = grows_on _ _ _ _ g n.grows;
    }
node_walked makes base rest was level old t target (Err met) first seen new before full memo other
    k h o g r n = record {
      refuses = refuses_after _ _ _ _ _ _ g n.refuses;
      aside = n.aside;
    }

-- nothing was found yet, and one more octant was
pub partway_none : {T : Type 0} (makes : T → Making) (base rest : List Tree) (level : ℕ) (task : T)
    (cells : Cells) (walk : Walk T)
    → Begins makes base rest level task cells walk
    → Partway makes base rest level task cells
    (None ∷ None ∷ None ∷ None ∷ None ∷ None ∷ None ∷ None ∷ [])
    (None ∷ None ∷ None ∷ None ∷ None ∷ None ∷ None ∷ None ∷ []) 0 walk
partway_none makes base rest level task cells walk b =
    record { keeps = b.starts.keeps; made = b.made; finds = finds_none rest walk.seen.held walk.full (level - 1) (shape_with level cells) _ _ nones nones b.starts.aside; recalls = b.recalls }

pub partway_one : {T : Type 0} (makes : T → Making) (base rest : List Tree) (level : ℕ) (task : T)
    (cells : Cells) (cs ds ws vs : List (Option Name)) (k : ℕ) (block : WalkedBlock)
    (old new : Walk T) → k < 8 → length cs ≡ 8 → length ws ≡ 8
    → (p : Partway makes base rest level task cells cs ws k old)
    → Found makes base p.finds.now (level - 1) (octant_shape (shape_with level cells) k) block new
    → IsLaid block k cs ws ds vs → Partway makes base rest level task cells ds vs (k + 1) new
partway_one makes base rest level task cells cs ds ws vs k block old new lt e l p b d =
    let (finds, same) =
    finds_one rest old.seen.held new.seen.held old.full new.full (level - 1)
    (shape_with level cells) cs ds ws vs k block lt e l p.finds b.came d in
    record {
      keeps = p.keeps;
      made = p.made;
      finds = finds;
      recalls = subst (λ (h : List Tree). Recalls makes base h new.memo) (sym same) b.recalls;
    }

-- what is remembered was made by what is held now
recalls_by : {T : Type 0} (makes : T → Making) (held : List Tree) (memo : MemoSet T) → Lasts makes
    → OneEach held → RecallsHeld makes held memo → Recalls makes held held memo
recalls_by makes held memo lasts one r = record {
  each = λ level e h. let m = r.recalls.each level e h in record {
    tree = m.tree;
    of = m.of;
    cells = m.cells;
    made = lasts e.task r.base held level m.cells one r.keeps m.made;
    shape = m.shape;
  };
}

-- the first block of a walk
pub begins_held : {T : Type 0} (makes : T → Making) (base : List Tree) (seen : StoreState) (level : ℕ)
    (task : T) (cells : Cells) (memo : MemoSet T) → Lasts makes → OneEach seen.held
    → Keeps base seen.held → RecallsHeld makes seen.held memo → makes task base level cells
    → Begins makes seen.held seen.held level task cells (walk_at seen no_full_blocks memo)
begins_held makes base seen level task cells memo lasts one k r m = record {
  starts = starts_none seen.held seen (keeps_itself seen.held);
  made = lasts task base seen.held level cells one k m;
  recalls = recalls_by makes seen.held memo lasts one r;
}

-- what is remembered once the full block that was aside went back
pub recalls_after : {T : Type 0} (makes : T → Making) (old held new : List Tree)
    (full : FullBlocks) (name : Option Name) (level : ℕ) (target : Shape) (memo : MemoSet T)
    → (c : GainedShare old level target name held full) → Loses held c.aside.tree new
    → Recalls makes old c.now memo → RecallsHeld makes new memo
recalls_after makes old held new full name level target memo c l r = record {
  base = old;
  keeps = record { weighs = λ f. omega (arith, c.comes.weighs f, c.aside.weighs f, l.weighs f) };
  recalls = recalls_on makes old c.now new memo (keeps_reaches c.now new now_new) r;
}
  where
    now_new : Keeps c.now new
    now_new = record { weighs = λ f. omega (arith, c.aside.weighs f, l.weighs f) }

-- nothing is remembered yet
pub recalls_none : {T : Type 0} (makes : T → Making) (held : List Tree) (memo : MemoSet T)
    → ((level : ℕ) (e : MemoEntry T) → ¬ memo level e) → RecallsHeld makes held memo
recalls_none makes held memo none = record {
  base = held;
  keeps = keeps_itself held;
  recalls = recalls_nothing makes held held memo none;
}

-- what was there as the block began is held after each octant
pub part_keeps : {T : Type 0} (makes : T → Making) (base rest : List Tree) (level : ℕ) (task : T)
    (cells : Cells) (cs ws : List (Option Name)) (k : ℕ) (walk : Walk T)
    → Partway makes base rest level task cells cs ws k walk → Keeps base walk.seen.held
part_keeps makes base rest level task cells cs ws k walk p =
    starts_held base p.finds.now walk.seen walk.full
    (part_starts base rest walk.seen walk.full (level - 1) _ cs ws k p.keeps p.finds)

-- ---- turns

-- at most one turn of its own, whatever was found
pub found_turns : (top mixed : ℕ) (block : WalkedBlock) (before after : Option Name) (old new : ℕ)
    → FoundTurns top mixed (Ok block) before after old new
    → TookTurns 1 top mixed before after old new
found_turns top mixed (Stands name) before after old new t =
    record { turns = omega (arith, t.turns); height_is = t.height_is }
found_turns top mixed (Made name) before after old new t = t

pub taken_turns : (top mixed : ℕ) (block : WalkedBlock) (before after : Option Name)
    (old mid new : ℕ) → FoundTurns top mixed (Ok block) before after old mid
    → TakenTurns block mid new → TookTurns 1 top mixed before after old new
taken_turns top mixed (Stands name) before after old mid new t u =
    record { turns = omega (arith, t.turns, u); height_is = t.height_is }
taken_turns top mixed (Made name) before after old mid new t u =
    record { turns = omega (arith, t.turns, u); height_is = t.height_is }

-- those of a block over its octants
pub node_turns : (level mixed below : ℕ) (result : Result WalkedBlock Full)
    (before after : Option Name) (old mid new : ℕ) → 1 + below ≤ mixed
    → TookTurns 8 level below before after old mid → WithinTurns 17 result mid new
    → FoundTurns (level + 1) mixed result before after old new
node_turns level mixed below (Ok (Stands name)) before after old mid new h t w =
    record { turns = omega (arith, t.turns, h, w); height_is = omega (arith, t.height_is) }
node_turns level mixed below (Ok (Made name)) before after old mid new h t w =
    record { turns = omega (arith, t.turns, h, w); height_is = omega (arith, t.height_is) }
node_turns level mixed below (Err met) before after old mid new h t w = tt
