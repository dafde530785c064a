-- One block of a walk: a leaf, an octant that is like an earlier one, and one that is built.
use Rattle.std.proofs.Common.{◌≡◌, ℕ, suc, ◌+◌, ◌-◌, ◌^◌, ◌<◌, ◌≤◌, Option, List, sym, ◌∙◌, ap, subst, arith}
use Rattle.edit_walk.specs.declared.blocks.full_blocks.FullBlocks.{FullBlocks}
use Rattle.node_words.specs.declared.shapes.names.Name.{Name}
use Rattle.node_words.specs.shapes.Shape.{Shape, Leaf, octant_shape, has}
use Rattle.node_words.specs.shapes.Tree.{Tree}
use Rattle.node_words.specs.shapes.Weights.{number_of_trees}
use Rattle.node_words.proofs.OfShapes.WeightLaws.{weight_below-one}
use Rattle.node_words.specs.Held.{StoreState, OnlyHeldChanges}
use Rattle.node_words.specs.Gathering.{GainsShare, Loses, MayHold, Grows, Fails}
use Rattle.node_words.proofs.HeldLaws.{Keeps, keeps_on}
use Rattle.node_words.specs.contents.CellShapes.{Cells, SameIn, octant_cells, leaf_shape, shape_with}
use Rattle.edit_walk.specs.blocks.Blocks.{Aside, GainedShare, RefusesBlock, no_full_blocks}
use Rattle.edit_walk.specs.Outcomes.{FindsOctants}
use Rattle.edit_walk.specs.Walks.{Starts}
use Rattle.node_words.proofs.OfContents.CellShapeLaws.{shape_with-leaf, shape_with-octant, shape_with-same}
use Rattle.edit_walk.proofs.OfBlocks.AsideLaws.{aside_keeps, none_aside, aside_numbers}
use Rattle.edit_walk.proofs.OfBlocks.JoinLaws.{refuses_held}

pub starts_held : (base rest : List Tree) (seen : StoreState) (full : FullBlocks)
    → Starts base rest seen full → Keeps base seen.held
starts_held base rest seen full s =
    keeps_on base rest seen.held s.keeps (aside_keeps seen.held rest full s.aside)

pub leaf_target : (level bits : ℕ) (cells : Cells) → level ≡ 0 → bits < 2 ^ 64
    → SameIn 0 (has 0 (Leaf bits)) cells → leaf_shape bits ≡ shape_with level cells
leaf_target level bits cells e small h =
    sym (shape_with-leaf cells bits small h) ∙ ap (λ (l : ℕ). shape_with l cells) (sym e)

pub leaf_done : (level bits : ℕ) (cells : Cells) (rest held : List Tree) (name : Option Name) (full : FullBlocks)
    → level ≡ 0 → leaf_shape bits ≡ shape_with level cells
    → GainedShare rest 0 (leaf_shape bits) name held full
    → GainedShare rest level (shape_with level cells) name held full
leaf_done level bits cells rest held name full e t c =
    subst (λ (l : ℕ). GainedShare rest l (shape_with level cells) name held full) (sym e)
    (subst (λ s. GainedShare rest 0 s name held full) t c)

pub octant_target : (level : ℕ) (cells : Cells) (k : ℕ) → 1 ≤ level → k < 8
    → octant_shape (shape_with level cells) k ≡ shape_with (level - 1)
    (octant_cells (level - 1) cells k)
octant_target level cells k h lt =
    let e : level ≡ suc (level - 1) = omega arith in
    ap (λ (l : ℕ). octant_shape (shape_with l cells) k) e ∙ shape_with-octant (level - 1) cells k lt

pub octants_same : (level : ℕ) (cells : Cells) (j k : ℕ) → 1 ≤ level → j < 8 → k < 8
    → SameIn (level - 1) (octant_cells (level - 1) cells j) (octant_cells (level - 1) cells k)
    → octant_shape (shape_with level cells) j ≡ octant_shape (shape_with level cells) k
octants_same level cells j k h p q s =
    octant_target level cells j h p ∙ shape_with-same (level - 1) _ _ s
    ∙ sym (octant_target level cells k h q)

pub part_starts : (base rest : List Tree) (seen : StoreState) (full : FullBlocks) (level : ℕ)
    (target : Shape) (cs ws : List (Option Name)) (n : ℕ) → Keeps base rest
    → (a : FindsOctants rest level target cs ws 0 n seen.held full) → Starts base a.now seen full
part_starts base rest seen full level target cs ws n k a =
    record {
      keeps =
          record { weighs = λ f. omega (arith, k.weighs f, a.weighs f) };
      aside = a.aside;
    }

pub target_came : (rest held : List Tree) (full : FullBlocks) (name : Option Name) (level : ℕ) (s t : Shape)
    → s ≡ t → GainedShare rest level s name held full → GainedShare rest level t name held full
target_came rest held full name level s t e c = subst (λ u. GainedShare rest level u name held full) e c

pub target_grows : (s t : Shape) (x a b : StoreState) → s ≡ t → a ≡ x → Grows s a b → Grows t x b
target_grows s t x a b e q g = subst (λ (v : StoreState). Grows t v b) q (subst (λ u. Grows u a b) e g)

pub target_refuses : (s t : Shape) (level bucket : ℕ) (x a b : StoreState) → s ≡ t → a ≡ x
    → RefusesBlock s level bucket a b → RefusesBlock t level bucket x b
target_refuses s t level bucket x a b e q r =
    subst (λ (v : StoreState). RefusesBlock t level bucket v b) q
    (subst (λ u. RefusesBlock u level bucket a b) e r)

-- nothing is aside yet
pub starts_none : (base : List Tree) (seen : StoreState) → Keeps base seen.held
    → Starts base seen.held seen no_full_blocks
starts_none base seen k = record { keeps = k; aside = none_aside seen.held }

pub aside_may : (held rest : List Tree) (full : FullBlocks) → (a : Aside held full rest)
    → MayHold held a.tree
aside_may held rest full a = record { weighs = λ f. omega (arith, a.weighs f) }

-- the full block that was aside went back
pub rebuilt_comes : (old held new : List Tree) (full : FullBlocks) (name : Option Name) (level : ℕ)
    (target : Shape) → (c : GainedShare old level target name held full) → Loses held c.aside.tree new
    → GainsShare old level target name new
rebuilt_comes old held new full name level target c l =
    record { tree = c.comes.tree; root = c.comes.root; levels = c.comes.levels; shape = c.comes.shape; weighs = λ f. omega (arith, c.comes.weighs f, c.aside.weighs f, l.weighs f) }

pub rebuilt_fails : (target : Shape) (level bucket : ℕ) (old mid new : StoreState) (full : FullBlocks)
    → RefusesBlock target level bucket old mid → OnlyHeldChanges mid new
    → (a : Aside mid.held full old.held) → Loses mid.held a.tree new.held
    → Fails target level bucket old new
rebuilt_fails target level bucket old mid new full r o a l =
    let q = refuses_held target level bucket old mid new r o in
    record { plan = q.plan; made = q.made; wanted = q.wanted; is_part = q.is_part; sought = q.sought; met = q.met; held = λ f. omega (arith, a.weighs f, l.weighs f) }

pub came_number : (rest held : List Tree) (level : ℕ) (target : Shape) (name : Option Name) (full : FullBlocks)
    → GainedShare rest level target name held full → number_of_trees held ≤ number_of_trees rest + 2
came_number rest held level target name full c =
    omega (
      arith,
      (aside_numbers held c.now full c.aside).most,
      c.comes.weighs
          (λ _. 1),
      weight_below-one (λ _. c.comes.tree) 1,
    )
