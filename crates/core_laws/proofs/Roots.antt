-- Where nobody holds a share, each live entry stands below a root, and shows an aligned block of
-- its version.
use Rattle.std.proofs.Common.{Bool, ◌≡◌, ◌≢◌, ◌⊎◌, ℕ, zero, suc, ◌+◌, ◌-◌, ◌<◌, ◌≤◌, refl, sym, ◌∙◌, ap, subst, arith, inl, inr, Some, None, Option, List, ◌*◌, ◌^◌}
use Rattle.std.proofs.lemmas.Bool.{cases_lt, false≢true}
use Rattle.std.proofs.lemmas.Option.{none-some}
use Rattle.vw_cell.specs.declared.cells.Cell.{Cell}
use Rattle.vw_cell.specs.declared.blocks.Block.{Block}
use Rattle.vw_cell.specs.Places.{octant_of}
use Rattle.core_laws.specs.HistoryModelContents.{Content}
use Rattle.node_words.specs.declared.shapes.names.Name.{Name}
use Rattle.node_words.specs.shapes.Shape.{Shape, ShowsCells, octant_shape}
use Rattle.node_words.specs.shapes.Tree.{shape_of}
use Rattle.node_words.proofs.OfShapes.ShowLaws.{octant_shows, clear_shown}
use Rattle.node_words.proofs.OfShapes.ShapeLaws.{octant_shape-clear}
use Rattle.node_words.specs.declared.keys.Key.{Key}
use Rattle.node_words.specs.Plans.{Layout}
use Rattle.core_laws.specs.places.WordIds.{versions}
use Rattle.core_laws.specs.Worlds.{World}
use Rattle.core_laws.specs.Stores.{stored_in}
use Rattle.core_laws.specs.States.{State, IsLive, tree_at, shape_in, IsUnder, itself, below}
use Rattle.core_laws.specs.places.Names.{key_child}
use Rattle.core_laws.specs.contents.Aligned.{top, world_block, IsAligned, octant}
use Rattle.core_laws.specs.Counting.{weight, children_weight, entry_weight, booked, parented, rooted}
use Rattle.core_laws.specs.Soundness.{SoundEntries, SoundVersions}
use Rattle.core_laws.specs.Blocks.{RootsShow, ShowsSomeBlock, IsIdle}
use Rattle.core_laws.specs.contents.Contents.{HasCellIn}
use Rattle.core_laws.specs.contents.Aligned as blocks
use Rattle.core_laws.proofs.Sums.{SomeBelow, SomeName, sum_below_some, sum_names-at, sum_names_some, is_name, is_name-self, weight_some, if_live_some}
use Rattle.core_laws.proofs.Lives.{child_level, root_lives}
use Rattle.core_laws.proofs.LogSteps.{root_in_range}
use Rattle.core_laws.proofs.LiveShapes.{LivesAt, AreLive, octant_at, clear_at, children_live}

-- a live entry that has n as a child
pub record Parent (p : Layout) (state : State) (n : Name) : Type 0 where
  pub name : Name
  pub live : IsLive p state name
  pub octant : ℕ
  pub below : octant < 8
  pub child : key_child (state.key name) octant ≡ Some n

pub parent_of : (p : Layout) (state : State) (n : Name) → 0 < parented p (is_name n) state
    → Parent p state n
unfolding parented children_weight
parent_of p state n some =
    let m : SomeName p (entry_weight (is_name n) state) =
    sum_names_some p (entry_weight (is_name n) state) some in
    let parts =
    if_live_some (state.book m.at) (children_weight (is_name n) (state.key m.at)) m.some in
    let k : SomeBelow 8 (λ k. weight (is_name n) (key_child (state.key m.at) k)) =
    sum_below_some 8 (λ k. weight (is_name n) (key_child (state.key m.at) k)) parts.1 in
    record {
      name = m.at;
      live = record { name = m.name; book = parts.0 };
      octant = k.at;
      below = k.below;
      child = weight_some n (key_child (state.key m.at) k.at) k.some;
    }

-- a version whose root is n
pub record RootOf (state : State) (n : Name) : Type 0 where
  pub version : ℕ
  pub there : version < versions
  pub root : state.root version ≡ Some n

pub root_of_version : (state : State) (n : Name) → 0 < rooted (is_name n) state → RootOf state n
unfolding rooted
root_of_version state n some =
    let v : SomeBelow versions (λ v. weight (is_name n) (state.root v)) =
    sum_below_some versions (λ v. weight (is_name n) (state.root v)) some in
    record { version = v.at; there = v.below; root = weight_some n (state.root v.at) v.some }

-- where nobody holds a share, a live entry is a root or has a parent
pub referenced : (p : Layout) (state : State) (n : Name) → SoundEntries p state → IsIdle state
    → IsLive p state n → RootOf state n ⊎ Parent p state n
unfolding booked
referenced p state n s idle live =
    let own : state.book n * is_name n n ≤ booked p (is_name n) state =
    sum_names-at p n (λ m. state.book m * is_name n m) live.name in
    let self : state.book n * is_name n n ≡ state.book n * 1 =
    ap (λ (k : ℕ). state.book n * k) (is_name-self n) in
    let some = live.book in
    let count = s.counted (is_name n) in
    let none = idle.weighs (is_name n) in
    elim (cases_lt 0 (rooted (is_name n) state)) [
      | inl root ↦ inl (root_of_version state n root)
      | inr other ↦ inr (parent_of p state n (omega arith))
    ]

under_on : (key : Name → Key) (l m n : Name) → IsUnder key l m → IsUnder key m n → IsUnder key l n
under_on key l m n low itself = low
under_on key l m n low (below k child lt at more) =
    below k child lt at (under_on key l m child low more)

-- n stands below the root of a version
pub record BelowRoot (state : State) (n : Name) : Type 0 where
  pub name : Name
  pub root : RootOf state name
  pub under : IsUnder state.key n name

-- a parent is one level higher, and no level is over the top
parent_level : (p : Layout) (state : State) (n : Name) → SoundEntries p state
    → (parent : Parent p state n) → n.level + 1 ≡ parent.name.level
parent_level p state n s parent =
    child_level parent.name.level (state.key parent.name) n parent.octant
    (s.fits parent.name parent.live) parent.below parent.child

below_parent : (p : Layout) (state : State) (n : Name) → (parent : Parent p state n)
    → BelowRoot state parent.name → BelowRoot state n
below_parent p state n parent r =
    record {
      name = r.name;
      root = r.root;
      under = under_on state.key n parent.name r.name
          (below parent.octant n parent.below parent.child itself) r.under;
    }

below_root : (up : ℕ) (p : Layout) (state : State) (n : Name) → SoundEntries p state → IsIdle state
    → IsLive p state n → n.level + up ≡ top p.side → BelowRoot state n
below_root zero p state n s idle live level = elim (referenced p state n s idle live) [
  | inl root ↦ record { name = n; root = root; under = itself }
  | inr parent ↦
      (let higher = parent_level p state n s parent in let low = parent.live.name.level_in in
      absurd (omega arith))
]
below_root (suc up) p state n s idle live level = elim (referenced p state n s idle live) [
  | inl root ↦ record { name = n; root = root; under = itself }
  | inr parent ↦
      (let higher = parent_level p state n s parent in
      below_parent p state n parent
      (below_root up p state parent.name s idle parent.live (omega arith)))
]

-- an aligned block with the cells of a shape
pub record ShownIn (p : Layout) (level : ℕ) (s : Shape) (cells : Cell → Bool) : Type 0 where
  pub block : Block
  pub aligned : IsAligned (world_block p.side) block
  pub same_level : block.level ≡ level
  pub shows : ShowsCells block s cells

module _ (p : Layout) (state : State) (s : SoundEntries p state) (cells : Cell → Bool) where
  -- what stands below an entry that shows a block shows a block in it
  under_shown : (level : ℕ) (m n : Name) → LivesAt p state level n → (b : Block) → b.level ≡ level
      → IsAligned (world_block p.side) b
      → ShowsCells b (shape_of (tree_at state.key level (Some n))) cells → IsUnder state.key m n
      → ShownIn p m.level (shape_in state m) cells
  under_shown level m n l b same aligned shows itself =
      let of = l.same_level in
      record {
        block = b;
        aligned = aligned;
        same_level = same ∙ sym of;
        shows = subst (λ (k : ℕ). ShowsCells b (shape_of (tree_at state.key k (Some n))) cells)
            (sym of) shows;
      }
  under_shown zero m n l b same aligned shows (below k child lt at more) =
      let lower = child_level n.level (state.key n) child k (s.fits n l.live) lt at in
      let of = l.same_level in absurd (omega arith)
  under_shown (suc level) m n l b same aligned shows (below k child lt at more) =
      let shows' : ShowsCells (octant_of b k)
      (shape_of (tree_at state.key level (key_child (state.key n) k))) cells =
      subst (λ (t : Shape). ShowsCells (octant_of b k) t cells) (octant_at state.key level n k lt)
      (octant_shows b _ cells k (omega arith) lt shows) in
      under_shown level m child (children_live p state s level n k lt l child at) (octant_of b k)
      (omega arith) (octant k lt (omega arith) aligned)
      (subst (λ (o : Option Name). ShowsCells (octant_of b k)
      (shape_of (tree_at state.key level o)) cells) at shows') more

  -- what stands for an aligned block below a root
  pub record StandsFor (b : Block) : Type 0 where
    pub name : Option Name
    pub live : AreLive p state b.level name
    pub shows : ShowsCells b (shape_of (tree_at state.key b.level name)) cells

  octant_of_name : (b : Block) (k level : ℕ) → 1 ≤ b.level → k < 8 → b.level ≡ suc level
      → (o : Option Name) → AreLive p state b.level o
      → ShowsCells b (shape_of (tree_at state.key b.level o)) cells
      → (o' : Option Name) × AreLive p state level o'
      × ShowsCells (octant_of b k) (shape_of (tree_at state.key level o')) cells
  octant_of_name b k level h lt e None live shows = (
    None,
    (λ m none. absurd (none-some m none)),
    subst (λ (t : Shape). ShowsCells (octant_of b k) t cells)
        (ap (λ (t : Shape). octant_shape t k) (clear_at state.key b.level) ∙ octant_shape-clear k
        ∙ sym (clear_at state.key level)) (octant_shows b _ cells k h lt shows),
  )
  octant_of_name b k level h lt e (Some n) live shows =
      let l : LivesAt p state (suc level) n =
      subst (λ (x : ℕ). LivesAt p state x n) e (live n refl) in (
        key_child (state.key n) k,
        children_live p state s level n k lt l,
        subst (λ (t : Shape). ShowsCells (octant_of b k) t cells)
            (ap (λ (x : ℕ). octant_shape (shape_of (tree_at state.key x (Some n))) k) e
            ∙ octant_at state.key level n k lt) (octant_shows b _ cells k h lt shows),
      )

  pub stands_for : (b : Block) (root : Option Name) → AreLive p state (top p.side) root
      → ShowsCells (world_block p.side) (shape_of (tree_at state.key (top p.side) root)) cells
      → IsAligned (world_block p.side) b → StandsFor b
  stands_for b root live shows blocks.itself = record { name = root; live = live; shows = shows }
  stands_for b root live shows (octant {b = a} k lt h aligned) =
      let over : StandsFor a = stands_for a root live shows aligned in
      let r = octant_of_name a k (a.level - 1) h lt (omega arith) over.name over.live over.shows in
      record { name = r.0; live = r.1; shows = r.2 }

  -- where a cell of the block is set, an entry shows it
  pub record EntryFor (b : Block) : Type 0 where
    pub name : Name
    pub live : LivesAt p state b.level name
    pub shows : ShowsCells b (shape_of (tree_at state.key b.level (Some name))) cells

  entry_of : (b : Block) (o : Option Name) → AreLive p state b.level o
      → ShowsCells b (shape_of (tree_at state.key b.level o)) cells → HasCellIn b cells → EntryFor b
  entry_of b None live shows some =
      absurd (false≢true
      (sym (clear_shown b cells some.at
      (subst (λ (t : Shape). ShowsCells b t cells)
      (clear_at state.key b.level) shows) some.inside) ∙ some.set))
  entry_of b (Some n) live shows some = record { name = n; live = live n refl; shows = shows }

  pub entry_for : (b : Block) (root : Option Name) → AreLive p state (top p.side) root
      → ShowsCells (world_block p.side) (shape_of (tree_at state.key (top p.side) root)) cells
      → IsAligned (world_block p.side) b → HasCellIn b cells → EntryFor b
  entry_for b root live shows aligned some = let f : StandsFor b =
      stands_for b root live shows aligned in entry_of b f.name f.live f.shows some

-- roots are live, and of the top level
pub roots_live : (p : Layout) (cells : ℕ → World) (state : State) (v : ℕ) → SoundEntries p state
    → RootsShow p cells state → AreLive p state (top p.side) (state.root v)
roots_live p cells state v s r n e =
    record { live = root_lives p state v n s (r.in_range v n e) e; same_level = r.level v n e }

-- where nobody holds a share, each live entry shows a block of some version
pub entry_shown : (p : Layout) (cells : ℕ → World) (state : State) (n : Name)
    → SoundEntries p state → RootsShow p cells state → IsIdle state → IsLive p state n
    → ShowsSomeBlock p cells state n.level (shape_in state n)
entry_shown p cells state n s roots idle live =
    let low = live.name.level_in in
    let r : BelowRoot state n =
    below_root (top p.side - n.level) p state n s idle live (omega arith) in
    let v = r.root.version in
    let of_root : LivesAt p state (top p.side) r.name =
    roots_live p cells state v s roots r.name r.root.root in
    let shows = roots.shown v r.name r.root.root in
    let found =
    under_shown p state s (cells v)
    (top p.side) n r.name of_root (world_block p.side) refl blocks.itself shows r.under in
    record {
      version = v;
      block = found.block;
      site = record {
        in_range = r.root.there;
        rooted = λ none. none-some r.name (sym none ∙ r.root.root);
        aligned = found.aligned;
        same_level = found.same_level;
      };
      shows = found.shows;
    }

-- a version without a root shows no cell
pub root_shows : (p : Layout) (cells : ℕ → World) (state : State) (v : ℕ) → RootsShow p cells state
    → (o : Option Name) → state.root v ≡ o → o ≢ None
    → ShowsCells (world_block p.side) (shape_of (tree_at state.key (top p.side) o)) (cells v)
root_shows p cells state v r None e some = absurd (some refl)
root_shows p cells state v r (Some n) e some = r.shown v n e

-- the roots of a sound state show the cells of its versions
pub sound_roots : (p : Layout) (models : List Content) (state : State)
    → SoundVersions p models state
    → RootsShow p (λ v. stored_in (2 ^ p.side) models state.log.records v) state
sound_roots p models state s = record {
  in_range = λ v n e. root_in_range p models state v n s e;
  level = s.level;
  shown = λ v n e.
      (let kept = s.kept v n e in
      subst (λ (o : Option Name). ShowsCells (world_block p.side)
      (shape_of (tree_at state.key (top p.side) o))
      (stored_in (2 ^ p.side) models state.log.records v)) e
      (s.shown v kept));
}
