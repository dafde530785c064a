-- The region of a model that stands alone in a world.
use Rattle.std.proofs.Common.{◌≡◌, ℕ, ◌+◌, ◌-◌, ◌*◌, ◌^◌, ◌<◌, ◌≤◌, ◌⊎◌, inl, inr, Bool, true, false, ◌||◌, ◌&&◌, Some, None, Option, List, [], ◌∷◌, length, get_or, Result, Ok, Err, refl, sym, ◌∙◌, ap, subst, arith}
use Rattle.std.specs.Prelude.{All, IsTrue, IfOk, IfErr, max}
use Rattle.std.proofs.lemmas.Bool.{cases_lt}
use Rattle.std.proofs.lemmas.Option.{slice_get_read}
use Rattle.std.specs.List.{slice_get}
use Rattle.std.proofs.lemmas.List.Elements.{All-nil, All-cons, All-head}
use lib.Pow.{pow_mono, pow-add}
use Rattle.vw_cell.specs.declared.cells.Cell.{Cell}
use Rattle.vw_cell.specs.declared.boxes.Boxed.{Boxed}
use Rattle.vw_cell.specs.Counts.{cell_at}
use Rattle.vw_cell.specs.Places.{FitsAt, IsInBox, IsInBlock, is_in_box, block_side}
use Rattle.vw_cell.specs.Tests.{is_in_box_holds}
use Rattle.vox_read.specs.Contents.{Content, is_cell}
use Rattle.node_words.specs.declared.shapes.names.Name.{Name}
use Rattle.node_words.specs.shapes.Shape.{Shape, has, IsPart, ShowsCells}
use Rattle.node_words.specs.shapes.Tree.{Tree, Gone, shape_of}
use Rattle.node_words.specs.shapes.Weights.{weigh, number_of_trees}
use Rattle.node_words.proofs.OfShapes.ShapeLaws.{has-clear}
use Rattle.node_words.proofs.OfShapes.TreeLaws.{level_of, shape_of-gone}
use Rattle.node_words.proofs.OfShapes.WeightLaws.{weight_of-there}
use Rattle.node_words.specs.declared.shares.Full.{Full}
use Rattle.node_words.specs.Enough.{HasEnough}
use Rattle.node_words.specs.Gathering.{Grew, unchanged, one, Fails}
use Rattle.node_words.specs.Held.{StoreState, Wanted}
use Rattle.node_words.specs.Plans.{Layout}
use Rattle.node_words.proofs.HeldLaws.{held_reached}
use Rattle.node_words.specs.descent.Roots.{IsBlockOf, HoldsRoot, ForWorld, cells_of}
use Rattle.node_words.proofs.OfDescent.LookLaws.{root_side}
use Rattle.node_words.proofs.OfContents.CellShapeLaws.{shape_with-has, shape_with-canonical}
use Rattle.edit_walk.specs.cells.Worlds.{ShowsWorld, ForEdited, Rebuilt, block_at_origin, world_shape, world_cells}
use Rattle.edit_stamp.specs.Drawings.{Drawn, Draws}
use Rattle.edit_stamp.specs.Stamps.{stamped}
use Rattle.edit_stamp.proofs.StampLaws.{stamps_model}
use Rattle.history_model.specs.Worlds.{World, is_in_stamp, less}
use Rattle.conformance.specs.scripts.Keeping.{IsPartOfWorld, IsMadeFor}
use Rattle.conformance.proofs.OfScripts.PossibleLaws.{enough_possible}
use Rattle.flood.specs.Regions.{FilesRegion}
use Rattle.flood.specs.Models.{whole_box, FloodsModel, stamped_alone, IsLeastHolding, flood_plan, the_stamp, MayFillStore, MetFull, RefusesStamp, RefusesFlood}
use Rattle.flood.specs.declared.models.FloodRefused.{FloodRefused}
use Rattle.flood.specs.declared.models.FloodRefused.TheVariants.{StoreFull, Memory}
use Rattle.flood.proofs.RegionLaws.{region_alike}

abbrev no_cells : World
no_cells p = false

-- ---- cells that are alike in the box have one region

files_alike : (b : Boxed) (from : Cell) (number : ℕ) (file : List ℕ) (v w : Cell → Bool)
    → ((c : Cell) → IsInBox b c → v c ≡ w c) → FilesRegion b from number file v
    → FilesRegion b from number file w
files_alike b from number file v w same r = record {
  region = r.region;
  is_region = region_alike b v w from r.region same r.is_region;
  counted = r.counted;
  filed = r.filed;
}

-- ---- the model alone

stamped_is : (m : Content) (d : Drawn) → Draws m d → (p : Cell)
    → stamped d (cell_at 0 0 0) no_cells p ≡ stamped_alone m p
stamped_is m d draws p = stamps_model (m ∷ []) 0 m d (cell_at 0 0 0) no_cells p refl draws

less_none : (c : Cell) → less c (cell_at 0 0 0) ≡ c
less_none c =
    let x : c.x - 0 ≡ c.x = omega arith in
    let y : c.y - 0 ≡ c.y = omega arith in
    let z : c.z - 0 ≡ c.z = omega arith in
    λ i. record { x = x i; y = y i; z = z i }

or_false : (y : Bool) → (y || false) ≡ y
or_false true = refl
or_false false = refl

alone_is : (m : Content) (c : Cell) → IsInBox (whole_box m.size) c
    → stamped_alone m c ≡ is_cell m.voxels c
alone_is m c inside =
    ap (λ (t : Bool). (t && is_cell m.voxels (less c (cell_at 0 0 0))) || false)
    (is_in_box_holds (whole_box m.size) c inside)
    ∙ or_false (is_cell m.voxels (less c (cell_at 0 0 0)))
    ∙ ap (is_cell m.voxels) (less_none c)

pub model_files : (m : Content) (d : Drawn) (b : Boxed) (from : Cell) (number : ℕ) (file : List ℕ)
    → Draws m d → b ≡ whole_box m.size → FilesRegion b from number file (stamped d b.at no_cells)
    → FilesRegion b from number file (is_cell m.voxels)
model_files m d b from number file draws is r =
    subst (λ (e : Boxed). FilesRegion e from number file (is_cell m.voxels)) (sym is)
    (files_alike (whole_box m.size) from number file (stamped d (cell_at 0 0 0) no_cells)
    (is_cell m.voxels) (λ c inside. stamped_is m d draws c ∙ alone_is m c inside)
    (subst (λ (e : Boxed). FilesRegion e from number file (stamped d e.at no_cells)) is r))

pub model_met : (m : Content) (d : Drawn) (b : Boxed) (p : Layout) (full : Full) → Draws m d
    → b ≡ whole_box m.size → MetFull p (stamped d b.at no_cells) full
    → MetFull p (stamped_alone m) full
model_met m d b p full draws is met =
    let same : stamped d (cell_at 0 0 0) no_cells ≡ stamped_alone m =
    λ i q. stamped_is m d draws q i in
    subst (λ (w : World). MetFull p w full) same
    (subst (λ (e : Boxed). MetFull p (stamped d e.at no_cells) full) is met)

-- ---- what the new root shows

empty_shown : (held : List Tree) (level : ℕ) → ShowsWorld held level None no_cells
empty_shown held level = record {
  tree = Gone;
  is_root = record { root = refl; is_held = λ n e. cc; at = λ n e. cc };
  shows = record {
    each = λ c i.
        ap (λ (s : Shape). has level s (c.x - 0) (c.y - 0) (c.z - 0)) shape_of-gone
        ∙ has-clear level _ _ _;
  };
}

root_tree : (old new : StoreState) (level : ℕ) (name : Option Name) (world : World)
    → (r : Rebuilt level world name old new) → IsBlockOf new.held level name r.tree
root_tree old new level None world r =
    record { root = r.root; reached = λ n e. cc; of_level = λ n e. cc }
root_tree old new level (Some n) world r = record {
  root = r.root;
  reached = λ m e. held_reached new.held r.tree (record {
    weighs = λ f. omega (arith, r.weighs f, weight_of-there f r.tree n r.root);
  });
  of_level = λ m e.
      let same : n ≡ m = cc in
      ap (λ (q : Name). q.level) (sym same) ∙ level_of level r.tree n r.levels r.root;
}

in_world : (side : ℕ) (b : Boxed) (c : Cell) → 2 ≤ side → FitsAt b.at b.size (2 ^ side)
    → IsInBox b c → IsInBlock (block_at_origin (side - 2)) c
in_world side b c low fits i =
    let wide = root_side (side - 2) side refl low in
    record {
      x = (omega arith, omega (arith, wide, i.x.1, fits.x.1));
      y = (omega arith, omega (arith, wide, i.y.1, fits.y.1));
      z = (omega arith, omega (arith, wide, i.z.1, fits.z.1));
    }

cells_shown : (level : ℕ) (s : Shape) (world : World) (c : Cell)
    → ShowsCells (block_at_origin level) s world → IsInBlock (block_at_origin level) c
    → cells_of level s c ≡ world c
cells_shown level s world c shows i =
    sym (ap (cells_of level s) (less_none c)) ∙ shows.each c i

pub region_shown : (old new : StoreState) (side : ℕ) (made name : Option Name) (d : Drawn) (b : Boxed)
    (from : Cell) (number : ℕ) (file : List ℕ) → 2 ≤ side → FitsAt b.at b.size (2 ^ side)
    → ForEdited old side None (stamped d b.at) (λ w. Rebuilt (side - 2) w made old new)
    → name ≡ made → ForWorld new.held side name (FilesRegion b from number file)
    → FilesRegion b from number file (stamped d b.at no_cells)
region_shown old new side made name d b from number file low fits edited is found =
    let r = edited no_cells (empty_shown old.held (side - 2)) in
    let tree = root_tree old new (side - 2) made (stamped d b.at no_cells) r in
    files_alike b from number file (cells_of (side - 2) (shape_of r.tree))
    (stamped d b.at no_cells)
    (λ c i. cells_shown (side - 2) (shape_of r.tree) (stamped d b.at no_cells) c r.shows
    (in_world side b c low fits i))
    (subst (λ (o : Option Name). ForWorld new.held side o (FilesRegion b from number file)) is found
    r.tree tree)

pub made_held : (old new : StoreState) (side : ℕ) (made name : Option Name) (d : Drawn) (at : Cell)
    → ForEdited old side None (stamped d at) (λ w. Rebuilt (side - 2) w made old new)
    → name ≡ made → HoldsRoot new.held side name
made_held old new side made name d at edited is =
    subst (λ (o : Option Name). HoldsRoot new.held side o) (sym is)
    (held_root made (edited no_cells (empty_shown old.held (side - 2)))) where
      held_root : (o : Option Name)
          → Rebuilt (side - 2) (stamped d at no_cells) o old new → HoldsRoot new.held side o
      held_root None r = tt
      held_root (Some n) r = (
        record {
          tree = r.tree;
          is_held = record {
            weighs = λ f. omega (arith, r.weighs f, weight_of-there f r.tree n r.root);
          };
          root = r.root;
        },
        level_of (side - 2) r.tree n r.levels r.root,
      )

-- ---- a full bucket

grown_all : {A : Type 0} (P : A → Type 0) (old new : List A) → Grew P old new → All P old
    → All P new
grown_all P old new unchanged all = all
grown_all P old (a ∷ new) (one of_a grew) all = All-cons P a new of_a (grown_all P old new grew all)

world_shows : (level : ℕ) (world : World)
    → ShowsCells (block_at_origin level) (world_shape level world) world
world_shows level world = record {
  each = λ c i.
      let x : c.x - 0 < block_side level = omega (arith, i.x.1) in
      let y : c.y - 0 < block_side level = omega (arith, i.y.1) in
      let z : c.z - 0 < block_side level = omega (arith, i.z.1) in
      (shape_with-has level (world_cells world)).each (c.x - 0) (c.y - 0) (c.z - 0) x y z
      ∙ ap world (less_none c);
}

part_of_target : (p : Layout) (world : World) (s : Shape)
    → IsPart s (world_shape (p.side - 2) world) → IsPartOfWorld p world s
part_of_target p world s part = record {
  all = world_shape (p.side - 2) world;
  canonical = shape_with-canonical (p.side - 2) (world_cells world);
  shows = world_shows (p.side - 2) world;
  part = part;
}

All-each : {A : Type 0} (P Q : A → Type 0) (xs : List A) → ((a : A) → P a → Q a) → All P xs
    → All Q xs
All-each P Q xs f all = λ k d lt. f _ (all k d lt)

pub no_trees : number_of_trees [] ≡ 0
unfolding weigh
no_trees = refl

pub met_enough : (old new : StoreState) (side : ℕ) (d : Drawn) (b : Boxed) (full : Full) → old.made ≡ []
    → old.met ≡ []
    → ForEdited old side None (stamped d b.at)
    (λ w. Fails (world_shape (side - 2) w) full.level full.bucket old new)
    → All (λ w. HasEnough (flood_plan side) new.made w.level w.bucket) new.met
    → MetFull (flood_plan side) (stamped d b.at no_cells) full
met_enough old new side d b full none_made none_met edited enough =
    let w : World = stamped d b.at no_cells in
    let f = edited no_cells (empty_shown old.held (side - 2)) in
    record {
      made = new.made;
      parts =
          All-each (λ s. IsPart s (world_shape (side - 2) w)) (IsPartOfWorld (flood_plan side) w)
          new.made (λ s part. part_of_target (flood_plan side) w s part)
          (grown_all (λ s. IsPart s (world_shape (side - 2) w)) old.made new.made f.made
          (subst (λ (ss : List Shape). All (λ s. IsPart s (world_shape (side - 2) w)) ss)
          (sym none_made) (All-nil _)));
      enough =
          All-head (λ (v : Wanted). HasEnough (flood_plan side) new.made v.level v.bucket) _ old.met
          (subst (λ (vs : List Wanted).
          All (λ v. HasEnough (flood_plan side) new.made v.level v.bucket) vs) f.met enough);
    }

pub may_fill : (models : List Content) (number : ℕ) (from : Cell) (m : Content) (full : Full)
    (side : ℕ) → slice_get models number ≡ Some m → IsTrue (is_in_box (whole_box m.size) from)
    → IsLeastHolding m.size side → MetFull (flood_plan side) (stamped_alone m) full
    → MayFillStore models number from full
may_fill models number from m full side there inside least met = record {
  model = m;
  there = there;
  inside = inside;
  side = side;
  least = least;
  possible =
      enough_possible (flood_plan side) models [] (the_stamp number ∷ []) full.level full.bucket
      met.made
      (All-each (IsPartOfWorld (flood_plan side) (stamped_alone m))
      (IsMadeFor (flood_plan side) models [] (the_stamp number ∷ [])) met.made
      (λ s part. record {
        span = the_stamp number;
        listed = (0, omega arith, refl);
        version = 0;
        low = omega arith;
        high = omega arith;
        wanted = record {
          edit = refl;
          parts = 1;
          some_part = omega arith;
          few_parts = omega arith;
          part = subst (λ (o : Option Content). IsPartOfWorld (flood_plan side)
              (λ p. is_in_stamp o (cell_at 0 0 0) p || false) s) (sym there) part;
        };
      }) met.parts)
      met.enough;
}

pub floods : (models : List Content) (number : ℕ) (from : Cell) (m : Content) (cells : ℕ)
    (file : List ℕ) → slice_get models number ≡ Some m
    → IsTrue (is_in_box (whole_box m.size) from)
    → FilesRegion (whole_box m.size) from cells file (is_cell m.voxels)
    → FloodsModel models number from cells file
floods models number from m cells file there inside r = record {
  model = m;
  there = there;
  inside = inside;
  region = r.region;
  is_region = r.is_region;
  counted = r.counted;
  filed = r.filed;
}

-- ---- the least side

no_less : (size : Cell) (most cells half : ℕ) → 2 * half ≤ cells → 2 ^ 2 ≤ half
    → (size.x ≤ half) × (size.y ≤ half) × (size.z ≤ half)
    → (cells ≡ 4) ⊎ (cells < 2 * most) → most ≡ max (max size.x size.y) size.z → ⊥
no_less size most cells half twice four fits (inl small) is = omega (arith, twice, four, small)
no_less size most cells half twice four fits (inr tight) is =
    omega (arith, twice, tight, is, fits.0, fits.1, fits.2)

low_of : (side : ℕ) → 4 ≤ 2 ^ side → (side < 2) ⊎ (2 ≤ side) → 2 ≤ side
low_of side four (inl lt) =
    let small : 2 ^ side ≤ 2 ^ 1 =
    pow_mono {i = side} {j = 1} (omega (arith, lt)) in absurd (omega (arith, four, small))
low_of side four (inr low) = low

high_of : (side : ℕ) → 2 ^ side ≤ 256 → (12 < side) ⊎ (side ≤ 12) → side ≤ 12
high_of side few (inl lt) =
    let large : 2 ^ 9 ≤ 2 ^ side =
    pow_mono {i = 9} {j = side} (omega (arith, lt)) in absurd (omega (arith, few, large))
high_of side few (inr high) = high

pub least_holding : (size : Cell) (most cells side : ℕ) → 2 ^ side ≡ cells → 4 ≤ cells → cells ≤ 256
    → most ≤ cells → (cells ≡ 4) ⊎ (cells < 2 * most) → most ≡ max (max size.x size.y) size.z
    → IsLeastHolding size side
least_holding size most cells side is four few holds tight largest = record {
  low = low_of side (omega (arith, is, four)) (cases_lt side 2);
  high = high_of side (omega (arith, is, few)) (cases_lt 12 side);
  holds = (
    omega (arith, is, holds, largest),
    omega (arith, is, holds, largest),
    omega (arith, is, holds, largest),
  );
  no_lower = λ e low_e lt fits.
      let twice : 2 ^ (e + 1) ≡ 2 ^ e * 2 ^ 1 = pow-add 2 e 1 in
      let higher : 2 ^ (e + 1) ≤ 2 ^ side = pow_mono {i = e + 1} {j = side} (omega (arith, lt)) in
      let four_e : 2 ^ 2 ≤ 2 ^ e = pow_mono {i = 2} {j = e} low_e in
      no_less size most cells (2 ^ e) (omega (arith, twice, higher, is)) four_e fits tight largest;
}

-- ---- results

pub ok_weaker : {A E : Type 0} (P Q : A → Type 0) (r : Result A E) → ((a : A) → P a → Q a)
    → IfOk r P → IfOk r Q
ok_weaker P Q (Ok a) f of_a = f a of_a
ok_weaker P Q (Err e) f of_e = tt

pub err_weaker : {A E : Type 0} (P Q : E → Type 0) (r : Result A E) → ((e : E) → P e → Q e)
    → IfErr r P → IfErr r Q
err_weaker P Q (Ok a) f of_a = tt
err_weaker P Q (Err e) f of_e = f e of_e

pub stamp_alike : (m : Content) (d : Drawn) (b : Boxed) (p : Layout) (refused : FloodRefused)
    → Draws m d → b ≡ whole_box m.size → RefusesStamp p (stamped d b.at no_cells) refused
    → RefusesStamp p (stamped_alone m) refused
stamp_alike m d b p (StoreFull full) draws is says = model_met m d b p full draws is says
stamp_alike m d b p Memory draws is says = tt

pub flood_refused : (models : List Content) (number : ℕ) (from : Cell) (m : Content)
    (refused : FloodRefused) (side : ℕ) → slice_get models number ≡ Some m
    → IsTrue (is_in_box (whole_box m.size) from) → IsLeastHolding m.size side
    → RefusesStamp (flood_plan side) (stamped_alone m) refused
    → RefusesFlood models number from refused
flood_refused models number from m (StoreFull full) side there inside least says =
    may_fill models number from m full side there inside least says
flood_refused models number from m Memory side there inside least says = tt

-- what a list has at a number
pub item_there : (X : Type 0) (items list : List X) (n : ℕ) (m : X) → list ≡ items
    → n < length list → m ≡ get_or list n m → slice_get items n ≡ Some m
item_there X items list n m same lt is =
    subst (λ (l : List X). slice_get l n ≡ Some m) same
    (slice_get_read list (length list) n m refl lt is)
