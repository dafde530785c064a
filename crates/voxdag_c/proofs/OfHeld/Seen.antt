-- Cells that can be seen, as they are written.
use lib.Seq.{paste}
use Rattle.std.proofs.Common.{◌≡◌, ℕ, zero, suc, ◌+◌, ◌<◌, ◌≤◌, All, Bool, true, false, List, [], ◌∷◌, ◌++◌, drop, get_or, length, map, slice_set, refl, sym, ◌∙◌, ap, subst, arith}
use Rattle.std.proofs.lemmas.List.{get_or-map, length-map}
use Rattle.std.proofs.lemmas.List.Edits.{paste_none, paste_more, paste_all}
use Rattle.std.proofs.lemmas.List.Elements.{All-nil, All-cons, All-append}
use Rattle.vw_cell.specs.declared.boxes.Boxed.{Boxed}
use Rattle.vw_cell.specs.declared.cells.Cell.{Cell}
use Rattle.vw_cell.specs.Counts.{cell_at}
use Rattle.vox_read.specs.declared.voxels.Voxel.{Voxel}
use Rattle.vox_read.specs.Contents.{IsInsideModel}
use Rattle.extract.specs.Listing.{voxels_joined}
use Rattle.extract.specs.Surface.{bare_sides_of, voxel_of_sides, row_of_sides, layer_of_sides, surface_of_box}
use Rattle.store_run.specs.TintFiles.{its_tint}
use Rattle.store_run.specs.Worlds.{WorldState}
use Rattle.voxdag_c.specs.declared.held.shown.CShown.{CShown}
use Rattle.voxdag_c.specs.declared.held.worlds.CWorld.{CWorld}
use Rattle.voxdag_c.specs.held.Calls.{PutsItems, WritesItems, cells_of_version, held_side, surface_of_version, tints_at, tints_by_kind}
use Rattle.voxdag_c.specs.held.Places.{shown_by, shown_of}

-- ---- one cell after another

module _ (f : Voxel → ℕ) (voxels : List Voxel) where
  pub none_shown : (out : List CShown) → out ≡ paste out 0 (map (shown_by f) voxels) 0
  none_shown out = sym (paste_none out 0 (map (shown_by f) voxels))

  -- the tint that is listed of a voxel
  pub listed_tint : (tints : List ℕ) (i : ℕ) (d : Voxel) (e : ℕ) → i < length voxels
      → tints ≡ map f voxels
      → shown_by (λ v. get_or tints i e) (get_or voxels i d) ≡ shown_by f (get_or voxels i d)
  listed_tint tints i d e lt is =
      let v : Voxel = get_or voxels i d in
      ap (λ (n : ℕ). shown_by (λ u. n) v)
      (ap (λ (list : List ℕ). get_or list i e) is ∙ get_or-map f voxels i d e lt)

  pub one_shown : (old out : List CShown) (i : ℕ) (d : Voxel) (shown : CShown) → i < length voxels
      → length voxels ≤ length old → out ≡ paste old 0 (map (shown_by f) voxels) i
      → shown ≡ shown_by f (get_or voxels i d)
      → slice_set out i shown ≡ paste old 0 (map (shown_by f) voxels) (i + 1)
  one_shown old out i d shown lt room was is =
      let cells : List CShown = map (shown_by f) voxels in
      let long = length-map voxels (shown_by f) in
      let zero_i : 0 + i ≡ i = omega arith in
      let word : shown ≡ get_or cells i shown =
      is ∙ sym (get_or-map (shown_by f) voxels i d shown lt) in
      ap (λ (list : List CShown). slice_set list i shown) was
      ∙ (λ j. slice_set (paste old 0 cells i) (sym zero_i j) (word j))
      ∙ paste_more old 0 cells i shown (omega (arith, lt, room)) (omega (arith, lt, long))

  pub all_shown : (old : List CShown) (n : ℕ) → n ≡ length voxels
      → paste old 0 (map (shown_by f) voxels) n
      ≡ map (shown_by f) voxels ++ drop (length voxels) old
  all_shown old n is =
      let long = length-map voxels (shown_by f) in
      let all : 0 + n ≡ length voxels = omega (arith, is) in
      paste_all old 0 (map (shown_by f) voxels) n (is ∙ sym long)
      ∙ ap (λ (k : ℕ). map (shown_by f) voxels ++ drop k old) all

-- ---- each voxel lies in the box

joined_all : (P : Voxel → Type 0) (n : ℕ) (g : ℕ → List Voxel) → ((i : ℕ) → i < n → All P (g i))
    → All P (voxels_joined n g)
unfolding voxels_joined
joined_all P zero g each = All-nil P
joined_all P (suc n) g each =
    All-append P (voxels_joined n g) (g n) (joined_all P n g (λ i lt. each i (omega arith)))
    (each n (omega arith))

side_inside : (size : Cell) (sides x y z : ℕ) → x < size.x → y < size.y → z < size.z
    → All (IsInsideModel size) (voxel_of_sides sides x y z)
side_inside size zero x y z a b c = All-nil (IsInsideModel size)
side_inside size (suc n) x y z a b c =
    All-cons (IsInsideModel size) (record { x = x; y = y; z = z; colour = suc n }) []
    (record { x = a; y = b; z = c }) (All-nil (IsInsideModel size))

pub seen_inside : (side : ℕ) (cells : Cell → Bool) (b : Boxed) (voxels : List Voxel)
    → voxels ≡ surface_of_box side cells b → All (IsInsideModel b.size) voxels
seen_inside side cells b voxels is =
    let P : Voxel → Type 0 = IsInsideModel b.size in
    let sides : Cell → ℕ = bare_sides_of side cells in
    subst (λ (list : List Voxel). All (IsInsideModel b.size) list) (sym is)
    (joined_all P b.size.z (layer_of_sides sides b) (λ z of_z.
    joined_all P b.size.y (λ y. row_of_sides sides b z y b.size.x) (λ y of_y.
    joined_all P b.size.x _ (λ x of_x.
    side_inside b.size (sides (cell_at (b.at.x + x) (b.at.y + y) (b.at.z + z))) x y z of_x of_y
    of_z))))

-- ---- what is written of a version

module _ (w : CWorld) (version : ℕ) (part : Boxed) (voxels : List Voxel)
    (seen : voxels ≡ surface_of_box (held_side w) (cells_of_version w version) part) where
  abbrev shown_here : Voxel → CShown
  shown_here = shown_of (tints_by_kind w.open.log.coloured (tints_at w version)) part.at

  listed : map shown_here voxels ≡ surface_of_version w version part
  listed = ap (map shown_here) seen

  pub many_seen : length (surface_of_version w version part) ≡ length voxels
  many_seen = sym (ap length listed) ∙ length-map voxels shown_here

  -- there is no room
  pub writes_none : (out : List CShown) → length out < length voxels
      → WritesItems (surface_of_version w version part) out out (length voxels) 11
  writes_none out few =
      let many = many_seen in
      record { puts = PutsItems.too_small (omega (arith, few, many)) refl; number = sym many }

  -- they are written by a function that tells their tints
  writes_by : (f : Voxel → ℕ) (old new : List CShown)
      → map (shown_by f) voxels ≡ surface_of_version w version part
      → length voxels ≤ length old
      → new ≡ map (shown_by f) voxels ++ drop (length voxels) old
      → WritesItems (surface_of_version w version part) old new (length voxels) 0
  writes_by f old new same room is =
      let many = many_seen in
      record {
        puts = PutsItems.put (omega (arith, room, many))
            (is ∙ ap (λ (list : List CShown). list ++ drop (length voxels) old) same
            ∙ ap (λ (n : ℕ). surface_of_version w version part ++ drop n old) (sym many));
        number = sym many;
      }

  pub writes_plain : (old new : List CShown) → w.open.log.coloured ≡ false
      → length voxels ≤ length old
      → new ≡ map (shown_by (λ v. 1)) voxels ++ drop (length voxels) old
      → WritesItems (surface_of_version w version part) old new (length voxels) 0
  writes_plain old new plain room is =
      writes_by (λ v. 1) old new
      (ap (λ (c : Bool). map (shown_of (tints_by_kind c (tints_at w version)) part.at) voxels)
      (sym plain) ∙ listed) room is

  pub writes_tinted : (old new : List CShown) (tints : List ℕ) → w.open.log.coloured ≡ true
      → length voxels ≤ length old
      → tints ≡ map (its_tint (tints_at w version) part.at) voxels
      → ((f : Voxel → ℕ) → tints ≡ map f voxels
      → new ≡ map (shown_by f) voxels ++ drop (length voxels) old)
      → WritesItems (surface_of_version w version part) old new (length voxels) 0
  writes_tinted old new tints tinted room are puts =
      writes_by (its_tint (tints_at w version) part.at) old new
      (ap (λ (c : Bool). map (shown_of (tints_by_kind c (tints_at w version)) part.at) voxels)
      (sym tinted) ∙ listed) room (puts (its_tint (tints_at w version) part.at) are)

-- a world whose versions are as they were
pub held_still : (w : CWorld) (o : WorldState) → o ≡ w.open
    → record { «open» = o; keep = w.keep; line = w.line } ≡ w
held_still w o same =
    ap (λ (x : WorldState). record { «open» = x; keep = w.keep; line = w.line }) same
