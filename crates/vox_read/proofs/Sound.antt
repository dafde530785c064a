-- The models that a file gives are such as a file can hold.
use Rattle.std.proofs.Common.{◌≡◌, ℕ, zero, suc, ◌+◌, ◌<◌, Bool, true, false, List, [], ◌∷◌, ◌++◌, length, Option, Some, None, refl, sym, subst, arith, length-append, append-nil, if◌then◌else◌, codes}
use Rattle.std.specs.Prelude.{All, ◌&&◌, nat_le, nat_lt}
use Rattle.std.specs.List.{list_all}
use Rattle.std.proofs.lemmas.Slice.Eq.{bytes_eq-Decides}
use Rattle.std.proofs.lemmas.List.Elements.{All-nil, All-cons, All-push}
use Rattle.std.proofs.lemmas.Bool.{leb-true, leb-false, ltb-true}
use Rattle.vw_cell.specs.declared.cells.Cell.{Cell}
use Rattle.vox_chunk.specs.declared.faults.VoxFault.{VoxFault}
use Rattle.vox_chunk.specs.declared.faults.VoxFault.TheVariants.{ShortSize, SizeRange, ShortXyzi, VoxelOutside, TooManyModels}
use Rattle.vox_chunk.specs.Frames.{Bounds, place_of, id_at, content_at}
use Rattle.vox_read.specs.declared.voxels.Voxel.{Voxel}
use Rattle.vox_read.specs.Contents.{Content, IsModelExtent, IsSize, IsInsideModel, IsModel, AreModels}
use Rattle.vox_read.specs.Fields.{is_extent, is_size, size_in, size_fault, voxels_in, voxels_fault, holds_its_voxels, is_voxel_in, xyzi_fault}
use Rattle.vox_read.specs.Children.{is_size_id, is_xyzi_id, waiting_at, model_with, models_before}
use Rattle.vox_read.specs.Files.{AreRead, HasModels}

both : (a b : Bool) → (a && b) ≡ true → (a ≡ true) × (b ≡ true)
both true b is = (refl, is)
both false b is = absurd (let no : ⊥ = cc in no)

extent_of : (n : ℕ) → is_extent n ≡ true → IsModelExtent n
extent_of n is =
    let parts = both (nat_le 1 n) (nat_le n 256) is in
    (leb-true 1 n parts.0, leb-true n 256 parts.1)

size_of : (size : Cell) → is_size size ≡ true → IsSize size
size_of size is =
    let x = both (is_extent size.x) (is_extent size.y && is_extent size.z) is in
    let yz = both (is_extent size.y) (is_extent size.z) x.1 in
    record { x = extent_of size.x x.0; y = extent_of size.y yz.0; z = extent_of size.z yz.1 }

stands_of : (size : Cell) (v : Voxel) → is_voxel_in size v ≡ true → IsInsideModel size v
stands_of size v is =
    let x = both (nat_lt v.x size.x) (nat_lt v.y size.y && nat_lt v.z size.z) is in
    let yz = both (nat_lt v.y size.y) (nat_lt v.z size.z) x.1 in
    record { x = ltb-true v.x size.x x.0; y = ltb-true v.y size.y yz.0; z = ltb-true v.z size.z yz.1 }

all_stand : (size : Cell) (voxels : List Voxel) → list_all (is_voxel_in size) voxels ≡ true
    → All (IsInsideModel size) voxels
all_stand size [] is = All-nil (IsInsideModel size)
all_stand size (v ∷ more) is =
    let parts = both (is_voxel_in size v) (list_all (is_voxel_in size) more) is in
    All-cons (IsInsideModel size) v more (stands_of size v parts.0) (all_stand size more parts.1)

-- what follows where no rule is broken
passes : (b : Bool) (fault : VoxFault) (rest : Option VoxFault)
    → (if b then Some fault else rest) ≡ None → (b ≡ false) × (rest ≡ None)
passes true fault rest is = absurd (let no : ⊥ = cc in no)
passes false fault rest is = (refl, is)

holds : (b : Bool) (fault : VoxFault) (rest : Option VoxFault)
    → (if b then rest else Some fault) ≡ None → (b ≡ true) × (rest ≡ None)
holds true fault rest is = (refl, is)
holds false fault rest is = absurd (let no : ⊥ = cc in no)

in_range : (b : Bool) (fault : VoxFault) → (if b then None else Some fault) ≡ None → b ≡ true
in_range true fault is = refl
in_range false fault is = absurd (let no : ⊥ = cc in no)

-- a size that waits is a model's, and the models so far are such as a file can hold
record IsSound (waiting : Option Cell) (models : List Content) : Type 0 where
  of_size : (s : Cell) → waiting ≡ Some s → IsSize s
  of_models : AreModels models

with_size : (content : List ℕ) (place : ℕ) (models : List Content) → AreModels models
    → size_fault place content ≡ None → IsSound (Some (size_in content)) models
with_size content place models are fine =
    let long = passes (nat_lt (length content) 12) (ShortSize place) _ fine in
    let fits = in_range (is_size (size_in content)) (SizeRange place) long.1 in
    record {
      of_size = λ s is.
          (let same : size_in content
          ≡ s = cc in subst IsSize same (size_of (size_in content) fits));
      of_models = are;
    }

with_model : (size : Cell) (content : List ℕ) (place : ℕ) (models : List Content) → IsSize size
    → AreModels models → xyzi_fault (Some size) (length models) place content ≡ None
    → IsSound None (models ++ record { size = size; voxels = voxels_in content } ∷ [])
with_model size content place models is_size are fine =
    let few =
    passes (nat_le 1024 (length models)) (TooManyModels place)
    (voxels_fault place size content) fine in
    let long = holds (holds_its_voxels content) (ShortXyzi place) _ few.1 in
    let inside =
    in_range (list_all (is_voxel_in size) (voxels_in content)) (VoxelOutside place) long.1 in
    let below : length models < 1024 = leb-false 1024 (length models) few.0 in
    let m : Content = record { size = size; voxels = voxels_in content } in
    let longer : length (models ++ m ∷ []) ≡ length models + 1 = length-append models (m ∷ []) in
    record {
      of_size = λ s is. absurd (let no : ⊥ = cc in no);
      of_models = record {
        each = All-push IsModel models m are.each
            (record { size = is_size; voxels = all_stand size (voxels_in content) inside });
        few = omega arith;
      };
    }

sound_step : (s x : Bool) (waiting : Option Cell) (models : List Content) (content : List ℕ)
    (place : ℕ) → (s ≡ true → x ≡ false) → IsSound waiting models
    → (if s then size_fault place content
    else (if x then xyzi_fault waiting (length models) place content else None)) ≡ None
    → IsSound (if s then Some (size_in content) else (if x then None else waiting))
    (models ++ (if x then model_with waiting content else []))
sound_step true true waiting models content place apart sound fine =
    absurd (let no : ⊥ = (let same = apart refl in cc) in no)
sound_step true false waiting models content place apart sound fine =
    rw (append-nil models) (with_size content place models sound.of_models fine)
sound_step false true None models content place apart sound fine = absurd (let no : ⊥ = cc in no)
sound_step false true (Some size) models content place apart sound fine =
    with_model size content place models (sound.of_size size refl) sound.of_models fine
sound_step false false waiting models content place apart sound fine = rw (append-nil models) sound

-- a SIZE is no XYZI
apart : (id : List ℕ) → is_size_id id ≡ true → is_xyzi_id id ≡ false
apart id is =
    let same : id ≡ codes "SIZE" = (bytes_eq-Decides id (codes "SIZE")).0 is in rw same refl

sound_at : (bytes : List ℕ) (main : Bounds) (i : ℕ) → AreRead bytes main i
    → IsSound (waiting_at bytes main.first i) (models_before bytes main.first i)
sound_at bytes main zero read =
    record {
      of_size = λ s is. absurd (let no : ⊥ = cc in no);
      of_models = record
          { each = All-nil IsModel; few = omega arith };
    }
sound_at bytes main (suc i) read =
    let before : AreRead bytes main i =
    record {
      frames = λ k lt. read.frames k (omega (arith, lt));
      fields = λ k lt. read.fields k
          (omega (arith, lt));
    } in
    let id = id_at bytes (place_of bytes main.first i) in
    sound_step (is_size_id id) (is_xyzi_id id) (waiting_at bytes main.first i)
    (models_before bytes main.first i) (content_at bytes (place_of bytes main.first i))
    (place_of bytes main.first i)
    (apart id) (sound_at bytes main i before) (read.fields i (omega arith))

pub models_of_file : (bytes : List ℕ) (models : List Content) → HasModels bytes models
    → AreModels models
models_of_file bytes models has =
    subst AreModels (sym has.are) (sound_at bytes has.main has.children has.read).of_models
