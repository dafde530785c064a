-- The bytes of a file of one model say that one model.
use Rattle.std.proofs.Common.{◌≡◌, ℕ, zero, suc, ◌+◌, ◌*◌, ◌^◌, ◌<◌, ◌≤◌, Bool, true, false, if◌then◌else◌, List, [], ◌∷◌, ◌++◌, length, take, drop, codes, Option, Some, None, Result, Ok, refl, sym, ap, subst, ◌∙◌, arith}
use Rattle.std.specs.Prelude.{◌&&◌, nat_lt, nat_le, All}
use Rattle.std.specs.List.{list_all, flat_map}
use Rattle.std.proofs.lemmas.Bool.{lt-ltb, le-ltb, le-leb}
use Rattle.std.proofs.lemmas.List.{take_all}
use Rattle.std.proofs.lemmas.List.Elements.{All-head, All-tail}
use Rattle.byteorder.specs.Endian.{little_number}
use Rattle.byteorder.specs.Numbers.{little_number-reads_back}
use Rattle.vw_cell.specs.declared.cells.Cell.{Cell}
use Rattle.vox_chunk.specs.declared.faults.VoxFault.{VoxFault}
use Rattle.vox_chunk.specs.Frames.{Bounds, number_at, id_at, content_at, end_of, header_of, main_of, place_of, FrameFits}
use Rattle.vox_read.specs.declared.voxels.Voxel.{Voxel}
use Rattle.vox_read.specs.Contents.{Content, IsModelExtent, IsSize, IsModel, IsInsideModel}
use Rattle.vox_read.specs.Fields.{is_extent, is_size, size_in, size_fault, voxels_of, voxels_in, is_voxel_in, voxels_fault, holds_its_voxels}
use Rattle.vox_read.specs.Children.{waiting_at, waiting_behind, models_in, models_before, fields_fault, child_fault}
use Rattle.vox_read.specs.Files.{AreRead, HasModels, ReadsModels}
use Rattle.vox_write.specs.Written.{number_bytes, file_front, size_bytes, voxel_bytes, model_file}

-- a file of n voxels, whose bytes these are
abbrev spelled : Cell → ℕ → List ℕ → List ℕ
spelled size n groups = file_front size n ++ groups

back : (n : ℕ) (rest : List ℕ) → n < 2 ^ 32 → little_number 4 (number_bytes n ++ rest) ≡ n
back n rest lt = little_number-reads_back 4 n rest lt

-- what stands where in such a file
record IsLaidOut (bytes : List ℕ) (size : Cell) (n : ℕ) (groups : List ℕ) : Type 0 where
  long : length bytes ≡ 60 + 4 * n
  mark : id_at bytes 0 ≡ codes "VOX "
  version : number_at bytes 4 ≡ 150
  main : id_at bytes 8 ≡ codes "MAIN"
  main_content : number_at bytes 12 ≡ 0
  main_children : number_at bytes 16 ≡ 40 + 4 * n
  first : id_at bytes 20 ≡ codes "SIZE"
  first_content : number_at bytes 24 ≡ 12
  first_children : number_at bytes 28 ≡ 0
  sizes : take 12 (drop 32 bytes) ≡ size_bytes size
  second : id_at bytes 44 ≡ codes "XYZI"
  second_content : number_at bytes 48 ≡ 4 + 4 * n
  second_children : number_at bytes 52 ≡ 0
  voxels : drop 56 bytes ≡ number_bytes n ++ groups

laid_out : (size : Cell) (n : ℕ) (groups : List ℕ) → length groups ≡ 4 * n → n ≤ 2 ^ 24
    → IsLaidOut (spelled size n groups) size n groups
unfolding file_front
laid_out size n groups long few = record {
  long = omega (arith, long);
  mark = refl;
  version = refl;
  main = refl;
  main_content = refl;
  main_children = back (40 + 4 * n) (drop 20 (spelled size n groups)) (omega (arith, few));
  first = refl;
  first_content = refl;
  first_children = refl;
  sizes = refl;
  second = refl;
  second_content = back (4 + 4 * n) (drop 52 (spelled size n groups)) (omega (arith, few));
  second_children = refl;
  voxels = refl;
}

-- children from 20 on
abbrev ends : ℕ → Result Bounds VoxFault
ends e = Ok (record { first = 20; end = e })

ends_at : (e f : ℕ) → e ≡ f → ends e ≡ ends f
ends_at e f same = ap ends same

header_is : (bytes : List ℕ) (size : Cell) (n : ℕ) (groups : List ℕ) → IsLaidOut bytes size n groups
    → header_of bytes ≡ Ok (record { first = 20; end = 60 + 4 * n })
header_is bytes size n groups laid =
    let some : nat_lt (length bytes) 4 ≡ false = le-ltb _ _ (omega (arith, laid.long)) in
    let more : nat_lt (length bytes) 8 ≡ false = le-ltb _ _ (omega (arith, laid.long)) in
    let framed : nat_lt (length bytes) 20 ≡ false = le-ltb _ _ (omega (arith, laid.long)) in
    let ends : end_of bytes 8 ≡ 60 + 4 * n = omega (arith, laid.main_content, laid.main_children) in
    let whole : nat_lt (length bytes) (end_of bytes 8) ≡ false =
    le-ltb _ _ (omega (arith, laid.long, ends)) in
    let end : 20 + 0 + (40 + 4 * n) ≡ 60 + 4 * n = omega arith in
    rw (
      some,
      laid.mark,
      more,
      laid.version,
      framed,
      laid.main,
      whole,
      laid.main_content,
      laid.main_children,
    )
    (ends_at _ _ end)

extent_is : (n : ℕ) → IsModelExtent n → is_extent n ≡ true
extent_is n fits = rw (le-leb 1 n fits.0, le-leb n 256 fits.1) refl

x_is : (size : Cell) → IsSize size → number_at (size_bytes size) 0 ≡ size.x
x_is size is = back size.x (drop 4 (size_bytes size)) (omega (arith, is.x.1))

y_is : (size : Cell) → IsSize size → number_at (size_bytes size) 4 ≡ size.y
y_is size is = back size.y (drop 8 (size_bytes size)) (omega (arith, is.y.1))

z_is : (size : Cell) → IsSize size → number_at (size_bytes size) 8 ≡ size.z
z_is size is = back size.z [] (omega (arith, is.z.1))

size_is : (size : Cell) → IsSize size → size_in (size_bytes size) ≡ size
size_is size is = rw (x_is size is, y_is size is, z_is size is) refl

size_fine : (place : ℕ) (size : Cell) → IsSize size → size_fault place (size_bytes size) ≡ None
size_fine place size is =
    rw (
      x_is size is,
      y_is size is,
      z_is size is,
      extent_is size.x is.x,
      extent_is size.y is.y,
      extent_is size.z is.z,
    ) refl

all_inside : (size : Cell) (voxels : List Voxel) → All (IsInsideModel size) voxels
    → list_all (is_voxel_in size) voxels ≡ true
all_inside size [] all = refl
all_inside size (v ∷ more) all =
    let v_in = All-head (IsInsideModel size) v more all in
    rw (
      lt-ltb v.x size.x v_in.x,
      lt-ltb v.y size.y v_in.y,
      lt-ltb v.z size.z v_in.z,
      all_inside size more (All-tail (IsInsideModel size) v more all),
    ) refl

groups_long : (voxels : List Voxel) → length (flat_map voxel_bytes voxels) ≡ 4 * length voxels
groups_long [] = refl
groups_long (v ∷ more) = let rest = groups_long more in omega (arith, rest)

voxels_are : (voxels : List Voxel) → voxels_of (flat_map voxel_bytes voxels) ≡ voxels
unfolding voxels_of
voxels_are [] = refl
voxels_are (v ∷ more) = ap (λ (vs : List Voxel). v ∷ vs) (voxels_are more)

-- the voxels that so many groups give
groups_read : (n : ℕ) (groups : List ℕ) → length groups ≡ 4 * n → n ≤ 2 ^ 24
    → voxels_in (number_bytes n ++ groups) ≡ voxels_of groups
groups_read n groups long few =
    let number : number_at (number_bytes n ++ groups) 0 ≡ n = back n groups (omega (arith, few)) in
    let all : take (4 * n) groups ≡ groups = take_all (4 * n) groups (omega (arith, long)) in
    rw (number, all) refl

voxels_fine : (place : ℕ) (size : Cell) (n : ℕ) (groups : List ℕ) → length groups ≡ 4 * n
    → n ≤ 2 ^ 24 → list_all (is_voxel_in size) (voxels_of groups) ≡ true
    → voxels_fault place size (number_bytes n ++ groups) ≡ None
voxels_fine place size n groups long few inside =
    let number : number_at (number_bytes n ++ groups) 0 ≡ n = back n groups (omega (arith, few)) in
    let some : nat_le 4 (length (number_bytes n ++ groups)) ≡ true = le-leb _ _ (omega arith) in
    let whole : nat_le (4 + 4 * n) (length (number_bytes n ++ groups)) ≡ true =
    le-leb _ _ (omega (arith, long)) in
    let holds : holds_its_voxels (number_bytes n ++ groups) ≡ true =
    rw (number, some, whole) refl in
    rw (holds, groups_read n groups long few, inside) refl

second_place : (bytes : List ℕ) (size : Cell) (n : ℕ) (groups : List ℕ)
    → IsLaidOut bytes size n groups → place_of bytes 20 1 ≡ 44
second_place bytes size n groups laid = omega (arith, laid.first_content, laid.first_children)

behind : (bytes : List ℕ) (size : Cell) (n : ℕ) (groups : List ℕ) → IsLaidOut bytes size n groups
    → end_of bytes 44 ≡ 60 + 4 * n
behind bytes size n groups laid = omega (arith, laid.second_content, laid.second_children)

last_place : (bytes : List ℕ) (size : Cell) (n : ℕ) (groups : List ℕ)
    → IsLaidOut bytes size n groups → place_of bytes 20 2 ≡ 60 + 4 * n
last_place bytes size n groups laid =
    ap (λ (p : ℕ). end_of bytes p) (second_place bytes size n groups laid)
    ∙ behind bytes size n groups laid

first_content_is : (bytes : List ℕ) (size : Cell) (n : ℕ) (groups : List ℕ)
    → IsLaidOut bytes size n groups → content_at bytes 20 ≡ size_bytes size
first_content_is bytes size n groups laid =
    ap (λ (m : ℕ). take m (drop 32 bytes)) laid.first_content ∙ laid.sizes

second_content_is : (bytes : List ℕ) (size : Cell) (n : ℕ) (groups : List ℕ)
    → IsLaidOut bytes size n groups → length groups ≡ 4 * n
    → content_at bytes 44 ≡ number_bytes n ++ groups
second_content_is bytes size n groups laid long =
    ap (λ (m : ℕ). take m (drop 56 bytes)) laid.second_content
    ∙ ap (λ (bs : List ℕ). take (4 + 4 * n) bs) laid.voxels
    ∙ take_all (4 + 4 * n) (number_bytes n ++ groups) (omega (arith, long))

waits : (bytes : List ℕ) (size : Cell) (n : ℕ) (groups : List ℕ) → IsSize size
    → IsLaidOut bytes size n groups → waiting_at bytes 20 1 ≡ Some size
waits bytes size n groups is laid =
    rw (laid.first, first_content_is bytes size n groups laid, size_is size is) refl

none_before : (bytes : List ℕ) (size : Cell) (n : ℕ) (groups : List ℕ)
    → IsLaidOut bytes size n groups → models_before bytes 20 1 ≡ []
none_before bytes size n groups laid = rw laid.first refl

first_fine : (bytes : List ℕ) (size : Cell) (n : ℕ) (groups : List ℕ) → IsSize size
    → IsLaidOut bytes size n groups → child_fault bytes 20 0 ≡ None
first_fine bytes size n groups is laid =
    rw (laid.first, first_content_is bytes size n groups laid, size_fine 20 size is) refl

-- the fields of a chunk, told in other words
same_fields : (w v : Option Cell) (k l : ℕ) (id other content more : List ℕ) (p q : ℕ) → w ≡ v
    → k ≡ l → id ≡ other → content ≡ more → p ≡ q
    → fields_fault w k id content p ≡ fields_fault v l other more q
same_fields w v k l id other content more p q a b c d e = rw (a, b, c, d, e) refl

second_fine : (bytes : List ℕ) (size : Cell) (n : ℕ) (groups : List ℕ) → IsSize size
    → IsLaidOut bytes size n groups → length groups ≡ 4 * n → n ≤ 2 ^ 24
    → list_all (is_voxel_in size) (voxels_of groups) ≡ true
    → child_fault bytes 20 1 ≡ None
second_fine bytes size n groups is laid long few inside =
    let place : place_of bytes 20 1 ≡ 44 = second_place bytes size n groups laid in
    same_fields (waiting_at bytes 20 1) (Some size) (length (models_before bytes 20 1)) 0
    (id_at bytes (place_of bytes 20 1)) (codes "XYZI") (content_at bytes (place_of bytes 20 1))
    (number_bytes n ++ groups) (place_of bytes 20 1) 44
    (waits bytes size n groups is laid)
    (ap length (none_before bytes size n groups laid))
    (ap (id_at bytes) place ∙ laid.second)
    (ap (content_at bytes) place ∙ second_content_is bytes size n groups laid long)
    place
    ∙ voxels_fine 44 size n groups long few inside

same_models : (w v : Option Cell) (id other content more : List ℕ) → w ≡ v → id ≡ other
    → content ≡ more → models_in id content w ≡ models_in other more v
same_models w v id other content more a b c = rw (a, b, c) refl

joined : (xs ys zs : List Content) → xs ≡ [] → ys ≡ zs → xs ++ ys ≡ zs
joined xs ys zs none same = rw (none, same) refl

one_model : (bytes : List ℕ) (size : Cell) (n : ℕ) (groups : List ℕ) → IsSize size
    → IsLaidOut bytes size n groups → length groups ≡ 4 * n → n ≤ 2 ^ 24
    → models_before bytes 20 2 ≡ record { size = size; voxels = voxels_of groups } ∷ []
one_model bytes size n groups is laid long few =
    let place : place_of bytes 20 1 ≡ 44 = second_place bytes size n groups laid in
    joined (models_before bytes 20 1) _ (record { size = size; voxels = voxels_of groups } ∷ [])
    (none_before bytes size n groups laid)
    (same_models (waiting_at bytes 20 1) (Some size) (id_at bytes (place_of bytes 20 1))
    (codes "XYZI") (content_at bytes (place_of bytes 20 1)) (number_bytes n ++ groups)
    (waits bytes size n groups is laid) (ap (id_at bytes) place ∙ laid.second)
    (ap (content_at bytes) place ∙ second_content_is bytes size n groups laid long)
    ∙ ap (λ (vs : List Voxel). record { size = size; voxels = vs } ∷ [])
    (groups_read n groups long few))

-- what holds of 0 and of 1 holds below 2
below_two : (P : ℕ → Type 0) → P 0 → P 1 → (k : ℕ) → k < 2 → P k
below_two P at_0 at_1 zero lt = at_0
below_two P at_0 at_1 (suc zero) lt = at_1
below_two P at_0 at_1 (suc (suc k)) lt = absurd (omega (arith, lt))

frame_at : (bytes : List ℕ) (end p q : ℕ) → p ≡ q → p + 12 ≤ end → end_of bytes q ≤ end
    → FrameFits bytes end p
frame_at bytes end p q same head whole =
    record { head = head; whole = subst (λ (r : ℕ). end_of bytes r ≤ end) (sym same) whole }

children_read : (bytes : List ℕ) (size : Cell) (n : ℕ) (groups : List ℕ) → IsSize size
    → IsLaidOut bytes size n groups → length groups ≡ 4 * n → n ≤ 2 ^ 24
    → list_all (is_voxel_in size) (voxels_of groups) ≡ true
    → AreRead bytes (record { first = 20; end = 60 + 4 * n }) 2
children_read bytes size n groups is laid long few inside =
    let place : place_of bytes 20 1 ≡ 44 = second_place bytes size n groups laid in
    let behind_all : end_of bytes 44 ≡ 60 + 4 * n = behind bytes size n groups laid in
    record {
      frames = below_two (λ (k : ℕ). FrameFits bytes (60 + 4 * n) (place_of bytes 20 k))
          (frame_at bytes (60 + 4 * n) 20 20 refl (omega arith) (omega (arith, place)))
          (frame_at bytes (60 + 4 * n) (place_of bytes 20 1) 44 place (omega (arith, place))
          (omega (arith, behind_all)));
      fields = below_two (λ (k : ℕ). child_fault bytes 20 k ≡ None)
          (first_fine bytes size n groups is laid)
          (second_fine bytes size n groups is laid long few inside);
    }

models_read : (bytes : List ℕ) (size : Cell) (n : ℕ) (groups : List ℕ) → IsSize size
    → IsLaidOut bytes size n groups → length groups ≡ 4 * n → n ≤ 2 ^ 24
    → list_all (is_voxel_in size) (voxels_of groups) ≡ true
    → HasModels bytes (record { size = size; voxels = voxels_of groups } ∷ [])
models_read bytes size n groups is laid long few inside =
    let last : place_of bytes 20 2 ≡ 60 + 4 * n = last_place bytes size n groups laid in
    record {
      main = record { first = 20; end = 60 + 4 * n };
      header = header_is bytes size n groups laid;
      children = 2;
      read = children_read bytes size n groups is laid long few inside;
      ends = omega (arith, last);
      are = sym (one_model bytes size n groups is laid long few);
    }

pub model_is_read : (size : Cell) (voxels : List Voxel) → IsSize size
    → All (IsInsideModel size) voxels → length voxels ≤ 2 ^ 24
    → HasModels (model_file (record { size = size; voxels = voxels }))
    (record { size = size; voxels = voxels } ∷ [])
model_is_read size voxels is all few =
    let groups : List ℕ = flat_map voxel_bytes voxels in
    let long : length groups ≡ 4 * length voxels = groups_long voxels in
    let same : voxels_of groups ≡ voxels = voxels_are voxels in
    let inside : list_all (is_voxel_in size) (voxels_of groups) ≡ true =
    ap (list_all (is_voxel_in size)) same ∙ all_inside size voxels all in
    let bytes : List ℕ = spelled size (length voxels) groups in
    subst (λ (vs : List Voxel). HasModels bytes (record { size = size; voxels = vs } ∷ [])) same
    (models_read bytes size (length voxels) groups is
    (laid_out size (length voxels) groups long few) long few inside)

-- the file of a model says that one model
abbrev pub FilesAreRead : Type 0
FilesAreRead =
    (m : Content) → IsModel m → length m.voxels ≤ 2 ^ 24 → ReadsModels (model_file m) (Ok (m ∷ []))

pub files_are_read : FilesAreRead
files_are_read m is few = model_is_read m.size m.voxels is.size is.voxels few
