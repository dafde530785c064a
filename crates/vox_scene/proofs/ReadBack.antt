-- The file of some models is read as these models.
use Rattle.std.proofs.Common.{◌≡◌, ℕ, suc, ◌+◌, ◌*◌, ◌^◌, ◌<◌, ◌≤◌, ◌⊎◌, inl, inr, true, false, List, [], ◌∷◌, ◌++◌, length, take, drop, codes, Option, Some, None, Result, Ok, refl, sym, ap, subst, ◌∙◌, arith, append_assoc, append-nil}
use Rattle.std.specs.Prelude.{nat_lt, nat_le, All}
use Rattle.std.specs.List.{list_all, flat_map}
use Rattle.std.proofs.lemmas.Bool.{lt-ltb, le-ltb, le-leb, lt-leb, cases_order}
use Rattle.std.proofs.Math.Seq.{take-append_seam}
use Rattle.std.proofs.lemmas.List.{take_all, drop-drop, length-append}
use Rattle.std.proofs.lemmas.List.Elements.{All-head, All-tail}
use Rattle.std.proofs.lemmas.List.Sums.{sum_by-cons}
use Rattle.byteorder.specs.Endian.{little_number}
use Rattle.byteorder.specs.Numbers.{little_number-reads_back}
use Rattle.vw_cell.specs.declared.cells.Cell.{Cell}
use Rattle.vox_chunk.specs.declared.faults.VoxFault.{VoxFault}
use Rattle.vox_chunk.specs.Frames.{Bounds, number_at, id_at, content_length, children_length, content_at, end_of, header_of, place_of, FrameFits}
use Rattle.vox_read.specs.declared.voxels.Voxel.{Voxel}
use Rattle.vox_read.specs.Contents.{Content, IsModelExtent, IsSize, IsModel, IsInsideModel}
use Rattle.vox_read.specs.Fields.{is_extent, size_in, size_fault, voxels_of, voxels_in, is_voxel_in, voxels_fault, holds_its_voxels}
use Rattle.vox_read.specs.Children.{waiting_at, models_in, models_before, fields_fault, child_fault}
use Rattle.vox_read.specs.Files.{AreRead}
use Rattle.vox_write.specs.Written.{number_bytes, size_bytes, voxel_bytes, model_chunks, chunks_length, models_file}
use Rattle.vox_scene.specs.WrittenScenes.{FilesOfModelsAreRead}

back : (n : ℕ) (rest : List ℕ) → n < 2 ^ 32 → little_number 4 (number_bytes n ++ rest) ≡ n
back n rest lt = little_number-reads_back 4 n rest lt

drop_on : (m n : ℕ) (xs : List ℕ) → drop (m + n) xs ≡ drop n (drop m xs)
drop_on m n xs = sym (drop-drop n m xs)

-- ---- the fields of a model

extent_is : (n : ℕ) → IsModelExtent n → is_extent n ≡ true
extent_is n fits = rw (le-leb 1 n fits.0, le-leb n 256 fits.1) refl

x_is : (size : Cell) → IsSize size → number_at (size_bytes size) 0 ≡ size.x
x_is size is = back size.x (drop 4 (size_bytes size)) (omega (arith, is.x.1))

y_is : (size : Cell) → IsSize size → number_at (size_bytes size) 4 ≡ size.y
y_is size is = back size.y (drop 8 (size_bytes size)) (omega (arith, is.y.1))

z_is : (size : Cell) → IsSize size → number_at (size_bytes size) 8 ≡ size.z
z_is size is = back size.z [] (omega (arith, is.z.1))

size_is : (size : Cell) → IsSize size → size_in (size_bytes size) ≡ size
size_is size is = rw (x_is size is, y_is size is, z_is size is) refl

size_fine : (place : ℕ) (size : Cell) → IsSize size → size_fault place (size_bytes size) ≡ None
size_fine place size is =
    rw (
      x_is size is,
      y_is size is,
      z_is size is,
      extent_is size.x is.x,
      extent_is size.y is.y,
      extent_is size.z is.z,
    ) refl

all_inside : (size : Cell) (voxels : List Voxel) → All (IsInsideModel size) voxels
    → list_all (is_voxel_in size) voxels ≡ true
all_inside size [] all = refl
all_inside size (v ∷ more) all =
    let v_in = All-head (IsInsideModel size) v more all in
    rw (
      lt-ltb v.x size.x v_in.x,
      lt-ltb v.y size.y v_in.y,
      lt-ltb v.z size.z v_in.z,
      all_inside size more (All-tail (IsInsideModel size) v more all),
    ) refl

groups_long : (voxels : List Voxel) → length (flat_map voxel_bytes voxels) ≡ 4 * length voxels
groups_long [] = refl
groups_long (v ∷ more) = let rest = groups_long more in omega (arith, rest)

voxels_are : (voxels : List Voxel) → voxels_of (flat_map voxel_bytes voxels) ≡ voxels
unfolding voxels_of
voxels_are [] = refl
voxels_are (v ∷ more) = ap (λ (vs : List Voxel). v ∷ vs) (voxels_are more)

-- the content of an XYZI
abbrev spelled : List Voxel → List ℕ
spelled voxels = number_bytes (length voxels) ++ flat_map voxel_bytes voxels

voxels_read : (voxels : List Voxel) → length voxels ≤ 2 ^ 26 → voxels_in (spelled voxels) ≡ voxels
voxels_read voxels few =
    let groups : List ℕ = flat_map voxel_bytes voxels in
    let number : number_at (spelled voxels) 0 ≡ length voxels =
    back (length voxels) groups (omega (arith, few)) in
    let long = groups_long voxels in
    let all : take (4 * length voxels) groups ≡ groups =
    take_all (4 * length voxels) groups (omega (arith, long)) in
    rw (number, all) (voxels_are voxels)

voxels_fine : (place : ℕ) (size : Cell) (voxels : List Voxel) → length voxels ≤ 2 ^ 26
    → All (IsInsideModel size) voxels → voxels_fault place size (spelled voxels) ≡ None
voxels_fine place size voxels few inside =
    let groups : List ℕ = flat_map voxel_bytes voxels in
    let long = groups_long voxels in
    let number : number_at (spelled voxels) 0 ≡ length voxels =
    back (length voxels) groups (omega (arith, few)) in
    let some : nat_le 4 (length (spelled voxels)) ≡ true = le-leb _ _ (omega arith) in
    let whole : nat_le (4 + 4 * length voxels) (length (spelled voxels)) ≡ true =
    le-leb _ _ (omega (arith, long)) in
    let holds : holds_its_voxels (spelled voxels) ≡ true = rw (number, some, whole) refl in
    rw (holds, voxels_read voxels few, all_inside size voxels inside) refl

-- ---- a model's two chunks at a place

record IsModelAt (bytes : List ℕ) (p : ℕ) (m : Content) (more : List ℕ) : Type 0 where
  size_id : id_at bytes p ≡ codes "SIZE"
  size_length : content_length bytes p ≡ 12
  size_children : children_length bytes p ≡ 0
  sizes : take 12 (drop (p + 12) bytes) ≡ size_bytes m.size
  xyzi_id : id_at bytes (p + 24) ≡ codes "XYZI"
  xyzi_length : content_length bytes (p + 24) ≡ 4 + 4 * length m.voxels
  xyzi_children : children_length bytes (p + 24) ≡ 0
  voxels : drop (p + 36) bytes ≡ spelled m.voxels ++ more
  behind : drop (p + (40 + 4 * length m.voxels)) bytes ≡ more

past : (bytes : List ℕ) (p k : ℕ) (rest : List ℕ) → drop p bytes ≡ rest
    → drop (p + k) bytes ≡ drop k rest
past bytes p k rest is = drop_on p k bytes ∙ ap (λ (bs : List ℕ). drop k bs) is

number_past : (bytes : List ℕ) (p k : ℕ) (rest more : List ℕ) (n : ℕ) → drop p bytes ≡ rest
    → drop k rest ≡ number_bytes n ++ more → n < 2 ^ 32 → number_at bytes (p + k) ≡ n
number_past bytes p k rest more n is there lt =
    ap (λ (bs : List ℕ). little_number 4 bs) (past bytes p k rest is ∙ there) ∙ back n more lt

-- behind the groups of the voxels
groups_past : (voxels : List Voxel) (more : List ℕ)
    → drop (4 * length voxels) (flat_map voxel_bytes voxels ++ more) ≡ more
groups_past [] more = refl
groups_past (v ∷ vs) more =
    ap (λ (k : ℕ). drop k (flat_map voxel_bytes (v ∷ vs) ++ more)) (four (length vs))
    ∙ drop_on 4 (4 * length vs) (flat_map voxel_bytes (v ∷ vs) ++ more) ∙ groups_past vs more
  where
    four : (k : ℕ) → 4 * suc k ≡ 4 + 4 * k
    four k = omega arith

model_at : (bytes : List ℕ) (p : ℕ) (m : Content) (more : List ℕ)
    → drop p bytes ≡ model_chunks m ++ more → length m.voxels ≤ 2 ^ 26 → IsModelAt bytes p m more
unfolding model_chunks
model_at bytes p m more is few = record {
  size_id = ap (λ (bs : List ℕ). take 4 bs) is;
  size_length = number_past bytes p 4 (model_chunks m ++ more) _ 12 is refl (omega arith);
  size_children = number_past bytes p 8 (model_chunks m ++ more) _ 0 is refl (omega arith);
  sizes = ap (λ (bs : List ℕ). take 12 bs) (past bytes p 12 (model_chunks m ++ more) is);
  xyzi_id = ap (λ (bs : List ℕ). take 4 bs) (past bytes p 24 (model_chunks m ++ more) is);
  xyzi_length =
      ap (λ (q : ℕ). number_at bytes q) (omega arith)
      ∙ number_past bytes p 28 (model_chunks m ++ more) _ (4 + 4 * length m.voxels) is refl
      (omega (arith, few));
  xyzi_children =
      ap (λ (q : ℕ). number_at bytes q) (omega arith)
      ∙ number_past bytes p 32 (model_chunks m ++ more) _ 0 is refl (omega arith);
  voxels = past bytes p 36 (model_chunks m ++ more) is;
  behind =
      ap (λ (q : ℕ). drop q bytes) (omega arith)
      ∙ past bytes (p + 40) (4 * length m.voxels) (flat_map voxel_bytes m.voxels ++ more)
      (past bytes p 40 (model_chunks m ++ more) is)
      ∙ groups_past m.voxels more;
}

-- ---- the children, one model after the other

abbrev inside : ℕ → Bounds
inside end = record { first = 20; end = end }

-- the first k children are read as these models, and the rest begins at a place
record ReadsTo (bytes : List ℕ) (end k p : ℕ) (before after : List Content) : Type 0 where
  place : place_of bytes 20 k ≡ p
  models : models_before bytes 20 k ≡ before
  read : AreRead bytes (inside end) k
  rest : drop p bytes ≡ flat_map model_chunks after

-- a chunk's fields told in other words
same_fields : (w v : Option Cell) (k l : ℕ) (id other content more : List ℕ) (p q : ℕ) → w ≡ v
    → k ≡ l → id ≡ other → content ≡ more → p ≡ q
    → fields_fault w k id content p ≡ fields_fault v l other more q
same_fields w v k l id other content more p q a b c d e = rw (a, b, c, d, e) refl

same_models : (w v : Option Cell) (id other content more : List ℕ) → w ≡ v → id ≡ other
    → content ≡ more → models_in id content w ≡ models_in other more v
same_models w v id other content more a b c = rw (a, b, c) refl

content_is : (bytes : List ℕ) (p n : ℕ) (content : List ℕ) → content_length bytes p ≡ n
    → take n (drop (p + 12) bytes) ≡ content → content_at bytes p ≡ content
content_is bytes p n content long is =
    ap (λ (m : ℕ). take m (drop (p + 12) bytes)) long ∙ is

size_content : (bytes : List ℕ) (p : ℕ) (m : Content) (more : List ℕ) → IsModelAt bytes p m more
    → content_at bytes p ≡ size_bytes m.size
size_content bytes p m more at =
    content_is bytes p 12 (size_bytes m.size) at.size_length at.sizes

taken : (n : ℕ) (xs more : List ℕ) → length xs ≡ n → take n (xs ++ more) ≡ xs
taken n xs more is = ap (λ (k : ℕ). take k (xs ++ more)) (sym is) ∙ take-append_seam xs more

voxel_content : (bytes : List ℕ) (p : ℕ) (m : Content) (more : List ℕ) → IsModelAt bytes p m more
    → content_at bytes (p + 24) ≡ spelled m.voxels
voxel_content bytes p m more at =
    let long = groups_long m.voxels in
    let place : (p + 24) + 12 ≡ p + 36 = omega arith in
    content_is bytes (p + 24) (4 + 4 * length m.voxels) (spelled m.voxels) at.xyzi_length
    (ap (λ (bs : List ℕ). take (4 + 4 * length m.voxels) bs)
    (ap (λ (q : ℕ). drop q bytes) place ∙ at.voxels)
    ∙ taken (4 + 4 * length m.voxels) (spelled m.voxels) more (omega (arith, long)))

one_more : (bytes : List ℕ) (main : Bounds) (k : ℕ) → AreRead bytes main k
    → FrameFits bytes main.end (place_of bytes main.first k) → child_fault bytes main.first k ≡ None
    → AreRead bytes main (suc k)
one_more bytes main k read fits fine = record {
  frames = λ j lt. frame j lt (cases_order j k);
  fields = λ j lt. field j lt (cases_order j k);
}
  where
    frame : (j : ℕ) → j < suc k → (j ≡ k) ⊎ ((j < k) ⊎ (k < j))
        → FrameFits bytes main.end (place_of bytes main.first j)
    frame j lt (inl is) =
        subst (λ (i : ℕ). FrameFits bytes main.end (place_of bytes main.first i)) (sym is) fits
    frame j lt (inr (inl less)) = read.frames j less
    frame j lt (inr (inr past)) = absurd (omega (arith, lt, past))

    field : (j : ℕ) → j < suc k → (j ≡ k) ⊎ ((j < k) ⊎ (k < j))
        → child_fault bytes main.first j ≡ None
    field j lt (inl is) = ap (child_fault bytes main.first) is ∙ fine
    field j lt (inr (inl less)) = read.fields j less
    field j lt (inr (inr past)) = absurd (omega (arith, lt, past))

frame_at : (bytes : List ℕ) (end p q : ℕ) → p ≡ q → q + 12 ≤ end → end_of bytes q ≤ end
    → FrameFits bytes end p
frame_at bytes end p q same head whole =
    subst (λ (r : ℕ). FrameFits bytes end r) (sym same) (record { head = head; whole = whole })

-- behind the SIZE of a model
record SizeRead (bytes : List ℕ) (end k p : ℕ) (before : List Content) (m : Content) : Type 0 where
  place : place_of bytes 20 (suc k) ≡ p + 24
  waits : waiting_at bytes 20 (suc k) ≡ Some m.size
  models : models_before bytes 20 (suc k) ≡ before
  read : AreRead bytes (inside end) (suc k)

joined : (xs ys zs : List Content) → xs ≡ zs → ys ≡ [] → xs ++ ys ≡ zs
joined xs ys zs same none = rw (same, none) (append-nil zs)

size_read : (bytes : List ℕ) (end k p : ℕ) (before : List Content) (m : Content)
    (more : List ℕ) → place_of bytes 20 k ≡ p → models_before bytes 20 k ≡ before
    → AreRead bytes (inside end) k → IsModelAt bytes p m more → IsSize m.size
    → p + (40 + 4 * length m.voxels) ≤ end → SizeRead bytes end k p before m
size_read bytes end k p before m more place models read at is fits =
    let ends : end_of bytes p ≡ p + 24 = omega (arith, at.size_length, at.size_children) in
    let id : id_at bytes (place_of bytes 20 k) ≡ codes "SIZE" =
    ap (id_at bytes) place ∙ at.size_id in
    let content : content_at bytes (place_of bytes 20 k) ≡ size_bytes m.size =
    ap (content_at bytes) place ∙ size_content bytes p m more at in
    record {
      place = ap (end_of bytes) place ∙ ends;
      waits = rw (id, content, size_is m.size is) refl;
      models =
          joined (models_before bytes 20 k) _ before models
          (same_models (waiting_at bytes 20 k) (waiting_at bytes 20 k) _ (codes "SIZE") _
          (size_bytes m.size) refl id content);
      read =
          one_more bytes (inside end) k read
          (frame_at bytes end (place_of bytes 20 k) p place (omega (arith, fits))
          (omega (arith, ends, fits)))
          (same_fields (waiting_at bytes 20 k) (waiting_at bytes 20 k)
          (length (models_before bytes 20 k)) (length (models_before bytes 20 k)) _ (codes "SIZE") _
          (size_bytes m.size) (place_of bytes 20 k) p refl refl id content place
          ∙ size_fine p m.size is);
    }

appended : (xs ys zs ws : List Content) → xs ≡ zs → ys ≡ ws → xs ++ ys ≡ zs ++ ws
appended xs ys zs ws a b = rw (a, b) refl

xyzi_fine : (w : Option Cell) (before : List Content) (p : ℕ) (m : Content) → w ≡ Some m.size
    → length before < 1024 → length m.voxels ≤ 2 ^ 26 → All (IsInsideModel m.size) m.voxels
    → fields_fault w (length before) (codes "XYZI") (spelled m.voxels) p ≡ None
xyzi_fine w before p m waits room few all =
    let some : nat_le 1024 (length before) ≡ false = lt-leb _ _ room in
    rw (waits, some) (voxels_fine p m.size m.voxels few all)

step : (bytes : List ℕ) (end k p : ℕ) (before after : List Content) (m : Content)
    → ReadsTo bytes end k p before (m ∷ after) → IsModel m → length before < 1024
    → p + (40 + 4 * length m.voxels) ≤ end → length m.voxels ≤ 2 ^ 26
    → ReadsTo bytes end (suc (suc k)) (p + (40 + 4 * length m.voxels)) (before ++ m ∷ []) after
step bytes end k p before after m to is room fits few =
    let more : List ℕ = flat_map model_chunks after in
    let at : IsModelAt bytes p m more = model_at bytes p m more to.rest few in
    let half : SizeRead bytes end k p before m =
    size_read bytes end k p before m more to.place to.models to.read at is.size fits in
    let ends : end_of bytes (p + 24) ≡ p + (40 + 4 * length m.voxels) =
    omega (arith, at.xyzi_length, at.xyzi_children) in
    let id : id_at bytes (place_of bytes 20 (suc k)) ≡ codes "XYZI" =
    ap (id_at bytes) half.place ∙ at.xyzi_id in
    let content : content_at bytes (place_of bytes 20 (suc k)) ≡ spelled m.voxels =
    ap (content_at bytes) half.place ∙ voxel_content bytes p m more at in
    record {
      place = ap (end_of bytes) half.place ∙ ends;
      models =
          appended (models_before bytes 20 (suc k)) _ before (m ∷ []) half.models
          (same_models (waiting_at bytes 20 (suc k)) (Some m.size) _ (codes "XYZI") _
          (spelled m.voxels) half.waits id content
          ∙ ap (λ (vs : List Voxel). record { size = m.size; voxels = vs } ∷ [])
          (voxels_read m.voxels few));
      read =
          one_more bytes (inside end) (suc k) half.read
          (frame_at bytes end (place_of bytes 20 (suc k)) (p + 24) half.place
          (omega (arith, fits)) (omega (arith, ends, fits)))
          (same_fields (waiting_at bytes 20 (suc k)) (Some m.size)
          (length (models_before bytes 20 (suc k))) (length before) _ (codes "XYZI") _
          (spelled m.voxels) (place_of bytes 20 (suc k)) (p + 24) half.waits
          (ap length half.models) id content half.place
          ∙ xyzi_fine (Some m.size) before (p + 24) m refl room few is.voxels);
      rest = at.behind;
    }

counted : (m : Content) (after : List Content)
    → chunks_length (m ∷ after) ≡ (40 + 4 * length m.voxels) + chunks_length after
counted m after = sum_by-cons (λ (n : Content). 40 + 4 * length n.voxels) m after

steps : (bytes : List ℕ) (end k p : ℕ) (before after : List Content)
    → ReadsTo bytes end k p before after → All IsModel after → length before + length after ≤ 1024
    → p + chunks_length after ≤ end → chunks_length after ≤ 2 ^ 28
    → (j : ℕ) × ReadsTo bytes end j (p + chunks_length after) (before ++ after) []
steps bytes end k p before [] to all room fits short = (
  k,
  subst (λ (b : List Content). ReadsTo bytes end k (p + 0) b []) (sym (append-nil before))
      (subst (λ (q : ℕ). ReadsTo bytes end k q before []) (omega arith) to),
)
steps bytes end k p before (m ∷ after) to all room fits short =
    let all_of_it = counted m after in
    let next : ReadsTo bytes end (suc (suc k)) (p + (40 + 4 * length m.voxels)) (before ++ m ∷ [])
    after =
    step bytes end k p before after m to (All-head IsModel m after all) (omega (arith, room))
    (omega (arith, fits, all_of_it)) (omega (arith, short, all_of_it)) in
    let long : length (before ++ m ∷ []) ≡ length before + 1 = length-append before (m ∷ []) in
    let found = steps bytes end (suc (suc k)) (p + (40 + 4 * length m.voxels)) (before ++ m ∷ [])
    after next (All-tail IsModel m after all) (omega (arith, room, long))
    (omega (arith, fits, all_of_it)) (omega (arith, short, all_of_it)) in (
      found.0,
      subst (λ (b : List Content). ReadsTo bytes end found.0 (p + chunks_length (m ∷ after)) b [])
          (append_assoc before (m ∷ []) after)
          (subst (λ (q : ℕ). ReadsTo bytes end found.0 q ((before ++ m ∷ []) ++ after) [])
          (omega (arith, all_of_it)) found.1),
    )

-- ---- the whole file

one_long : (m : Content) → length (model_chunks m) ≡ 40 + 4 * length m.voxels
unfolding model_chunks
one_long m = let long = groups_long m.voxels in omega (arith, long)

all_long : (models : List Content) → length (flat_map model_chunks models) ≡ chunks_length models
all_long [] = refl
all_long (m ∷ models) =
    let joined = length-append (model_chunks m) (flat_map model_chunks models) in
    let one = one_long m in
    let rest = all_long models in
    let all_of_it = counted m models in
    omega (arith, joined, one, rest, all_of_it)

abbrev bounds : ℕ → Result Bounds VoxFault
bounds e = Ok (inside e)

ends_at : (e f : ℕ) → e ≡ f → bounds e ≡ bounds f
ends_at e f same = ap bounds same

header_is : (models : List Content) → 20 + chunks_length models ≤ 2 ^ 28
    → header_of (models_file models) ≡ Ok (inside (20 + chunks_length models))
unfolding models_file
header_is models short =
    let bytes : List ℕ = models_file models in
    let chunks : List ℕ = flat_map model_chunks models in
    let rest : length chunks ≡ chunks_length models = all_long models in
    let long : length bytes ≡ 20 + chunks_length models = omega (arith, rest) in
    let main_content : number_at bytes 12 ≡ 0 = refl in
    let main_children : number_at bytes 16 ≡ chunks_length models =
    back (chunks_length models) chunks (omega (arith, short)) in
    let some : nat_lt (length bytes) 4 ≡ false = le-ltb _ _ (omega (arith, long)) in
    let more : nat_lt (length bytes) 8 ≡ false = le-ltb _ _ (omega (arith, long)) in
    let framed : nat_lt (length bytes) 20 ≡ false = le-ltb _ _ (omega (arith, long)) in
    let ends : end_of bytes 8 ≡ 20 + chunks_length models =
    omega (arith, main_content, main_children) in
    let whole : nat_lt (length bytes) (end_of bytes 8) ≡ false =
    le-ltb _ _ (omega (arith, long, ends)) in
    rw (some, more, framed, whole, main_children)
    (ends_at _ _ (omega arith))

begins : (models : List Content)
    → ReadsTo (models_file models) (20 + chunks_length models) 0 20 [] models
unfolding models_file
begins models = record {
  place = refl;
  models = refl;
  read = record {
    frames = λ k lt. absurd (omega (arith, lt));
    fields = λ k lt. absurd (omega (arith, lt));
  };
  rest = refl;
}

pub models_are_read : FilesOfModelsAreRead
models_are_read models are short =
    let end : ℕ = 20 + chunks_length models in
    let found = steps (models_file models) end 0 20 [] models (begins models) are.each
    (let few = are.few in omega (arith, few)) (omega arith) (omega (arith, short)) in
    record {
      main = inside end;
      header = header_is models short;
      children = found.0;
      read = found.1.read;
      ends = (let place = found.1.place in omega (arith, place));
      are = sym found.1.models;
    }
