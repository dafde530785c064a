-- One more voxel is read, or refused.
use Rattle.std.proofs.Common.{◌≡◌, ℕ, ◌<◌, ◌≤◌, true, false, List, [], ◌∷◌, ◌++◌, length, take, drop, get_or, refl, ap, sym, ◌∙◌, arith, append_assoc, append-nil}
use Rattle.std.specs.List.{list_all}
use Rattle.std.proofs.lemmas.List.Folds.{list_all-append}
use Rattle.vw_cell.specs.declared.cells.Cell.{Cell}
use Rattle.vox_read.specs.declared.voxels.Voxel.{Voxel}
use Rattle.vox_read.specs.Fields.{voxels_of, is_voxel_in}

pub one_voxel : (bytes : List ℕ) → length bytes ≡ 4
    → voxels_of bytes ≡ record
    { x = get_or bytes 0 0; y = get_or bytes 1 0; z = get_or bytes 2 0; colour = get_or bytes 3 0 } ∷ []
unfolding voxels_of
one_voxel (a ∷ b ∷ c ∷ d ∷ []) h = refl
one_voxel [] h = absurd (omega arith)
one_voxel (a ∷ []) h = absurd (omega arith)
one_voxel (a ∷ b ∷ []) h = absurd (omega arith)
one_voxel (a ∷ b ∷ c ∷ []) h = absurd (omega arith)
one_voxel (a ∷ b ∷ c ∷ d ∷ e ∷ more) h = absurd (omega arith)

-- with fewer than four bytes there is no voxel
pub no_voxel : (bytes : List ℕ) → length bytes < 4 → voxels_of bytes ≡ []
unfolding voxels_of
no_voxel [] h = refl
no_voxel (a ∷ []) h = refl
no_voxel (a ∷ b ∷ []) h = refl
no_voxel (a ∷ b ∷ c ∷ []) h = refl
no_voxel (a ∷ b ∷ c ∷ d ∷ more) h = absurd (omega arith)

-- these voxels, which stand inside the size, come before those of the rest
pub record HasRead (size : Cell) (done : List Voxel) (rest bytes : List ℕ) : Type 0 where
  pub spelled : voxels_of bytes ≡ done ++ voxels_of rest
  pub inside : list_all (is_voxel_in size) done ≡ true

pub read_none : (size : Cell) (bytes : List ℕ) → HasRead size [] bytes bytes
read_none size bytes = record { spelled = refl; inside = refl }

-- four bytes are one voxel before those of the bytes behind them
next_voxel : (rest front more : List ℕ) (v : Voxel) → 4 ≤ length rest → front ≡ take 4 rest
    → more ≡ drop 4 rest → voxels_of front ≡ v ∷ [] → voxels_of rest ≡ v ∷ voxels_of more
unfolding voxels_of
next_voxel (a ∷ b ∷ c ∷ d ∷ others) front more v long of_front of_more one =
    let first : voxels_of (a ∷ b ∷ c ∷ d ∷ []) ≡ v ∷ [] = sym (ap voxels_of of_front) ∙ one in
    let same : record { x = a; y = b; z = c; colour = d } ≡ v = cc in
    rw (same, of_more) refl
next_voxel [] front more v long of_front of_more one = absurd (omega arith)
next_voxel (a ∷ []) front more v long of_front of_more one = absurd (omega arith)
next_voxel (a ∷ b ∷ []) front more v long of_front of_more one = absurd (omega arith)
next_voxel (a ∷ b ∷ c ∷ []) front more v long of_front of_more one = absurd (omega arith)

pub read_more : (size : Cell) (done : List Voxel) (rest front more bytes : List ℕ) (v : Voxel)
    → HasRead size done rest bytes → 4 ≤ length rest → front ≡ take 4 rest → more ≡ drop 4 rest
    → voxels_of front ≡ v ∷ []
    → is_voxel_in size v ≡ true → HasRead size (done ++ v ∷ []) more bytes
read_more size done rest front more bytes v read long of_front of_more one inside =
    let next : voxels_of rest ≡ v ∷ voxels_of more =
    next_voxel rest front more v long of_front of_more one in
    record {
      spelled = read.spelled ∙ ap (λ vs. done ++ vs) next
          ∙ sym (append_assoc done (v ∷ []) (voxels_of more));
      inside = rw (list_all-append (is_voxel_in size) done (v ∷ []), read.inside, inside) refl;
    }

-- so a next voxel that stands outside breaks the rule
pub more_outside : (size : Cell) (done : List Voxel) (rest front more bytes : List ℕ) (v : Voxel)
    → HasRead size done rest bytes → 4 ≤ length rest → front ≡ take 4 rest → more ≡ drop 4 rest
    → voxels_of front ≡ v ∷ []
    → is_voxel_in size v ≡ false → list_all (is_voxel_in size) (voxels_of bytes) ≡ false
more_outside size done rest front more bytes v read long of_front of_more one outside =
    let next : voxels_of rest ≡ v ∷ voxels_of more =
    next_voxel rest front more v long of_front of_more one in
    rw (
      read.spelled,
      next,
      list_all-append (is_voxel_in size) done
          (v ∷ voxels_of more),
      read.inside,
      outside,
    ) refl

pub read_all : (size : Cell) (done : List Voxel) (rest bytes : List ℕ)
    → HasRead size done rest bytes → length rest < 4
    → (list_all (is_voxel_in size) (voxels_of bytes) ≡ true) × (done ≡ voxels_of bytes)
read_all size done rest bytes read short =
    let all : voxels_of bytes ≡ done =
    read.spelled ∙ ap (λ vs. done ++ vs) (no_voxel rest short) ∙ append-nil done in
    (rw all read.inside, sym all)
