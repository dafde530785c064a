-- The clear cells of a box as words: 256 bits to a row, 256 rows to a layer.
use Rattle.std.specs.Prelude.{◌≡◌, ℕ, ◌+◌, ◌-◌, ◌*◌, ◌/◌, ◌%◌, ◌<◌, ◌≤◌, ◌⊎◌, List, length, slice_index, Bool, vec_len, vec_capacity, ◌==◌, ◌&&◌}
use Rattle.std.specs.Int.{bit_at}
use Rattle.std.specs.declared.vec.Vec.{Vec}
use Rattle.node_words.specs.Sums.{one_if}
use Rattle.vw_cell.specs.declared.cells.Cell.{Cell}
use Rattle.vw_cell.specs.declared.boxes.Boxed.{Boxed}
use Rattle.vw_cell.specs.Counts.{cell_at}
use Rattle.vw_cell.specs.Places.{is_in_box}
use Rattle.vox_read.specs.declared.voxels.Voxel.{Voxel}
use Rattle.extract.specs.Listing.{voxels_joined, voxel_if}
use Rattle.flood.specs.Words.{bit_at_place}

-- the bits from k on, n of them, are set where those of a leaf from `first` on aren't
pub record TakesRun (leaf first n k bits : ℕ) : Type 0 where
  pub inside : (i : ℕ) → i < n → bit_at bits (k + i) + bit_at leaf (first + i) ≡ 1
  pub outside : (m : ℕ) → m < 64 → (m < k) ⊎ (k + n ≤ m) → bit_at bits m ≡ 0

-- the first n bits tell which cells of a row of a box are clear, from a place on, and the others
-- aren't set
pub record TellsRun (b : Boxed) (cells : Cell → Bool) (z y from n word : ℕ) : Type 0 where
  pub inside : (m : ℕ) → m < n
      → bit_at word m + one_if (cells (cell_at (b.at.x + (from + m)) (b.at.y + y) (b.at.z + z))) ≡ 1
  pub outside : (m : ℕ) → m < 64 → n ≤ m → bit_at word m ≡ 0

-- the bits tell which cells of the box are clear, 64 of a row from a place on; those beyond the box
-- aren't set
pub record TellsRow (b : Boxed) (cells : Cell → Bool) (z y from word : ℕ) : Type 0 where
  pub inside : (m : ℕ) → m < 64 → from + m < b.size.x → y < b.size.y
      → bit_at word m + one_if (cells (cell_at (b.at.x + (from + m)) (b.at.y + y) (b.at.z + z))) ≡ 1
  pub outside : (m : ℕ) → m < 64 → (b.size.x ≤ from + m) ⊎ (b.size.y ≤ y) → bit_at word m ≡ 0

-- each word tells its cells
pub record AreTold (b : Boxed) (cells : Cell → Bool) (words : List ℕ) : Type 0 where
  pub each : (w : ℕ) → w < length words
      → TellsRow b cells (w / 1024) (w / 4 % 256) (64 * (w % 4)) (slice_index words w)

-- this many words came, in the room that was there, and each tells its cells
pub record AppendsWords {Z : Type 0} (count : ℕ) (old new : Vec ℕ Z) : Type 0 where
  pub items : length new.items ≡ length old.items + count
  pub len : vec_len new ≡ vec_len old + count
  pub room : vec_capacity new ≡ vec_capacity old

abbrev pub HasRoomFor : {Z : Type 0} → Vec ℕ Z → ℕ → Type 0
HasRoomFor v n = vec_len v + n ≤ vec_capacity v

-- whether bit i is set
abbrev pub bit_is_set : List ℕ → ℕ → Bool
bit_is_set words i = bit_at (slice_index words (i / 64)) (i % 64) == 1

-- the cell lies in the box, and its bit is set
abbrev pub set_in : Boxed → List ℕ → Cell → Bool
set_in b words c = is_in_box b c && bit_is_set words
    (bit_at_place (cell_at (c.x - b.at.x) (c.y - b.at.y) (c.z - b.at.z)))

-- the voxels of the first bits of a word
abbrev pub word_voxels : ℕ → ℕ → Cell → List Voxel
word_voxels word n to =
    voxels_joined n (λ p. voxel_if (bit_at word p == 1) (to.x + p) to.y to.z)
