-- Places of a box as bits of words: 256 bits to a row, 256 rows to a layer.
use Rattle.std.specs.Prelude.{◌≡◌, ℕ, zero, suc, ◌+◌, ◌-◌, ◌*◌, ◌/◌, ◌%◌, ◌^◌, ◌<◌, ◌≤◌, ◌⊎◌, List, length, slice_index, Bool, true, false}
use Rattle.std.specs.List.{Contains}
use Rattle.std.specs.Int.{bit_at}
use Rattle.vw_cell.specs.Sums.{sum_below}
use Rattle.vw_cell.specs.declared.cells.Cell.{Cell}
use Rattle.vw_cell.specs.Counts.{cell_at}
use Rattle.flood.specs.Paths.{IsJoined}

-- the bit of a place
abbrev pub bit_at_place : Cell → ℕ
bit_at_place p = p.x + 256 * p.y + 65536 * p.z

-- the place of a bit
abbrev pub place_at_bit : ℕ → Cell
place_at_bit i = cell_at (i % 256) (i / 256 % 256) (i / 65536)

-- bit i is set
abbrev pub IsSet : List ℕ → ℕ → Type 0
IsSet words i = bit_at (slice_index words (i / 64)) (i % 64) ≡ 1

-- a place of a row and of a layer, whose bit is set
pub record IsClearAt (clear_words : List ℕ) (p : Cell) : Type 0 where
  pub x : p.x < 256
  pub y : p.y < 256
  pub set : IsSet clear_words (bit_at_place p)

-- the bits set are those that are joined with the start
pub record AreJoined (clear_words : List ℕ) (start : ℕ) (words : List ℕ) : Type 0 where
  pub each : (i : ℕ) → IsSet words i
      → IsJoined (IsClearAt clear_words) (place_at_bit start) (place_at_bit i)

pub record IsRegionOf (clear_words : List ℕ) (start : ℕ) (words : List ℕ) : Type 0 where
  pub only : AreJoined clear_words start words
  pub all : (p : Cell) → IsJoined (IsClearAt clear_words) (place_at_bit start) p
      → IsSet words (bit_at_place p)

-- bit j is beside bit i, in the k-th of six ways
abbrev pub IsTowards : ℕ → ℕ → ℕ → Type 0
IsTowards zero i j = (j ≡ i + 1) × (i % 256 < 255)
IsTowards (suc zero) i j = (i ≡ j + 1) × (j % 256 < 255)
IsTowards (suc (suc zero)) i j = (j ≡ i + 256) × (i / 256 % 256 < 255)
IsTowards (suc (suc (suc zero))) i j = (i ≡ j + 256) × (j / 256 % 256 < 255)
IsTowards (suc (suc (suc (suc zero)))) i j = j ≡ i + 65536
IsTowards (suc (suc (suc (suc (suc zero))))) i j = i ≡ j + 65536
IsTowards _ i j = ⊥

-- what is open in the k-th way from the bits of a word is reached
abbrev pub IsClosedTowards : ℕ → List ℕ → List ℕ → ℕ → Type 0
IsClosedTowards k clear_words words w =
    (i j : ℕ) → i / 64 ≡ w → IsSet words i → IsTowards k i j → IsSet clear_words j → IsSet words j

-- and so in each way
pub record IsClosedAt (clear_words words : List ℕ) (w : ℕ) : Type 0 where
  pub each : (k : ℕ) → k < 6 → IsClosedTowards k clear_words words w

-- the bits from j on up or down to m, but for j itself
abbrev pub IsOnRun : ℕ → ℕ → ℕ → Type 0
IsOnRun j m k = ((j < k) × (k ≤ m)) ⊎ ((m ≤ k) × (k < j))

-- the last bits of a run that ends with bit m
abbrev pub IsLast : Bool → ℕ → ℕ → ℕ → Type 0
IsLast true by m k = (m < k + by) × (k ≤ m)
IsLast false by m k = (m ≤ k) × (k < m + by)

-- a run of open bits leads from a seed to bit m
pub record IsRunTo (clear_word seeds m : ℕ) : Type 0 where
  pub j : ℕ
  pub below : j < 64
  pub seed : bit_at seeds j ≡ 1
  pub run : (k : ℕ) → IsOnRun j m k → bit_at clear_word k ≡ 1

-- new bits, each joined with an old one by a run of open bits
pub record GrowsAlong (clear_word old new : ℕ) : Type 0 where
  pub more : old ≤ new
  pub keeps : (m : ℕ) → m < 64 → bit_at old m ≡ 1 → bit_at new m ≡ 1
  pub runs : (m : ℕ) → m < 64 → bit_at new m ≡ 1 → IsRunTo clear_word old m

-- a bit of `runs` stands at the end of this many open bits, going up, or going down
pub record AreRuns (up : Bool) (clear_word by runs : ℕ) : Type 0 where
  pub each : (m k : ℕ) → m < 64 → k < 64 → bit_at runs m ≡ 1 → IsLast up by m k
      → bit_at clear_word k ≡ 1

-- the bits of a word that runs of open bits join with its seeds
pub record Spreads (clear_word seeds word : ℕ) : Type 0 where
  pub more : seeds ≤ word
  pub keeps : (m : ℕ) → m < 64 → bit_at seeds m ≡ 1 → bit_at word m ≡ 1
  pub runs : (m : ℕ) → m < 64 → bit_at word m ≡ 1 → IsRunTo clear_word seeds m
  pub up : (m : ℕ) → m + 1 < 64 → bit_at word m ≡ 1 → bit_at clear_word (m + 1) ≡ 1
      → bit_at word (m + 1) ≡ 1
  pub down : (m : ℕ) → m + 1 < 64 → bit_at word (m + 1) ≡ 1 → bit_at clear_word m ≡ 1
      → bit_at word m ≡ 1

-- how far the words are from being full
abbrev pub room : List ℕ → ℕ
room words = sum_below (length words) (λ u. 2 ^ 64 - slice_index words u)

-- bit i is one of these open bits of word v
pub record IsPut (clear_words : List ℕ) (v bits i : ℕ) : Type 0 where
  pub word : i / 64 ≡ v
  pub bit : bit_at bits (i % 64) ≡ 1
  pub is_clear : IsSet clear_words i

-- the bits of a word that are beside bits of word w, in the k-th way, but for those of w itself
pub record IsBeyond (size k w bits word there : ℕ) : Type 0 where
  pub inside : word < size
  pub only : (m : ℕ) → m < 64 → bit_at there m ≡ 1
      → (i : ℕ) × (i / 64 ≡ w) × (bit_at bits (i % 64) ≡ 1) × IsTowards k i (64 * word + m)
  pub all : (i j : ℕ) → i / 64 ≡ w → bit_at bits (i % 64) ≡ 1 → IsTowards k i j → j < 64 * size
      → (j / 64 ≡ w) ⊎ ((j / 64 ≡ word) × (bit_at there (j % 64) ≡ 1))

-- these bits of word v, where they are open, were put, and the word waits where it changed
pub record ReachesWord (clear_words : List ℕ) (v bits : ℕ) (old new before after : List ℕ)
    : Type 0 where
  pub same_length : length new ≡ length old
  pub keeps : (i : ℕ) → IsSet old i → IsSet new i
  pub only : (i : ℕ) → IsSet new i → IsSet old i ⊎ IsPut clear_words v bits i
  pub puts : (i : ℕ) → IsPut clear_words v bits i → IsSet new i
  pub waits : (u : ℕ) → Contains before u → Contains after u
  pub changed : (u : ℕ) → (slice_index new u ≡ slice_index old u) ⊎ Contains after u
  pub inside : (u : ℕ) → Contains after u → Contains before u ⊎ (u ≡ v)
  pub falls : 2 * room new + length after ≤ 2 * room old + length before

-- what is open beside bits of word w, in the k-th way, was reached
pub record ReachesBeyond (clear_words : List ℕ) (w k bits : ℕ) (old new before after : List ℕ)
    : Type 0 where
  pub word : ℕ
  pub there : ℕ
  pub beyond : IsBeyond (length clear_words) k w bits word there
  pub reached : ReachesWord clear_words word there old new before after

-- what is beside the bits of word w was reached, in the first k ways
pub record Spills (clear_words : List ℕ) (w k : ℕ) (old new before after : List ℕ)
    : Type 0 where
  pub same_length : length new ≡ length old
  pub keeps : (i : ℕ) → IsSet old i → IsSet new i
  pub joined : (start : ℕ) → AreJoined clear_words start old → AreJoined clear_words start new
  pub waits : (u : ℕ) → Contains before u → Contains after u
  pub changed : (u : ℕ) → (slice_index new u ≡ slice_index old u) ⊎ Contains after u
  pub inside : (u : ℕ) → Contains after u → Contains before u ⊎ (u < length clear_words)
  pub falls : 2 * room new + length after ≤ 2 * room old + length before
  pub done : (d i j : ℕ) → d < k → i / 64 ≡ w → IsSet old i → IsTowards d i j
      → IsSet clear_words j → IsSet new j

-- word w was visited
pub record Visits (clear_words : List ℕ) (w : ℕ) (old new before after : List ℕ) : Type 0 where
  pub same_length : length new ≡ length old
  pub keeps : (i : ℕ) → IsSet old i → IsSet new i
  pub joined : (start : ℕ) → AreJoined clear_words start old → AreJoined clear_words start new
  pub waits : (u : ℕ) → Contains before u → Contains after u
  pub here : IsClosedAt clear_words new w ⊎ Contains after w
  pub elsewhere : (u : ℕ) → IsClosedAt clear_words old u
      → IsClosedAt clear_words new u ⊎ Contains after u
  pub inside : (u : ℕ) → Contains after u → Contains before u ⊎ (u < length clear_words)
  pub falls : 2 * room new + length after ≤ 2 * room old + length before

-- nothing waits any more: each word that was closed, or waited, is closed
pub record Settles (clear_words old new before : List ℕ) : Type 0 where
  pub same_length : length new ≡ length old
  pub keeps : (i : ℕ) → IsSet old i → IsSet new i
  pub joined : (start : ℕ) → AreJoined clear_words start old → AreJoined clear_words start new
  pub closed : (u : ℕ) → IsClosedAt clear_words old u ⊎ Contains before u
      → IsClosedAt clear_words new u
