-- A row of items by their places, or several. Past the end of a row stand empty ones.
use Rattle.std.specs.Prelude.{◌≡◌, ◌≢◌, ℕ, ◌+◌, ◌*◌, ◌<◌, ◌≤◌, List, [], Vec, map, length, slice_index, slice_index_or, vec_items, vec_capacity}
use Rattle.std.specs.Global.{Global}

-- the item stands at place i now, and every other place has what it had
pub record PutsItem {A : Type 0} (empty : A) (old : List A) (i : ℕ) (item : A) (new : List A)
    : Type 0 where
  pub here : slice_index_or new i empty ≡ item
  pub others : (j : ℕ) → j ≢ i → slice_index_or new j empty ≡ slice_index_or old j empty

-- the item at a place of one of several rows
abbrev pub item_in : {A : Type 0} → A → List (List A) → ℕ → ℕ → A
item_in empty rows k i = slice_index_or (slice_index_or rows k []) i empty

-- the same of a place of row k
pub record PutsIn {A : Type 0} (empty : A) (old : List (List A)) (k i : ℕ) (item : A)
    (new : List (List A)) : Type 0 where
  pub here : item_in empty new k i ≡ item
  pub others : (l j : ℕ) → (l ≡ k → j ≢ i)
      → item_in empty new l j ≡ item_in empty old l j
  pub rows : length new ≡ length old

-- what stands in rows, and how many items each has room for
abbrev pub items_of : {A : Type 0} → List (Vec A Global) → List (List A)
items_of rows = map vec_items rows

abbrev pub rooms_of : {A : Type 0} → List (Vec A Global) → List ℕ
rooms_of rows = map vec_capacity rows

-- so many rows with nothing in them, and each with room for all slots of its level
pub record AreEmptyRows {A : Type 0} (buckets : List ℕ) (first number cap : ℕ)
    (rows : List (Vec A Global)) : Type 0 where
  pub number_is : length rows ≡ number
  pub empty : (k : ℕ) → slice_index_or (items_of rows) k [] ≡ []
  pub room : (k : ℕ) → k < number
      → slice_index buckets (first + k) * cap ≤ slice_index (rooms_of rows) k
