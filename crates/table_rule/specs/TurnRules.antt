-- Part A of the rule: turns and seats.
use Rattle.std.specs.Prelude.{◌≡◌, ◌≢◌, ℕ, length, [], ◌+◌, ◌<◌, ◌≤◌, true, Some, List}
use Rattle.std.specs.List.{slice_get, Contains}
use Rattle.node_words.specs.Plans.{Layout}
use Rattle.core_laws.specs.places.WordIds.{WordId, Sessions, Turn, Used, Key, Book, IsWordId}
use Rattle.table_rule.specs.Views.{SeatView, BucketAt, known_at, Each}

-- the word is one of the bucket's entries, or says how many of its slots were ever used
abbrev pub IsOf : BucketAt → WordId → Type 0
IsOf b (Used level bucket) = (level ≡ b.level) × (bucket ≡ b.bucket)
IsOf b (Key level bucket slot word) = (level ≡ b.level) × (bucket ≡ b.bucket)
IsOf b (Book level bucket slot) = (level ≡ b.level) × (bucket ≡ b.bucket)
IsOf b _ = ⊥

abbrev pub turn_of : BucketAt → WordId
turn_of b = Turn b.level b.bucket

abbrev pub used_of : BucketAt → WordId
used_of b = Used b.level b.bucket

-- the slots of a bucket that were never used are free: those from the number of used ones on
abbrev pub UnusedAreFree : (WordId → ℕ) → Type 0
UnusedAreFree mem = (b : BucketAt) (slot : ℕ) → mem (used_of b) ≤ slot
    → mem (Book b.level b.bucket slot) ≡ 0

-- a turn's word is 1 plus a number that the view carries
pub record IsTurnWord (v : SeatView) (word : ℕ) : Type 0 where
  pub number : ℕ
  pub carried : Contains v.numbers number
  pub is : word ≡ 1 + number

-- some view carries the number
pub record IsCarried (views : List SeatView) (n : ℕ) : Type 0 where
  pub seat : ℕ
  pub view : SeatView
  pub there : slice_get views seat ≡ Some view
  pub has : Contains view.numbers n

-- each number below the sessions' word is carried by just one view, its owner, and no other number
-- is carried; one view at most has the right to take the next number, which is that word. A view
-- has a bucket's turn exactly where the turn's word is marked by it, and what it knows of the
-- bucket's words is what they are. Slots that were never used are free
pub record KeepsTurns (p : Layout) (mem : WordId → ℕ) (views : List SeatView) : Type 0 where
  pub owner : ℕ → ℕ
  pub keeper : ℕ
  pub few : mem Sessions ≤ 64
  pub seats : length views ≤ 1 + mem Sessions
  pub fresh : Each views (λ seat v. v.right ≡ true → v.numbers ≢ [] → length views ≤ mem Sessions)
  pub owned : Each views (λ seat v. (n : ℕ) → Contains v.numbers n
      → (n < mem Sessions) × (owner n ≡ seat))
  pub carried : (n : ℕ) → n < mem Sessions → IsCarried views n
  pub right : Each views (λ seat v. v.right ≡ true → (keeper ≡ seat) × (mem Sessions ≡ v.next))
  pub turn : Each views (λ seat v. (b : BucketAt) → v.turn ≡ Some b
      → IsWordId p (turn_of b) × IsTurnWord v (mem (turn_of b)))
  pub back : Each views (λ seat v. (b : BucketAt) → IsWordId p (turn_of b)
      → IsTurnWord v (mem (turn_of b)) → v.turn ≡ Some b)
  pub named : (b : BucketAt) → IsWordId p (turn_of b) → mem (turn_of b) ≤ mem Sessions
  pub known : Each views (λ seat v. (b : BucketAt) (x : WordId) (n : ℕ) → v.turn ≡ Some b
      → IsOf b x → known_at x v.words ≡ Some n → mem x ≡ n)
  pub unused : UnusedAreFree mem
