-- What the laws say of each kind of step. In each the seat's view is v, what was found is k, and
-- the new view is w.
use Rattle.std.specs.Prelude.{◌≡◌, ◌≢◌, ℕ, ◌+◌, ◌<◌, ◌≤◌, eqb, true, false, Some, None, List, [], ◌∷◌, ◌++◌, replicate, slice_set}
use Rattle.std.specs.List.{slice_get, Contains}
use prog.Atomic.{either}
use Rattle.atomic_table.specs.Table.{opening}
use Rattle.vox_read.specs.Contents.{Content}
use Rattle.node_words.specs.declared.shapes.names.Name.{Name}
use Rattle.node_words.specs.shapes.Tree.{Tree, root_of}
use Rattle.node_words.specs.shapes.Weights.{number_of_trees}
use Rattle.node_words.specs.declared.keys.Key.{Key}
use Rattle.node_words.specs.Held.{IsHeld, HoldsChildren, ReachesName, ForHeld, ForReached, ForChildren, most_before_freeing}
use Rattle.node_words.specs.Plans.{Layout, IsPlan}
use Rattle.core_laws.specs.places.Names.{IsName}
use Rattle.core_laws.specs.places.WordIds.{WordId, Sessions, IsWordId, key_words, width}
use Rattle.core_laws.specs.Events.{Rests, Raises, Adds, Lowers, Frees}
use Rattle.core_laws.specs.LogEvents.{Reseats}
use Rattle.table_rule.specs.Reading.{Wrote, book_of}
use Rattle.table_rule.specs.Views.{SeatView, BucketAt, bucket_of, key_word_id, known_at, starting, spent}
use Rattle.table_rule.specs.TurnRules.{IsOf, turn_of, used_of}
use Rattle.table_rule.specs.Rules.{KeepsRule, IsRuled, table_state, MayWrite, MayStore}
use Rattle.table_rule.specs.ViewFacts.{ViewFacts, tree_word}
use Rattle.table_rule.specs.Changes.{under_turn, knowing, Counted, BookFound, meeting, children_of_key, wanted, IsFullIn, IsReady, Published, Raised, Lowered, Freed}
use Rattle.table_rule.specs.Seating.{seat_numbered, handing, handed, joined}

-- a turn is exchanged for 1 plus a number of the seat where it is 0: the turn comes, or nothing
-- does
abbrev pub TurnsAreTaken : Type 0
TurnsAreTaken = (p : Layout) (seat : ℕ) (v : SeatView) (b : BucketAt) (number : ℕ) → v.turn ≡ None
    → IsWordId p (turn_of b) → Contains v.numbers number
    → MayWrite p seat v (turn_of b) (λ n. either (eqb n 0) (1 + number) n) (Rests p)
    (λ k w. (k ≡ 0 → w ≡ under_turn v (Some b)) × (k ≢ 0 → w ≡ v))

-- 0 is stored in the turn that the seat has
abbrev pub TurnsAreGivenBack : Type 0
TurnsAreGivenBack = (p : Layout) (seat : ℕ) (v : SeatView) (b : BucketAt) → v.turn ≡ Some b
    → MayWrite p seat v (turn_of b) (λ _. 0) (Rests p) (λ k w. w ≡ under_turn v None)

-- a word of the bucket whose turn the seat has is loaded: it is what was known of it
abbrev pub WordsAreLoaded : Type 0
WordsAreLoaded = (p : Layout) (seat : ℕ) (v : SeatView) (b : BucketAt) (x : WordId)
    → v.turn ≡ Some b → IsOf b x
    → MayWrite p seat v x (λ n. n) (Rests p)
    (λ k w. (w ≡ knowing v x k) × ((n : ℕ) → known_at x v.words ≡ Some n → k ≡ n))

-- a book is loaded: how many shares there are is known, and, where it isn't free, the entry's key
-- has the tag that was found
abbrev pub BooksAreLoaded : Type 0
BooksAreLoaded = (p : Layout) (seat : ℕ) (v : SeatView) (n : Name) → v.turn ≡ Some (bucket_of n)
    → IsName p n
    → MayStore p seat v (book_of n) (λ b. b) (Rests p) (λ k w. BookFound v n k w)

-- the number of used slots of the bucket is loaded: the others are free
abbrev pub UsedAreCounted : Type 0
UsedAreCounted = (p : Layout) (seat : ℕ) (v : SeatView) (b : BucketAt) → v.turn ≡ Some b
    → MayWrite p seat v (used_of b) (λ n. n) (Rests p) (λ k w. Counted v b p.cap k w)

-- a load under the turn of a bucket that is known to be full: what the key wants met it
abbrev pub FullBucketsAreMet : Type 0
FullBucketsAreMet = (p : Layout) (seat : ℕ) (v : SeatView) (x : WordId) (n : Name) (key : Key)
    → ViewFacts v → v.turn ≡ Some (bucket_of n) → IsFullIn v.words (bucket_of n) p.cap
    → HoldsChildren v.held (children_of_key key)
    → MayWrite p seat v x (λ b. b) (Rests p)
    (λ k w. ForChildren v.held (children_of_key key) (λ row. w ≡ meeting v (wanted n key row)))

-- a key word of an entry that is known to be free is stored
abbrev pub KeyWordsAreStored : Type 0
KeyWordsAreStored = (p : Layout) (seat : ℕ) (v : SeatView) (n : Name) (i word : ℕ)
    → v.turn ≡ Some (bucket_of n) → known_at (book_of n) v.words ≡ Some 0
    → MayWrite p seat v (key_word_id n i) (λ _. word) (Rests p)
    (λ k w. w ≡ knowing v (key_word_id n i) word)

-- the number of used slots grows
abbrev pub UsedAreRaised : Type 0
UsedAreRaised = (p : Layout) (seat : ℕ) (v : SeatView) (b : BucketAt) (number more : ℕ)
    → v.turn ≡ Some b → known_at (used_of b) v.words ≡ Some number → number ≤ more
    → MayWrite p seat v (used_of b) (λ _. more) (Rests p) (λ k w. w ≡ knowing v (used_of b) more)

-- a key word of a name that is held, or stands below one, is loaded with no turn: it is its tree's
abbrev pub HeldWordsAreRead : Type 0
HeldWordsAreRead = (p : Layout) (seat : ℕ) (v : SeatView) (n : Name) (i : ℕ) → ViewFacts v
    → ReachesName v.held n → i < key_words n.level
    → MayWrite p seat v (key_word_id n i) (λ b. b) (Rests p)
    (λ k w. (w ≡ v) × ForReached v.held n (λ t. k ≡ tree_word t i))

-- book 1 is written in a free entry with the key's words, in a used slot, where the whole bucket is
-- known not to have the key: an entry is added, and the children's shares go into it
abbrev pub EntriesAreAdded : Type 0
EntriesAreAdded = (p : Layout) (seat : ℕ) (v : SeatView) (n : Name) (key : Key) → ViewFacts v
    → v.turn ≡ Some (bucket_of n) → n.slot < p.cap → IsReady p v n key
    → MayWrite p seat v (book_of n) (λ _. 1) (Adds p seat n key)
    (λ k w. ForChildren v.held (children_of_key key) (λ row. Published v n key row w))

-- a live entry's book becomes one more: a share comes
abbrev pub SharesAreRaised : Type 0
SharesAreRaised = (p : Layout) (seat : ℕ) (v : SeatView) (n : Name) (book : ℕ)
    → v.turn ≡ Some (bucket_of n) → n.slot < p.cap → known_at (book_of n) v.words ≡ Some book
    → 0 < book → number_of_trees v.held ≤ 4095
    → MayWrite p seat v (book_of n) (λ _. book + 1) (Raises p seat n)
    (λ k w. Raised v n (book + 1) w)

-- a book over 1 becomes one less: a share that the seat holds goes
abbrev pub SharesAreLowered : Type 0
SharesAreLowered = (p : Layout) (seat : ℕ) (v : SeatView) (t : Tree) (n : Name) (book : ℕ)
    → ViewFacts v → v.turn ≡ Some (bucket_of n) → IsHeld v.held t → root_of t ≡ Some n
    → known_at (book_of n) v.words ≡ Some (book + 1) → 0 < book
    → MayWrite p seat v (book_of n) (λ _. book) (Lowers p seat n)
    (λ k w. ForHeld v.held n (λ u. Lowered v u n book w))

-- a book of 1 becomes 0: the entry is freed, its share goes, and those of its children come
abbrev pub EntriesAreFreed : Type 0
EntriesAreFreed = (p : Layout) (seat : ℕ) (v : SeatView) (t : Tree) (n : Name) → ViewFacts v
    → v.turn ≡ Some (bucket_of n) → IsHeld v.held t → root_of t ≡ Some n
    → known_at (book_of n) v.words ≡ Some 1 → number_of_trees v.held ≤ most_before_freeing
    → MayWrite p seat v (book_of n) (λ _. 0) (Frees p seat n)
    (λ k w. ForHeld v.held n (λ u. Freed v u n w))

-- the seat with the right to it stores the sessions' word plus 1, and has that number
abbrev pub NumbersAreTaken : Type 0
NumbersAreTaken = (p : Layout) (models : List Content) (old new : WordId → ℕ)
    (views : List SeatView) (seat : ℕ) (v : SeatView) → KeepsRule p models old views
    → slice_get views seat ≡ Some v → v.right ≡ true → v.numbers ≡ [] → v.next < 64
    → Wrote old Sessions (1 + v.next) new
    → KeepsRule p models new (slice_set views seat (seat_numbered v))
    × Rests p (table_state p old views) (table_state p new (slice_set views seat (seat_numbered v)))

-- a seat with a number hands the right to the next one to a new seat
abbrev pub RightsAreHandedOn : Type 0
RightsAreHandedOn = (p : Layout) (models : List Content) (mem : WordId → ℕ) (views : List SeatView)
    (seat : ℕ) (v : SeatView) → KeepsRule p models mem views → slice_get views seat ≡ Some v
    → v.right ≡ true → v.numbers ≢ []
    → KeepsRule p models mem (slice_set views seat (handing v) ++ handed v ∷ [])
    × Reseats p (table_state p mem views)
    (table_state p mem (slice_set views seat (handing v) ++ handed v ∷ []))

-- a seat takes in what another one has that holds no share and has neither turn
abbrev pub SeatsAreJoined : Type 0
SeatsAreJoined = (p : Layout) (models : List Content) (mem : WordId → ℕ) (views : List SeatView)
    (seat other : ℕ) (v w : SeatView) → KeepsRule p models mem views
    → slice_get views seat ≡ Some v → slice_get views other ≡ Some w → other ≢ seat
    → w.held ≡ [] → w.turn ≡ None → w.log.turn ≡ false
    → KeepsRule p models mem (slice_set (slice_set views seat (joined v w)) other spent)
    × Reseats p (table_state p mem views)
    (table_state p mem (slice_set (slice_set views seat (joined v w)) other spent))

-- a table of words that are 0 meets the rule, with the first seat alone
abbrev pub TablesOpen : Type 0
TablesOpen = (p : Layout) (models : List Content) → IsPlan p
    → IsRuled p models
    (opening (let zero : ℕ = 0 in replicate (width p) zero) [] (starting p models))
