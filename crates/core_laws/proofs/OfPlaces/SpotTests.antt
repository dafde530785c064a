-- Whether the table has a word.
use Rattle.std.proofs.Common.{ℕ, ◌<◌, arith, inl, inr}
use Rattle.std.proofs.lemmas.Bool.{cases_lt}
use Rattle.node_words.specs.Plans.{Layout, buckets_at}
use Rattle.core_laws.specs.places.WordIds.{WordId, Sessions, LogTurn, LogLength, Version, Turn, Used, Key, Book, IsWordId, IsSlot, levels, key_words, versions, version_words}

lt_dec : (a b : ℕ) → Dec (a < b)
lt_dec a b = elim (cases_lt a b) [ inl h ↦ yes h | inr h ↦ no (λ e. omega arith) ]

both_dec : {A B : Type 0} → Dec A → Dec B → Dec (A × B)
both_dec (yes a) (yes b) = yes (a, b)
both_dec (yes a) (no b) = no (λ t. b t.1)
both_dec (no a) _ = no (λ t. a t.0)

slot_of : {p : Layout} {l b s : ℕ} → Dec (l < levels p) → Dec (b < buckets_at p l) → Dec (s < p.cap)
    → Dec (IsSlot p l b s)
slot_of (yes x) (yes y) (yes z) = yes (record { level_in = x; bucket_in = y; slot_in = z })
slot_of (yes x) (yes y) (no z) = no (λ t. z t.slot_in)
slot_of (yes x) (no y) _ = no (λ t. y t.bucket_in)
slot_of (no x) _ _ = no (λ t. x t.level_in)

slot_dec : (p : Layout) (l b s : ℕ) → Dec (IsSlot p l b s)
slot_dec p l b s = slot_of (lt_dec l (levels p)) (lt_dec b (buckets_at p l)) (lt_dec s p.cap)

pub word_id_dec : (p : Layout) (x : WordId) → Dec (IsWordId p x)
word_id_dec p Sessions = yes tt
word_id_dec p LogTurn = yes tt
word_id_dec p LogLength = yes tt
word_id_dec p (Version version word) = both_dec (lt_dec version versions) (lt_dec word version_words)
word_id_dec p (Turn level bucket) =
    both_dec (lt_dec level (levels p)) (lt_dec bucket (buckets_at p level))
word_id_dec p (Used level bucket) =
    both_dec (lt_dec level (levels p)) (lt_dec bucket (buckets_at p level))
word_id_dec p (Key level bucket slot word) =
    both_dec (slot_dec p level bucket slot) (lt_dec word (key_words level))
word_id_dec p (Book level bucket slot) = slot_dec p level bucket slot
