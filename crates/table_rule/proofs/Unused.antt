-- Slots that were never used stay free, whatever word is written.
use Rattle.std.proofs.Common.{◌≡◌, ◌≢◌, ◌⊎◌, ℕ, ◌<◌, ◌≤◌, ap, ◌∙◌, inl, inr, arith}
use Rattle.std.proofs.lemmas.Bool.{cases_lt}
use Rattle.node_words.specs.declared.shapes.names.Name.{Name}
use Rattle.core_laws.specs.places.WordIds.{WordId, Used, Book}
use Rattle.table_rule.specs.Reading.{Wrote, book_of}
use Rattle.table_rule.specs.Views.{BucketAt, bucket_of, word_id_same}
use Rattle.table_rule.specs.TurnRules.{used_of, UnusedAreFree}

-- a word that is neither a book nor a number of used slots
pub unused_else : (old new : WordId → ℕ) (x : WordId) (n : ℕ) → Wrote old x n new
    → ((b : BucketAt) → used_of b ≢ x)
    → ((b : BucketAt) (slot : ℕ) → Book b.level b.bucket slot ≢ x)
    → UnusedAreFree old → UnusedAreFree new
unused_else old new x n wrote used book free b slot le =
    wrote.others (Book b.level b.bucket slot) (book b slot)
    ∙ free b slot (let e = wrote.others (used_of b) (used b) in omega arith)

-- a live entry's slot was used
pub used_where_live : (mem : WordId → ℕ) (n : Name) → UnusedAreFree mem → 0 < mem (book_of n)
    → n.slot < mem (used_of (bucket_of n))
used_where_live mem n free live = elim (cases_lt n.slot (mem (used_of (bucket_of n)))) [
  | inl low ↦ low
  | inr high ↦ absurd (let none = free (bucket_of n) n.slot (omega arith) in omega arith)
]

-- the slot of a book that is one of the used ones
one_slot : (old : WordId → ℕ) (b : BucketAt) (slot : ℕ) (n : Name)
    → Book b.level b.bucket slot ≡ book_of n → old (used_of b) ≤ slot
    → n.slot < old (used_of (bucket_of n)) → ⊥
one_slot old b slot n e high low =
    let level : b.level ≡ n.level = cc in
    let bucket : b.bucket ≡ n.bucket = cc in
    let at : slot ≡ n.slot = cc in
    let same : used_of b ≡ used_of (bucket_of n) = λ i. Used (level i) (bucket i) in
    let used = ap old same in absurd (omega arith)

-- a book of a used slot, or one that becomes 0
pub unused_book : (old new : WordId → ℕ) (n : Name) (k : ℕ) → Wrote old (book_of n) k new
    → (k ≡ 0) ⊎ (n.slot < old (used_of (bucket_of n))) → UnusedAreFree old → UnusedAreFree new
unused_book old new n k wrote may free b slot le =
    let used : new (used_of b) ≡ old (used_of b) =
    wrote.others (used_of b) (λ e. (let no : ⊥ = cc in no)) in
    elim (word_id_same (Book b.level b.bucket slot) (book_of n)) [
      | no other ↦ wrote.others (Book b.level b.bucket slot) other ∙ free b slot (omega arith)
      | yes e ↦ elim may [
        | inl none ↦ ap new e ∙ wrote.here ∙ none
        | inr low ↦ absurd (one_slot old b slot n e (omega arith) low)
      ]
    ]

-- a number of used slots that grows
pub unused_more : (old new : WordId → ℕ) (b : BucketAt) (n : ℕ) → Wrote old (used_of b) n new
    → old (used_of b) ≤ n → UnusedAreFree old → UnusedAreFree new
unused_more old new b n wrote more free c slot le =
    wrote.others (Book c.level c.bucket slot) (λ e. (let no : ⊥ = cc in no))
    ∙ free c slot (elim (word_id_same (used_of c) (used_of b)) [
      | yes e ↦ (let here = ap new e ∙ wrote.here in let was = ap old e in omega arith)
      | no other ↦ (let same = wrote.others (used_of c) other in omega arith)
    ])
