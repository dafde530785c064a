-- Words that are written, as what they do to the state that is read.
use Rattle.std.proofs.Common.{Bool, true, false, ◌≡◌, ◌≢◌, ℕ, suc, ◌+◌, ◌<◌, ◌≤◌, refl, sym, ◌∙◌, ap, arith, inl, inr, Some, None, Option, List, set, sum_by}
use Rattle.std.specs.Prelude.{map, nat_lt}
use Rattle.std.specs.List.{slice_get}
use Rattle.std.proofs.lemmas.Bool.{cases_lt, lt-ltb, le-ltb}
use Rattle.std.proofs.lemmas.List.{map-set}
use Rattle.std.proofs.lemmas.Option.{slice_get-map}
use Rattle.std.specs.Option.{option_map}
use Rattle.node_words.specs.shapes.Tree.{Tree}
use Rattle.node_words.specs.declared.shapes.names.Name.{Name}
use Rattle.node_words.proofs.OfShapes.TreeEqual.{same_name}
use Rattle.core_laws.specs.Key as keys
use Rattle.core_laws.specs.Keys.{bucket_of_key}
use Rattle.core_laws.specs.Plans.{Layout}
use Rattle.core_laws.specs.places.Names.{IsName}
use Rattle.core_laws.specs.places.WordIds.{WordId, LogLength, Version, Key, buckets_at, versions}
use Rattle.core_laws.specs.places.KeyWords.{child_of_word, key_of_words}
use Rattle.core_laws.specs.Logs.{Log}
use Rattle.core_laws.specs.contents.Aligned.{top}
use Rattle.core_laws.specs.Soundness.{FitsLevel}
use Rattle.core_laws.specs.Events.{Trades, EntriesStay, OthersStay, RootsStay, IsMissing, Raises, Adds, Lowers, Frees, PutsRoot, TakesRoot, no_weight, one_name, at_most_one, children_named}
use Rattle.table_rule.specs.Reading.{names_of, root_if_held, root_word, read, Wrote, book_of}

pub book_apart : (m n : Name) → m ≢ n → book_of m ≢ book_of n
book_apart m n other e = other (same_name m n (cc) (cc) (cc))

pub keys_same : (level : ℕ) (words others : ℕ → ℕ) → ((i : ℕ) → words i ≡ others i)
    → key_of_words level words ≡ key_of_words level others
keys_same level words others same = λ i. key_of_words level (λ j. same j i)

-- what one seat's part changes, as what the seat trades
pub traded : {V : Type 0} (names : V → List Name) (views : List V) (id : ℕ) (v w : V)
    (gives takes : (Name → ℕ) → ℕ) → slice_get views id ≡ Some v
    → ((f : Name → ℕ) → gives f ≤ sum_by f (names v))
    → ((f : Name → ℕ) → sum_by f (names w) + gives f ≡ sum_by f (names v) + takes f)
    → Trades (map names views) id gives takes (map names (set views id w))
traded names views id v w gives takes at holds weighs = record {
  before = names v;
  after = names w;
  had = slice_get-map names views id ∙ ap (option_map names) at;
  has = map-set names views id w;
  holds = holds;
  weighs = weighs;
}

pub seats_traded : (seats : List (List Tree)) (seat : ℕ) (before after : List Tree)
    (gives takes : (Name → ℕ) → ℕ) → slice_get seats seat ≡ Some before
    → ((f : Name → ℕ) → gives f ≤ sum_by f (names_of before))
    → ((f : Name → ℕ)
    → sum_by f (names_of after) + gives f ≡ sum_by f (names_of before) + takes f)
    → Trades (map names_of seats) seat gives takes (map names_of (set seats seat after))
seats_traded seats seat before after gives takes at holds weighs =
    traded names_of seats seat before after gives takes at holds weighs

module _ (p : Layout) (log_in : (WordId → ℕ) → Log) (old new : WordId → ℕ)
    (held after : List (List Name)) where
  book_key : (n m : Name) (k : ℕ) → Wrote old (book_of n) k new
      → (read p log_in new after).key m ≡ (read p log_in old held).key m
  book_key n m k wrote =
      keys_same m.level _ _
      (λ i. wrote.others (Key m.level m.bucket m.slot i) (λ e. (let no : ⊥ = cc in no)))

  -- a book that changes, and the rest of the entries and of the roots
  pub book_changes : (n : Name) (k : ℕ) → Wrote old (book_of n) k new
      → OthersStay p n (read p log_in old held) (read p log_in new after)
  book_changes n k wrote = record {
    book = λ m is other. wrote.others (book_of m) (book_apart m n other);
    key = λ m live other. book_key n m k wrote;
  }

  pub roots_stay : (n : Name) (k : ℕ) → Wrote old (book_of n) k new
      → RootsStay (read p log_in old held) (read p log_in new after)
  roots_stay n k wrote v =
      let len = wrote.others LogLength (λ e. (let no : ⊥ = cc in no)) in
      let mark = wrote.others (Version v 6) (λ e. (let no : ⊥ = cc in no)) in
      let word = wrote.others (Version v 5) (λ e. (let no : ⊥ = cc in no)) in
      λ i. root_if_held (nat_lt (len i) v) (mark i) (child_of_word (top p.side) (word i))

  pub raises_book : (holder : ℕ) (n : Name) → IsName p n → 0 < old (book_of n)
      → Wrote old (book_of n) (old (book_of n) + 1) new
      → Trades held holder no_weight (one_name n) after
      → Raises p holder n (read p log_in old held) (read p log_in new after)
  raises_book holder n is some wrote trade = record {
    live = record { name = is; book = some };
    book = wrote.here;
    key = book_key n n _ wrote;
    others = book_changes n _ wrote;
    roots = roots_stay n _ wrote;
    held = trade;
  }

  pub adds_book : (holder : ℕ) (n : Name) (key : keys.Key) → IsName p n → old (book_of n) ≡ 0
      → Wrote old (book_of n) 1 new → (read p log_in old held).key n ≡ key → FitsLevel n.level key
      → n.bucket ≡ bucket_of_key key (buckets_at p n.level)
      → IsMissing p (read p log_in old held) n.level key
      → Trades held holder (children_named key) (one_name n) after
      → Adds p holder n key (read p log_in old held) (read p log_in new after)
  adds_book holder n key is free wrote there fits bucket missing trade = record {
    name = is;
    free = free;
    fits = fits;
    bucket = bucket;
    missing = missing;
    book = wrote.here;
    new_key = book_key n n _ wrote ∙ there;
    others = book_changes n _ wrote;
    roots = roots_stay n _ wrote;
    held = trade;
  }

  pub lowers_book : (holder book : ℕ) (n : Name) → IsName p n → old (book_of n) ≡ book + 1
      → 0 < book → Wrote old (book_of n) book new → Trades held holder (one_name n) no_weight after
      → Lowers p holder n (read p log_in old held) (read p log_in new after)
  lowers_book holder book n is was some wrote trade = record {
    name = is;
    left = (let here = wrote.here in omega arith);
    book = (let here = wrote.here in omega arith);
    key = book_key n n _ wrote;
    others = book_changes n _ wrote;
    roots = roots_stay n _ wrote;
    held = trade;
  }

  pub frees_book : (holder : ℕ) (n : Name) → IsName p n → old (book_of n) ≡ 1
      → Wrote old (book_of n) 0 new
      → Trades held holder (one_name n) (children_named ((read p log_in old held).key n)) after
      → Frees p holder n (read p log_in old held) (read p log_in new after)
  frees_book holder n is last wrote trade = record {
    name = is;
    last = last;
    book = wrote.here;
    others = book_changes n _ wrote;
    roots = roots_stay n _ wrote;
    held = trade;
  }

  -- a key word of a free entry changes, and so no entry that counts
  pub readies_key : (n : Name) (word k : ℕ) → old (book_of n) ≡ 0
      → Wrote old (Key n.level n.bucket n.slot word) k new
      → EntriesStay p (read p log_in old held) (read p log_in new after)
  readies_key n word k free wrote = record {
    book = λ m is. wrote.others (book_of m) (λ e. (let no : ⊥ = cc in no));
    key = λ m live. keys_same m.level _ _ (λ i. wrote.others (Key m.level m.bucket m.slot i) (λ e. (
        let l : m.level ≡ n.level = cc in
        let b : m.bucket ≡ n.bucket = cc in
        let s : m.slot ≡ n.slot = cc in
        let same : m ≡ n = same_name m n l b s in
        let none : old (book_of m) ≡ 0 = ap (λ (x : Name). old (book_of x)) same ∙ free in
        let some = live.book in
        omega arith)));
  }

  log_step_entries : (x : WordId) (k : ℕ) → ((m : Name) → book_of m ≢ x)
      → ((m : Name) (i : ℕ) → Key m.level m.bucket m.slot i ≢ x) → Wrote old x k new
      → EntriesStay p (read p log_in old held) (read p log_in new after)
  log_step_entries x k no_book no_key wrote = record {
    book = λ m is. wrote.others (book_of m) (no_book m);
    key = λ m live. keys_same m.level _ _
        (λ i. wrote.others (Key m.level m.bucket m.slot i) (no_key m i));
  }

  -- the same versions are past the log but for the next one
  same_side : (next u : ℕ) → next ≡ old LogLength + 1 → u ≢ next
      → nat_lt next u ≡ nat_lt (old LogLength) u
  same_side next u is other = elim (cases_lt (old LogLength) u) [
    | inl more ↦ lt-ltb next u (omega arith) ∙ sym (lt-ltb (old LogLength) u more)
    | inr less ↦ le-ltb next u (omega arith) ∙ sym (le-ltb (old LogLength) u less)
  ]

  -- the log becomes one longer, and the root of the version that is there then goes to the log
  pub appends_root : (holder next : ℕ) → next ≡ old LogLength + 1 → next < versions
      → old (Version next 6) ≡ 0 → Wrote old LogLength next new
      → Trades held holder (at_most_one (root_word p old next)) no_weight after
      → PutsRoot p holder next (root_word p old next) (read p log_in old held)
      (read p log_in new after)
  appends_root holder next is room unmarked wrote trade = record {
    in_range = room;
    free = ap (λ (b : Bool). root_if_held b (old (Version next 6)) (root_word p old next))
        (lt-ltb (old LogLength) next (omega arith));
    new_root =
        (let past : nat_lt (new LogLength) next ≡ false = ap (λ (n : ℕ). nat_lt n next) wrote.here
        ∙ le-ltb next next (omega arith) in
        let mark : new (Version next 6) ≡ 0 =
        wrote.others (Version next 6) (λ e. (let no : ⊥ = cc in no)) ∙ unmarked in
        let word = wrote.others (Version next 5) (λ e. (let no : ⊥ = cc in no)) in
        λ i. root_if_held (past i) (mark i) (child_of_word (top p.side) (word i)));
    roots = λ u other.
        (let past : nat_lt (new LogLength) u ≡ nat_lt (old LogLength) u =
        ap (λ (n : ℕ). nat_lt n u) wrote.here ∙ same_side next u is other in
        let mark = wrote.others (Version u 6) (λ e. (let no : ⊥ = cc in no)) in
        let word = wrote.others (Version u 5) (λ e. (let no : ⊥ = cc in no)) in
        λ i. root_if_held (past i) (mark i) (child_of_word (top p.side) (word i)));
    entries =
        log_step_entries LogLength next (λ m e. (let no : ⊥ = cc in no))
        (λ m i e. (let no : ⊥ = cc in no)) wrote;
    held = trade;
  }

  marked : (b : Bool) (at : ℕ) (root : Option Name) → root_if_held b (suc at) root ≡ None
  marked true at root = refl
  marked false at root = refl

  -- a version's mark is set, and its root comes
  pub forgets_root : (holder version at : ℕ) → version < versions
      → Wrote old (Version version 6) (suc at) new
      → Trades held holder no_weight (at_most_one ((read p log_in old held).root version)) after
      → TakesRoot p holder version (read p log_in old held) (read p log_in new after)
  forgets_root holder version at room wrote trade = record {
    in_range = room;
    no_root =
        ap (λ (mark : ℕ). root_if_held (nat_lt (new LogLength) version) mark
        (root_word p new version)) wrote.here
        ∙ marked (nat_lt (new LogLength) version) at (root_word p new version);
    roots = λ u other.
        (let len = wrote.others LogLength (λ e. (let no : ⊥ = cc in no)) in
        let mark = wrote.others (Version u 6) (λ e. other (cc)) in
        let word = wrote.others (Version u 5) (λ e. other (cc)) in
        λ i. root_if_held (nat_lt (len i) u) (mark i) (child_of_word (top p.side) (word i)));
    entries =
        log_step_entries (Version version 6) (suc at) (λ m e. (let no : ⊥ = cc in no))
        (λ m i e. (let no : ⊥ = cc in no)) wrote;
    held = trade;
  }
