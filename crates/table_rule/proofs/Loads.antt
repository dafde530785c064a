-- Words are loaded under a turn, key words of free entries are stored, and what is held is read.
use Rattle.std.proofs.Common.{◌≡◌, ◌⊎◌, ℕ, zero, suc, ◌<◌, Some, List, ◌∷◌, length, get_or, set, refl, sym, subst, inl, inr, arith}
use Rattle.std.specs.Prelude.{map}
use Rattle.std.specs.List.{slice_get, Contains}
use Rattle.vox_read.specs.Contents.{Content}
use Rattle.node_words.specs.declared.shapes.names.Name.{Name}
use Rattle.node_words.specs.shapes.Tree.{Tree, root_of}
use Rattle.node_words.specs.Held.{IsReached, Wanted}
use Rattle.node_words.specs.Plans.{Layout}
use Rattle.core_laws.specs.places.Names.{named}
use Rattle.core_laws.specs.places.WordIds.{WordId, LogTurn, LogLength, Version, Sessions, Book, key_words}
use Rattle.core_laws.specs.Events.{EntriesStay, Rests}
use Rattle.node_words.specs.Enough.{HasEnough}
use Rattle.core_laws.proofs.Enough.{enough}
use Rattle.table_rule.specs.Reading.{Wrote, book_of}
use Rattle.table_rule.proofs.Readings.{readies_key}
use Rattle.table_rule.specs.Views.{SeatView, BucketAt, bucket_of, key_word_id, known_at, names_held}
use Rattle.table_rule.specs.TurnRules.{IsOf}
use Rattle.table_rule.specs.Knowing.{all_made}
use Rattle.table_rule.specs.LogWords.{log_in}
use Rattle.table_rule.specs.Rules.{KeepsRule, table_state, MayWrite}
use Rattle.table_rule.specs.ViewFacts.{tree_word}
use Rattle.table_rule.proofs.PartA.{word_step, same_step, same_seat}
use Rattle.table_rule.proofs.PartC.{made_grows}
use Rattle.table_rule.specs.Owing.{ViewGrew}
use Rattle.table_rule.proofs.StateSteps.{quiet, same_mem, no_change}
use Rattle.table_rule.proofs.LogReading.{LogStays}
use Rattle.table_rule.proofs.LogKept.{same_log}
use Rattle.table_rule.proofs.TellingLaw.{reached_word}
use Rattle.table_rule.specs.Changes.{knowing, meeting, IsFullIn}
use Rattle.table_rule.proofs.TurnSteps.{same_session, nothing_written}
use Rattle.table_rule.proofs.Unused.{unused_else}

pub entries_rest : (p : Layout) (mem : WordId → ℕ) (views after : List SeatView)
    → EntriesStay p (table_state p mem views) (table_state p mem after)
entries_rest p mem views after = record { book = λ m is. refl; key = λ m live. refl }

pub log_rests : (mem : WordId → ℕ) → LogStays mem mem
log_rests mem = record { turn = refl; length = refl; version = λ v i. refl }

-- a word is loaded under its turn
pub looks : (p : Layout) (seat : ℕ) (v : SeatView) (b : BucketAt) (x : WordId) → v.turn ≡ Some b
    → IsOf b x → MayWrite p seat v x (λ k. k) (Rests p)
    (λ k w. (w ≡ knowing v x k) × ((n : ℕ) → known_at x v.words ≡ Some n → k ≡ n))
looks p seat v b x has of models old views r at =
    let w : SeatView = knowing v x (old x) in
    let after : List SeatView = set views seat w in
    let both : (new : WordId → ℕ) → Wrote old x (old x) new → KeepsRule p models new after
    × Rests p (table_state p old views) (table_state p new after) =
    λ new wrote. subst (λ m. KeepsRule p models m after
    × Rests p (table_state p old views) (table_state p m after)) (sym (same_mem old new x wrote))
    (quiet p models old old views seat v w r at
    (entries_rest p old views after) (log_rests old) refl (same_log v w refl refl)
    (word_step p old views r.turns seat v at old w (same_seat v w refl refl refl) refl b x
    (old x) has of (no_change old x) refl refl r.turns.unused)
    refl refl refl refl refl (λ m h. inl h)) in
    record {
      view = w;
      rule = λ new wrote. (both new wrote).0;
      event = λ new wrote. (both new wrote).1;
      same = record { alive = refl; plan = refl; models = refl; numbers = refl };
      told = (refl, λ n l. r.turns.known seat v at b x n has of l);
    }

-- a key word of a free entry is stored
pub readies : (p : Layout) (seat : ℕ) (v : SeatView) (n : Name) (i k : ℕ)
    → v.turn ≡ Some (bucket_of n) → known_at (book_of n) v.words ≡ Some 0
    → MayWrite p seat v (key_word_id n i) (λ _. k) (Rests p) (λ _ w. w ≡ knowing v (key_word_id n i) k)
readies p seat v n i k has free models old views r at =
    let x : WordId = key_word_id n i in
    let w : SeatView = knowing v x k in
    let b : BucketAt = bucket_of n in
    let none : old (book_of n) ≡ 0 =
    r.turns.known seat v at b (book_of n) 0 has (refl, refl) free in
    let after : List SeatView = set views seat w in
    let both : (new : WordId → ℕ) → Wrote old x k new → KeepsRule p models new after
    × Rests p (table_state p old views) (table_state p new after) =
    λ new wrote. quiet p models old new views seat v w r at
    (readies_key p (log_in p) old new (map names_held views)
    (map names_held after) n i k none wrote)
    (record {
      turn = wrote.others LogTurn (λ e. (let no : ⊥ = cc in no));
      length = wrote.others LogLength (λ e. (let no : ⊥ = cc in no));
      version = λ u j. wrote.others (Version u j) (λ e. (let no : ⊥ = cc in no));
    })
    (wrote.others Sessions (λ e. (let no : ⊥ = cc in no))) (same_log v w refl refl)
    (word_step p old views r.turns seat v at new w (same_seat v w refl refl refl)
    (wrote.others Sessions (λ e. (let no : ⊥ = cc in no))) b x k has (refl, refl) wrote
    refl refl (unused_else old new x k wrote (λ c e. (let no : ⊥ = cc in no))
    (λ c slot e. (let no : ⊥ = cc in no)) r.turns.unused))
    refl refl refl refl refl (λ m h. inl h) in
    record {
      view = w;
      rule = λ new wrote. (both new wrote).0;
      event = λ new wrote. (both new wrote).1;
      same = record { alive = refl; plan = refl; models = refl; numbers = refl };
      told = refl;
    }

-- what stands in a list with one more stands there or is the new one
contains_new : {A : Type 0} (P : A → Type 0) (x : A) (xs : List A) (y : A) → P x
    → Contains (x ∷ xs) y → Contains xs y ⊎ P y
contains_new P x xs y has c = go c.0 c.1 c.2
  where
    go : (k : ℕ) → k < length (x ∷ xs) → get_or (x ∷ xs) k y ≡ y → Contains xs y ⊎ P y
    go zero lt e = inr (subst P e has)
    go (suc k) lt e = inl (k, omega arith, e)

-- a bucket whose slots are known to have books has enough shapes that were made
full_enough : (p : Layout) (models : List Content) (old : WordId → ℕ) (views : List SeatView)
    (seat : ℕ) (v w : SeatView) (b : BucketAt) → KeepsRule p models old views
    → slice_get views seat ≡ Some v → v.turn ≡ Some b → IsFullIn v.words b p.cap → ViewGrew v w
    → HasEnough p (all_made (set views seat w)) b.level b.bucket
full_enough p models old views seat v w b r at has full grew =
    let low = (r.turns.turn seat v at b has).0 in
    let book : (slot : ℕ) → slot < p.cap → 0 < old (Book b.level b.bucket slot) =
    λ slot lt. (
    let f = full.each slot lt in
    let word = r.turns.known seat v at b (Book b.level b.bucket slot) f.0 has (refl, refl) f.1 in
    let some = f.2 in omega arith) in
    enough p (table_state p old views) b.level b.bucket r.sound.entries
    (record { level_in = low.0; bucket_in = low.1; each = book }) (all_made (set views seat w))
    (λ slot lt. made_grows views seat v w at grew _
    (r.knows.made (named b.level b.bucket slot) (record {
      name = record { level_in = low.0; bucket_in = low.1; slot_in = lt };
      book = book slot lt;
    })))

-- a load shows a full bucket
pub meets : (p : Layout) (seat : ℕ) (v : SeatView) (b : BucketAt) (x : WordId) (m : Wanted)
    → v.turn ≡ Some b → IsFullIn v.words b p.cap → m.level ≡ b.level → m.bucket ≡ b.bucket
    → MayWrite p seat v x (λ k. k) (Rests p) (λ k w. w ≡ meeting v m)
meets p seat v b x m has full level bucket models old views r at =
    let w : SeatView = meeting v m in
    let after : List SeatView = set views seat w in
    let all =
    full_enough p models old views seat v w b r at has full (record { made = λ s h. h }) in
    let of_m : HasEnough p (all_made after) m.level m.bucket =
    subst (λ (z : ℕ × ℕ). HasEnough p (all_made after) z.0 z.1)
    (λ i. (sym level i, sym bucket i)) all in
    let both : (new : WordId → ℕ) → Wrote old x (old x) new → KeepsRule p models new after
    × Rests p (table_state p old views) (table_state p new after) =
    λ new wrote. subst (λ k. KeepsRule p models k after
    × Rests p (table_state p old views) (table_state p k after)) (sym (same_mem old new x wrote))
    (quiet p models old old views seat v w r at (entries_rest p old views after)
    (log_rests old) refl (same_log v w refl refl)
    (same_step p old views r.turns seat v at old w (same_seat v w refl refl refl) refl refl
    (λ y. refl) refl) refl refl refl refl refl
    (λ u h. contains_new (λ (u : Wanted). HasEnough p (all_made after) u.level u.bucket)
    m v.met u of_m h)) in
    record {
      view = w;
      rule = λ new wrote. (both new wrote).0;
      event = λ new wrote. (both new wrote).1;
      same = record { alive = refl; plan = refl; models = refl; numbers = refl };
      told = refl;
    }

-- a key word of a name that is reached is that of its tree; no turn is needed
pub peeks : (p : Layout) (seat : ℕ) (v : SeatView) (t : Tree) (n : Name) (i : ℕ)
    → IsReached v.held t → root_of t ≡ Some n → i < key_words n.level
    → MayWrite p seat v (key_word_id n i) (λ k. k) (Rests p) (λ k w. (w ≡ v) × (k ≡ tree_word t i))
peeks p seat v t n i h e lt models old views r at = record {
  view = v;
  rule = λ new wrote.
      (nothing_written p models old new views seat v (key_word_id n i) r at wrote).0;
  event = λ new wrote.
      (nothing_written p models old new views seat v (key_word_id n i) r at wrote).1;
  same = same_session v;
  told = (refl, reached_word p models old views seat v r at t n i h e lt);
}
