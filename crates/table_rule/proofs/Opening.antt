-- The table as it is begun.
use Rattle.std.proofs.Common.{◌≡◌, ◌≢◌, ℕ, zero, suc, ◌<◌, ◌≤◌, Bool, true, false, Some, None, List, [], ◌∷◌, length, get_or, replicate, refl, sym, ap, ◌∙◌, inl, subst, arith}
use Rattle.std.specs.Prelude.{nat_lt}
use Rattle.std.specs.List.{slice_get, Contains}
use Rattle.std.proofs.lemmas.List.{length-replicate}
use Rattle.std.proofs.lemmas.Option.{same_Some, none-some}
use Rattle.atomic_table.specs.Table.{opening}
use Rattle.node_words.specs.declared.shapes.names.Name.{Name}
use Rattle.node_words.proofs.OfShapes.WeightLaws.{weigh-nil}
use Rattle.node_words.specs.Plans.{Layout, IsPlan}
use Rattle.node_words.specs.Held.{IsHeld, Wanted}
use Rattle.core_laws.specs.places.WordIds.{WordId, Sessions, LogTurn, LogLength, Version, Turn, Used, Key, Book, IsWordId, place, width}
use Rattle.core_laws.proofs.OfPlaces.SpotTests.{word_id_dec}
use Rattle.core_laws.specs.contents.Aligned.{top}
use Rattle.core_laws.specs.places.KeyWords.{child_of_word}
use Rattle.core_laws.specs.LiveTrees.{IsLiveTree}
use Rattle.vox_read.specs.Contents.{Content}
use Rattle.node_words.specs.shapes.Weights.{number_of_trees}
use Rattle.core_laws.specs.Counting.{holdings}
use Rattle.core_laws.specs.Soundness.{IsUntouched}
use Rattle.core_laws.proofs.RootCells.{empty_sound}
use Rattle.table_rule.specs.Reading.{root_if_held, book_of, where_there, said, stored_at, word_at}
use Rattle.table_rule.specs.Views.{SeatView, BucketAt, starting, known_at}
use Rattle.table_rule.specs.TurnRules.{KeepsTurns, turn_of, IsTurnWord, IsOf}
use Rattle.table_rule.specs.Knowing.{Knows}
use Rattle.history_model.specs.Logs.{Log}
use Rattle.table_rule.specs.LogKnowing.{IsPrefix, OwnsIn, WasFound, KnowsLog}
use Rattle.table_rule.specs.LogTurnRules.{IsOfLog}
use Rattle.table_rule.specs.LogViews.{no_log}
use Rattle.retain.specs.Listing.{Found}
use Rattle.table_rule.specs.Rules.{KeepsLog, IsRuled, table_state}
use Rattle.table_rule.proofs.LogReading.{empty_log}
use Rattle.table_rule.proofs.OwnLaws.{own_nothing, nothing_begins}

at_zero : (n k : ℕ) → let z : ℕ = 0 in get_or (replicate n z) k z ≡ z
at_zero zero k = refl
at_zero (suc n) zero = refl
at_zero (suc n) (suc k) = at_zero n k

nothing_there : {A : Type 0} (d : Dec A) (n : ℕ) → n ≡ 0 → where_there d n ≡ 0
nothing_there (yes h) n e = e
nothing_there (no h) n e = refl

nothing_stored : (p : Layout) (n : ℕ) (x : WordId)
    → stored_at p (let z : ℕ = 0 in replicate n z) x ≡ 0
unfolding stored_at
nothing_stored p n x = nothing_there (word_id_dec p x) _ (at_zero n (place p x))

said_nothing : (x : WordId) → said x 0 ≡ 0
said_nothing Sessions = refl
said_nothing LogTurn = refl
said_nothing LogLength = refl
said_nothing (Version version word) = refl
said_nothing (Turn level bucket) = refl
said_nothing (Used level bucket) = refl
said_nothing (Key level bucket slot word) = refl
said_nothing (Book level bucket slot) = refl

no_word : (p : Layout) (n : ℕ) (x : WordId) → word_at p (let z : ℕ = 0 in replicate n z) x ≡ 0
unfolding word_at
no_word p n x = ap (said x) (nothing_stored p n x) ∙ said_nothing x

alone : (v : SeatView) (i : ℕ) (w : SeatView) → slice_get (v ∷ []) i ≡ Some w → (i ≡ 0) × (v ≡ w)
alone v zero w e = (refl, same_Some v w e)
alone v (suc i) w e = absurd (none-some w e)

no_root : (level : ℕ) (b : Bool) (mark word : ℕ) → mark ≡ 0 → word ≡ 0
    → root_if_held b mark (child_of_word level word) ≡ None
no_root level true mark word m w = refl
no_root level false mark word m w =
    ap (λ (x : ℕ × ℕ). root_if_held false x.0 (child_of_word level x.1)) (λ i. (m i, w i))

no_holding : (f : Name → ℕ) → holdings f ([] ∷ []) ≡ 0
unfolding holdings
no_holding f = refl

module _ (p : Layout) (models : List Content) (mem : WordId → ℕ) (none : (x : WordId) → mem x ≡ 0) where
  abbrev views : List SeatView
  views = starting p models ∷ []

  -- what holds of the first view holds of each
  only : (P : ℕ → SeatView → Type 0) → P 0 (starting p models) → (i : ℕ) (v : SeatView)
      → slice_get views i ≡ Some v → P i v
  only P h i v e = let t = alone (starting p models) i v e in
      subst (λ (x : ℕ × SeatView). P x.0 x.1) (λ j. (sym t.0 j, t.1 j)) h

  no_number : (n : ℕ) (A : Type 0) → Contains {X = ℕ} [] n → A
  no_number n A c = absurd (let k = c.1 in omega arith)

  opening_turns : KeepsTurns p mem views
  opening_turns = record {
    owner = λ n. 0;
    keeper = 0;
    few = (let e = none Sessions in omega arith);
    seats = omega arith;
    fresh = only (λ i v. v.right ≡ true → v.numbers ≢ [] → length views ≤ mem Sessions)
        (λ r ne. absurd (ne refl));
    owned = only (λ i v. (n : ℕ) → Contains v.numbers n → (n < mem Sessions) × (0 ≡ i))
        (λ n c. no_number n _ c);
    right = only (λ i v. v.right ≡ true → (0 ≡ i) × (mem Sessions ≡ v.next))
        (λ r. (refl, none Sessions));
    turn = only
        (λ i v. (b : BucketAt) → v.turn ≡ Some b → IsWordId p (turn_of b)
        × IsTurnWord v (mem (turn_of b))) (λ b e. absurd (none-some b e));
    back = only
        (λ i v. (b : BucketAt) → IsWordId p (turn_of b) → IsTurnWord v (mem (turn_of b))
        → v.turn ≡ Some b) (λ b low m. no_number m.number _ m.carried);
    carried = λ n lt. absurd (let e = none Sessions in omega arith);
    named = λ b low. (let e = none (turn_of b) in omega arith);
    known = only
        (λ i v. (b : BucketAt) (x : WordId) (n : ℕ) → v.turn ≡ Some b → IsOf b x
        → known_at x v.words ≡ Some n → mem x ≡ n) (λ b x n e of is. absurd (none-some b e));
    unused = λ b slot le. none _;
  }

  is_empty : IsUntouched p (table_state p mem views)
  is_empty = record {
    book = λ n is. none _;
    root = λ v. no_root (top p.side) (nat_lt (mem LogLength) v) (mem (Version v 6))
        (mem (Version v 5)) (none _) (none _);
    log = empty_log p mem none;
    held = no_holding;
  }

  opening_knows : Knows p models (table_state p mem views) views
  opening_knows = record {
    plan = only (λ i v. v.alive ≡ true → v.plan ≡ p) (λ a. refl);
    same_models = only (λ i v. v.alive ≡ true → v.models ≡ models) (λ a. refl);
    held = only (λ i v. (t : _) → IsHeld v.held t → IsLiveTree p (table_state p mem views) t)
        (λ t h. absurd (let e = h.weighs (λ _. 1) in let n = weigh-nil (λ _. 1) in omega arith));
    few = only (λ i v. number_of_trees v.held ≤ 4096) (let n = weigh-nil (λ _. 1) in omega arith);
    made = λ n live. absurd (let b = live.book in let e = none (book_of n) in omega arith);
    met = only (λ i v. (m : Wanted) → Contains v.met m → _)
        (λ m c. absurd (let k = c.1 in omega arith));
  }

  opening_log : KeepsLog p mem views
  opening_log = record {
    turn = record {
      turn = only (λ i v. v.log.turn ≡ true → IsTurnWord v (mem LogTurn))
          (λ h. absurd (let no : ⊥ = cc in no));
      back = only (λ i v. IsTurnWord v (mem LogTurn) → v.log.turn ≡ true)
          (λ m. no_number m.number _ m.carried);
      named = (let e = none LogTurn in omega arith);
      known = only
          (λ i v. (x : WordId) (n : ℕ) → v.log.turn ≡ true → IsOfLog x
          → known_at x v.log.words ≡ Some n → mem x ≡ n)
          (λ x n h. absurd (let no : ⊥ = cc in no));
    };
    written = record {
      words = λ n i lt low. absurd (let e = none LogLength in omega arith);
    };
    knows = subst (λ (l : Log). KnowsLog (mem Sessions) l views) (sym (empty_log p mem none))
        (record {
          sessions = record {
            records = λ k d lt. absurd (omega arith);
            marks = λ k d lt. absurd (omega arith);
          };
          seen = only (λ i v. IsPrefix v.log.seen (no_log p.side))
              (nothing_begins p.side (no_log p.side));
          taken = only (λ i v. (l : Log) → Contains v.log.taken l → IsPrefix l (no_log p.side))
              (λ l c. absurd (let k = c.1 in omega arith));
          own = only (λ i v. OwnsIn (no_log p.side) v) (own_nothing (no_log p.side));
          own_seen = only (λ i v. v.log.taken ≡ [] → OwnsIn v.log.seen v)
              (λ e. own_nothing (no_log p.side));
          found = only
              (λ i v. (f : Found) → Contains v.log.found f → WasFound (no_log p.side) f)
              (λ f c. absurd (let k = c.1 in omega arith));
        });
  }

-- a table of words that are 0 meets the rule, with the first seat
pub opens : (p : Layout) (models : List Content) → IsPlan p
    → IsRuled p models
    (opening (let z : ℕ = 0 in replicate (width p) z) [] (starting p models))
opens p models plan =
    let none = no_word p (width p) in
    record {
      wide = length-replicate (width p) 0;
      rule = record {
        plan = plan;
        turns = opening_turns p models _ none;
        sound = empty_sound p models _ (is_empty p models _ none);
        knows = opening_knows p models _ none;
        log = opening_log p models _ none;
      };
      tagged = λ n. inl (nothing_stored p (width p) (book_of n));
    }
