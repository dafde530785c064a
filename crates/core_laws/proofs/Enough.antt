-- The law of enough: the entries of a full bucket have as many different shapes as it has slots.
use Rattle.std.proofs.Common.{◌≡◌, ◌≢◌, ℕ, zero, suc, ◌<◌, ◌≤◌, refl, sym, ap, arith, Some, List, [], ◌∷◌, length}
use Rattle.std.specs.Prelude.{All}
use Rattle.std.specs.List.{AllPairs, Contains}
use Rattle.std.proofs.lemmas.List.Elements.{All-nil, All-cons}
use Rattle.std.proofs.lemmas.List.Kept.{AllPairs-cons}
use Rattle.std.proofs.lemmas.Option.{same_Some}
use Rattle.node_words.specs.declared.shapes.names.Name.{Name}
use Rattle.node_words.specs.shapes.Shape.{Shape, Clear, IsCanonical}
use Rattle.node_words.specs.shapes.Buckets.{bucket_of_shape}
use Rattle.node_words.specs.Plans.{Layout}
use Rattle.core_laws.specs.States.{State, shape_in}
use Rattle.core_laws.specs.places.Names.{named}
use Rattle.node_words.specs.Enough.{HasEnough}
use Rattle.core_laws.specs.Soundness.{SoundEntries, IsFull}
use Rattle.core_laws.proofs.LiveShapes.{LivesAt, one_lives, shape_once, canonical_at, bucket_at, not_clear_at}

-- the shapes of the first slots of a bucket, the last one first
shapes_below : State → ℕ → ℕ → ℕ → List Shape
shapes_below c level bucket zero = []
shapes_below c level bucket (suc slot) =
    shape_in c (named level bucket slot) ∷ shapes_below c level bucket slot

all_below : (P : Shape → Type 0) (state : State) (level bucket slots : ℕ)
    → ((slot : ℕ) → slot < slots → P (shape_in state (named level bucket slot)))
    → All P (shapes_below state level bucket slots)
unfolding shapes_below
all_below P state level bucket zero each = All-nil P
all_below P state level bucket (suc slots) each =
    All-cons P _ _ (each slots (omega arith))
    (all_below P state level bucket slots (λ slot lt. each slot (omega arith)))

number_below : (state : State) (level bucket slots : ℕ)
    → length (shapes_below state level bucket slots) ≡ slots
unfolding shapes_below
number_below state level bucket zero = refl
number_below state level bucket (suc slots) = ap suc (number_below state level bucket slots)

module _ (p : Layout) (state : State) (level bucket : ℕ) (s : SoundEntries p state)
    (full : IsFull p state level bucket) where
  lives : (slot : ℕ) → slot < p.cap → LivesAt p state level (named level bucket slot)
  lives slot lt =
      record {
        live =
            record {
              name =
                  record { level_in = full.level_in; bucket_in = full.bucket_in; slot_in = lt };
              book = full.each slot lt;
            };
        same_level = refl;
      }

  apart : (i j : ℕ) → i < p.cap → j < p.cap → i ≢ j
      → shape_in state (named level bucket i) ≢ shape_in state (named level bucket j)
  apart i j of_i of_j other same =
      let names =
      shape_once p state s level (Some (named level bucket i)) (Some (named level bucket j))
      (one_lives p state level _ (lives i of_i))
      (one_lives p state level _ (lives j of_j)) same in
      other (ap (λ (n : Name). n.slot) (same_Some _ _ names))

  different : (slots : ℕ) → slots ≤ p.cap
      → AllPairs (λ x y. x ≢ y) (shapes_below state level bucket slots)
  unfolding shapes_below
  different zero le = λ i j d low high. absurd (omega arith)
  different (suc slots) le =
      AllPairs-cons (λ x y. x ≢ y) _ _
      (all_below (λ y. shape_in state (named level bucket slots) ≢ y) state level bucket slots
      (λ slot lt. apart slots slot (omega arith) (omega arith) (λ e. omega arith)))
      (different slots (omega arith))

  pub enough : (made : List Shape)
      → ((slot : ℕ) → slot < p.cap → Contains made (shape_in state (named level bucket slot)))
      → HasEnough p made level bucket
  enough made has = record {
    shapes = shapes_below state level bucket p.cap;
    number = number_below state level bucket p.cap;
    different = different p.cap (omega arith);
    of_level =
        all_below (λ t. IsCanonical level t × (t ≢ Clear)) state level bucket p.cap
        (λ slot lt. (
          canonical_at p state s level _ (one_lives p state level _ (lives slot lt)),
          not_clear_at state.key level _,
        ));
    of_bucket =
        all_below (λ t. bucket_of_shape p.buckets level t ≡ bucket) state level bucket p.cap
        (λ slot lt. sym (bucket_at p state s level _ (lives slot lt)));
    listed = all_below (λ t. Contains made t) state level bucket p.cap has;
  }
