-- Outputs that are written in stages.
use Rattle.std.proofs.Common.{◌≡◌, ℕ, ◌≤◌, List, [], ◌∷◌, ◌++◌, Option, Some, None, refl, sym, ap, subst, ◌∙◌, arith, append_assoc}
use Rattle.vw_io.specs.declared.shelves.WriteRefused.{WriteRefused}
use Rattle.vw_io.specs.declared.shelves.WriteRefused.TheVariants.{Failed, Memory}
use Rattle.vw_io.specs.Outside.{Files, ShelfState}
use Rattle.vw_io.specs.Outputs.{Named, written, AreWritten, ArePrefix, BreaksAt, StopsWith}
use Rattle.vw_io.proofs.Written.{rose_since}

-- ---- some outputs and then others

written_both : (a b : List Named) (files : Files)
    → written (a ++ b) files ≡ written b (written a files)
written_both [] b files = refl
written_both (o ∷ a) b files = written_both a b _

pub both_written : (a b : List Named) (old mid new : Option Files) → AreWritten a old mid
    → AreWritten b mid new → AreWritten (a ++ b) old new
both_written a b None mid new first second =
    subst (λ (m : Option Files). AreWritten b m new) first second
both_written a b (Some old) None new first second = absurd first
both_written a b (Some old) (Some mid) None first second = absurd second
both_written a b (Some old) (Some mid) (Some new) first second = record {
  each = λ name.
      second.each name
      ∙ ap (λ (f : Files). written b f name) (λ i each. first.each each i)
      ∙ sym (ap (λ (f : Files). f name) (written_both a b old));
}

-- the second ones were not all written
pub stops_after : (why : WriteRefused) (name : List ℕ) (a b : List Named)
    (old mid new : Option Files) (faults between risen : ℕ) → AreWritten a old mid
    → faults ≤ between → StopsWith why name b mid new between risen
    → StopsWith why name (a ++ b) old new faults risen
stops_after Failed name a b old mid new faults between risen whole grown stops = (
  record {
    output = stops.0.output;
    named = stops.0.named;
    first = a ++ stops.0.first;
    others = stops.0.others;
    parts =
        ap (λ (os : List Named). a ++ os) stops.0.parts
        ∙ sym (append_assoc a stops.0.first (stops.0.output ∷ stops.0.others));
    between = stops.0.between;
    whole = both_written a stops.0.first old mid stops.0.between whole stops.0.whole;
    left = stops.0.left;
  },
  rose_since faults between risen grown stops.1,
)
stops_after Memory name a b old mid new faults between risen whole grown stops = (
  record {
    first = a ++ stops.0.first;
    others = stops.0.others;
    parts =
        ap (λ (os : List Named). a ++ os) stops.0.parts
        ∙ sym (append_assoc a stops.0.first stops.0.others);
    whole = both_written a stops.0.first old mid new whole stops.0.whole;
  },
  omega (arith, grown, stops.1),
)

-- the first ones were not all written
pub stops_before : (why : WriteRefused) (name : List ℕ) (a b : List Named) (old new : Option Files)
    (faults risen : ℕ) → StopsWith why name a old new faults risen
    → StopsWith why name (a ++ b) old new faults risen
stops_before Failed name a b old new faults risen stops = (
  record {
    output = stops.0.output;
    named = stops.0.named;
    first = stops.0.first;
    others = stops.0.others ++ b;
    parts =
        ap (λ (os : List Named). os ++ b) stops.0.parts
        ∙ append_assoc stops.0.first (stops.0.output ∷ stops.0.others) b;
    between = stops.0.between;
    whole = stops.0.whole;
    left = stops.0.left;
  },
  stops.1,
)
stops_before Memory name a b old new faults risen stops = (
  record {
    first = stops.0.first;
    others = stops.0.others ++ b;
    parts =
        ap (λ (os : List Named). os ++ b) stops.0.parts
        ∙ append_assoc stops.0.first stops.0.others b;
    whole = stops.0.whole;
  },
  stops.1,
)

-- what was not all written, as seen from before the inputs were read: the files were the same then
pub stops_earlier : (why : WriteRefused) (name : List ℕ) (outputs : List Named)
    (old mid new : ShelfState) → mid.files ≡ old.files → old.faults ≤ mid.faults
    → StopsWith why name outputs mid.files new.files mid.faults new.faults
    → StopsWith why name outputs old.files new.files old.faults new.faults
stops_earlier Failed name outputs old mid new same grown stops = (
  subst (λ (f : Option Files). BreaksAt name outputs f new.files) same stops.0,
  rose_since old.faults mid.faults new.faults grown stops.1,
)
stops_earlier Memory name outputs old mid new same grown stops = (
  subst (λ (f : Option Files). ArePrefix outputs f new.files) same stops.0,
  (let more = stops.1 in omega (arith, grown, more)),
)
