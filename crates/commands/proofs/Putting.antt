-- Outputs that are put out: room for the line of a fault, and what stands where not all were
-- written.
use Rattle.std.proofs.Common.{◌≡◌, ℕ, ◌+◌, ◌≤◌, List, [], ◌∷◌, ◌++◌, length, Option, Global, String, string_bytes, Err, refl, sym, subst, arith}
use Rattle.std.specs.Prelude.{codes}
use Rattle.std.proofs.lemmas.List.{length-append}
use Rattle.vw_io.specs.Outside.{Files, ShelfState}
use Rattle.vw_io.specs.Inputs.{AreTaken}
use Rattle.vw_io.specs.Outputs.{Named, AreWritten, BreaksAt, StopsWith}
use Rattle.vw_io.specs.declared.shelves.WriteRefused.{WriteRefused}
use Rattle.vw_io.specs.declared.shelves.WriteRefused.TheVariants as writes
use Rattle.vw_io.proofs.Written.{none_yet}
use Rattle.commands.specs.declared.refusals.CommandRefused.TheVariants.{Output}
use Rattle.commands.specs.declared.refusals.NamedOutputRefused.{NamedOutputRefused}
use Rattle.commands.specs.declared.refusals.NamedOutputRefused.TheVariants.{Failed, Memory}
use Rattle.commands.specs.Meanings.{Meaning}
use Rattle.commands.specs.Outcomes.{Outcome}
use Rattle.commands.specs.Putting.{StopsAmong, cause_of, longest_name, write_fault_line}
use Rattle.commands.proofs.Writing.{stops_after, stops_before, stops_earlier}

-- ---- room for the line

middle : (first others : List Named) (output : Named)
    → length output.name ≤ longest_name (first ++ output ∷ others)
middle [] others output = omega arith
middle (o ∷ first) others output = let later = middle first others output in omega (arith, later)

line_fits : (name : List ℕ) (longest : ℕ) → length name ≤ longest
    → length (write_fault_line name) ≤ longest + 21
line_fits name longest short =
    let line = length-append (codes "voxdag: write fault ") (name ++ codes "\n") in
    let end = length-append name (codes "\n") in
    omega (arith, short, line, end)

broken_short : (name : List ℕ) (outputs : List Named) (old new : Option Files)
    → BreaksAt name outputs old new → length name ≤ longest_name outputs
broken_short name outputs old new breaks =
    subst (λ (n : List ℕ). length n ≤ longest_name outputs) (sym breaks.named)
    (subst (λ (os : List Named). length breaks.output.name ≤ longest_name os) (sym breaks.parts)
    (middle breaks.first breaks.others breaks.output))

pub failed_fits : (why : WriteRefused) (name : List ℕ) (outputs : List Named)
    (old new : ShelfState) (longest room : ℕ) → why ≡ writes.Failed
    → StopsWith why name outputs old.files new.files old.faults new.faults
    → longest ≡ longest_name outputs → longest + 21 ≤ room
    → length (write_fault_line name) ≤ room
failed_fits writes.Failed name outputs old new longest room is stops of wide =
    let short = broken_short name outputs old.files new.files stops.0 in
    let fits = line_fits name longest (omega (arith, short, of)) in
    omega (arith, fits, wide)
failed_fits writes.Memory name outputs old new longest room is stops of wide = absurd cc

-- ---- what stands where not all were written

pub failed_told : (why : WriteRefused) (name : List ℕ) (line : String Global) (outputs : List Named)
    (old new : ShelfState) → why ≡ writes.Failed
    → StopsWith why name outputs old.files new.files old.faults new.faults
    → string_bytes line ≡ write_fault_line name → StopsAmong (Failed line) outputs old new
failed_told writes.Failed name line outputs old new is stops holds =
    record { name = name; holds = holds; stops = stops }
failed_told writes.Memory name line outputs old new is stops holds = absurd cc

pub lacking_told : (why : WriteRefused) (name : List ℕ) (outputs : List Named)
    (old new : ShelfState) → why ≡ writes.Memory
    → StopsWith why name outputs old.files new.files old.faults new.faults
    → StopsAmong Memory outputs old new
lacking_told writes.Failed name outputs old new is stops = absurd cc
lacking_told writes.Memory name outputs old new is stops =
    record { name = name; holds = tt; stops = stops }

-- memory was wanted before anything was written
pub at_once : (outputs : List Named) (s : ShelfState) → StopsAmong Memory outputs s s
at_once outputs s = record {
  name = [];
  holds = tt;
  stops = (
    record { first = []; others = outputs; parts = refl; whole = none_yet s.files },
    omega arith,
  );
}

module _ (r : NamedOutputRefused) where
  -- the second ones were not all written
  pub among_after : (a b : List Named) (old mid new : ShelfState)
      → AreWritten a old.files mid.files → old.faults ≤ mid.faults → StopsAmong r b mid new
      → StopsAmong r (a ++ b) old new
  among_after a b old mid new whole grown s = record {
    name = s.name;
    holds = s.holds;
    stops = stops_after (cause_of r) s.name a b old.files mid.files new.files old.faults mid.faults new.faults
        whole grown s.stops;
  }

  -- the first ones were not all written
  pub among_before : (a b : List Named) (old new : ShelfState) → StopsAmong r a old new
      → StopsAmong r (a ++ b) old new
  among_before a b old new s = record {
    name = s.name;
    holds = s.holds;
    stops = stops_before (cause_of r) s.name a b old.files new.files old.faults new.faults s.stops;
  }

  -- as seen from before the inputs were read
  pub among_earlier : (outputs : List Named) (old mid new : ShelfState) → mid.files ≡ old.files
      → old.faults ≤ mid.faults → StopsAmong r outputs mid new → StopsAmong r outputs old new
  among_earlier outputs old mid new same grown s = record {
    name = s.name;
    holds = s.holds;
    stops = stops_earlier (cause_of r) s.name outputs old mid new same grown s.stops;
  }

  -- the same, as an outcome of the whole command
  pub broken_off : {T : Type 0} (m : Meaning T) (texts : List (List ℕ)) (outputs : List Named)
      (old mid new : ShelfState) → AreTaken old.files m.inputs texts → m.begins texts outputs
      → mid.files ≡ old.files → old.faults ≤ mid.faults → StopsAmong r outputs mid new
      → Outcome m (Err (Output r)) old new
  broken_off m texts outputs old mid new taken begun same grown s =
      let early = among_earlier outputs old mid new same grown s in
      record {
        name = early.name;
        holds = early.holds;
        breaks = record {
          texts = texts;
          taken = taken;
          outputs = outputs;
          begun = begun;
          stops = early.stops;
        };
      }
