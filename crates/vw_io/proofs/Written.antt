-- One output after the other.
use Rattle.std.proofs.Common.{◌≡◌, ◌≢◌, ℕ, ◌+◌, ◌<◌, ◌≤◌, List, [], ◌∷◌, ◌++◌, length, take, drop, get_or, Bool, true, false, Option, Some, None, Ok, Err, refl, sym, ap, subst, ◌∙◌, if◌then◌else◌, take_all, arith}
use Rattle.std.proofs.lemmas.List.{take_more, take-append-drop}
use Rattle.std.specs.Str.{bytes_eq}
use Rattle.std.proofs.lemmas.Slice.Eq.{bytes_eq-Decides}
use Rattle.std.proofs.lemmas.Bool.Decides.{not_from_Decides}
use Rattle.vw_io.specs.declared.shelves.WriteRefused.{WriteRefused}
use Rattle.vw_io.specs.declared.shelves.WriteRefused.TheVariants.{Failed, Memory}
use Rattle.vw_io.specs.Outside.{Files, Rose}
use Rattle.vw_io.specs.Write.{WriteSpec, WriteCause}
use Rattle.vw_io.specs.Outputs.{Named, written, AreWritten, StopsWith}
use Rattle.vw_io.proofs.Reading.{parted}

-- a name that was written and every other one
at_name : (now before : Files) (name bytes other : List ℕ) (same : Bool)
    → bytes_eq other name ≡ same → now name ≡ Some bytes
    → ((each : List ℕ) → each ≢ name → now each ≡ before each)
    → now other ≡ (if same then Some bytes else before other)
at_name now before name bytes other true is here else_where =
    ap now ((bytes_eq-Decides other name).0 is) ∙ here
at_name now before name bytes other false is here else_where =
    else_where other (not_from_Decides (bytes_eq other name) (bytes_eq-Decides other name) is)

-- the last of some outputs is written over the others
last_written : (outputs : List Named) (o : Named) (files : Files) (name : List ℕ)
    → written (outputs ++ o ∷ []) files name ≡
    (if bytes_eq name o.name then Some o.bytes else written outputs files name)
last_written [] o files name = refl
last_written (output ∷ others) o files name =
    last_written others o
    (λ each. if bytes_eq each output.name then Some output.bytes else files each) name

pub none_yet : (files : Option Files) → AreWritten [] files files
none_yet None = refl
none_yet (Some files) = record { each = λ name. refl }

pub one_more : (outputs : List Named) (o : Named) (old between new : Option Files) (done : Unit {0})
    → AreWritten outputs old between → WriteSpec between new o.name o.bytes (Ok done)
    → AreWritten (outputs ++ o ∷ []) old new
one_more outputs o None None new done first told = told
one_more outputs o None (Some between) new done first told = cc
one_more outputs o (Some old) None new done first told = absurd first
one_more outputs o (Some old) (Some between) None done first told = absurd told
one_more outputs o (Some old) (Some between) (Some new) done first told =
    record {
      each = λ name. at_name new (written outputs old) o.name o.bytes name
          (bytes_eq name o.name) refl told.0
          (λ other differs. told.1 other differs ∙ first.each other)
          ∙ sym (last_written outputs o old name);
    }

-- want of memory leaves the files that there are
kept_told : (outputs : List Named) (old between new : Option Files) (name bytes : List ℕ)
    → AreWritten outputs old between → WriteSpec between new name bytes (Err Memory)
    → AreWritten outputs old new
kept_told outputs old None None name bytes whole told = whole
kept_told outputs old None (Some new) name bytes whole told = cc
kept_told outputs old (Some between) None name bytes whole told = absurd told
kept_told outputs old (Some between) (Some new) name bytes whole told =
    subst (λ (f : Files). AreWritten outputs old (Some f)) (sym told) whole

pub next_written : (outputs : List Named) (output d : Named) (k : ℕ)
    (old between new : Option Files) (done : Unit {0}) → k < length outputs
    → output ≡ get_or outputs k d
    → AreWritten (take k outputs) old between
    → WriteSpec between new output.name output.bytes (Ok done)
    → AreWritten (take (k + 1) outputs) old new
next_written outputs output d k old between new done within at first told =
    let more : take (k + 1) outputs ≡ take k outputs ++ output ∷ [] =
    take_more outputs k d within ∙ ap (λ o. take k outputs ++ o ∷ []) (sym at) in
    subst (λ (os : List Named). AreWritten os old new) (sym more)
    (one_more (take k outputs) output old between new done first told)

-- a count that rose since a time had risen since an earlier one
pub rose_since : (earlier faults risen : ℕ) → earlier ≤ faults → Rose faults risen
    → Rose earlier risen
rose_since earlier faults risen grown rose = omega (arith, grown, rose)

-- an output's write was refused after those before it
pub stops_with : (why : WriteRefused) (name : List ℕ) (outputs : List Named) (output d : Named)
    (k : ℕ) (old between new : Option Files) (faults calm risen : ℕ) → k < length outputs
    → output ≡ get_or outputs k d
    → name ≡ output.name → faults ≤ calm → AreWritten (take k outputs) old between
    → WriteSpec between new output.name output.bytes (Err why) → WriteCause (Err why) calm risen
    → calm ≤ risen → StopsWith why name outputs old new faults risen
stops_with Failed name outputs output d k old between new faults calm risen within at named grown whole told cause behind = (
  record {
    output = output;
    named = named;
    first = take k outputs;
    others = drop (k + 1) outputs;
    parts = parted outputs output d k within at;
    between = between;
    whole = whole;
    left = told;
  },
  rose_since faults calm risen grown cause,
)
stops_with Memory name outputs output d k old between new faults calm risen within at named grown whole told cause behind = (
  record {
    first = take k outputs;
    others = drop k outputs;
    parts = sym (take-append-drop k outputs);
    whole = kept_told (take k outputs) old between new output.name output.bytes whole told;
  },
  omega (arith, grown, behind),
)

pub all_written : (outputs : List Named) (k : ℕ) (old new : Option Files) → length outputs ≤ k
    → AreWritten (take k outputs) old new → AreWritten outputs old new
all_written outputs k old new past whole =
    subst (λ (os : List Named). AreWritten os old new) (take_all k outputs past) whole
