-- What a flood gives, as an outcome of the whole command.
use Rattle.std.proofs.Common.{◌≡◌, ◌≤◌, ℕ, inl, inr, Bool, true, false, List, [], ◌∷◌, Option, Some, None, Ok, Err, refl, sym, subst, ◌∙◌, arith}
use Rattle.std.specs.List.{slice_get}
use Rattle.std.proofs.lemmas.Option.{slice_get_within, get_or_from_slice_get}
use Rattle.vw_io.specs.Outside.{Files, ShelfState}
use Rattle.vw_io.specs.Inputs.{AreTaken}
use Rattle.vw_io.specs.Outputs.{Named, AreWritten}
use Rattle.vw_cell.specs.Places.{IsInBox, is_in_box}
use Rattle.vw_cell.specs.Tests.{is_in_box_tells}
use Rattle.vox_chunk.specs.declared.faults.VoxFault.{VoxFault}
use Rattle.vox_chunk.specs.declared.faults.VoxFault.TheVariants as faults
use Rattle.vox_read.specs.Contents.{Content, AreModels, IsModel}
use Rattle.vox_read.specs.Files.{ReadsModels, RefusesFile}
use Rattle.flood.specs.declared.models.FloodRefused.{FloodRefused}
use Rattle.flood.specs.declared.models.FloodRefused.TheVariants as floods
use Rattle.flood.specs.Models.{whole_box, has_start, FloodsModel, MayFillStore, RefusesFlood}
use Rattle.node_words.specs.declared.shares.Full.{Full}
use Rattle.commands.specs.declared.refusals.CommandRefused.TheVariants.{Text, Output}
use Rattle.commands.specs.declared.refusals.NamedOutputRefused.{NamedOutputRefused}
use Rattle.commands.specs.declared.refusals.TextRefused.{TextRefused}
use Rattle.commands.specs.declared.refusals.TextRefused.TheVariants.{Vox, NoPlace, StoreFull, Memory}
use Rattle.requests.specs.Orders.{FloodAsked}
use Rattle.commands.specs.Floods.{flood_start, has_start_place, IsFar, FloodsText, RefusesFlooding, RefusesStart, verdict_of_place, flood_means}
use Rattle.commands.specs.Meanings.{file_in}
use Rattle.commands.specs.Outcomes.{Outcome}
use Rattle.commands.specs.Putting.{StopsAmong}
use Rattle.commands.specs.Refusals.{of_vox, of_flood}
use Rattle.commands.specs.Inputs.{vox_input}
use Rattle.commands.specs.Judging.{AgreesWith, FilesAreRead, IsJudged}
use Rattle.commands.specs.Judged.{models_once, models_computed, computed_is_some}
use Rattle.commands.specs.Verdicts.{Verdict, Fine, HasNoPlace, JudgesModels}
use Rattle.commands.proofs.Accepting.{not_accepted}
use Rattle.commands.proofs.Putting.{broken_off}

-- ---- places

not_true : (b : Bool) → (b ≡ true → ⊥) → b ≡ false
not_true true never = absurd (never refl)
not_true false never = refl

apart : (asked : FloodAsked) (m : Content) → IsModel m → IsFar asked
    → IsInBox (whole_box m.size) (flood_start asked) → ⊥
apart asked m model (inl x) i = (let f = i.x in let s = model.size.x in omega (arith, x, f.1, s.1))
apart asked m model (inr (inl y)) i =
    (let f = i.y in let s = model.size.y in omega (arith, y, f.1, s.1))
apart asked m model (inr (inr z)) i =
    (let f = i.z in let s = model.size.z in omega (arith, z, f.1, s.1))

far_of : (asked : FloodAsked) (m : Content) → IsModel m → IsFar asked
    → is_in_box (whole_box m.size) (flood_start asked) ≡ false
far_of asked m model far = not_true (is_in_box (whole_box m.size) (flood_start asked)) (λ inside.
    apart asked m model far (is_in_box_tells (whole_box m.size) (flood_start asked) inside))

pub far_place : (asked : FloodAsked) (models : List Content) → AreModels models → IsFar asked
    → has_start_place asked models ≡ false
far_place asked models are far = by (slice_get models asked.model) refl where
  by : (o : Option Content) → slice_get models asked.model ≡ o
      → has_start o (flood_start asked) ≡ false
  by None is = refl
  by (Some m) is =
      far_of asked m
      (subst IsModel (get_or_from_slice_get models asked.model m m is)
      (are.each asked.model m (slice_get_within models asked.model m is))) far

-- ---- refusals

pub flood_refused : (asked : FloodAsked) (models : List Content) (refused : FloodRefused)
    → RefusesFlood models asked.model (flood_start asked) refused
    → RefusesStart asked models (of_flood refused)
flood_refused asked models (floods.StoreFull full) says = says
flood_refused asked models floods.Memory says = tt

pub models_refused : (asked : FloodAsked) (bytes : List ℕ) (models : List Content)
    (refused : TextRefused) → ReadsModels bytes (Ok models) → RefusesStart asked models refused
    → RefusesFlooding asked bytes refused
models_refused asked bytes models NoPlace gives says =
    record { models = models; gives = gives; lacks = says }
models_refused asked bytes models (StoreFull full) gives says =
    record { models = models; gives = gives; fills = says }
models_refused asked bytes models Memory gives says = tt
models_refused asked bytes models _ gives says = absurd says

pub file_refused : (fault : VoxFault) (asked : FloodAsked) (bytes : List ℕ)
    → RefusesFile fault bytes → RefusesFlooding asked bytes (of_vox fault)
file_refused faults.Memory asked bytes says = tt
file_refused faults.NotVox asked bytes says = says
file_refused _ asked bytes says = says

-- ---- outcomes

abbrev pub region_output : FloodAsked → List ℕ → List Named
region_output asked file = record { name = asked.out; bytes = file } ∷ []

pub flooded : (asked : FloodAsked) (texts : List (List ℕ)) (number : ℕ) (file : List ℕ)
    (old mid new : ShelfState) → AreTaken old.files (vox_input asked.file ∷ []) texts
    → FloodsText asked (file_in texts) number file → mid.files ≡ old.files
    → old.faults ≤ mid.faults → AreWritten (region_output asked file) mid.files new.files
    → mid.faults ≤ new.faults
    → Outcome (flood_means asked) (Ok number) old new
flooded asked texts number file old mid new taken floods same grown whole more = record {
  texts = texts;
  taken = taken;
  outputs = region_output asked file;
  gives = record { file = file; floods = floods; are = refl };
  whole = subst (λ (f : Option Files). AreWritten (region_output asked file) f new.files) same
      whole;
  never_falls = omega (arith, grown, more);
}

pub flood_stopped : (asked : FloodAsked) (texts : List (List ℕ)) (number : ℕ) (file : List ℕ)
    (r : NamedOutputRefused) (old mid new : ShelfState)
    → AreTaken old.files (vox_input asked.file ∷ []) texts
    → FloodsText asked (file_in texts) number file → mid.files ≡ old.files
    → old.faults ≤ mid.faults → StopsAmong r (region_output asked file) mid new
    → Outcome (flood_means asked) (Err (Output r)) old new
flood_stopped asked texts number file r old mid new taken floods same grown stops =
    broken_off r (flood_means asked) texts (region_output asked file) old mid new taken
    (record {
      number = number;
      flooded = record { file = file; floods = floods; are = refl };
    })
    same grown stops

pub not_flooded : (asked : FloodAsked) (texts : List (List ℕ)) (r : TextRefused)
    (old new : ShelfState) → AreTaken old.files (vox_input asked.file ∷ []) texts
    → RefusesFlooding asked (file_in texts) r → new.files ≡ old.files → old.faults ≤ new.faults
    → Outcome (flood_means asked) (Err (Text r)) old new
not_flooded asked texts r old new taken says files faults =
    not_accepted (flood_means asked) r texts old new taken says files faults

-- ---- the verdict

abbrev judges_place : FloodAsked → List Content → Verdict → Type 0
judges_place asked models v = v ≡ verdict_of_place asked models

flooded_fine : (asked : FloodAsked) (models : List Content) (number : ℕ) (file : List ℕ)
    → FloodsModel models asked.model (flood_start asked) number file
    → verdict_of_place asked models ≡ Fine
flooded_fine asked models number file f =
    let is : is_in_box (whole_box f.model.size) (flood_start asked) ≡ true = f.inside in
    rw (f.there, is) refl

filled_fine : (asked : FloodAsked) (models : List Content) (full : Full)
    → MayFillStore models asked.model (flood_start asked) full
    → verdict_of_place asked models ≡ Fine
filled_fine asked models full f =
    let is : is_in_box (whole_box f.model.size) (flood_start asked) ≡ true = f.inside in
    rw (f.there, is) refl

place_lacks : (asked : FloodAsked) (models : List Content) → has_start_place asked models ≡ false
    → verdict_of_place asked models ≡ HasNoPlace
place_lacks asked models lacks = rw lacks refl

flood_refused_by : (asked : FloodAsked) (bytes : List ℕ) (r : TextRefused)
    → RefusesFlooding asked bytes r → AgreesWith (JudgesModels (judges_place asked) bytes) r
flood_refused_by asked bytes (Vox fault) says =
    record { reading = Err fault; says = says; judged = refl }
flood_refused_by asked bytes NoPlace says = record {
  reading = Ok says.models;
  says = says.gives;
  judged = sym (place_lacks asked says.models says.lacks);
}
flood_refused_by asked bytes (StoreFull full) says = record {
  reading = Ok says.models;
  says = says.gives;
  judged = sym (filled_fine asked says.models full says.fills);
}
flood_refused_by asked bytes Memory says = tt
flood_refused_by asked bytes _ says = absurd says

flood_computed : (asked : FloodAsked) (bytes : List ℕ) → FilesAreRead
    → (v : Verdict) × JudgesModels (judges_place asked) bytes v
flood_computed asked bytes readings =
    models_computed (judges_place asked) bytes readings
    (λ models says. (verdict_of_place asked models, refl))

pub flood_judged : (asked : FloodAsked) → IsJudged (flood_means asked)
flood_judged asked = record {
  one = λ texts v w of_v of_w.
      models_once (judges_place asked) (λ models a b of_a of_b. of_a ∙ sym of_b) (file_in texts) v
      w of_v of_w;
  given = λ texts number outputs g. record {
    reading = Ok g.floods.models;
    says = g.floods.gives;
    judged = sym (flooded_fine asked g.floods.models number g.file g.floods.floods);
  };
  begun = λ texts outputs b.
      let f = b.flooded in
      record {
        reading = Ok f.floods.models;
        says = f.floods.gives;
        judged = sym (flooded_fine asked f.floods.models b.number f.file f.floods.floods);
      };
  refused = λ texts r says. flood_refused_by asked (file_in texts) r says;
  some = λ readings texts none.
      computed_is_some (JudgesModels (judges_place asked) (file_in texts))
      (flood_computed asked (file_in texts) readings) none;
  computed = λ readings told texts. flood_computed asked (file_in texts) readings;
}
