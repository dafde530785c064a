-- Every command ends by its verdict, unless the shelf fails.
use Rattle.std.proofs.Common.{◌≡◌, ℕ, ◌<◌, false, List, [], ◌∷◌, ◌++◌, length, Option, Some, None, Result, Ok, Err, refl, sym, ap, subst, ◌∙◌}
use Rattle.std.specs.Prelude.{IsSomeAnd}
use Rattle.std.proofs.lemmas.Bool.{lt-ltb, le-ltb}
use Rattle.vw_io.specs.Outside.{Files, ShelfState}
use Rattle.vw_io.specs.Inputs.{WantedInput, Taken, AreTaken, StopsAt}
use Rattle.vw_io.specs.declared.shelves.ReadRefused.{ReadRefused}
use Rattle.vw_io.specs.declared.shelves.ReadRefused.TheVariants.{Missing, TooLong, Failed, Memory}
use Rattle.commands.specs.declared.refusals.CommandRefused.{CommandRefused}
use Rattle.commands.specs.declared.refusals.CommandRefused.TheVariants as refusals
use Rattle.commands.specs.declared.refusals.TextRefused.{TextRefused}
use Rattle.commands.specs.declared.refusals.TextRefused.TheVariants as texts
use Rattle.commands.specs.Judging.{JudgesInputs, Judges, Follows, FilesAreRead, IsJudged}
use Rattle.commands.specs.Meanings.{Meaning}
use Rattle.commands.specs.Outcomes.{RefusesFiles, Outcome}
use Rattle.commands.specs.Verdicts.{Verdict, Fine, LacksInput, InputIsLong, input_within, inputs_at, verdict_by, FollowsRead, FollowsText}

-- ---- the inputs, one after the other

taken_at : (files : Files) (input : WantedInput) (bytes : List ℕ) → Taken (Some files) input bytes
    → input_within input (files input.name) ≡ Ok bytes
taken_at files input bytes taken =
    rw (taken.is_file, le-ltb input.limit (length bytes) taken.within) refl

all_taken : (files : Files) (inputs : List WantedInput) (texts : List (List ℕ))
    → AreTaken (Some files) inputs texts → inputs_at files inputs ≡ Ok texts
all_taken files [] [] taken = refl
all_taken files [] (text ∷ texts) taken = absurd taken
all_taken files (input ∷ inputs) [] taken = absurd taken
all_taken files (input ∷ inputs) (text ∷ texts) taken =
    rw (taken_at files input text taken.0, all_taken files inputs texts taken.1) refl

stops_after : (files : Files) (before after : List WantedInput) (input : WantedInput)
    (texts : List (List ℕ)) (v : Verdict) → AreTaken (Some files) before texts
    → input_within input (files input.name) ≡ Err v
    → inputs_at files (before ++ input ∷ after) ≡ Err v
stops_after files [] after input [] v taken stops = rw stops refl
stops_after files [] after input (text ∷ texts) v taken stops = absurd taken
stops_after files (first ∷ before) after input [] v taken stops = absurd taken
stops_after files (first ∷ before) after input (text ∷ texts) v taken stops =
    rw (
      taken_at files first text taken.0,
      stops_after files before after input texts v taken.1 stops,
    )
    refl

lacking_at : (input : WantedInput) (found : Option (List ℕ)) → found ≡ None
    → input_within input found ≡ Err (LacksInput input.name)
lacking_at input found is = rw is refl

long_at : (input : WantedInput) (found : Option (List ℕ))
    → IsSomeAnd found (λ bytes. input.limit < length bytes)
    → input_within input found ≡ Err (InputIsLong input.name)
long_at input None over = absurd over
long_at input (Some bytes) over = rw (lt-ltb input.limit (length bytes) over) refl

by_stop : (judges : List (List ℕ) → Verdict → Type 0) (files : Files) (inputs : List WantedInput)
    (why : ReadRefused) (name : List ℕ) (faults risen : ℕ) (v w : Verdict)
    → (stops : StopsAt why name inputs (Some files) faults risen)
    → input_within stops.input (files stops.input.name) ≡ Err w
    → JudgesInputs judges (inputs_at files inputs) v → v ≡ w
by_stop judges files inputs why name faults risen v w stops is judged =
    let at : inputs_at files inputs ≡ Err w =
    ap (λ is. inputs_at files is) stops.reached.parts
    ∙ stops_after files stops.reached.before stops.reached.after stops.input
    stops.reached.texts w stops.reached.taken is in
    subst (λ r. JudgesInputs judges r v) at judged

read_follows : (why : ReadRefused) (name : List ℕ) (judges : List (List ℕ) → Verdict → Type 0)
    (files : Files) (inputs : List WantedInput) (faults risen : ℕ) (v : Verdict)
    → StopsAt why name inputs (Some files) faults risen
    → JudgesInputs judges (inputs_at files inputs) v → FollowsRead v why name
read_follows Missing name judges files inputs faults risen v stops judged =
    by_stop judges files inputs Missing name faults risen v (LacksInput stops.input.name) stops
    (lacking_at stops.input (files stops.input.name) stops.cause.0) judged
    ∙ ap LacksInput (sym stops.named)
read_follows TooLong name judges files inputs faults risen v stops judged =
    by_stop judges files inputs TooLong name faults risen v (InputIsLong stops.input.name) stops
    (long_at stops.input (files stops.input.name) stops.cause.0) judged
    ∙ ap InputIsLong (sym stops.named)
read_follows Failed name judges files inputs faults risen v stops judged = tt
read_follows Memory name judges files inputs faults risen v stops judged = tt

-- ---- the texts

text_follows : {T : Type 0} (m : Meaning T) → IsJudged m → (r : TextRefused) (files : Files)
    (v : Verdict) → RefusesFiles r m.inputs m.refuses (Some files) → Judges m files v
    → FollowsText v r
text_follows m laws texts.Memory files v refuses judges = tt
text_follows m laws r files v refuses judges =
    laws.one refuses.texts v (verdict_by r)
    (subst (λ read. JudgesInputs m.judges read v)
    (all_taken files m.inputs refuses.texts refuses.taken) judges)
    (laws.refused refuses.texts r refuses.says)

follows_told : {T : Type 0} (m : Meaning T) → IsJudged m → (r : Result T CommandRefused)
    (files : Files) (faults : ℕ) (new : ShelfState) (v : Verdict)
    → Outcome m r (record { files = Some files; faults = faults }) new → Judges m files v
    → Follows v r
follows_told m laws (Ok x) files faults new v outcome judges =
    laws.one outcome.texts v Fine
    (subst (λ read. JudgesInputs m.judges read v)
    (all_taken files m.inputs outcome.texts outcome.taken) judges)
    (laws.given outcome.texts x outcome.outputs outcome.gives)
follows_told m laws (Err (refusals.Input r)) files faults new v outcome judges =
    read_follows r.why r.name.now m.judges files m.inputs faults new.faults v outcome.0 judges
follows_told m laws (Err (refusals.Text r)) files faults new v outcome judges =
    text_follows m laws r files v outcome.0 judges
follows_told m laws (Err (refusals.Output r)) files faults new v outcome judges =
    let breaks = outcome.breaks in
    laws.one breaks.texts v Fine
    (subst (λ read. JudgesInputs m.judges read v)
    (all_taken files m.inputs breaks.texts breaks.taken) judges)
    (laws.begun breaks.texts breaks.outputs breaks.begun)

pub outcome_follows : {T : Type 0} (m : Meaning T) → IsJudged m → (r : Result T CommandRefused)
    (old new : ShelfState) → Outcome m r old new → (files : Files) (v : Verdict)
    → old.files ≡ Some files → Judges m files v → Follows v r
outcome_follows m laws r old new outcome files v told judges =
    follows_told m laws r files old.faults new v
    (subst (λ (f : Option Files). Outcome m r
    (record { files = f; faults = old.faults }) new) told outcome) judges

-- ---- there is one verdict

inputs_once : {T : Type 0} (m : Meaning T) → IsJudged m → (read : Result (List (List ℕ)) Verdict)
    (v w : Verdict) → JudgesInputs m.judges read v → JudgesInputs m.judges read w → v ≡ w
inputs_once m laws (Err early) v w of_v of_w = of_v ∙ sym of_w
inputs_once m laws (Ok texts) v w of_v of_w = laws.one texts v w of_v of_w

pub judged_once : {T : Type 0} (m : Meaning T) → IsJudged m → (files : Files) (v w : Verdict)
    → Judges m files v → Judges m files w → v ≡ w
judged_once m laws files v w of_v of_w =
    inputs_once m laws (inputs_at files m.inputs) v w of_v of_w

inputs_computed : {T : Type 0} (m : Meaning T) → IsJudged m → FilesAreRead → m.journal ≡ false
    → (read : Result (List (List ℕ)) Verdict) → (v : Verdict) × JudgesInputs m.judges read v
inputs_computed m laws readings none (Err early) = (early, refl)
inputs_computed m laws readings none (Ok texts) = laws.computed readings none texts

pub judged_some : {T : Type 0} (m : Meaning T) → IsJudged m → FilesAreRead → (files : Files)
    → m.journal ≡ false → (v : Verdict) × Judges m files v
judged_some m laws readings files none =
    inputs_computed m laws readings none (inputs_at files m.inputs)

inputs_not_lacking : {T : Type 0} (m : Meaning T) → IsJudged m → FilesAreRead
    → (read : Result (List (List ℕ)) Verdict)
    → ((v : Verdict) → JudgesInputs m.judges read v → ⊥) → ⊥
inputs_not_lacking m laws readings (Err early) none = none early refl
inputs_not_lacking m laws readings (Ok texts) none = laws.some readings texts none

pub not_without : {T : Type 0} (m : Meaning T) → IsJudged m → FilesAreRead → (files : Files)
    → ((v : Verdict) → Judges m files v → ⊥) → ⊥
not_without m laws readings files none =
    inputs_not_lacking m laws readings (inputs_at files m.inputs) none
