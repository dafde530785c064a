-- What is judged of a command over told files, and what holds of every command.
use Rattle.std.specs.Prelude.{◌≡◌, ℕ, List, false, Result, Ok, Err, ⊤}
use Rattle.vw_io.specs.Outside.{Files}
use Rattle.vw_io.specs.Outputs.{Named}
use Rattle.vox_chunk.specs.declared.faults.VoxFault.{VoxFault}
use Rattle.vox_read.specs.Contents.{Content}
use Rattle.vox_read.specs.Files.{ReadsModels}
use Rattle.commands.specs.declared.refusals.CommandRefused.{CommandRefused}
use Rattle.commands.specs.declared.refusals.CommandRefused.TheVariants.{Input, Text, Output}
use Rattle.commands.specs.declared.refusals.TextRefused.{TextRefused}
use Rattle.commands.specs.declared.refusals.TextRefused.TheVariants.{Memory}
use Rattle.commands.specs.Meanings.{Meaning}
use Rattle.commands.specs.Verdicts.{Verdict, Fine, inputs_at, verdict_by, FollowsRead, FollowsText}

-- the first thing that is wrong: with the inputs, and then with their texts
abbrev pub JudgesInputs : (List (List ℕ) → Verdict → Type 0) → Result (List (List ℕ)) Verdict
    → Verdict → Type 0
JudgesInputs judges (Err early) v = v ≡ early
JudgesInputs judges (Ok texts) v = judges texts v

abbrev pub Judges : {T : Type 0} → Meaning T → Files → Verdict → Type 0
Judges m files v = JudgesInputs m.judges (inputs_at files m.inputs) v

-- the answer is the one of this verdict, or that the shelf failed, or want of memory; an output is
-- written where nothing is wrong alone
abbrev pub Follows : {T : Type 0} → Verdict → Result T CommandRefused → Type 0
Follows v (Ok x) = v ≡ Fine
Follows v (Err (Input r)) = FollowsRead v r.why r.name.now
Follows v (Err (Text r)) = FollowsText v r
Follows v (Err (Output r)) = v ≡ Fine

-- the refusal is by this judgement; want of memory says nothing
abbrev pub AgreesWith : (Verdict → Type 0) → TextRefused → Type 0
AgreesWith judges Memory = ⊤
AgreesWith judges r = judges (verdict_by r)

-- each file of bytes is read as models or has a first fault
abbrev pub FilesAreRead : Type 0
FilesAreRead = (bytes : List ℕ) → (says : Result (List Content) VoxFault) × ReadsModels bytes says

-- its texts have one verdict, by which they are given or refused, and by which outputs are begun;
-- none of them can be without one, and where no journal is read it is computed
pub record IsJudged {T : Type 0} (m : Meaning T) : Type 0 where
  pub one : (texts : List (List ℕ)) (v w : Verdict) → m.judges texts v → m.judges texts w → v ≡ w
  pub given : (texts : List (List ℕ)) (x : T) (outputs : List Named) → m.gives texts x outputs
      → m.judges texts Fine
  pub begun : (texts : List (List ℕ)) (outputs : List Named) → m.begins texts outputs
      → m.judges texts Fine
  pub refused : (texts : List (List ℕ)) (r : TextRefused) → m.refuses texts r
      → AgreesWith (m.judges texts) r
  pub some : FilesAreRead → (texts : List (List ℕ)) → ((v : Verdict) → m.judges texts v → ⊥) → ⊥
  pub computed : FilesAreRead → m.journal ≡ false → (texts : List (List ℕ))
      → (v : Verdict) × m.judges texts v
