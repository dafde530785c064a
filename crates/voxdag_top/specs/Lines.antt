-- The line that each ending puts on the output.
use Rattle.std.specs.Prelude.{◌≡◌, ℕ, ◌+◌, List, [], ◌∷◌, ◌++◌, Bool, if◌then◌else◌, Option, Some, None, codes, string_bytes}
use Rattle.std.specs.Fmt.{decimal}
use Rattle.vw_io.specs.Put.{AppendsPrefix}
use Rattle.vw_io.specs.declared.shelves.ReadRefused.{ReadRefused}
use Rattle.vw_io.specs.declared.shelves.ReadRefused.TheVariants as reads
use Rattle.commands.specs.declared.refusals.NamedOutputRefused.{NamedOutputRefused}
use Rattle.commands.specs.declared.refusals.NamedOutputRefused.TheVariants as outputs
use Rattle.script_files.specs.declared.tallies.Done.{Done}
use Rattle.script_files.specs.declared.tallies.Done.TheVariants.{Written, Counted, Ran, Shown, Placed, Looked, Answered}
use Rattle.transcript.specs.declared.answers.Answer.{Answer}
use Rattle.transcript.specs.Lines.{answer_text}
use Rattle.script_files.specs.declared.tallies.Tally.{Tally}
use Rattle.script_files.specs.declared.tallies.LoadTally.{LoadTally}
use Rattle.commands.specs.declared.scene_files.SceneTally.{SceneTally}

abbrev pub count_line : ℕ → List ℕ
count_line n = decimal n ++ codes "\n"

-- the numbers of a run
abbrev pub run_line : Tally → List ℕ
run_line t =
    codes "scripts " ++ (decimal t.scripts ++ (codes " records " ++ (decimal t.records
    ++ (codes " marks " ++ (decimal t.marks ++ (codes " nodes " ++ (decimal t.nodes
    ++ codes "\n")))))))

abbrev pub usage_line : List ℕ
usage_line = codes "voxdag: usage\n"

abbrev pub missing_line : List ℕ → List ℕ
missing_line name = codes "voxdag: missing " ++ (name ++ codes "\n")

abbrev pub read_fault_line : List ℕ → List ℕ
read_fault_line name = codes "voxdag: read fault " ++ (name ++ codes "\n")

abbrev pub vox_line : ℕ → ℕ → List ℕ
vox_line kind at =
    codes "voxdag: vox " ++ (decimal kind ++ (codes " " ++ (decimal at ++ codes "\n")))

-- scripts are counted from 0
abbrev pub script_line : ℕ → ℕ → ℕ → List ℕ
script_line script line kind =
    codes "voxdag: script " ++ (decimal script ++ (codes " " ++ (decimal line
    ++ (codes " " ++ (decimal kind ++ codes "\n")))))

-- a position in the file, or the id of a node
abbrev pub scene_line : ℕ → ℕ → List ℕ
scene_line kind at =
    codes "voxdag: scene " ++ (decimal kind ++ (codes " " ++ (decimal at ++ codes "\n")))

abbrev pub no_place_line : List ℕ
no_place_line = codes "voxdag: no place\n"

abbrev pub full_line : ℕ → ℕ → List ℕ
full_line level bucket =
    codes "voxdag: full " ++ (decimal level ++ (codes " " ++ (decimal bucket ++ codes "\n")))

abbrev pub journal_line : ℕ → List ℕ
journal_line line = codes "voxdag: journal " ++ (decimal line ++ codes "\n")

-- transcripts are counted from 0, as their scripts
abbrev pub transcript_line : ℕ → ℕ → List ℕ
transcript_line script line =
    codes "voxdag: transcript " ++ (decimal script ++ (codes " " ++ (decimal line ++ codes "\n")))

-- a place of a file of many versions
abbrev pub dag_line : ℕ → List ℕ
dag_line at = codes "voxdag: dag " ++ (decimal at ++ codes "\n")

abbrev pub too_long_line : List ℕ → List ℕ
too_long_line name = codes "voxdag: too long " ++ (name ++ codes "\n")

abbrev pub memory_line : List ℕ
memory_line = codes "voxdag: memory\n"

-- the line of an input that was not taken
abbrev pub input_line : ReadRefused → List ℕ → List ℕ
input_line reads.Missing name = missing_line name
input_line reads.TooLong name = too_long_line name
input_line reads.Failed name = read_fault_line name
input_line reads.Memory name = memory_line

-- the refusal of an output holds the line of a fault
abbrev pub output_line : NamedOutputRefused → List ℕ
output_line (outputs.Failed line) = string_bytes line
output_line outputs.Memory = memory_line

-- the lines of a load's run: its number, its records, and each region's count, from this one on
abbrev pub region_lines : ℕ → List ℕ → List ℕ
region_lines region [] = []
region_lines region (cells ∷ others) =
    codes "region " ++ (decimal region ++ (codes " count " ++ (decimal cells ++ (codes "\n"
    ++ region_lines (region + 1) others))))

abbrev pub demo_lines : LoadTally → List ℕ
demo_lines t =
    codes "demo " ++ (decimal t.number ++ (codes "\nrecords " ++ (decimal t.records
    ++ (codes "\n" ++ region_lines 0 t.counts))))

abbrev pub placed_line : SceneTally → List ℕ
placed_line t =
    codes "side " ++ (decimal t.side ++ (codes " placements " ++ (decimal t.placements
    ++ codes "\n")))

abbrev pub answer_line : Bool → List ℕ
answer_line answer = if answer then codes "yes\n" else codes "no\n"

-- the words of an answer, as a transcript has them
abbrev pub looked_line : Answer → List ℕ
looked_line answer = answer_text answer ++ codes "\n"

-- the line of a command that came to its end, or its lines, or none
abbrev pub done_line : Done → List ℕ
done_line (Counted number) = count_line number
done_line (Ran tally) = run_line tally
done_line (Shown told) = demo_lines told
done_line (Placed told) = placed_line told
done_line (Looked answer) = looked_line answer
done_line Written = []
done_line (Answered answer) = answer_line answer

-- the line was appended to what was put before, where the output tells that
abbrev pub Puts : Option (List ℕ) → Option (List ℕ) → List ℕ → Type 0
Puts None now line = now ≡ None
Puts (Some before) now line = now ≡ Some (before ++ line)

-- some first bytes of the line were appended, where the output tells that
abbrev pub PutsBeginning : Option (List ℕ) → Option (List ℕ) → List ℕ → Type 0
PutsBeginning None now line = now ≡ None
PutsBeginning (Some before) None line = ⊥
PutsBeginning (Some before) (Some now) line = AppendsPrefix before line now
