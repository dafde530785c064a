-- What commands read.
use Rattle.std.specs.Prelude.{ℕ, ◌^◌, ◌++◌, ◌∷◌, List, map, codes}
use Rattle.vw_io.specs.Inputs.{WantedInput}
use Rattle.requests.specs.Orders.{AuditAsked}

-- the most bytes of a VOX file or a file of many versions, and of any other input
abbrev pub vox_limit : ℕ
vox_limit = 2 ^ 28

abbrev pub script_limit : ℕ
script_limit = 2 ^ 23

abbrev pub script_input : List ℕ → WantedInput
script_input name = record { name = name; limit = script_limit }

-- a transcript's name is its script's with `.out` behind it
abbrev pub transcript_name : List ℕ → List ℕ
transcript_name script = script ++ codes ".out"

-- a VOX file, or a file of many versions
abbrev pub vox_input : List ℕ → WantedInput
vox_input name = record { name = name; limit = vox_limit }

-- what an audit reads: the journal behind the VOX file, then the scripts, then their transcripts
abbrev pub audit_inputs : AuditAsked → List WantedInput
audit_inputs asked =
    vox_input asked.file ∷ script_input asked.journal
    ∷ (map script_input asked.scripts ++ map script_input (map transcript_name asked.scripts))
