use Rattle.std.proofs.Common.{ap, List, ◌∷◌, ℕ}
use Rattle.plain_text.specs.Parts.{lines}
use Rattle.history_model.specs.Journal.{header}
use Rattle.history_model.proofs.TakingLaws.{side_begun, side_tail}
use Rattle.history_model.proofs.reading.read_second.Goals as goal

pub returns-in-Some-read_side-clause-read : goal.returns-in-Some-read_side-clause-read
returns-in-Some-read_side-clause-read c = (
  c.in-Some-read_side.ensures.0,
  side_begun c.args.coloured _
      (lines c.in-Some.rest.now) c.in-Some.second.now c.in-Some-read_side.side
      (ap (λ (ls : List
      (List ℕ)). header c.args.coloured ∷ ls) c.in-Some.ensures.lines) c.in-Some-read_side.ensures.1,
)

pub returns-in_default-clause-refused : goal.returns-in_default-clause-refused
returns-in_default-clause-refused c =
    side_tail c.args.coloured _ c.args.bytes.now
    (ap (λ (ls : List (List ℕ)). header c.args.coloured ∷ ls) c.in_default.ensures.lines)
