-- A part, told by whether it is the flag, and by the option and the text that its words give.
use Rattle.std.specs.Prelude.{ℕ, Bool, true, false, List, Option, Some, None}
use Rattle.requests.specs.command_line.Parts.{Part, Operand, Gives, Colours, NoPart}

abbrev pub part_of_texts : Bool → Option (List ℕ) → Option (List ℕ) → Part
part_of_texts true option text = Colours
part_of_texts false option None = NoPart
part_of_texts false None (Some text) = Operand text
part_of_texts false (Some option) (Some text) = Gives option text
