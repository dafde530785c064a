-- What a pointer to a file that C keeps owns.
use Rattle.std.specs.Prelude.{Option, None, Some}
use base.Fml.{Fml, ftrue}
use denote.RawPtr.{Ptr}
use Rattle.std.specs.Box.Ownership.{box_owns}
use Rattle.std.specs.Global.{Global}
use Rattle.std.specs.Coded.{Coded, coded_option}
use Rattle.std_heap.specs.contracts.GlobalAllocator.TheImpl.{ghosts}
use Rattle.voxdag_c.specs.contracts.held.files.CFile.{the_row}

-- what a box of a file owns where there is one, and else nothing
abbrev pub file_owns : Global → Ptr → Option the_row.Denot → Fml
file_owns alloc p None = ftrue
file_owns alloc p (Some x) = box_owns (ghosts.dealloc_token alloc) the_row p x

-- how the proofs tell such values apart
abbrev pub file_coded : Coded (Option the_row.Denot)
file_coded = coded_option the_row.coded
