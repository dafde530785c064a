-- What a pointer that C keeps owns.
use Rattle.std.specs.Prelude.{Option, None, Some}
use base.Fml.{Fml, ftrue}
use denote.RawPtr.{Ptr}
use Rattle.std.specs.Box.Ownership.{box_owns}
use Rattle.std.specs.Global.{Global}
use Rattle.std.specs.Coded.{Coded, coded_option}
use Rattle.std_heap.specs.contracts.GlobalAllocator.TheImpl.{ghosts}
use Rattle.voxdag_c.specs.contracts.held.worlds.CWorld.{the_row}

-- what a box of the world owns where there is a world, and else nothing
abbrev pub ptr_owns : Global → Ptr → Option the_row.Denot → Fml
ptr_owns alloc p None = ftrue
ptr_owns alloc p (Some x) = box_owns (ghosts.dealloc_token alloc) the_row p x

-- how the proofs tell such values apart
abbrev pub ptr_coded : Coded (Option the_row.Denot)
ptr_coded = coded_option the_row.coded
