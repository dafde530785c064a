-- What is kept of a file owns what a box at the same type owns.
use mir.Syntax.{impl, tnil, dnil}
use mathlib.Core.List.{[]}
use denote.Signature.{Slot, plain}
use Rattle.std_alloc.proofs.BoxSteps.Form.{Bx}
use Rattle.std_heap.specs.contracts.Global as Heap
use Rattle.std_heap.specs.contracts.GlobalAllocator.TheImpl.{ghosts, dict}
use Rattle.std_heap.proofs.Global.TheLaws as heap
use Rattle.voxdag_c.specs.contracts.held.files.CFile as CFile
use Rattle.voxdag_c.proofs.held.files.CFile.TheLaws as file
use Rattle.voxdag_c.specs.contracts.held.parts.Parts as Parts
use Rattle.voxdag_c.specs.contracts.held.file_ptr.FilePtr as FilePtr

abbrev pub E : Bx
E = record {
  row = CFile.the_row;
  laws = file.the_row_laws;
  al =
      record { row = Heap.the_row; laws = heap.the_row_laws; g = ghosts; d = dict; drops = impl [] tnil dnil };
}

abbrev pub FromParts : Slot 0
FromParts = plain (λ _. Parts.the_row CFile.the_row Heap.the_row ghosts)

abbrev pub FromKept : Slot 0
FromKept = plain (λ _. FilePtr.the_row)
