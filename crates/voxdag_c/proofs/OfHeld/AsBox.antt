-- What is kept owns what a box at the same type owns.
use mir.Syntax.{impl, tnil, dnil}
use mathlib.Core.List.{[]}
use denote.Signature.{Slot, plain}
use Rattle.std_alloc.proofs.BoxSteps.Form.{Bx}
use Rattle.std_heap.specs.contracts.Global as Heap
use Rattle.std_heap.specs.contracts.GlobalAllocator.TheImpl.{ghosts, dict}
use Rattle.std_heap.proofs.Global.TheLaws as heap
use Rattle.voxdag_c.specs.contracts.held.worlds.CWorld as CWorld
use Rattle.voxdag_c.proofs.held.worlds.CWorld.TheLaws as world
use Rattle.voxdag_c.specs.contracts.held.parts.Parts as Parts
use Rattle.voxdag_c.specs.contracts.held.kept.WorldPtr as WorldPtr

abbrev pub E : Bx
E = record {
  row = CWorld.the_row;
  laws = world.the_row_laws;
  al =
      record { row = Heap.the_row; laws = heap.the_row_laws; g = ghosts; d = dict; drops = impl [] tnil dnil };
}

abbrev pub FromParts : Slot 0
FromParts = plain (λ _. Parts.the_row CWorld.the_row Heap.the_row ghosts)

abbrev pub FromKept : Slot 0
FromKept = plain (λ _. WorldPtr.the_row)
