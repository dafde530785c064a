-- What is kept crosses to another thread as a box does.
use Rattle.std.specs.Prelude.{Option, None, Some}
use mir.Raw.{raw}
use base.Shift.{Keyless}
use denote.Memory.{lone}
use denote.RawPtr.{Ptr}
use denote.Struct.Struct.{exits_of}
use denote.Struct.Owning.{shape, fields, to}
use denote.Param.Send.{IsSend, AllSend, owning_send, struct_send, sendable}
use Rattle.std.specs.Global.{Global}
use Rattle.std.proofs.Crossing as heap
use Rattle.std_alloc.proofs.SendSync.{quiet, lies}
use Rattle.std_heap.proofs.Global.TheSendSync as handle
use Rattle.voxdag_c.specs.held.Owned.{ptr_owns}
use Rattle.voxdag_c.specs.contracts.held.worlds.CWorld as CWorld
use Rattle.voxdag_c.proofs.held.worlds.CWorld.TheSendSync.{the_send as world}
use Rattle.voxdag_c.specs.contracts.held.kept.WorldPtr.{the_row, the_type}

keyless : (a : Global) (p : Ptr) (v : Option CWorld.the_row.Denot) → Keyless (ptr_owns a p v)
keyless a p None = tt
keyless a p (Some x) =
    (lies CWorld.the_row world p x, heap.frees.frees a (raw (lone CWorld.the_row.mir)) p)

pub send : IsSend the_row
send =
    let all : AllSend (fields the_type) = (search sendable, (handle.the_field_send, tt)) in
    owning_send the_type all (λ d. keyless d.alloc d.at d.value)
    (λ k. quiet (to the_type) (exits_of k (fields the_type))
    ((struct_send (shape the_type) all).leaving k))
