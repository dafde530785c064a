-- What is kept crosses to another thread as a box does.
use Rattle.std.specs.Prelude.{Option, None, Some}
use mir.Raw.{raw}
use base.Shift.{Keyless}
use denote.Memory.{lone}
use denote.RawPtr.{Ptr}
use denote.Struct.Struct.{exits_of}
use denote.Struct.Owning.{shape, fields, to}
use denote.Param.Send.{IsSend, AllSend, owning_send, struct_send, sendable}
use Rattle.std.specs.Global.{Global}
use Rattle.std.proofs.Crossing as heap
use Rattle.std_alloc.proofs.SendSync.{quiet, lies}
use Rattle.std_heap.proofs.Global.TheSendSync as handle
use Rattle.voxdag_c.specs.held.OwnedFiles.{file_owns}
use Rattle.voxdag_c.specs.contracts.held.files.CFile as CFile
use Rattle.voxdag_c.proofs.held.files.CFile.TheSendSync.{the_send as file}
use Rattle.voxdag_c.specs.contracts.held.file_ptr.FilePtr.{the_row, the_type}

keyless : (a : Global) (p : Ptr) (v : Option CFile.the_row.Denot) → Keyless (file_owns a p v)
keyless a p None = tt
keyless a p (Some x) =
    (lies CFile.the_row file p x, heap.frees.frees a (raw (lone CFile.the_row.mir)) p)

pub send : IsSend the_row
send =
    let all : AllSend (fields the_type) = (search sendable, (handle.the_field_send, tt)) in
    owning_send the_type all (λ d. keyless d.alloc d.at d.value)
    (λ k. quiet (to the_type) (exits_of k (fields the_type))
    ((struct_send (shape the_type) all).leaving k))
