-- What the system's errors are at the shelf and at the sink over it, and what its count of faults
-- does.
use Rattle.std.specs.Prelude.{ℕ, ◌+◌, ◌-◌, ◌^◌, ◌==◌, if◌then◌else◌, min, List, Option, None}
use Rattle.std.specs.declared.io.ErrorKind.{ErrorKind}
use Rattle.std.specs.declared.io.ErrorKind.TheVariants as kinds
use Rattle.vw_io.specs.declared.shelves.ReadRefused.{ReadRefused}
use Rattle.vw_io.specs.declared.shelves.ReadRefused.TheVariants.{Missing, TooLong, Failed, Memory}
use Rattle.vw_io.specs.declared.shelves.WriteRefused.{WriteRefused}
use Rattle.vw_io.specs.declared.shelves.WriteRefused.TheVariants as writes
use Rattle.vw_io.specs.declared.sinks.PutRefused.{PutRefused}
use Rattle.vw_io.specs.declared.sinks.PutRefused.TheVariants as puts
use Rattle.vw_io.specs.Outside.{Files}

-- an error where a file is opened, where it is read, where it is made, and where bytes are written
abbrev pub refusal_to_open : ErrorKind → ReadRefused
refusal_to_open kinds.NotFound = Missing
refusal_to_open kinds.OutOfMemory = Memory
refusal_to_open _ = Failed

abbrev pub refusal_to_read : ErrorKind → ReadRefused
refusal_to_read kinds.OutOfMemory = Memory
refusal_to_read _ = Failed

abbrev pub refusal_to_make : ErrorKind → WriteRefused
refusal_to_make kinds.OutOfMemory = writes.Memory
refusal_to_make _ = writes.Failed

abbrev pub refusal_to_write : ErrorKind → PutRefused
refusal_to_write kinds.OutOfMemory = puts.Memory
refusal_to_write _ = puts.Failed

-- the files of the system, and the bytes of its output, aren't told
abbrev pub no_files : Option Files
no_files = None

abbrev pub no_bytes : Option (List ℕ)
no_bytes = None

-- the last value of the count
abbrev pub most_faults : ℕ
most_faults = 2 ^ 64 - 1

-- what a refused read answers: where the count can't rise, `Missing` and `TooLong` are faults too
abbrev pub answer_of_read : ReadRefused → ℕ → ReadRefused
answer_of_read Missing faults = if faults == most_faults then Failed else Missing
answer_of_read TooLong faults = if faults == most_faults then Failed else TooLong
answer_of_read Failed faults = Failed
answer_of_read Memory faults = Memory

-- the count after a fault, after a refused read, after a refused write and after a refused put
abbrev pub one_more : ℕ → ℕ
one_more faults = min (faults + 1) most_faults

abbrev pub faults_after_read : ReadRefused → ℕ → ℕ
faults_after_read Failed faults = one_more faults
faults_after_read _ faults = faults

abbrev pub faults_after_write : WriteRefused → ℕ → ℕ
faults_after_write writes.Failed faults = one_more faults
faults_after_write writes.Memory faults = faults

abbrev pub faults_after_put : PutRefused → ℕ → ℕ
faults_after_put puts.Failed faults = one_more faults
faults_after_put puts.Memory faults = faults
