-- Which status must come.
use Rattle.std.proofs.Common.{◌≡◌, ℕ, inl, inr, ◌⊎◌, List, Option, Some, None, Ok, Err, sym, ap, subst}
use Rattle.vw_io.specs.Outside.{Files, Rose, SinkState, ShelfState, Outside}
use Rattle.vw_io.proofs.Written.{rose_since}
use Rattle.vw_io.specs.declared.shelves.ReadRefused.{ReadRefused}
use Rattle.vw_io.specs.declared.shelves.ReadRefused.TheVariants as reads
use Rattle.script_files.specs.Closed.{Closed}
use Rattle.commands.specs.declared.refusals.CommandRefused.TheVariants.{Input, Text, Output}
use Rattle.commands.specs.declared.refusals.NamedOutputRefused.{NamedOutputRefused}
use Rattle.commands.specs.declared.refusals.NamedOutputRefused.TheVariants as outputs
use Rattle.commands.specs.declared.refusals.TextRefused.{TextRefused}
use Rattle.commands.specs.declared.refusals.TextRefused.TheVariants.{StoreFull, Memory}
use Rattle.node_words.specs.declared.shares.Full.{Full}
use Rattle.requests.specs.declared.orders.Request.{Request}
use Rattle.script_files.specs.declared.tallies.Completed.{Completed}
use Rattle.script_files.specs.Commands.{meaning_of, judged_of}
use Rattle.commands.specs.Judging.{Follows}
use Rattle.commands.specs.Verdicts.{Verdict, Fine, FollowsRead, FollowsText}
use Rattle.commands.proofs.Following.{outcome_follows}
use Rattle.voxdag_top.specs.declared.endings.Ending.{Ending}
use Rattle.voxdag_top.specs.declared.endings.Ending.TheVariants.{Usage, Refused}
use Rattle.voxdag_top.specs.declared.endings.Ending.TheVariants as endings
use Rattle.voxdag_top.specs.Numbers.{Status, Misuse, FailedInput, FailedOutput, LackingMemory, FilledStore, IsOr}
use Rattle.voxdag_top.specs.Endings.{CommandEnds, EndsAs, EndsUnread, status_of, input_status, output_status, text_status}
use Rattle.voxdag_top.specs.Finishing.{Finishes, Runs, put, failed, lacking}
use Rattle.voxdag_top.specs.Promises.{Promises}
use Rattle.voxdag_top.specs.Verdicts.{JudgesWords, HasStore, MayCome, HasFailedShelf, status_for}
use Rattle.requests.specs.Words.{request_of}
use Rattle.voxdag_top.specs.Statuses.{InputTold, StatusSays, WriteFailed}
use Rattle.voxdag_top.proofs.StatusLaws.{run_says, said_at}

-- where the ending is this, its status comes, or 7 or 8
comes : (e : Ending) {result : ℕ} {old new : SinkState} → Finishes e old new result
    → IsOr (status_of e) result
comes e (inl (put is line)) = inl is
comes e (inl (failed is rose begun)) = inr (inl is)
comes e (inl (lacking is none)) = inr (inr is)
comes e (inr (may, put is line)) = inr (inr is)
comes e (inr (may, failed is rose begun)) = inr (inl is)
comes e (inr (may, lacking is none)) = inr (inr is)

-- want of memory may come in place of any status
memory_or : (s : Status) (result : ℕ) → IsOr LackingMemory result → IsOr s result
memory_or s result (inl is) = inr (inr is)
memory_or s result (inr (inl is)) = inr (inl is)
memory_or s result (inr (inr is)) = inr (inr is)

by_status : (s t : Status) (result : ℕ) → t ≡ s → IsOr t result → IsOr s result
by_status s t result same is = subst (λ (u : Status). IsOr u result) same is

by_verdict : (v w : Verdict) (result : ℕ) → v ≡ w → IsOr (status_for w) result
    → IsOr (status_for v) result
by_verdict v w result same is =
    by_status (status_for v) (status_for w) result (ap status_for (sym same)) is

-- the answer of the verdict has the verdict's status
abbrev pub EndFollows : Verdict → Ending → Type 0
EndFollows v (endings.Completed done) = v ≡ Fine
EndFollows v Usage = ⊥
EndFollows v (Refused r) = Follows {T = Completed} v (Err r)

-- a status that may come, or one of a shelf that failed
abbrev Comes : Option Request → Verdict → ℕ → Type 0
Comes a v result = MayCome a v result ⊎ HasFailedShelf v result

failed_input_or : (a : Option Request) (v : Verdict) (result : ℕ) → IsOr FailedInput result
    → Comes a v result
failed_input_or a v result (inl is) = inr (inl is)
failed_input_or a v result (inr other) = inl (inl (inr other))

failed_output_or : (a : Option Request) (v : Verdict) (result : ℕ) → v ≡ Fine
    → IsOr FailedOutput result → Comes a v result
failed_output_or a v result fine (inl is) = inr (inr (fine, is))
failed_output_or a v result fine (inr other) = inl (inl (inr other))

read_status : (a : Option Request) (v : Verdict) (why : ReadRefused) (name : List ℕ) (result : ℕ)
    → FollowsRead v why name → IsOr (input_status why) result → Comes a v result
read_status a v reads.Missing name result follows is = inl (inl (by_verdict v _ result follows is))
read_status a v reads.TooLong name result follows is = inl (inl (by_verdict v _ result follows is))
read_status a v reads.Failed name result follows is = failed_input_or a v result is
read_status a v reads.Memory name result follows is =
    inl (inl (memory_or (status_for v) result is))

write_status : (a : Option Request) (v : Verdict) (r : NamedOutputRefused) (result : ℕ) → v ≡ Fine
    → IsOr (output_status r) result → Comes a v result
write_status a v (outputs.Failed line) result fine is = failed_output_or a v result fine is
write_status a v outputs.Memory result fine is =
    inl (inl (memory_or (status_for v) result is))

-- of a command with a store of its own alone
filled_has_store : (a : Option Request) (full : Full) (old new : ShelfState)
    → EndsAs a (Refused (Text (StoreFull full))) old new → HasStore a
filled_has_store None full old new ends = absurd ends.0
filled_has_store (Some a) full old new ends = (ends.0.texts, full, ends.0.says)

filled_or : (a : Option Request) (v : Verdict) (result : ℕ) → HasStore a → v ≡ Fine
    → IsOr FilledStore result → MayCome a v result
filled_or a v result store fine (inl is) = inr (store, fine, is)
filled_or a v result store fine (inr other) = inl (inr other)

text_comes : (a : Option Request) (v : Verdict) (r : TextRefused) (result : ℕ)
    (old new : ShelfState) → EndsAs a (Refused (Text r)) old new → FollowsText v r
    → IsOr (text_status r) result → MayCome a v result
text_comes a v (StoreFull full) result old new ends follows is =
    filled_or a v result (filled_has_store a full old new ends) follows is
text_comes a v Memory result old new ends follows is =
    inl (memory_or (status_for v) result is)
text_comes a v _ result old new ends follows is = inl (by_verdict v _ result follows is)

status_follows : (a : Option Request) (v : Verdict) (e : Ending) (result : ℕ)
    (old new : ShelfState) → EndsAs a e old new → EndFollows v e → IsOr (status_of e) result
    → Comes a v result
status_follows a v (endings.Completed done) result old new ends follows is =
    inl (inl (by_verdict v Fine result follows is))
status_follows a v Usage result old new ends follows is = absurd follows
status_follows a v (Refused (Input r)) result old new ends follows is =
    read_status a v r.why r.name.now result follows is
status_follows a v (Refused (Text r)) result old new ends follows is =
    inl (text_comes a v r result old new ends follows is)
status_follows a v (Refused (Output r)) result old new ends follows is =
    write_status a v r result follows is

command_follows : (a : Request) (e : Ending) (old new : ShelfState) (files : Files) (v : Verdict)
    → CommandEnds e a old new → old.files ≡ Some files → JudgesWords (Some a) files v
    → EndFollows v e
command_follows a (endings.Completed c) old new files v ends told judges =
    outcome_follows (meaning_of a) (judged_of a) (Ok c) old new ends files v told judges
command_follows a Usage old new files v ends told judges = absurd ends
command_follows a (Refused r) old new files v ends told judges =
    outcome_follows (meaning_of a) (judged_of a) (Err r) old new ends files v told judges

end_follows : (a : Option Request) (e : Ending) (old new : ShelfState) (files : Files) (v : Verdict)
    → EndsAs a e old new → old.files ≡ Some files → JudgesWords a files v → EndFollows v e
end_follows None e old new files v ends told judges = absurd judges
end_follows (Some a) e old new files v ends told judges =
    command_follows a e old new files v ends told judges

comes_by : (a : Option Request) (old new : Outside) (result : ℕ) (left : Option Closed)
    → Runs a old new result left → (files : Files) (v : Verdict) → old.shelf.files ≡ Some files
    → JudgesWords a files v → Comes a v result
comes_by a old new result left run files v told judges =
    status_follows a v run.ending result old.shelf new.shelf run.ends
    (end_follows a run.ending old.shelf new.shelf files v run.ends told judges)
    (comes run.ending run.finish)

-- words outside the grammar end in their status, or in that of want of memory
unread_comes : (e : Ending) (result : ℕ) → EndsUnread e → IsOr (status_of e) result
    → IsOr Misuse result
unread_comes Usage result ends is = is
unread_comes (Refused (Text Memory)) result ends is = memory_or Misuse result is
unread_comes _ result ends is = absurd ends

usage_at : (a : Option Request) (e : Ending) (old new : ShelfState) (result : ℕ)
    → EndsAs a e old new → IsOr (status_of e) result → a ≡ None → IsOr Misuse result
usage_at None e old new result ends is none = unread_comes e result ends.0 is
usage_at (Some a) e old new result ends is none = absurd (let no : ⊥ = cc in no)

pub promises : (words : List (List ℕ)) (old new : Outside) (result : ℕ) (left : Option Closed)
    → Runs (request_of words) old new result left → Promises words left old new result
promises words old new result left run = record {
  says = run_says (request_of words) old new result left run;
  usage_comes =
      usage_at (request_of words) run.ending old.shelf new.shelf result run.ends
      (comes run.ending run.finish);
  comes = comes_by (request_of words) old new result left run;
}

-- ---- over a shelf that doesn't fail

input_calm : (a : Option Request) (old new : Outside) → InputTold reads.Failed a old new
    → Rose old.shelf.faults new.shelf.faults
input_calm None old new told = absurd told.stops
input_calm (Some a) old new told =
    rose_since old.shelf.faults told.stops.at_read new.shelf.faults told.stops.before
    told.stops.cause

output_calm : (a : Option Request) (old new : Outside) → WriteFailed a old new
    → Rose old.shelf.faults new.shelf.faults
output_calm None old new told = absurd told.breaks
output_calm (Some a) old new told = told.breaks.stops.1

failed_calm : (a : Option Request) (left : Option Closed) (old new : Outside) (v : Verdict) (n : ℕ)
    → StatusSays n a left old new → HasFailedShelf v n → Rose old.shelf.faults new.shelf.faults
failed_calm a left old new v n says (inl is) =
    input_calm a old new (said_at n a left old new says FailedInput is)
failed_calm a left old new v n says (inr is) =
    output_calm a old new (said_at n a left old new says FailedOutput is.1)

calm_by : (a : Option Request) (v : Verdict) (n : ℕ) → (HasFailedShelf v n → ⊥) → Comes a v n
    → MayCome a v n
calm_by a v n calm (inl may) = may
calm_by a v n calm (inr fell) = absurd (calm fell)

-- the status of the verdict comes where the count of faults doesn't rise
pub calm_comes : (words : List (List ℕ)) (left : Option Closed) (old new : Outside) (n : ℕ)
    → Promises words left old new n → (files : Files) (v : Verdict)
    → old.shelf.files ≡ Some files → (Rose old.shelf.faults new.shelf.faults → ⊥)
    → JudgesWords (request_of words) files v → MayCome (request_of words) v n
calm_comes words left old new n promised files v told calm judges =
    calm_by (request_of words) v n
    (λ fell. calm (failed_calm (request_of words) left old new v n promised.says fell))
    (promised.comes files v told judges)
