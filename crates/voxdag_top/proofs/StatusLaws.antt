-- What each status says, by the case of the ending and of the put of its line.
use Rattle.std.proofs.Common.{◌≡◌, ℕ, zero, suc, ap, inl, inr, List, [], ◌∷◌, Option, Some, None, refl, sym, subst, ◌∙◌}
use Rattle.std.specs.List.{slice_get}
use Rattle.vw_io.specs.Outside.{Outside}
use Rattle.vw_io.specs.Inputs.{StopsAt}
use Rattle.vw_io.specs.declared.inputs.InputRefused.{InputRefused}
use Rattle.vw_io.specs.declared.shelves.ReadRefused.{ReadRefused}
use Rattle.vw_io.specs.declared.shelves.ReadRefused.TheVariants as reads
use Rattle.commands.specs.declared.refusals.CommandRefused.TheVariants.{Input, Text, Output}
use Rattle.commands.specs.declared.refusals.NamedOutputRefused.{NamedOutputRefused}
use Rattle.commands.specs.declared.refusals.NamedOutputRefused.TheVariants as outputs
use Rattle.commands.specs.declared.refusals.TextRefused.{TextRefused}
use Rattle.commands.specs.declared.refusals.TextRefused.TheVariants.{Vox, Script, Collides, NoScene, NoPlace, StoreFull, NoDag, Journal, Transcript, Memory}
use Rattle.requests.specs.declared.orders.Request.{Request}
use Rattle.script_files.specs.Commands.{meaning_of}
use Rattle.script_files.specs.Closed.{Closed}
use Rattle.commands.specs.Outcomes.{Completes}
use Rattle.voxdag_top.specs.declared.endings.Ending.{Ending}
use Rattle.voxdag_top.specs.declared.endings.Ending.TheVariants.{Completed, Usage, Refused}
use Rattle.voxdag_top.specs.Lines.{Puts, input_line}
use Rattle.voxdag_top.specs.Numbers.{Status, Finished, Misuse, MissingInput, FailedInput, FaultyVox, FaultyScript, FailedOutput, FailedLine, LackingMemory, LongInput, NoSuchPlace, FaultyScene, FaultyJournal, FilledStore, FaultyDag, FaultyTranscript, status_number}
use Rattle.voxdag_top.specs.Endings.{EndsAs, EndsUnread, ended_with, ending_line, status_of, input_status, output_status, text_status}
use Rattle.voxdag_top.specs.Finishing.{Finishes, Runs, put, failed, lacking}
use Rattle.voxdag_top.specs.Statuses.{InputTold, StatusMeans, StatusSays}

-- ---- a number is one status's alone

abbrev statuses : List Status
statuses =
    Finished ∷ Misuse ∷ MissingInput ∷ FailedInput ∷ FaultyVox ∷ FaultyScript ∷ FailedOutput
    ∷ FailedLine ∷ LackingMemory ∷ LongInput ∷ NoSuchPlace ∷ FaultyScene ∷ FaultyJournal
    ∷ FilledStore ∷ FaultyDag ∷ FaultyTranscript ∷ []

at_number : (s : Status) → slice_get statuses (status_number s) ≡ Some s
at_number Finished = refl
at_number _ = refl

abbrev found_or : Option Status → Status → Status
found_or None s = s
found_or (Some found) s = found

number_once : (s t : Status) → status_number s ≡ status_number t → s ≡ t
number_once s t same =
    ap (λ (found : Option Status). found_or found s)
    (sym (at_number s) ∙ ap (λ (n : ℕ). slice_get statuses n) same ∙ at_number t)

pub said_at : (n : ℕ) (a : Option Request) (left : Option Closed) (old new : Outside)
    → StatusSays n a left old new → (s : Status) → n ≡ status_number s
    → StatusMeans s a left old new
said_at n a left old new says s is =
    subst (λ (t : Status). StatusMeans t a left old new)
    (number_once says.status s (sym says.is ∙ is)) says.means

-- ---- by the case of the ending, whose line was put

module _ (a : Request) (left : Option Closed) (old new : Outside) where
  input_told : (why : ReadRefused) (r : InputRefused) → r.why ≡ why
      → EndsAs (Some a) (Refused (Input r)) old.shelf new.shelf
      → Puts old.out.told new.out.told (ending_line (Refused (Input r)))
      → InputTold why (Some a) old new
  input_told why r is ends puts = record {
    name = r.name.now;
    stops = subst
        (λ (w : ReadRefused). StopsAt w r.name.now (meaning_of a).inputs old.shelf.files
        old.shelf.faults new.shelf.faults) is ends.0;
    unchanged = ends.1;
    line = subst (λ (w : ReadRefused). Puts old.out.told new.out.told (input_line w r.name.now)) is
        puts;
  }

  input_means : (why : ReadRefused) (r : InputRefused) → r.why ≡ why
      → EndsAs (Some a) (Refused (Input r)) old.shelf new.shelf
      → Puts old.out.told new.out.told (ending_line (Refused (Input r)))
      → StatusMeans (input_status why) (Some a) left old new
  input_means reads.Missing r is ends puts = input_told reads.Missing r is ends puts
  input_means reads.Failed r is ends puts = input_told reads.Failed r is ends puts
  input_means reads.TooLong r is ends puts = input_told reads.TooLong r is ends puts
  input_means reads.Memory r is ends puts = record {
    ending = Refused (Input r);
    ends = ends;
    line = inl (
      tt,
      subst (λ (w : ReadRefused). Puts old.out.told new.out.told (input_line w r.name.now)) is puts,
    );
  }

  output_means : (r : NamedOutputRefused) → EndsAs (Some a) (Refused (Output r)) old.shelf new.shelf
      → Puts old.out.told new.out.told (ending_line (Refused (Output r)))
      → StatusMeans (output_status r) (Some a) left old new
  output_means (outputs.Failed line) ends puts = record {
    name = ends.name;
    breaks = ends.breaks;
    line = subst (λ (l : List ℕ). Puts old.out.told new.out.told l) ends.holds puts;
  }
  output_means outputs.Memory ends puts =
      record { ending = Refused (Output outputs.Memory); ends = ends; line = inl (tt, puts) }

  text_means : (r : TextRefused) → EndsAs (Some a) (Refused (Text r)) old.shelf new.shelf
      → Puts old.out.told new.out.told (ending_line (Refused (Text r)))
      → StatusMeans (text_status r) (Some a) left old new
  text_means (Vox fault) ends puts =
      (fault, record { refuses = ends.0; unchanged = ends.1; line = puts })
  text_means (Script at) ends puts =
      (at, record { refuses = ends.0; unchanged = ends.1; line = puts })
  text_means Collides ends puts = record { cause = (ends.0, ends.1); line = puts }
  text_means (NoScene fault) ends puts =
      (fault, record { refuses = ends.0; unchanged = ends.1; line = puts })
  text_means NoPlace ends puts = record { refuses = ends.0; unchanged = ends.1; line = puts }
  text_means (StoreFull full) ends puts =
      (full, record { refuses = ends.0; unchanged = ends.1; line = puts })
  text_means (Journal line) ends puts =
      (line, record { refuses = ends.0; unchanged = ends.1; line = puts })
  text_means (Transcript at) ends puts =
      (at, record { refuses = ends.0; unchanged = ends.1; line = puts })
  text_means (NoDag place) ends puts =
      (place, record { refuses = ends.0; unchanged = ends.1; line = puts })
  text_means Memory ends puts =
      record { ending = Refused (Text Memory); ends = ends; line = inl (tt, puts) }

unread_means : (e : Ending) (left : Option Closed) (old new : Outside) → EndsUnread e
    → new.shelf ≡ old.shelf → Puts old.out.told new.out.told (ending_line e)
    → StatusMeans (status_of e) None left old new
unread_means Usage left old new ends same puts = record { cause = same; line = puts }
unread_means (Refused (Text Memory)) left old new ends same puts =
    record { ending = Refused (Text Memory); ends = (tt, same); line = inl (tt, puts) }
unread_means _ left old new ends same puts = absurd ends

own : (a : Option Request) (e : Ending) (left : Option Closed) (old new : Outside)
    → EndsAs a e old.shelf new.shelf → left ≡ ended_with e (status_number (status_of e))
    → Puts old.out.told new.out.told (ending_line e) → StatusMeans (status_of e) a left old new
own None e left old new ends gives puts = unread_means e left old new ends.0 ends.1 puts
own (Some a) (Completed c) left old new ends gives puts = record {
  done = c.done;
  completes = subst
      (λ (l : Option Closed). Completes (meaning_of a) (record { done = c.done; ended = l })
      old.shelf new.shelf) (sym gives) ends;
  line = puts;
}
own (Some a) Usage left old new ends gives puts = absurd ends
own (Some a) (Refused (Input r)) left old new ends gives puts =
    input_means a left old new r.why r refl ends puts
own (Some a) (Refused (Text r)) left old new ends gives puts = text_means a left old new r ends puts
own (Some a) (Refused (Output r)) left old new ends gives puts =
    output_means a left old new r ends puts

-- ---- by the put of the line

-- no world is given with any other number
no_world : (e : Ending) (result : ℕ) → (result ≡ 0 → ⊥) → ended_with e result ≡ None
no_world (Completed c) zero other = absurd (other refl)
no_world (Completed c) (suc n) other = refl
no_world Usage result other = refl
no_world (Refused r) result other = refl

module _ (a : Option Request) (e : Ending) (old new : Outside) (result : ℕ) (left : Option Closed)
    (ends : EndsAs a e old.shelf new.shelf) (gives : left ≡ ended_with e result) where
  only_with_0 : (result ≡ 0 → ⊥) → left ≡ None
  only_with_0 other = gives ∙ no_world e result other

  finish_says : Finishes e old.out new.out result → StatusSays result a left old new
  finish_says (inl (put is line)) = record {
    status = status_of e;
    is = is;
    means = own a e left old new ends (gives ∙ ap (λ (n : ℕ). ended_with e n) is) line;
    world = only_with_0;
  }
  finish_says (inl (failed is rose begun)) = record {
    status = FailedLine;
    is = is;
    means = record { ending = e; ends = ends; rose = rose; begun = inl begun };
    world = only_with_0;
  }
  finish_says (inl (lacking is none)) = record {
    status = LackingMemory;
    is = is;
    means = record { ending = e; ends = ends; line = inr none };
    world = only_with_0;
  }
  finish_says (inr (may, put is line)) = record {
    status = LackingMemory;
    is = is;
    means = record { ending = e; ends = ends; line = inl (may, line) };
    world = only_with_0;
  }
  finish_says (inr (may, failed is rose begun)) = record {
    status = FailedLine;
    is = is;
    means = record { ending = e; ends = ends; rose = rose; begun = inr (may, begun) };
    world = only_with_0;
  }
  finish_says (inr (may, lacking is none)) = record {
    status = LackingMemory;
    is = is;
    means = record { ending = e; ends = ends; line = inr none };
    world = only_with_0;
  }

pub run_says : (a : Option Request) (old new : Outside) (result : ℕ) (left : Option Closed)
    → Runs a old new result left → StatusSays result a left old new
run_says a old new result left run =
    finish_says a run.ending old new result left run.ends run.gives run.finish
