-- Want of memory before all words are read.
use Rattle.std.proofs.Common.{◌≡◌, ℕ, Option, Some, None, refl, arith}
use Rattle.vw_io.specs.Outside.{ShelfState, SinkState, outside}
use Rattle.script_files.specs.Closed.{Closed}
use Rattle.commands.specs.declared.refusals.CommandRefused.TheVariants.{Text}
use Rattle.commands.specs.declared.refusals.TextRefused.TheVariants.{Memory}
use Rattle.requests.specs.declared.orders.Request.{Request}
use Rattle.voxdag_top.specs.declared.endings.Ending.TheVariants.{Refused}
use Rattle.voxdag_top.specs.Endings.{EndsAs, ended_with}
use Rattle.voxdag_top.specs.Finishing.{Finishes, Runs}

unread_ends : (a : Option Request) (s : ShelfState) → EndsAs a (Refused (Text Memory)) s s
unread_ends None s = (tt, refl)
unread_ends (Some a) s = (tt, record { files = refl; never_falls = omega arith })

pub lacks : (a : Option Request) (s : ShelfState) (old new : SinkState) (result : ℕ)
    (left : Option Closed) → Finishes (Refused (Text Memory)) old new result
    → left ≡ ended_with (Refused (Text Memory)) result
    → Runs a (outside s old) (outside s new) result left
lacks a s old new result left ends gives = record {
  ending = Refused (Text Memory);
  ends = unread_ends a s;
  finish = ends;
  gives = gives;
}
