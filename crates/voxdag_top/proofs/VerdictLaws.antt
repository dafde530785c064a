-- What the words ask of told files has one verdict.
use Rattle.std.proofs.Common.{◌≡◌, Option, Some, None}
use Rattle.vw_io.specs.Outside.{Files}
use Rattle.requests.specs.declared.orders.Request.{Request}
use Rattle.script_files.specs.Commands.{meaning_of, judged_of}
use Rattle.commands.specs.Judging.{FilesAreRead}
use Rattle.commands.specs.Verdicts.{Verdict}
use Rattle.commands.proofs.Following.{judged_once, judged_some, not_without}
use Rattle.voxdag_top.specs.Verdicts.{JudgesWords, ReadsNoJournal}

pub some_verdict : FilesAreRead → (a : Request) (files : Files) → ReadsNoJournal a
    → (v : Verdict) × JudgesWords (Some a) files v
some_verdict readings a files none = judged_some (meaning_of a) (judged_of a) readings files none

pub not_without_verdict : FilesAreRead → (a : Request) (files : Files)
    → ((v : Verdict) → JudgesWords (Some a) files v → ⊥) → ⊥
not_without_verdict readings a files none =
    not_without (meaning_of a) (judged_of a) readings files none

pub one_verdict : (a : Option Request) (files : Files) (v w : Verdict) → JudgesWords a files v
    → JudgesWords a files w → v ≡ w
one_verdict None files v w of_v of_w = absurd of_v
one_verdict (Some a) files v w of_v of_w =
    judged_once (meaning_of a) (judged_of a) files v w of_v of_w
