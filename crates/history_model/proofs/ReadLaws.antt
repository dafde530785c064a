-- What the loop over a journal's lines leaves.
use Rattle.std.specs.Prelude.{◌≡◌, ℕ, ◌+◌, ◌<◌, Bool, true, false, List, [], ◌∷◌, ◌++◌, length, Result, Ok, Err, IfOk, IfErr, MatchResult, codes, refl}
use Rattle.std.proofs.Common.{eqb, ap, sym, subst, ◌∙◌, arith}
use Rattle.std.specs.Str.{bytes_eq}
use Rattle.std.proofs.lemmas.Bool.{eqb-true}
use Rattle.std.proofs.lemmas.Slice.Eq.{bytes_eq-Decides}
use Rattle.plain_text.specs.Parts.{lines, FirstUnfit}
use Rattle.history_model.specs.Logs.{Log}
use Rattle.history_model.specs.Journal.{journal_of}
use Rattle.history_model.specs.Entries.{HasJournal, front_lines, last_lines, begun}
use Rattle.history_model.specs.Following.{IsJournalLines}
use Rattle.history_model.proofs.TakingLaws.{end_unfit, line_unfit, journal_read}
use Rattle.history_model.specs.declared.reading.JournalFault.{JournalFault}
use Rattle.history_model.specs.declared.reading.JournalFault.TheVariants.{Line, Memory}
use Rattle.history_model.specs.Refusals.{RefusesJournal, RefusesLines, RefusesEntry}
use Rattle.plain_text.specs.PartLaws.{unfit_none}
use Rattle.history_model.proofs.JournalLaws.{journal_lines}
use Rattle.history_model.proofs.OnceLaws.{journals_once}

end_is : (line : List ℕ) → bytes_eq line (codes "end") ≡ true → line ≡ codes "end"
end_is line same = (bytes_eq-Decides line (codes "end")).0 same

no_bytes : (after : List ℕ) → eqb (length after) 0 ≡ true → lines after ≡ [] ∷ []
no_bytes [] empty = refl
no_bytes (b ∷ rest) empty = absurd (let none = eqb-true _ _ empty in omega (arith, none))

pub all_lines_read : (log : Log) (all rest : List (List ℕ)) (line after : List ℕ)
    → all ≡ front_lines log ++ rest → rest ≡ line ∷ lines after → bytes_eq line (codes "end") ≡ true
    → eqb (length after) 0 ≡ true → all ≡ front_lines log ++ last_lines
all_lines_read log all rest line after whole split end empty =
    let last : line ∷ lines after ≡ last_lines =
    ap (λ (l : List ℕ). l ∷ lines after) (end_is line end)
    ∙ ap (λ (ls : List (List ℕ)). codes "end" ∷ ls) (no_bytes after empty) in
    whole ∙ ap (λ (ls : List (List ℕ)). front_lines log ++ ls) (split ∙ last)

some_bytes : (after : List ℕ) → eqb (length after) 0 ≡ false → 0 < length after
some_bytes [] empty = absurd cc
some_bytes (b ∷ rest) empty = omega arith

pub more_behind : (log : Log) (all rest : List (List ℕ)) (line after : List ℕ) (n : ℕ) → HasJournal log
    → all ≡ front_lines log ++ rest → rest ≡ line ∷ lines after → bytes_eq line (codes "end") ≡ true
    → eqb (length after) 0 ≡ false → n ≡ length (front_lines log) + 1
    → FirstUnfit IsJournalLines all (n + 1)
more_behind log all rest line after n told whole split end some number =
    let last : line ∷ lines after ≡ codes "end" ∷ lines after =
    ap (λ (l : List ℕ). l ∷ lines after) (end_is line end) in
    end_unfit log all after (n + 1) told
    (whole ∙ ap (λ (ls : List (List ℕ)). front_lines log ++ ls) (split ∙ last))
    (omega (arith, number)) (some_bytes after some)

pub entry_unfit : (fault : JournalFault) (log : Log) (all rest : List (List ℕ))
    (line after : List ℕ) → HasJournal log → all ≡ front_lines log ++ rest → rest ≡ line ∷ lines after
    → bytes_eq line (codes "end") ≡ false → RefusesEntry fault log line → RefusesLines fault all
entry_unfit (Line n) log all rest line after told whole split other refuses =
    line_unfit log all (lines after) line n told
    (whole ∙ ap (λ (ls : List (List ℕ)). front_lines log ++ ls) split) refuses.0
    (λ same. (let is : bytes_eq line (codes "end") ≡ true = (bytes_eq-Decides line (codes "end")).1 same in let wrong : true ≡ false = sym is ∙ other in cc)) refuses.1
entry_unfit Memory log all rest line after told whole split other refuses = tt

pub all_told : (text : List ℕ) (coloured : Bool) (side : ℕ) (entries : List ℕ)
    (read : Result Log JournalFault) → lines text ≡ begun coloured side ++ lines entries
    → IfOk read
    (λ h. HasJournal h × (begun coloured side ++ lines entries ≡ front_lines h ++ last_lines))
    → IfOk read (λ h. HasJournal h × (text ≡ journal_of h))
all_told text coloured side entries (Ok h) whole is = (is.0, journal_read text h (whole ∙ is.1))
all_told text coloured side entries (Err fault) whole is = tt

-- the text of a history is refused for want of memory alone
pub told_read : (text : List ℕ) (log : Log) (fault : JournalFault) → HasJournal log
    → text ≡ journal_of log → RefusesJournal fault text → fault ≡ Memory
told_read text log (Line n) told is refuses =
    let journal : IsJournalLines (lines text) = (log, told, ap lines is ∙ journal_lines log told) in
    absurd (unfit_none IsJournalLines
    (lines text) refuses.front refuses.rest refuses.whole refuses.unfit journal)
told_read text log Memory told is refuses = refl

pub told_if : (text : List ℕ) (all : List (List ℕ)) (log : Log) (read : Result Log JournalFault)
    → lines text ≡ all → HasJournal log → text ≡ journal_of log
    → IfErr read (λ fault. RefusesLines fault all) → IfErr read (λ fault. fault ≡ Memory)
told_if text all log (Ok h) whole told is refuses = tt
told_if text all log (Err (Line n)) whole told is refuses =
    told_read text log (Line n) told is
    (subst (λ (ls : List (List ℕ)). FirstUnfit IsJournalLines ls n) (sym whole) refuses)
told_if text all log (Err Memory) whole told is refuses = refl

-- the history that was read, or want of memory
pub told_all : (text : List ℕ) (log : Log) (read : Result Log JournalFault)
    → IfOk read (λ h. HasJournal h × (text ≡ journal_of h)) → IfErr read (λ fault. fault ≡ Memory)
    → HasJournal log → text ≡ journal_of log → MatchResult read (λ h. h ≡ log) (λ fault. fault ≡ Memory)
told_all text log (Ok h) found refused told is = journals_once h log found.0 told (sym found.1 ∙ is)
told_all text log (Err fault) found refused told is = refused
