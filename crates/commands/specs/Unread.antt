-- A text with a line that doesn't fit is no journal, and no transcript.
use Rattle.std.proofs.Common.{◌≡◌, ℕ, zero, suc, List, [], ◌∷◌, ◌++◌, length, map, drop, get_or, refl, sym, ap, subst, ◌∙◌, arith}
use Rattle.std.specs.Prelude.{All}
use Rattle.std.proofs.lemmas.List.Elements.{All-head, All-tail, recursion_from_All}
use Rattle.plain_text.specs.Parts.{lines, Unfit, FirstUnfit}
use Rattle.history_model.specs.Logs.{Log}
use Rattle.history_model.specs.Following.{IsJournalLines}
use Rattle.history_model.proofs.JournalLaws.{journal_lines}
use Rattle.transcript.specs.Bounds.{IsLineAnswer}
use Rattle.transcript.specs.Lines.{transcript_of}
use Rattle.transcript.specs.Refusals.{AreTranscriptLines}
use Rattle.transcript.specs.declared.answers.LineAnswer.{LineAnswer}
use Rattle.transcript.proofs.ReadingLaws.{one_reading}
use Rattle.transcript.proofs.TextLaws.{transcript_lines}
use Rattle.commands.specs.declared.refusals.TranscriptLine.{TranscriptLine}
use Rattle.commands.specs.Audits.{IsJournalOf, AreTranscriptsOf, IsFirstUnread}

goes_on : (Kind : List (List ℕ) → Type 0) (front rest : List (List ℕ)) → Unfit Kind front rest
    → Kind (front ++ rest) → ⊥
goes_on Kind front [] unfit kind = unfit
goes_on Kind front (last ∷ []) unfit kind = unfit kind
goes_on Kind front (line ∷ next ∷ more) unfit kind = unfit next more kind

fits_not : (Kind : List (List ℕ) → Type 0) (all : List (List ℕ)) (n : ℕ) → FirstUnfit Kind all n
    → Kind all → ⊥
fits_not Kind all n first kind =
    goes_on Kind first.front first.rest first.unfit (subst Kind first.whole kind)

pub no_journal : (text : List ℕ) (n : ℕ) (log : Log) → FirstUnfit IsJournalLines (lines text) n
    → IsJournalOf text log → ⊥
no_journal text n log first is =
    fits_not IsJournalLines (lines text) n first
    (log, is.told, ap lines is.is ∙ journal_lines log is.told)

-- the transcript of this number
said_at : (said : List (List LineAnswer)) (n : ℕ) (text : List ℕ) (others : List (List ℕ))
    → drop n (map transcript_of said) ≡ text ∷ others → All (All IsLineAnswer) said
    → (a : List LineAnswer) × All IsLineAnswer a × (text ≡ transcript_of a)
said_at [] zero text others next all =
    absurd (let long : 0 ≡ length (text ∷ others) = ap length next in omega (arith, long))
said_at [] (suc n) text others next all =
    absurd (let long : 0 ≡ length (text ∷ others) = ap length next in omega (arith, long))
said_at (a ∷ said) zero text others next all = (
  a,
  All-head (All IsLineAnswer) a said all,
  sym (ap (λ (ts : List (List ℕ)). get_or ts 0 []) next),
)
said_at (a ∷ said) (suc n) text others next all =
    said_at said n text others next (All-tail (All IsLineAnswer) a said all)

pub no_transcripts : (texts : List (List ℕ)) (at : TranscriptLine) (said : List (List LineAnswer))
    → IsFirstUnread texts at → AreTranscriptsOf texts said → ⊥
no_transcripts texts at said first are =
    let next : drop at.script (map transcript_of said) ≡ first.text ∷ first.others =
    ap (λ (ts : List (List ℕ)). drop at.script ts) (sym are.are) ∙ first.next in
    let found = said_at said at.script first.text first.others next are.answers in
    let answers = recursion_from_All IsLineAnswer found.0 found.1 in
    fits_not AreTranscriptLines (lines first.text) at.line first.unfit
    (found.0, answers, ap lines found.2 ∙ transcript_lines found.0 answers)

-- and texts are those of one list of transcripts
pub said_once : (a b : List (List LineAnswer)) → All (All IsLineAnswer) a → All (All IsLineAnswer) b
    → map transcript_of a ≡ map transcript_of b → a ≡ b
said_once [] [] of_a of_b same = refl
said_once [] (t ∷ b) of_a of_b same =
    let long : 0 ≡ length (map transcript_of (t ∷ b)) = ap length same in
    absurd (omega (arith, long))
said_once (s ∷ a) [] of_a of_b same =
    let long : length (map transcript_of (s ∷ a)) ≡ 0 = ap length same in
    absurd (omega (arith, long))
said_once (s ∷ a) (t ∷ b) of_a of_b same =
    let first : s ≡ t =
    one_reading s t (All-head (All IsLineAnswer) s a of_a) (All-head (All IsLineAnswer) t b of_b)
    (ap (λ (ts : List (List ℕ)). get_or ts 0 []) same) in
    let others : a ≡ b =
    said_once a b (All-tail (All IsLineAnswer) s a of_a) (All-tail (All IsLineAnswer) t b of_b)
    (ap (λ (ts : List (List ℕ)). drop 1 ts) same) in
    ap (λ (x : List LineAnswer). x ∷ a) first
    ∙ ap (λ (xs : List (List LineAnswer)). t ∷ xs) others
