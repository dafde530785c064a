-- A transcript is read line by line.
use Rattle.std.specs.Prelude.{◌≡◌, ℕ, ◌+◌, ◌<◌, true, false, All, List, [], ◌∷◌, ◌++◌, length, map, Result, Ok, Err, IfOk, IfErr, MatchResult, refl}
use Rattle.std.proofs.Common.{eqb, ap, sym, ◌∙◌, subst, arith, append_assoc}
use Rattle.std.proofs.lemmas.Bool.{eqb-true}
use Rattle.std.proofs.lemmas.List.{map-append}
use Rattle.std.proofs.lemmas.List.Elements.{recursion_from_All, All-from_recursion}
use Rattle.std.specs.List.{AllByRecursion}
use Rattle.plain_text.specs.declared.faults.WordFault.{WordFault}
use Rattle.plain_text.specs.Parts.{words, lines, FirstUnfit, line_of}
use Rattle.plain_text.specs.PartLaws.{parts_joined, unfit_none, lines_some}
use Rattle.plain_text.specs.EachLaws.{each_line_unfit, each_tail_unfit}
use Rattle.transcript.specs.declared.answers.LineAnswer.{LineAnswer}
use Rattle.transcript.specs.declared.reading.TranscriptFault.{TranscriptFault}
use Rattle.transcript.specs.declared.reading.TranscriptFault.TheVariants.{Line, Memory}
use Rattle.transcript.specs.Lines.{transcript_of}
use Rattle.transcript.specs.Bounds.{IsLineAnswer}
use Rattle.transcript.specs.Rows.{line_spelled}
use Rattle.transcript.specs.Refusals.{line_words, AreTranscriptLines, RefusesTranscript}
use Rattle.transcript.proofs.AnswerLaws.{line_again, line_takes}
use Rattle.transcript.proofs.TextLaws.{words_of_line, transcript_lines, text_of_lines, transcripts_once}

-- these answers were read, and these lines are left
pub record AreRead (all rest : List (List ℕ)) (xs : List LineAnswer) : Type 0 where
  pub are : AllByRecursion IsLineAnswer xs
  pub lined : all ≡ map line_words xs ++ rest

pub nothing_read : (all : List (List ℕ)) → AreRead all all []
nothing_read all = record { are = tt; lined = refl }

push_all : (xs : List LineAnswer) (a : LineAnswer) → AllByRecursion IsLineAnswer xs → IsLineAnswer a
    → AllByRecursion IsLineAnswer (xs ++ a ∷ [])
push_all [] a are is = (is, tt)
push_all (b ∷ xs) a are is = (are.0, push_all xs a are.1 is)

-- one more line
pub one_more : (all rest : List (List ℕ)) (line after : List ℕ) (xs now : List LineAnswer)
    (a : LineAnswer) → AreRead all rest xs → rest ≡ line ∷ lines after
    → Ok a ≡ line_spelled (words line) → now ≡ xs ++ a ∷ [] → AreRead all (lines after) now
one_more all rest line after xs now a read split spelled pushed =
    let takes = line_takes (words line) a (sym spelled) in
    let here : line_words a ≡ line = ap line_of takes.0 ∙ parts_joined 32 line in
    let both : map line_words (xs ++ a ∷ []) ++ lines after ≡ map line_words xs ++ (line ∷ lines after) =
    ap (λ (ls : List (List ℕ)). ls ++ lines after) (map-append line_words xs (a ∷ []))
    ∙ append_assoc (map line_words xs) (line_words a ∷ []) (lines after)
    ∙ ap (λ (l : List ℕ). map line_words xs ++ (l ∷ lines after)) here in
    subst (λ (ys : List LineAnswer). AreRead all (lines after) ys) (sym pushed) (record {
      are = push_all xs a read.are takes.1;
      lined = read.lined ∙ ap (λ (ls : List (List ℕ)). map line_words xs ++ ls) split ∙ sym both;
    })

no_such : (line : List ℕ) (fault : WordFault) → Err fault ≡ line_spelled (words line)
    → (x : LineAnswer) → IsLineAnswer x → line_words x ≡ line → ⊥
no_such line fault spelled x is same =
    (let again : Err fault ≡ Ok x = spelled
    ∙ ap (λ (l : List ℕ). line_spelled (words l)) (sym same)
    ∙ ap line_spelled (words_of_line x is) ∙ line_again x is in cc)

unfit_by : (all : List (List ℕ)) (line : List ℕ) (more : List (List ℕ)) (xs : List LineAnswer)
    (n : ℕ) → 0 < length more → AllByRecursion IsLineAnswer xs
    → all ≡ map line_words xs ++ line ∷ more → n ≡ length xs + 1
    → ((x : LineAnswer) → IsLineAnswer x → line_words x ≡ line → ⊥)
    → FirstUnfit AreTranscriptLines all n
unfit_by all line [] xs n some are whole number none = absurd (omega arith)
unfit_by all line (next ∷ after) xs n some are whole number none =
    each_line_unfit IsLineAnswer line_words xs all after line next n are whole number none

-- a line that is no answer's
pub line_unfit : (all rest : List (List ℕ)) (line after : List ℕ) (xs : List LineAnswer)
    (fault : WordFault) (n : ℕ) → AreRead all rest xs → rest ≡ line ∷ lines after
    → Err fault ≡ line_spelled (words line) → n ≡ length xs + 1
    → FirstUnfit AreTranscriptLines all n
line_unfit all rest line after xs fault n read split spelled number =
    unfit_by all line (lines after) xs n (lines_some after) read.are
    (read.lined ∙ ap (λ (ls : List (List ℕ)). map line_words xs ++ ls) split) number
    (no_such line fault spelled)

some_bytes : (bytes : List ℕ) → eqb (length bytes) 0 ≡ false → 0 < length bytes
some_bytes [] empty = absurd cc
some_bytes (b ∷ rest) empty = omega arith

-- a last line without its newline
pub tail_unfit : (all : List (List ℕ)) (rest : List ℕ) (xs : List LineAnswer) (n : ℕ)
    → AreRead all (lines rest) xs → lines rest ≡ rest ∷ [] → eqb (length rest) 0 ≡ false
    → n ≡ length xs + 1 → FirstUnfit AreTranscriptLines all n
tail_unfit all rest xs n read last some number =
    each_tail_unfit IsLineAnswer line_words xs all rest n read.are
    (read.lined ∙ ap (λ (ls : List (List ℕ)). map line_words xs ++ ls) last) number
    (some_bytes rest some)

no_bytes : (bytes : List ℕ) → eqb (length bytes) 0 ≡ true → lines bytes ≡ [] ∷ []
no_bytes [] empty = refl
no_bytes (b ∷ rest) empty = absurd (let none = eqb-true _ _ empty in omega (arith, none))

-- nothing is left
pub all_read : (text rest : List ℕ) (xs : List LineAnswer) → AreRead (lines text) (lines rest) xs
    → eqb (length rest) 0 ≡ true → All IsLineAnswer xs × (text ≡ transcript_of xs)
all_read text rest xs read empty = (
  All-from_recursion IsLineAnswer xs read.are,
  text_of_lines text xs
      (read.lined ∙ ap (λ (ls : List (List ℕ)). map line_words xs ++ ls) (no_bytes rest empty)),
)

-- the text of answers is refused for want of memory alone
told_read : (text : List ℕ) (xs : List LineAnswer) (fault : TranscriptFault)
    → AllByRecursion IsLineAnswer xs → text ≡ transcript_of xs → RefusesTranscript fault text
    → fault ≡ Memory
told_read text xs (Line n) are is refuses =
    absurd (unfit_none AreTranscriptLines
    (lines text) refuses.front refuses.rest refuses.whole refuses.unfit
    (xs, are, ap lines is ∙ transcript_lines xs are))
told_read text xs Memory are is refuses = refl

-- the answers that were read, or want of memory
pub told_all : {X : Type 0} (items : X → List LineAnswer) (text : List ℕ) (xs : List LineAnswer)
    (read : Result X TranscriptFault)
    → IfOk read (λ v. All IsLineAnswer (items v) × (text ≡ transcript_of (items v)))
    → IfErr read (λ fault. RefusesTranscript fault text) → All IsLineAnswer xs
    → text ≡ transcript_of xs → MatchResult read (λ v. items v ≡ xs) (λ fault. fault ≡ Memory)
told_all items text xs (Ok v) found refused are is =
    transcripts_once (items v) xs (recursion_from_All IsLineAnswer (items v) found.0)
    (recursion_from_All IsLineAnswer xs are) (sym found.1 ∙ is)
told_all items text xs (Err fault) found refused are is =
    told_read text xs fault (recursion_from_All IsLineAnswer xs are) is refused

pub one_reading : (xs ys : List LineAnswer) → All IsLineAnswer xs → All IsLineAnswer ys
    → transcript_of xs ≡ transcript_of ys → xs ≡ ys
one_reading xs ys of_xs of_ys same =
    transcripts_once xs ys (recursion_from_All IsLineAnswer xs of_xs)
    (recursion_from_All IsLineAnswer ys of_ys) same
