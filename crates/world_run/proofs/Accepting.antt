-- The saves that were accepted of a script.
use Rattle.std.proofs.Common.{◌≡◌, ℕ, ◌+◌, ◌<◌, ◌≤◌, List, [], ◌∷◌, ◌++◌, length, length-append, get_or, take, sym, ◌∙◌, ap, subst, arith}
use Rattle.std.specs.Prelude.{All, Bool}
use Rattle.std.proofs.lemmas.List.{take_all, take_more}
use Rattle.std.proofs.lemmas.List.Elements.{All-append, All-cons, All-head, All-nil, All-tail}
use Rattle.vox_read.specs.Contents.{Content}
use Rattle.history_model.specs.Logs.{side_of_world}
use Rattle.script.specs.declared.commands.Command.{Command}
use Rattle.script.specs.declared.commands.Command.TheVariants.{Save}
use Rattle.script.specs.declared.commands.ScriptLine.{ScriptLine}
use Rattle.script.specs.Fitting.{CommandFits, SaveFits}
use Rattle.transcript.specs.declared.answers.Answer.{Answer}
use Rattle.transcript.specs.declared.answers.Answer.TheVariants as answers
use Rattle.transcript.specs.declared.answers.LineAnswer.{LineAnswer}
use Rattle.conformance.specs.declared.saves.SavedBox.{SavedBox}
use Rattle.conformance.specs.Saves.{saved_by, saved_in}
use Rattle.conformance.proofs.OfScripts.Saving.{SavedByLines, line_saved}
use Rattle.conformance.specs.sessions.Saves.{saves_asked, saves_asked_in}

pub one_asked : (command : Command) (n : ℕ) (answer : Answer)
    → length (saved_by command n answer) ≤ saves_asked command
one_asked (Save version name part) n (answers.Saved cells) = omega arith
one_asked _ n answer = omega arith

-- no more saves are accepted than lines ask for
pub few_accepted : (lines : List ScriptLine) (answers : List LineAnswer)
    → length (saved_in lines answers) ≤ saves_asked_in lines
few_accepted [] answers = omega arith
few_accepted (l ∷ lines) [] = omega arith
few_accepted (l ∷ lines) (a ∷ answers) =
    let here = one_asked l.command a.at a.answer in
    let rest = few_accepted lines answers in
    let both = length-append (saved_by l.command a.at a.answer) (saved_in lines answers) in
    omega arith

module _ (tint : Bool) (side : ℕ) (models : List Content) where
  one_fits : (command : Command) (n : ℕ) (answer : Answer) → CommandFits tint side models command
      → All (λ (b : SavedBox). SaveFits (side_of_world tint side) b.name b.part)
      (saved_by command n answer)
  one_fits (Save version name part) n (answers.Saved cells) fits = All-cons
      (λ (b : SavedBox). SaveFits (side_of_world tint side) b.name b.part) _ [] fits
      (All-nil (λ (b : SavedBox). SaveFits (side_of_world tint side) b.name b.part))
  one_fits _ n answer fits = All-nil
      (λ (b : SavedBox). SaveFits (side_of_world tint side) b.name b.part)

  -- a file can be made of each
  pub saves_fit : (lines : List ScriptLine) (answers : List LineAnswer)
      → All (λ l. CommandFits tint side models l.command) lines
      → All (λ (b : SavedBox). SaveFits (side_of_world tint side) b.name b.part)
      (saved_in lines answers)
  saves_fit [] answers fits = All-nil
      (λ (b : SavedBox). SaveFits (side_of_world tint side) b.name b.part)
  saves_fit (l ∷ lines) [] fits = All-nil
      (λ (b : SavedBox). SaveFits (side_of_world tint side) b.name b.part)
  saves_fit (l ∷ lines) (a ∷ answers) fits =
      All-append (λ (b : SavedBox). SaveFits (side_of_world tint side) b.name b.part)
      (saved_by l.command a.at a.answer)
      (saved_in lines answers)
      (one_fits l.command a.at a.answer
      (All-head (λ (k : ScriptLine). CommandFits tint side models k.command) l lines fits))
      (saves_fit lines answers
      (All-tail (λ (k : ScriptLine). CommandFits tint side models k.command) l lines fits))

-- ---- line by line

pub next_saved : (old mid now : List SavedBox) (lines : List ScriptLine) (answers : List LineAnswer)
    (i : ℕ) (l : ScriptLine) (a : LineAnswer) → i < length lines → length answers ≡ length lines
    → l ≡ get_or lines i l → a ≡ get_or answers i a
    → SavedByLines old mid (take i lines) (take i answers)
    → now ≡ mid ++ saved_by l.command a.at a.answer
    → SavedByLines old now (take (i + 1) lines) (take (i + 1) answers)
next_saved old mid now lines answers i l a lt many is of so_far saved =
    line_saved old mid now lines i l (take i answers) (take (i + 1) answers) a lt so_far is saved
    (take_more answers i a (omega arith)
    ∙ ap (λ (b : LineAnswer). take i answers ++ b ∷ []) (sym of))

pub all_answers : (old now : List SavedBox) (lines : List ScriptLine) (answers : List LineAnswer)
    (i : ℕ) → length answers ≤ i → SavedByLines old now (take i lines) (take i answers)
    → SavedByLines old now (take i lines) answers
all_answers old now lines answers i past so_far =
    subst (λ (bs : List LineAnswer). SavedByLines old now (take i lines) bs)
    (take_all i answers past) so_far
