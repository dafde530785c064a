-- The saves that were accepted, line by line and script by script.
use Rattle.std.proofs.Common.{◌≡◌, ℕ, ◌+◌, ◌<◌, ◌≤◌, List, [], ◌∷◌, ◌++◌, length, take, get_or, refl, ap, sym, subst, ◌∙◌, arith, append_assoc, append-nil}
use Rattle.std.proofs.lemmas.List.{length_push, take_more, take_all}
use Rattle.script.specs.declared.commands.ScriptLine.{ScriptLine}
use Rattle.transcript.specs.declared.answers.LineAnswer.{LineAnswer}
use Rattle.conformance.specs.declared.saves.SavedBox.{SavedBox}
use Rattle.conformance.specs.Saves.{saved_by, saved_in}

-- one more line
saved_push : (lines : List ScriptLine) (answers : List LineAnswer) (l : ScriptLine)
    (a : LineAnswer) → length answers ≡ length lines
    → saved_in (lines ++ l ∷ []) (answers ++ a ∷ [])
    ≡ saved_in lines answers ++ saved_by l.command a.at a.answer
saved_push [] [] l a many = append-nil _
saved_push [] (b ∷ answers) l a many = absurd (omega (arith, many))
saved_push (k ∷ lines) [] l a many = absurd (omega (arith, many))
saved_push (k ∷ lines) (b ∷ answers) l a many =
    ap (λ (ss : List SavedBox). saved_by k.command b.at b.answer ++ ss)
    (saved_push lines answers l a (omega (arith, many)))
    ∙ sym (append_assoc (saved_by k.command b.at b.answer) (saved_in lines answers) _)

-- what a responder saved before, and what the lines saved that were answered since
pub record SavedByLines (old now : List SavedBox) (lines : List ScriptLine)
    (answers : List LineAnswer) : Type 0 where
  pub as_many : length answers ≡ length lines
  pub are : now ≡ old ++ saved_in lines answers

pub no_line_saved : (old : List SavedBox) → SavedByLines old old [] []
no_line_saved old = record { as_many = refl; are = sym (append-nil old) }

pub line_saved : (old mid now : List SavedBox) (lines : List ScriptLine) (i : ℕ) (l : ScriptLine)
    (answers more : List LineAnswer) (a : LineAnswer) → i < length lines
    → SavedByLines old mid (take i lines) answers → l ≡ get_or lines i l
    → now ≡ mid ++ saved_by l.command a.at a.answer → more ≡ answers ++ a ∷ []
    → SavedByLines old now (take (i + 1) lines) more
line_saved old mid now lines i l answers more a lt so_far is saved pushed =
    let next : take (i + 1) lines ≡ take i lines ++ l ∷ [] =
    take_more lines i l lt ∙ ap (λ (k : ScriptLine). take i lines ++ k ∷ []) (sym is) in
    let both : SavedByLines old now (take i lines ++ l ∷ []) (answers ++ a ∷ []) = record {
      as_many =
          length_push answers a ∙ ap (λ (n : ℕ). n + 1) so_far.as_many
          ∙ sym (length_push (take i lines) l);
      are =
          saved ∙ ap (λ (ss : List SavedBox). ss ++ saved_by l.command a.at a.answer) so_far.are
          ∙ append_assoc old (saved_in (take i lines) answers) _
          ∙ ap (λ (ss : List SavedBox). old ++ ss)
          (sym (saved_push (take i lines) answers l a so_far.as_many));
    } in
    subst (λ (ls : List ScriptLine). SavedByLines old now ls more) (sym next)
    (subst (λ (bs : List LineAnswer). SavedByLines old now (take i lines ++ l ∷ []) bs)
    (sym pushed) both)

pub all_lines_saved : (old now : List SavedBox) (lines : List ScriptLine) (i : ℕ)
    (answers : List LineAnswer) → length lines ≤ i → SavedByLines old now (take i lines) answers
    → now ≡ old ++ saved_in lines answers
all_lines_saved old now lines i answers past so_far =
    so_far.are
    ∙ ap (λ (ls : List ScriptLine). old ++ saved_in ls answers) (take_all i lines past)
