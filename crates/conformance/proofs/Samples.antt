-- Worked cases of the definitions: two scripts with a mark, and answers that don't fit.
use Rattle.std.proofs.Common.{◌≡◌, ℕ, ◌^◌, ◌<◌, ◌≤◌, true, false, List, [], ◌∷◌, refl, sym, ap, subst, Option, arith}
use Rattle.std.specs.Prelude.{None, Some, All}
use Rattle.std.specs.List.{AllZip}
use Rattle.std.proofs.lemmas.Bool.{false≢true}
use Rattle.std.proofs.lemmas.List.Elements.{All-nil, All-cons, All-head}
use Rattle.vw_cell.specs.declared.cells.Cell.{Cell}
use Rattle.vw_cell.specs.declared.boxes.Boxed.{Boxed}
use Rattle.vw_cell.specs.Sums.{sum_below}
use Rattle.vw_cell.specs.Counts.{cell_at, number_in}
use Rattle.history_model.specs.declared.acts.Act.TheVariants.{Fill, Erase, Undo}
use Rattle.history_model.specs.declared.histories.Mark.{Mark}
use Rattle.history_model.specs.Worlds.{box_at}
use Rattle.history_model.specs.Logs.{Log}
use Rattle.history_model.specs.Moments.{world_has}
use Rattle.node_words.specs.Plans.{Layout}
use Rattle.conformance.specs.possible.Needed.{NeedsSome, made_of}
use Rattle.script.specs.declared.commands.Command.{Command}
use Rattle.script.specs.declared.commands.Command.TheVariants.{Edit, Forget, Ask}
use Rattle.history_model.specs.declared.questions.Question.TheVariants as questions
use Rattle.script.specs.declared.commands.ScriptLine.{ScriptLine}
use Rattle.transcript.specs.declared.answers.Answer.{Answer}
use Rattle.transcript.specs.declared.answers.Answer.TheVariants as answers
use Rattle.transcript.specs.declared.answers.LineAnswer.{LineAnswer}
use Rattle.conformance.specs.QuestionAnswers.{is, count}
use Rattle.conformance.specs.Answers.{IsUnforgotten, IsForgotten, IsReadable, asked_version, Answers, done, forgot, tells, forgotten, LineFits}
use Rattle.conformance.specs.Shown.{IsShown}
use Rattle.conformance.specs.Refusing.{FullOnlyWherePossible}

abbrev whole : Boxed
whole = box_at (cell_at 0 0 0) (cell_at 8 8 8)

abbrev bar : Boxed
bar = box_at (cell_at 0 0 0) (cell_at 2 1 1)

abbrev line : ℕ → Command → ScriptLine
line n command = record { line = n; command = command }

abbrev answered : ℕ → ℕ → Answer → LineAnswer
answered n at answer = record { line = n; at = at; answer = answer }

abbrev corner : Cell
corner = cell_at 0 0 0

-- the first session fills a bar, forgets version 0 and asks of it; the second one wants to go back
-- to it, and counts
abbrev first : List ScriptLine
first =
    line 1 (Edit (Fill bar) false) ∷ line 2 (Forget 0) ∷ line 3
    (Ask (Some 0) (questions.Get corner)) ∷ []

abbrev second : List ScriptLine
second = line 1 (Edit Undo false) ∷ line 2 (Ask None (questions.Count whole)) ∷ []

abbrev first_answers : List LineAnswer
first_answers =
    answered 1 1 answers.Done ∷ answered 2 1 (answers.Forgot 0) ∷ answered 3 1
    (answers.Forgotten 0) ∷ []

abbrev second_answers : List LineAnswer
second_answers = answered 1 1 (answers.Forgotten 0) ∷ answered 2 1 (answers.Count 2) ∷ []

abbrev mark : Mark
mark = record { version = 0; at = 1; session = 0; line = 2 }

abbrev history : Log
history = record {
  side = 3;
  coloured = false;
  records =
      record { session = 0; line = 1; act = Fill bar } ∷ [];
  marks = mark ∷ [];
}

two_cells : number_in whole (world_has [] history.records 1) ≡ 2
unfolding sum_below
two_cells = refl

each_mark : (P : Mark → Type 0) → P mark → All P history.marks
each_mark P here = All-cons P mark [] here (All-nil P)

is_forgotten : (session at : ℕ) → (0 ≡ session → 2 < at) → IsForgotten history.marks session at 1 0
is_forgotten session at earlier =
    record {
      mark = mark;
      listed =
          (0, omega arith, refl);
      same = refl;
      by_then = omega arith;
      earlier = earlier;
    }

newest_stands : (session at : ℕ) → IsReadable (IsUnforgotten history.marks session at 1) 1 1
newest_stands session at = record {
  there = omega arith;
  stands = record {
    later = each_mark (λ m. m.version ≡ 1 → 1 ≤ m.at)
        (λ e. absurd (omega arith));
    own = each_mark
        (λ m. m.version ≡ 1 → m.session ≡ session → at ≤ m.line) (λ e. absurd (omega arith));
  };
}

abbrev asked : Command → Option ℕ
asked (Ask version question) = version
asked _ = None

module _ (p : Layout) where
  first_fit : AllZip (LineFits p [] history 0) first first_answers
  first_fit = (
    record {
      same_line = refl;
      within = omega arith;
      answers = done (Fill bar) false
          (record { first = omega arith; is = refl });
    },
    (
      record { same_line = refl; within = omega arith; answers = forgot 0 (0, omega arith, refl) },
      (
        record {
          same_line = refl;
          within = omega arith;
          answers = forgotten
              (Ask (Some 0) (questions.Get corner)) 0 refl (is_forgotten 0 3 (λ _. omega arith));
        },
        tt,
      ),
    ),
  )

  second_fit : AllZip (LineFits p [] history 1) second second_answers
  second_fit = (
    record {
      same_line = refl;
      within = omega arith;
      answers = forgotten (Edit Undo false) 0 refl
          (is_forgotten 1 1 (λ e. absurd (omega arith)));
    },
    (
      record {
        same_line = refl;
        within = omega arith;
        answers = tells None (questions.Count whole)
            (answers.Count 2) (newest_stands 1 2) (count whole 2 (sym two_cells));
      },
      tt,
    ),
  )

  -- another session may still answer from version 0 at this length, since the mark may have come
  -- after
  other_may : LineFits p [] history 1 (line 3 (Ask (Some 0) (questions.Get corner)))
      (answered 3 1 (answers.Is false))
  other_may = record {
    same_line = refl;
    within = omega arith;
    answers =
        tells (Some 0) (questions.Get corner) (answers.Is false)
        (record {
          there = omega arith;
          stands =
              record {
                later = each_mark (λ m. m.version ≡ 0 → 1 ≤ m.at)
                    (λ _. omega arith);
                own = each_mark
                    (λ m. m.version ≡ 0 → m.session ≡ 1 → 3 ≤ m.line)
                    (λ _ mine. absurd (omega arith));
              };
        }) (is corner false refl);
  }

  -- the session that forgot it may not
  own_may_not : LineFits p [] history 0 (line 3 (Ask (Some 0) (questions.Get corner)))
      (answered 3 1 (answers.Is false)) → ⊥
  own_may_not fits = no (Ask (Some 0) (questions.Get corner))
      (answers.Is false) refl refl fits.answers
    where
      no : (c : Command) (a : Answer) → c ≡ Ask (Some 0) (questions.Get corner)
          → a ≡ (answers.Is false) → Answers p [] history (IsUnforgotten history.marks 0 3 1) 0 3 1 c a
          → ⊥
      no c a e f (tells version question answer readable tell) =
          let at : version ≡ Some 0 = ap asked e in
          let of : IsReadable (IsUnforgotten history.marks 0 3 1) 1 (asked_version (Some 0) 1) =
          subst (λ (v : Option ℕ). IsReadable (IsUnforgotten history.marks 0 3 1) 1
          (asked_version v 1)) at readable in
          let late =
          All-head (λ (m : Mark). m.version ≡ 0 → m.session ≡ 0
          → 3 ≤ m.line) mark [] of.stands.own refl refl in
          omega arith
      no c a e f other = absurd (let bad : ⊥ = cc in bad)

shown : IsShown (first ∷ second ∷ []) (first_answers ∷ second_answers ∷ []) history
shown = record {
  records = record { weighs = λ f. refl };
  marks = record { weighs = λ f. refl };
  rising = λ i j d low high. absurd (omega arith);
}

-- an erasing that makes nothing needs no bucket, so it can't be refused for a full one
nothing_needed : (p : Layout) (level bucket : ℕ) → NeedsSome p [] [] (Erase whole) 0 level bucket
    → ⊥
nothing_needed p level bucket n =
    let some = n.needed.some_part in
    let few = n.needed.few_parts in
    let one : n.parts ≡ 1 = omega arith in
    false≢true (subst
    (λ (parts : ℕ). made_of (2 ^ p.side) [] [] (Erase whole) 0 parts n.needed.some.at
    ≡ true) one n.needed.some.set)

never_full : (p : Layout)
    → FullOnlyWherePossible p [] (record { side = 3; coloured = false; records = []; marks = [] })
    ((line 1 (Edit (Erase whole) false) ∷ []) ∷ [])
    ((answered 1 0 (answers.Full 0 0) ∷ []) ∷ []) → ⊥
never_full p full =
    nothing_needed p 0 0
    (full.each 0 (record { act = Erase whole; at = 0; level = 0; bucket = 0 })
    (omega arith)).needed
