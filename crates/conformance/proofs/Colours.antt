-- Worked cases of coloured histories: two fills with the same cells in two tints, and what the
-- parts of a fill need.
use Rattle.std.proofs.Common.{◌≡◌, ℕ, ◌≤◌, true, false, List, [], ◌∷◌, refl, sym, arith}
use Rattle.std.specs.Prelude.{None, Some}
use Rattle.std.specs.List.{AllZip}
use Rattle.std.proofs.lemmas.List.Elements.{All-nil, All-cons}
use Rattle.vw_cell.specs.declared.cells.Cell.{Cell}
use Rattle.vw_cell.specs.declared.boxes.Boxed.{Boxed}
use Rattle.vw_cell.specs.Sums.{sum_below}
use Rattle.vw_cell.specs.Counts.{cell_at, number_in}
use Rattle.history_model.specs.declared.acts.Act.{Act}
use Rattle.history_model.specs.declared.acts.Act.TheVariants.{Tint}
use Rattle.history_model.specs.declared.acts.TintAct.TheVariants as tints
use Rattle.history_model.specs.declared.histories.Record.{Record}
use Rattle.history_model.specs.declared.questions.Question.TheVariants as questions
use Rattle.history_model.specs.Worlds.{box_at}
use Rattle.history_model.specs.Logs.{Log, SuitsTints, suits_tints}
use Rattle.history_model.specs.Moments.{world_has}
use Rattle.history_model.specs.Stores.{edit_part_number}
use Rattle.node_words.specs.Plans.{Layout}
use Rattle.conformance.specs.possible.Needed.{made_of}
use Rattle.script.specs.declared.commands.Command.{Command}
use Rattle.script.specs.declared.commands.Command.TheVariants.{Edit, Ask, Same}
use Rattle.script.specs.declared.commands.ScriptLine.{ScriptLine}
use Rattle.transcript.specs.declared.answers.Answer.{Answer}
use Rattle.transcript.specs.declared.answers.Answer.TheVariants as answers
use Rattle.transcript.specs.declared.answers.LineAnswer.{LineAnswer}
use Rattle.conformance.specs.QuestionAnswers.{colour, count}
use Rattle.conformance.specs.Answers.{IsUnforgotten, IsReadable, done, tells, different, LineFits}

abbrev bar : Boxed
bar = box_at (cell_at 0 0 0) (cell_at 2 1 1)

abbrev whole : Boxed
whole = box_at (cell_at 0 0 0) (cell_at 4 4 4)

abbrev corner : Cell
corner = cell_at 0 0 0

abbrev filled_with : ℕ → Act
filled_with tint = Tint (tints.Fill bar tint)

abbrev line : ℕ → Command → ScriptLine
line n command = record { line = n; command = command }

abbrev answered : ℕ → ℕ → Answer → LineAnswer
answered n at answer = record { line = n; at = at; answer = answer }

abbrev entry : ℕ → Act → Record
entry n act = record { session = 0; line = n; act = act }

-- the store has 16 cells a side, and so the world has 4
abbrev history : Log
history = record {
  side = 4;
  coloured = true;
  records = entry 1 (filled_with 7) ∷ entry 3
      (filled_with 200) ∷ [];
  marks = [];
}

suits : SuitsTints history
suits =
    All-cons (λ (r : Record). suits_tints true r.act ≡ true) (entry 1 (filled_with 7))
    (entry 3 (filled_with 200) ∷ []) refl
    (All-cons (λ (r : Record). suits_tints true r.act ≡ true)
    (entry 3 (filled_with 200)) [] refl (All-nil _))

-- both versions have the same two cells, in two tints
abbrev asking : List ScriptLine
asking =
    line 1 (Edit (filled_with 7) false) ∷ line 2 (Ask None (questions.Colour corner)) ∷ line 3
    (Edit (filled_with 200) false) ∷ line 4 (Ask (Some 1) (questions.Colour corner))
    ∷ line 5 (Ask None (questions.Colour (cell_at 3 3 3))) ∷ line 6
    (Ask None (questions.Count whole)) ∷ line 7 (Same 1 2) ∷ []

abbrev asked : List LineAnswer
asked =
    answered 1 1 answers.Done ∷ answered 2 1
    (answers.Colour 7) ∷ answered 3 2 answers.Done ∷ answered 4 2 (answers.Colour 7)
    ∷ answered 5 2 (answers.Colour 0) ∷ answered 6 2 (answers.Count 2) ∷ answered 7 2
    (answers.Same false) ∷ []

two_cells : number_in whole (world_has [] history.records 2) ≡ 2
unfolding sum_below
two_cells = refl

all_stand : (n at v : ℕ) → v ≤ n → IsReadable (IsUnforgotten [] 0 at n) n v
all_stand n at v there =
    record { there = there; stands = record { later = All-nil _; own = All-nil _ } }

also : {A B : Type 0} → A → B → A × B
also a b = (a, b)

module _ (p : Layout) where
  colours_fit : AllZip (LineFits p [] history 0) asking asked
  colours_fit =
      (also (record {
        same_line = refl;
        within = omega arith;
        answers = done (filled_with 7) false
            (record { first = omega arith; is = refl });
      })
      (also (record {
        same_line = refl;
        within = omega arith;
        answers = tells None
            (questions.Colour corner) (answers.Colour 7) (all_stand 1 2 1 (omega arith))
            (colour corner 7 refl);
      })
      (also (record {
        same_line = refl;
        within = omega arith;
        answers = done
            (filled_with 200) false (record { first = omega arith; is = refl });
      })
      (also (record {
        same_line = refl;
        within = omega arith;
        answers = tells (Some 1)
            (questions.Colour corner) (answers.Colour 7) (all_stand 2 4 1 (omega arith))
            (colour corner 7 refl);
      })
      (also (record {
        same_line = refl;
        within = omega arith;
        answers = tells None
            (questions.Colour (cell_at 3 3 3)) (answers.Colour 0) (all_stand 2 5 2 (omega arith))
            (colour (cell_at 3 3 3) 0 refl);
      })
      (also (record {
        same_line = refl;
        within = omega arith;
        answers = tells None
            (questions.Count whole) (answers.Count 2) (all_stand 2 6 2 (omega arith))
            (count whole 2 (sym two_cells));
      })
      (also (record {
        same_line = refl;
        within = omega arith;
        answers =
            different 1 2 (all_stand 2 7 1 (omega arith)) (all_stand 2 7 2 (omega arith))
            (λ same. (let bad : 7
            ≡ 200 = same.each corner
            (record { x = omega arith; y = omega arith; z = omega arith }) in omega arith));
      })
      tt)))))))

-- a fill is made by nine parts: the first sets the plane of all set cells, at the store's origin,
-- and bit 0 of the tint has the plane behind it, which the second part sets
nine_parts : edit_part_number (filled_with 7) ≡ 9
nine_parts = refl

first_plane_first : made_of 16 [] [] (filled_with 7) 0 1 corner ≡ true
first_plane_first = refl

next_plane_later : made_of 16 [] [] (filled_with 7) 0 1 (cell_at 8 0 0) ≡ false
next_plane_later = refl

next_plane_then : made_of 16 [] [] (filled_with 7) 0 2 (cell_at 8 0 0) ≡ true
next_plane_then = refl
