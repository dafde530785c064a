-- Worked scripts: each of their answers fits.
use Rattle.std.proofs.Common.{◌≡◌, ℕ, ◌<◌, ◌≤◌, true, false, List, [], ◌∷◌, refl, sym, arith}
use Rattle.std.specs.Prelude.{None, Some}
use Rattle.std.specs.List.{AllZip}
use Rattle.std.proofs.lemmas.List.Elements.{All-nil, All-cons}
use Rattle.vw_cell.specs.declared.boxes.Boxed.{Boxed}
use Rattle.vw_cell.specs.Sums.{sum_below}
use Rattle.vw_cell.specs.Counts.{cell_at, number_in}
use Rattle.history_model.specs.declared.acts.Act.{Act}
use Rattle.history_model.specs.declared.acts.Act.TheVariants.{Fill, Undo, Redo}
use Rattle.history_model.specs.declared.histories.Mark.{Mark}
use Rattle.history_model.specs.declared.histories.Record.{Record}
use Rattle.history_model.specs.declared.questions.Question.TheVariants as questions
use Rattle.history_model.specs.Worlds.{box_at}
use Rattle.history_model.specs.Logs.{Log}
use Rattle.history_model.specs.Moments.{world_has}
use Rattle.node_words.specs.Plans.{Layout}
use Rattle.script.specs.declared.commands.Command.{Command}
use Rattle.script.specs.declared.commands.Command.TheVariants.{Edit, Forget, Ask, Save, Same, Head}
use Rattle.script.specs.declared.commands.SaveName.{SaveName}
use Rattle.script.specs.declared.commands.ScriptLine.{ScriptLine}
use Rattle.transcript.specs.declared.answers.Answer.{Answer}
use Rattle.transcript.specs.declared.answers.Answer.TheVariants as answers
use Rattle.transcript.specs.declared.answers.LineAnswer.{LineAnswer}
use Rattle.conformance.specs.QuestionAnswers.{count}
use Rattle.conformance.specs.Answers.{IsUnforgotten, IsForgotten, IsReadable, done, forgot, tells, saves, different, head, no_version, forgotten, is_head, nothing_to_undo, nothing_to_redo, stale, full, LineFits}

abbrev one : ℕ → Boxed
one x = box_at (cell_at x 0 0) (cell_at 1 1 1)

abbrev line : ℕ → Command → ScriptLine
line n command = record { line = n; command = command }

abbrev answered : ℕ → ℕ → Answer → LineAnswer
answered n at answer = record { line = n; at = at; answer = answer }

abbrev entry : ℕ → Act → Record
entry n act = record { session = 0; line = n; act = act }

abbrev log_of : List Record → List Mark → Log
log_of records marks = record { side = 3; coloured = false; records = records; marks = marks }

-- where nothing is forgotten, all versions stand
all_stand : (n at v : ℕ) → v ≤ n → IsReadable (IsUnforgotten [] 0 at n) n v
all_stand n at v there =
    record { there = there; stands = record { later = All-nil _; own = All-nil _ } }

-- a line that fits, before others
also : {A B : Type 0} → A → B → A × B
also a b = (a, b)

-- ---- undos and redos

abbrev undoing : List ScriptLine
undoing =
    line 1 (Edit Undo false) ∷ line 2 (Edit (Fill (one 0)) false) ∷ line 3
    (Edit Undo false) ∷ line 4 (Edit (Fill (one 1)) false)
    ∷ line 5 (Edit Redo false) ∷ line 6 (Edit Undo false) ∷ line 7
    (Ask None (questions.Count (box_at (cell_at 0 0 0) (cell_at 4 1 1)))) ∷ line 8 Head ∷ []

abbrev undone : List LineAnswer
undone =
    answered 1 0 answers.NothingToUndo ∷ answered 2 1 answers.Done ∷ answered 3 2 answers.Done ∷ answered 4 3 answers.Done
    ∷ answered 5 3 answers.NothingToRedo ∷ answered 6 4 answers.Done ∷ answered 7 4
    (answers.Count 0) ∷ answered 8 4 answers.Head ∷ []

abbrev undoings : Log
undoings =
    log_of (entry 2 (Fill (one 0)) ∷ entry 3 Undo ∷ entry 4 (Fill (one 1)) ∷ entry 6 Undo ∷ []) []

no_cells : number_in (box_at (cell_at 0 0 0) (cell_at 4 1 1)) (world_has [] undoings.records 4) ≡ 0
unfolding sum_below
no_cells = refl

module _ (p : Layout) where
  undos_fit : AllZip (LineFits p [] undoings 0) undoing undone
  undos_fit =
      (also (record { same_line = refl; within = omega arith; answers = nothing_to_undo false refl })
      (also (record {
        same_line = refl;
        within = omega arith;
        answers = done (Fill (one 0)) false
            (record { first = omega arith; is = refl });
      })
      (also (record {
        same_line = refl;
        within = omega arith;
        answers = done Undo false
            (record { first = omega arith; is = refl });
      })
      (also (record {
        same_line = refl;
        within = omega arith;
        answers = done (Fill (one 1)) false
            (record { first = omega arith; is = refl });
      })
      (also (record { same_line = refl; within = omega arith; answers = nothing_to_redo false refl })
      (also (record {
        same_line = refl;
        within = omega arith;
        answers = done Undo false
            (record { first = omega arith; is = refl });
      })
      (also (record {
        same_line = refl;
        within = omega arith;
        answers = tells None
            (questions.Count (box_at (cell_at 0 0 0) (cell_at 4 1 1))) (answers.Count 0)
            (all_stand 4 7 4 (omega arith)) (count _ 0 (sym no_cells));
      })
      (also (record { same_line = refl; within = omega arith; answers = head })
      tt))))))))

-- ---- forgetting

abbrev forgetting : List ScriptLine
forgetting =
    line 1 (Edit (Fill (one 0)) false) ∷ line 2 (Edit (Fill (one 1)) false) ∷ line 3
    (Forget 1) ∷ line 4 (Edit Undo false) ∷ line 5 (Forget 2)
    ∷ line 6 (Forget 9) ∷ line 7 (Ask (Some 1) (questions.Get (cell_at 0 0 0))) ∷ line 8
    (Same 0 2) ∷ []

abbrev forgot_answers : List LineAnswer
forgot_answers =
    answered 1 1 answers.Done ∷ answered 2 2 answers.Done ∷ answered 3 2
    (answers.Forgot 1) ∷ answered 4 2 (answers.Forgotten 1) ∷ answered 5 2 answers.IsHead
    ∷ answered 6 2 (answers.NoVersion 9) ∷ answered 7 2 (answers.Forgotten 1) ∷ answered 8 2
    (answers.Same false) ∷ []

abbrev mark : Mark
mark = record { version = 1; at = 2; session = 0; line = 3 }

abbrev forgettings : Log
forgettings = log_of (entry 1 (Fill (one 0)) ∷ entry 2 (Fill (one 1)) ∷ []) (mark ∷ [])

one_forgotten : (at : ℕ) → 3 < at → IsForgotten forgettings.marks 0 at 2 1
one_forgotten at later =
    record {
      mark = mark;
      listed =
          (0, omega arith, refl);
      same = refl;
      by_then = omega arith;
      earlier = λ _. later;
    }

other_stands : (v : ℕ) → v ≤ 2 → (1 ≡ v → ⊥) → IsReadable (IsUnforgotten forgettings.marks 0 8 2) 2 v
other_stands v there other = record {
  there = there;
  stands = record {
    later = All-cons (λ m. m.version ≡ v → 2 ≤ m.at) mark [] (λ e. absurd (other e)) (All-nil _);
    own = All-cons (λ m. m.version ≡ v → m.session ≡ 0 → 8 ≤ m.line) mark []
        (λ e. absurd (other e)) (All-nil _);
  };
}

module _ (p : Layout) where
  forgettings_fit : AllZip (LineFits p [] forgettings 0) forgetting forgot_answers
  forgettings_fit =
      (also (record {
        same_line = refl;
        within = omega arith;
        answers = done (Fill (one 0)) false
            (record { first = omega arith; is = refl });
      })
      (also (record {
        same_line = refl;
        within = omega arith;
        answers = done (Fill (one 1)) false
            (record { first = omega arith; is = refl });
      })
      (also (record {
        same_line = refl;
        within = omega arith;
        answers = forgot 1
            (0, omega arith, refl);
      })
      (also (record {
        same_line = refl;
        within = omega arith;
        answers = forgotten
            (Edit Undo false) 1 refl (one_forgotten 4 (omega arith));
      })
      (also (record { same_line = refl; within = omega arith; answers = is_head })
      (also (record {
        same_line = refl;
        within = omega arith;
        answers = no_version
            (Forget 9) 9 refl (omega arith);
      })
      (also (record {
        same_line = refl;
        within = omega arith;
        answers = forgotten
            (Ask (Some 1) (questions.Get (cell_at 0 0 0))) 1 refl (one_forgotten 7 (omega arith));
      })
      (also (record {
        same_line = refl;
        within = omega arith;
        answers =
            different 0 2 (other_stands 0 (omega arith) (λ e. omega arith))
            (other_stands 2 (omega arith) (λ e. omega arith))
            (λ same. (let bad : 0
            ≡ 1 = same.each (cell_at 0 0 0)
            (record { x = omega arith; y = omega arith; z = omega arith }) in omega arith));
      })
      tt))))))))

-- ---- a full bucket, a stale try and a saved box

abbrev small_plan : Layout
small_plan = record { side = 2; buckets = 1 ∷ []; cap = 1 }

abbrev filled : Log
filled = record { side = 2; coloured = false; records = entry 1 (Fill (one 0)) ∷ []; marks = [] }

full_fits : LineFits small_plan [] filled 0 (line 2 (Edit (Fill (one 1)) false))
    (answered 2 1 (answers.Full 0 0))
full_fits = record {
  same_line = refl;
  within = omega arith;
  answers = full
      (Fill (one 1)) false 0 0 refl (omega arith) (omega arith);
}

stale_fits : (p : Layout)
    → LineFits p [] filled 1 (line 1 (Edit (Fill (one 0)) true)) (answered 1 1 (answers.Stale 0))
stale_fits p =
    record {
      same_line = refl;
      within = omega arith;
      answers = stale (Fill (one 0)) 0 (omega arith)
          (omega arith);
    }

one_cell : number_in (one 0) (world_has [] filled.records 1) ≡ 1
unfolding sum_below
one_cell = refl

saved_fits : (p : Layout) (name : SaveName)
    → LineFits p [] filled 0 (line 2 (Save None name (one 0))) (answered 2 1 (answers.Saved 1))
saved_fits p name =
    record {
      same_line = refl;
      within = omega arith;
      answers = saves None name (one 0) 1
          (all_stand 1 2 1 (omega arith)) (sym one_cell);
    }
