-- What the lines of one script of a load show.
use Rattle.std.proofs.Common.{◌≡◌, ℕ, suc, ◌+◌, ◌≤◌, Bool, true, false, List, [], ◌∷◌, ◌++◌, length, None, refl, ◌∙◌, arith}
use Rattle.std.specs.Prelude.{All, if◌then◌else◌, sum_by}
use Rattle.std.specs.List.{AllPairs}
use Rattle.std.proofs.lemmas.List.Elements.{All-head, All-tail}
use Rattle.std.proofs.lemmas.List.Sums.{sum_by-cons}
use Rattle.vw_cell.specs.declared.cells.Cell.{Cell}
use Rattle.vw_cell.specs.declared.boxes.Boxed.{Boxed}
use Rattle.history_model.specs.Contents.{Content}
use Rattle.history_model.specs.declared.acts.Act.{Act}
use Rattle.history_model.specs.declared.questions.Question.TheVariants.{Count}
use Rattle.script.specs.declared.commands.Command.TheVariants.{Ask}
use Rattle.script.specs.declared.commands.ScriptLine.{ScriptLine}
use Rattle.transcript.specs.declared.answers.Answer.{Answer}
use Rattle.transcript.specs.declared.answers.Answer.TheVariants as answers
use Rattle.transcript.specs.declared.answers.LineAnswer.{LineAnswer}
use Rattle.conformance.specs.Agreeing.{InOrder}
use Rattle.conformance.specs.Shown.{Accepted, is_done, accepted_by, accepted_in}
use Rattle.text_laws.specs.loads.Commands.{edit_lines}
use Rattle.text_laws.specs.regions.Runs.{set_behind, set_by}
use Rattle.text_laws.proofs.OfRegions.Rising.{IsRising}

-- a script's line that asks for the number of cells of a box
abbrev pub asks : ℕ → Boxed → ScriptLine
asks line b = record { line = line; command = Ask None (Count b) }

-- the lines of these changes, and one that asks
abbrev pub script_of : ℕ → List Act → ScriptLine → List ScriptLine
script_of number acts last = edit_lines number acts ++ last ∷ []

-- what a cell is behind these changes
abbrev pub set_after : List Content → Cell → Bool → List Act → Bool
set_after models p before [] = before
set_after models p before (act ∷ more) = set_after models p (set_behind models p before act) more

-- ---- the accepted changes of a script

asks_shows : (session line n : ℕ) (b : Boxed) (answer : Answer)
    → accepted_by session line (Ask None (Count b)) n answer ≡ []
asks_shows session line n b answer = refl

pub last_shows : (session line : ℕ) (b : Boxed) (t : List LineAnswer)
    → accepted_in session (asks line b ∷ []) t ≡ []
last_shows session line b [] = refl
last_shows session line b (a ∷ more) = refl

-- they are as many as the changes at most
pub few_shown : (session number line : ℕ) (b : Boxed) (acts : List Act) (t : List LineAnswer)
    → length (accepted_in session (script_of number acts (asks line b)) t) ≤ length acts
few_shown session number line b [] t =
    let none = last_shows session line b t in rw none (omega arith)
few_shown session number line b (act ∷ acts) [] = omega arith
few_shown session number line b (act ∷ acts) (a ∷ t) =
    go (is_done a.answer) (few_shown session (number + 1) line b acts t)
  where
    go : (d : Bool)
        → length (accepted_in session (script_of (number + 1) acts (asks line b)) t) ≤ length acts
        → length
        ((if d then record {
          at = a.at;
          entry =
              record { session = session; line = number; act = act };
        } ∷ []
        else []) ++ accepted_in session
        (script_of (number + 1) acts (asks line b)) t) ≤ length (act ∷ acts)
    go true rest = omega (arith, rest)
    go false rest = omega (arith, rest)

-- where they are as many, a cell is behind them as behind the changes
pub all_shown : (models : List Content) (p : Cell) (session number line : ℕ) (b : Boxed)
    (acts : List Act) (t : List LineAnswer) (before : Bool)
    → length (accepted_in session (script_of number acts (asks line b)) t) ≡ length acts
    → set_by models p before
    (accepted_in session (script_of number acts (asks line b)) t)
    ≡ set_after models p before acts
all_shown models p session number line b [] t before same =
    let none = last_shows session line b t in rw none refl
all_shown models p session number line b (act ∷ acts) [] before same = absurd (omega (arith, same))
all_shown models p session number line b (act ∷ acts) (a ∷ t) before same =
    go (is_done a.answer) same (all_shown models p session (number + 1) line b acts t)
    (few_shown session (number + 1) line b acts t)
  where
    go : (d : Bool)
        → length
        ((if d then record {
          at = a.at;
          entry =
              record { session = session; line = number; act = act };
        } ∷ []
        else []) ++ accepted_in session (script_of (number + 1) acts (asks line b)) t)
        ≡ length (act ∷ acts)
        → ((v : Bool) → length (accepted_in session (script_of (number + 1) acts (asks line b)) t)
        ≡ length acts
        → set_by models p v
        (accepted_in session (script_of (number + 1) acts (asks line b)) t)
        ≡ set_after models p v acts)
        → length (accepted_in session (script_of (number + 1) acts (asks line b)) t) ≤ length acts
        → set_by models p before
        ((if d then record {
          at = a.at;
          entry =
              record { session = session; line = number; act = act };
        } ∷ []
        else []) ++ accepted_in session (script_of (number + 1) acts (asks line b)) t)
        ≡ set_after models p (set_behind models p before act) acts
    go true all more few = more (set_behind models p before act) (omega (arith, all))
    go false all more few = absurd (omega (arith, all, few))

-- a weight that is 0 for each change of the script at each moment that its lines have is 0 for all
-- of them
pub none_weighs : (f : Accepted → ℕ) (most session number line : ℕ) (b : Boxed) (acts : List Act)
    (t : List LineAnswer)
    → All (λ a. a.at ≤ most) t
    → All
    (λ act. (n at : ℕ) → at ≤ most
    → f (record { at = at; entry = record { session = session; line = n; act = act } })
    ≡ 0) acts
    → sum_by f (accepted_in session (script_of number acts (asks line b)) t) ≡ 0
none_weighs f most session number line b [] t within none =
    let nothing = last_shows session line b t in rw nothing refl
none_weighs f most session number line b (act ∷ acts) [] within none = refl
none_weighs f most session number line b (act ∷ acts) (a ∷ t) within none =
    go (is_done a.answer)
    (none_weighs f most session (number + 1) line b acts t
    (All-tail (λ (x : LineAnswer). x.at ≤ most) a t within)
    (All-tail (λ act. (n at : ℕ) → at ≤ most
    → f (record { at = at; entry = record { session = session; line = n; act = act } })
    ≡ 0) act acts none))
  where
    entry : Accepted
    entry = record { at = a.at; entry = record { session = session; line = number; act = act } }

    here : f entry ≡ 0
    here = All-head
        (λ act. (n at : ℕ) → at ≤ most
        → f (record { at = at; entry = record { session = session; line = n; act = act } })
        ≡ 0) act acts none number a.at
        (All-head (λ (x : LineAnswer). x.at ≤ most) a t within)

    go : (d : Bool)
        → sum_by f (accepted_in session (script_of (number + 1) acts (asks line b)) t) ≡ 0
        → sum_by f
        ((if d then entry ∷ [] else []) ++ accepted_in session
        (script_of (number + 1) acts (asks line b)) t) ≡ 0
    go true rest = sum_by-cons f entry
        (accepted_in session (script_of (number + 1) acts (asks line b)) t)
        ∙ (let h = here in omega (arith, h, rest))
    go false rest = rest

-- ---- their moments rise

abbrev pub later_than : ℕ → List LineAnswer → Type 0
later_than low t = All (λ a. a.answer ≡ answers.Done → low ≤ a.at) t

done_is : (a : Answer) → is_done a ≡ true → a ≡ answers.Done
done_is answers.Done is = refl
done_is (answers.Forgot v) is = absurd (let no : false ≡ true = is in cc)
done_is (answers.Is set) is = absurd (let no : false ≡ true = is in cc)
done_is (answers.Colour tint) is = absurd (let no : false ≡ true = is in cc)
done_is (answers.Count cells) is = absurd (let no : false ≡ true = is in cc)
done_is (answers.Faces cells) is = absurd (let no : false ≡ true = is in cc)
done_is (answers.Extent found) is = absurd (let no : false ≡ true = is in cc)
done_is (answers.Hit found) is = absurd (let no : false ≡ true = is in cc)
done_is (answers.Same agrees) is = absurd (let no : false ≡ true = is in cc)
done_is answers.Head is = absurd (let no : false ≡ true = is in cc)
done_is (answers.Saved cells) is = absurd (let no : false ≡ true = is in cc)
done_is (answers.Full level bucket) is = absurd (let no : false ≡ true = is in cc)
done_is (answers.NoVersion v) is = absurd (let no : false ≡ true = is in cc)
done_is (answers.Forgotten v) is = absurd (let no : false ≡ true = is in cc)
done_is answers.IsHead is = absurd (let no : false ≡ true = is in cc)
done_is answers.NothingToUndo is = absurd (let no : false ≡ true = is in cc)
done_is answers.NothingToRedo is = absurd (let no : false ≡ true = is in cc)
done_is answers.LogFull is = absurd (let no : false ≡ true = is in cc)
done_is (answers.Stale base) is = absurd (let no : false ≡ true = is in cc)

-- the pairs of a list's tail
pub tail_pairs : (a : LineAnswer) (t : List LineAnswer) → AllPairs InOrder (a ∷ t)
    → AllPairs InOrder t
tail_pairs a t pairs i j d less within =
    pairs (suc i) (suc j) d (omega (arith, less)) (omega (arith, within))

-- and those with its head
pub head_pairs : (a : LineAnswer) (t : List LineAnswer) → AllPairs InOrder (a ∷ t)
    → All (InOrder a) t
head_pairs a t pairs k d within = pairs 0 (suc k) d (omega arith) (omega (arith, within))

later_all : (a : LineAnswer) (t : List LineAnswer) → All (InOrder a) t → later_than (a.at + 1) t
later_all a t all k d within done = let less = (all k d within).later done in omega (arith, less)

pub shown_rises : (session number line low : ℕ) (b : Boxed) (acts : List Act) (t : List LineAnswer)
    → AllPairs InOrder t → later_than low t
    → IsRising low (accepted_in session (script_of number acts (asks line b)) t)
shown_rises session number line low b [] t pairs later =
    let none = last_shows session line b t in rw none tt
shown_rises session number line low b (act ∷ acts) [] pairs later = tt
shown_rises session number line low b (act ∷ acts) (a ∷ t) pairs later =
    go (is_done a.answer) refl
    (shown_rises session (number + 1) line (a.at + 1) b acts t (tail_pairs a t pairs)
    (later_all a t (head_pairs a t pairs)))
    (shown_rises session (number + 1) line low b acts t (tail_pairs a t pairs)
    (All-tail (λ (x : LineAnswer). x.answer ≡ answers.Done → low ≤ x.at) a t later))
  where
    go : (d : Bool) → is_done a.answer ≡ d
        → IsRising (a.at + 1) (accepted_in session (script_of (number + 1) acts (asks line b)) t)
        → IsRising low (accepted_in session (script_of (number + 1) acts (asks line b)) t)
        → IsRising low
        ((if d then record {
          at = a.at;
          entry =
              record { session = session; line = number; act = act };
        } ∷ []
        else []) ++ accepted_in session (script_of (number + 1) acts (asks line b)) t)
    go true is over under = (
      All-head (λ (x : LineAnswer). x.answer ≡ answers.Done → low ≤ x.at) a t later
          (done_is a.answer is),
      over,
    )
    go false is over under = under
