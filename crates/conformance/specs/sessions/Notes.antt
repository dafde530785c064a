-- What was made for the lines of a session, and what met full buckets, line by line.
use Rattle.std.specs.Prelude.{◌≡◌, ℕ, List, [], ◌∷◌, ◌++◌, All}
use Rattle.history_model.specs.Contents.{Content}
use Rattle.history_model.specs.declared.histories.Record.{Record}
use Rattle.node_words.specs.shapes.Shape.{Shape}
use Rattle.node_words.specs.Held.{Wanted}
use Rattle.node_words.specs.Plans.{Layout}
use Rattle.script.specs.declared.commands.ScriptLine.{ScriptLine}
use Rattle.transcript.specs.declared.answers.LineAnswer.{LineAnswer}
use Rattle.conformance.specs.Refusing.{refused_by}
use Rattle.conformance.specs.scripts.Keeping.{MadeAndMet, MakesFor, WasMet}

-- one line, of which the line before has this moment: each shape that was made for it, and each
-- that was wanted of a full bucket, is one that its edit wants of a version of its moments; and a
-- change that was refused for a full bucket has an entry of its own among these
pub record LineNotes (p : Layout) (models : List Content) (records : List Record) (first : ℕ)
    (l : ScriptLine) (a : LineAnswer) (old new : MadeAndMet) : Type 0 where
  pub more : List Shape
  pub made : new.made ≡ more ++ old.made
  pub further : List Wanted
  pub met : new.met ≡ further ++ old.met
  pub parts : All (MakesFor p models records l.command first a.at) more
  pub wanted : All (λ w. MakesFor p models records l.command first a.at w.shape) further
  pub was_met : All (WasMet p models records further) (refused_by l.command a.at a.answer)

-- these lines one after another, of which the line before the first has this moment
abbrev pub LinesNote : Layout → List Content → List Record → ℕ → List ScriptLine
    → List LineAnswer → MadeAndMet → MadeAndMet → Type 0
LinesNote p models records first [] [] old new = new ≡ old
LinesNote p models records first [] (a ∷ answers) old new = ⊥
LinesNote p models records first (l ∷ lines) [] old new = ⊥
LinesNote p models records first (l ∷ lines) (a ∷ answers) old new =
    (between : MadeAndMet) × LineNotes p models records first l a old between
    × LinesNote p models records a.at lines answers between new
