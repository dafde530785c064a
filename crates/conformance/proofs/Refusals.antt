-- Where nowhere enough is possible, no change was refused for a full bucket.
use Rattle.std.proofs.Common.{◌≡◌, ℕ, List, [], ◌∷◌, All, refl, arith}
use Rattle.history_model.specs.Contents.{Content}
use Rattle.history_model.specs.Logs.{Log}
use Rattle.node_words.specs.Plans.{Layout}
use Rattle.conformance.specs.possible.Needed.{IsPossible}
use Rattle.script.specs.declared.commands.ScriptLine.{ScriptLine}
use Rattle.transcript.specs.declared.answers.LineAnswer.{LineAnswer}
use Rattle.conformance.specs.Refusing.{spans_of, refused_of, WasPossible, FullOnlyWherePossible}

none_of : {X : Type 0} (P : X → Type 0) (xs : List X) → ((x : X) → P x → ⊥) → All P xs → xs ≡ []
none_of P [] never all = refl
none_of P (x ∷ xs) never all = absurd (never x (all 0 x (omega arith)))

pub never_full : (p : Layout) (models : List Content) (log : Log) (scripts : List (List ScriptLine))
    (transcripts : List (List LineAnswer)) → FullOnlyWherePossible p models log scripts transcripts
    → ((level bucket : ℕ)
    → ¬ IsPossible p models log.records (spans_of scripts transcripts) level bucket p.cap)
    → refused_of scripts transcripts ≡ []
never_full p models log scripts transcripts full none =
    none_of (WasPossible p models log.records (spans_of scripts transcripts))
    (refused_of scripts transcripts) (λ r w. none r.level r.bucket w.possible) full.each
