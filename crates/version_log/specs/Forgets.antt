-- What forgetting a version leaves, and why it is refused.
use Rattle.std.specs.Prelude.{◌≡◌, ◌<◌, ℕ, [], ◌∷◌}
use Rattle.std.specs.List.{Contains}
use Rattle.history_model.specs.declared.histories.Mark.{Mark}
use Rattle.node_words.specs.shapes.Shape.{ShowsCells}
use Rattle.node_words.specs.shapes.Tree.{Tree, root_of, shape_of}
use Rattle.node_words.specs.Gathering.{Loses}
use Rattle.core_laws.specs.contents.Aligned.{world_block}
use Rattle.table_rule.specs.LogFacts.{number_seen, seen_has}
use Rattle.table_rule.specs.Rules.{SameSession}
use Rattle.table_rule.specs.Views.{SeatView}
use Rattle.version_log.specs.declared.answers.Forgot.{Forgot}
use Rattle.retain.specs.declared.refusals.ForgetRefused.{ForgetRefused}
use Rattle.retain.specs.declared.refusals.ForgetRefused.TheVariants.{NoVersion, IsHead, Forgotten}
use Rattle.version_log.specs.Seeing.{MetOthers, KnowsMore, HasSeenMark}

-- the mark of the pass's session, this line and this length
pub record IsOwnMark (v : SeatView) (version at line : ℕ) (mark : Mark) : Type 0 where
  pub session : v.numbers ≡ mark.session ∷ []
  pub version_is : mark.version ≡ version
  pub at_is : mark.at ≡ at
  pub line_is : mark.line ≡ line

-- the version was marked at the length that is seen now: the mark joined the log that is seen and
-- the pass's own marks, and the log's share of the root came, whose tree shows the version's cells
pub record ForgetsVersion (v : SeatView) (version line : ℕ) (f : Forgot)
    (w : SeatView) : Type 0 where
  pub at : f.at ≡ number_seen w
  pub earlier : version < f.at
  pub mark : Mark
  pub own : IsOwnMark v version f.at line mark
  pub comes : Contains w.log.seen.marks mark
  pub marks : w.log.marks ≡ mark ∷ v.log.marks
  pub tree : Tree
  pub name : root_of tree ≡ f.root
  pub shows : ShowsCells (world_block w.plan.side) (shape_of tree) (seen_has w version)
  pub loses : Loses w.held tree v.held
  pub sees : KnowsMore v w
  pub session : SameSession v w
  pub records : w.log.records ≡ v.log.records
  pub busy : MetOthers v.numbers v.log.busy w.log.busy
  pub made : w.made ≡ v.made
  pub met : w.met ≡ v.met

-- why nothing was forgotten, at the length that is seen now: there is no such version, it is the
-- last, or it has a mark
abbrev pub RefusesForget : ℕ → ForgetRefused → SeatView → Type 0
RefusesForget version (NoVersion at) w = (at ≡ number_seen w) × (at < version)
RefusesForget version (IsHead at) w = (at ≡ number_seen w) × (version ≡ at)
RefusesForget version (Forgotten at mark) w = (at ≡ number_seen w) × HasSeenMark w version mark
