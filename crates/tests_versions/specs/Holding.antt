-- A pass of a world of side 4 between two calls, with what it holds and has pinned.
use Rattle.std.specs.Prelude.{◌≡◌, ◌-◌, ◌^◌, ℕ, Option, Some, None, []}
use Rattle.node_words.specs.declared.shapes.names.Name.{Name}
use Rattle.node_words.specs.Gathering.{Loses}
use Rattle.table_rule.specs.Views.{SeatView}
use Rattle.node_table.specs.LogTurns.{HasNoTurn}
use Rattle.node_table.specs.TableStates.{TableState, PassState, BelongsTo}
use Rattle.version_log.specs.declared.answers.Pinned.{Pinned}
use Rattle.version_log.specs.Pins.{IsPinned}
use Rattle.tests_versions.specs.Uniform.{leaf_tree}

-- the pass has no turn, and holds just this root, the leaf of these bits, where there is one
pub record HoldsLeaf (t : TableState) (s : PassState) (bits : ℕ) (root : Option Name) : Type 0 where
  pub of : BelongsTo t s
  pub idle : HasNoTurn s.view
  pub side : t.plan.side ≡ 2
  pub held : Loses s.view.held (leaf_tree bits root) []
  pub level : (n : Name) → root ≡ Some n → n.level ≡ 0

-- the same of a world of which all cells are set, or none
abbrev pub HoldsUniform : TableState → PassState → Option Name → Type 0
HoldsUniform t s root = HoldsLeaf t s (2 ^ 64 - 1) root

-- the head was pinned, and has no root
pub record PinsBlank (v : SeatView) (p : Pinned) : Type 0 where
  pub pinned : IsPinned v p
  pub head : p.version ≡ p.moment
  pub none : p.root ≡ None
