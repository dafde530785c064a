-- What contracts see of a table of nodes, and of a pass.
use Rattle.std.specs.Prelude.{◌≡◌, ℕ, List}
use Rattle.atomic_table.specs.Seated.{TableId}
use Rattle.vox_read.specs.Contents.{Content}
use Rattle.node_words.specs.Plans.{Layout}
use Rattle.table_rule.specs.Rules.{SameSession}
use Rattle.table_rule.specs.Views.{SeatView, BucketAt}

-- which table it is, its plan, the models of its world, and how many passes it was begun with
pub record TableState : Type 0 where
  pub id : TableId
  pub plan : Layout
  pub models : List Content
  pub made : ℕ

-- the table of a pass, and what its seat knows
pub record PassState : Type 0 where
  pub table : TableId
  pub view : SeatView

-- what the rule of a table is about
pub record TermsState : Type 0 where
  pub plan : Layout
  pub models : List Content
  pub sessions : ℕ

-- the pass is one of the table's
pub record BelongsTo (t : TableState) (s : PassState) : Type 0 where
  pub table : s.table ≡ t.id
  pub plan : s.view.plan ≡ t.plan
  pub models : s.view.models ≡ t.models

-- the pass stays that of its table and of its session
pub record SamePass (s t : PassState) : Type 0 where
  pub table : t.table ≡ s.table
  pub session : SameSession s.view t.view

abbrev pub bucket_named : ℕ → ℕ → BucketAt
bucket_named level bucket = record { level = level; bucket = bucket }
