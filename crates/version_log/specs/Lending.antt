-- A sure turn lends its pass.
use Rattle.std.specs.Prelude.{[]}
use Rattle.std.specs.Borrow.{Lends, MutBor, Fml}
use mir.Syntax.{named}
use Rattle.node_table.specs.TableStates.{PassState}
use Rattle.node_table.specs.contracts.passes.Pass as pass
use Rattle.version_log.specs.declared.sures.Sure.{Sure}
use Rattle.version_log.specs.contracts.sures.Sure as sure

abbrev pub with_lent_pass : Sure → PassState → Sure
with_lent_pass s p = record s { pass = record s.pass { now = p } }

abbrev pub LendsItsPass : MutBor Sure → MutBor PassState → Fml
LendsItsPass s r =
    Lends (sure.the_row (record { mir = named 0; lft = [] })) pass.the_row s r
    (with_lent_pass s.now)
