use Rattle.table_rule.specs.Changes.{Counted}
use Rattle.node_table.specs.TableStates.{bucket_named}
use Rattle.node_table.proofs.steps.count_used.Given as goal

abbrev pub ghosts-load_as : goal.ghosts-load_as
ghosts-load_as a =
    record {
      tells = λ v k w. Counted v
          (bucket_named a._about.now.0 a._about.now.1) a.table.now.plan.cap k w;
    }
