-- The names of the scripts that a request has, and what a demo is asked for.
use Rattle.std.specs.Prelude.{ℕ, false, List, [], ◌∷◌, Some, None, codes}
use Rattle.node_words.specs.Plans.{Layout, usual_buckets}
use Rattle.requests.specs.declared.orders.Request.{Request}
use Rattle.requests.specs.declared.orders.Request.TheVariants.{Run, Demo, Audit}
use Rattle.requests.specs.Orders.{Asked}

-- the usual plan of side 256
abbrev pub demo_plan : Layout
demo_plan = record { side = 8; buckets = usual_buckets; cap = 128 }

-- all versions are held, and the outputs' names are those of scripts `demo.0` to `demo.3`, and
-- `demo.journal`
abbrev pub demo_asked : Asked
demo_asked = record {
  plan = demo_plan;
  tint = false;
  keep = 0;
  journal = Some (codes "demo.journal");
  report = None;
  file = [];
  scripts = codes "demo.0" ∷ codes "demo.1" ∷ codes "demo.2" ∷ codes "demo.3" ∷ [];
}

-- the names of the scripts whose transcripts a command writes, or reads
abbrev pub scripts_asked : Request → List (List ℕ)
scripts_asked (Run asked) = asked.scripts
scripts_asked (Demo n) = demo_asked.scripts
scripts_asked (Audit asked) = asked.scripts
scripts_asked _ = []
