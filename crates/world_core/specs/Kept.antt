-- The parts of a core as plain lists.
use Rattle.world_core.specs.declared.parts.Parts.{Parts}
use Rattle.world_core.specs.Stored.{Stored}

abbrev pub stored : Parts → Stored
stored c = record {
  plan = c.plan;
  models = c.models.now;
  entries = c.entries;
  roots = c.roots.items;
  log = c.history;
  held = c.held.items;
}
