use Rattle.std.proofs.Common.{◌≡◌, true, false}
use Rattle.history_model.proofs.MarkLaws.{quarter_is_side}
use Rattle.store_run.proofs.open_worlds.quarter.Goals as goal

pub unreachable-requires : goal.unreachable-requires
unreachable-requires c =
    let no : false ≡ true =
    c.in-None.ensures.exactly.1
    (quarter_is_side c.args.side c.exponent-exponent.result c.cells.result c.requires c.exponent-exponent.ensures.value c.exponent-exponent.ensures.bounds c.cells.ensures.value) in
    cc
