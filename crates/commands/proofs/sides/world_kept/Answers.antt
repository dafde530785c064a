use Rattle.std.proofs.Common.{rules, ◌≡◌, ◌^◌, ◌≤◌, true}
use Rattle.commands.proofs.WorldSides.{quarter_kept}
use Rattle.commands.proofs.sides.world_kept.Goals as goal

pub returns-clause-kept : goal.returns-clause-kept
returns-clause-kept c =
    let side = c.args.side in
    let tinted : c.args.tint ≡ true = search rules in
    let low : 4 ≤ side = search rules in
    let of : c.cells.result ≡ 2 ^ side = search rules in
    quarter_kept c.new.result c.args.tint side c.cells.result tinted low of
    c.new.ensures.value
