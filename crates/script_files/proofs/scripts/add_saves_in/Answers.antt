use Rattle.std.proofs.Common.{map}
use Rattle.script_files.proofs.SavedNames.{next_names}
use Rattle.script_files.proofs.scripts.add_saves_in.Goals as goal

pub loop-line-preserved : goal.loop-line-preserved
loop-line-preserved c =
    next_names (map (λ n. n.now) c.args.names.now.items) (map (λ n. n.now) c.loop-line.names.items)
    (map (λ n. n.now) c.add_save.new.names.items) c.args.lines.now c.loop-line.line-index
    c.line-item.result c.loop-line-test.true c.line-item.is c.loop-line.invariant
    c.in_ok-add_save.ensures
