use Rattle.std.proofs.Common.{Ok, map, take, drop, subst, ◌∙◌}
use Rattle.world_run.specs.Open.{RunState, file_of_save}
use Rattle.script_files.specs.Requests.{saved_output}
use Rattle.commands.specs.Putting.{StopsAmong, Writes}
use Rattle.script_files.proofs.Staging.{next_output, next_stops}
use Rattle.script_files.proofs.outputs.write_saves.Goals as goal

pub returns-in-Err-clause-writes : goal.returns-in-Err-clause-writes
returns-in-Err-clause-writes g c =
    let run = c.args.run.now in
    let r = c.in-Err.refused in
    let mid = g.S.Shelf.state c.loop-k.shelf in
    let new = g.S.Shelf.state c.write_save.new.shelf in
    next_stops r (map (saved_output (file_of_save run.tint run.models)) run.kept) c.loop-k.k
    (g.S.Shelf.state c.args.shelf.now) mid new c.loop-k.invariant.0
    (subst (λ (s : RunState). StopsAmong r
    (take 1 (drop c.loop-k.k (map (saved_output (file_of_save s.tint s.models)) s.kept))) mid new)
    c.loop-k.invariant.1 c.in-Err.ensures.writes)

pub loop-k-preserved : goal.loop-k-preserved
loop-k-preserved g c =
    let run = c.args.run.now in
    let mid = g.S.Shelf.state c.loop-k.shelf in
    let new = g.S.Shelf.state c.write_save.new.shelf in (
      next_output (map
          (saved_output (file_of_save run.tint run.models)) run.kept) c.loop-k.k
          c.in_default.field-0 (g.S.Shelf.state c.args.shelf.now) mid new c.loop-k.invariant.0
          (subst (λ (s : RunState). Writes (Ok c.in_default.field-0)
          (take 1 (drop c.loop-k.k
          (map (saved_output (file_of_save s.tint s.models)) s.kept))) mid new)
          c.loop-k.invariant.1 c.in_default.ensures.writes),
      c.in_default.ensures.same ∙ c.loop-k.invariant.1,
    )
