use Rattle.std.proofs.Common.{List, ap, subst, sym}
use Rattle.world_run.specs.declared.open_runs.SavedSession.{SavedSession}
use Rattle.world_run.specs.Open.{HasSave, RunState}
use Rattle.world_run.proofs.OpenLaws.{save_named, save_there}
use Rattle.world_run.proofs.open_runs.OpenRun.save.Goals as goal

pub returns-clause-is : goal.returns-clause-is
returns-clause-is c =
    let has : HasSave c.self.inside.sessions.items c.args.k c.place_of-place.result =
    subst (λ (zs : List SavedSession). HasSave zs c.args.k c.place_of-place.result) c.as_slice.ensures.value c.place_of-place.ensures
    in
    save_there c.self.inside.sessions.items c.args.k c.place_of-place.result c.index.result.now has c.index.ensures c.args.self.now.kept c.index-2.result.now
    (sym (ap (λ (r : RunState). r.kept) c.self.view_is)) c.index-2.ensures

pub returns-clause-is_name : goal.returns-clause-is_name
returns-clause-is_name c =
    let has : HasSave c.self.inside.sessions.items c.args.k c.place_of-place.result =
    subst (λ (zs : List SavedSession). HasSave zs c.args.k c.place_of-place.result) c.as_slice.ensures.value c.place_of-place.ensures
    in
    save_named c.self.inside.sessions.items c.args.k c.place_of-place.result c.index.result.now has c.index.ensures c.self.inside.world.tint c.self.inside.world.table c.index-2.result.now c.self.invariant.0 c.index-2.ensures
