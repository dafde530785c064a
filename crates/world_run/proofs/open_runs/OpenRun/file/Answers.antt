use Rattle.std.proofs.Common.{◌∙◌, List, ap, arith, length-set, set, subst, sym}
use Rattle.std.proofs.lemmas.List.Elements.{All-set}
use Rattle.world_run.specs.declared.open_runs.SavedSession.{SavedSession}
use Rattle.world_run.specs.Open.{HasSave, IsSaved, RunState}
use Rattle.world_run.proofs.OpenLaws.{kept_set, run_file, run_same, seen_set}
use Rattle.world_run.proofs.open_runs.OpenRun.file.Goals as goal

pub invariant_of-self : goal.invariant_of-self
invariant_of-self c = (
  All-set (IsSaved c.self.inside.world.tint c.self.inside.world.table) c.self.inside.sessions.items c.place_of-place.result.session c.file_in.new.s c.file_in.ensures.saved c.self.invariant.0,
  length-set c.self.inside.sessions.items c.place_of-place.result.session c.file_in.new.s
      ∙ c.self.invariant.1,
  (let few = c.self.invariant.2 in let long = length-set c.self.inside.sessions.items c.place_of-place.result.session c.file_in.new.s in omega arith),
  c.self.invariant.3,
  (let wide = c.self.invariant.4 in let long = length-set c.self.inside.sessions.items c.place_of-place.result.session c.file_in.new.s in omega arith),
)

pub returns-clause-file : goal.returns-clause-file
returns-clause-file c =
    let has : HasSave c.self.inside.sessions.items c.args.k c.place_of-place.result =
    subst (λ (zs : List SavedSession). HasSave zs c.args.k c.place_of-place.result) c.as_slice.ensures.value c.place_of-place.ensures
    in
    run_file c.self.inside.sessions.items c.args.k c.place_of-place.result c.index_mut.result.now has c.index_mut.ensures.value c.self.inside.world.tint c.self.inside.world.table c.args.self.now.tint c.args.self.now.models c.args.self.now.kept c.file_in.result
    (sym (ap (λ (r : RunState). r.kept) c.self.view_is))
    (sym (ap (λ (r : RunState). r.tint) c.self.view_is))
    (sym (ap (λ (r : RunState). r.models) c.self.view_is)) c.file_in.ensures.file

pub returns-clause-same : goal.returns-clause-same
returns-clause-same c =
    let has : HasSave c.self.inside.sessions.items c.args.k c.place_of-place.result =
    subst (λ (zs : List SavedSession). HasSave zs c.args.k c.place_of-place.result) c.as_slice.ensures.value c.place_of-place.ensures
    in
    run_same c.self.inside.world c.self.inside.sessions.items
    (set c.self.inside.sessions.items c.place_of-place.result.session c.file_in.new.s)
    (seen_set c.self.inside.sessions.items c.place_of-place.result.session c.index_mut.result.now c.file_in.new.s has.session c.index_mut.ensures.value c.file_in.ensures.seen)
    (kept_set c.self.inside.sessions.items c.place_of-place.result.session c.index_mut.result.now c.file_in.new.s has.session c.index_mut.ensures.value c.file_in.ensures.seen c.file_in.ensures.same)
    ∙ c.self.view_is
