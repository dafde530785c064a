use Rattle.std.proofs.Common.{◌≡◌, false, rules, refl, sym, ◌∙◌}
use Rattle.std.proofs.lemmas.Bool.{false≢true}
use Rattle.voxdag_c.specs.held.Scenes.{RefusesToOpen}
use Rattle.voxdag_c.proofs.OfHeld.Scenes.{boxed_scene, no_side, not_boxed_scene, store_asked}
use Rattle.voxdag_c.proofs.held.worlds.CWorld.from_scene.Goals as goal

pub returns-then-not-is_scene_asked-clause-refused :
    goal.returns-then-not-is_scene_asked-clause-refused
returns-then-not-is_scene_asked-clause-refused c =
    let no : c.is_scene_asked.result ≡ false = search rules in
    RefusesToOpen.bad_plan (λ is. false≢true (sym no ∙ c.is_scene_asked.ensures.1 is)) refl

pub returns-in-Err-clause-refused : goal.returns-in-Err-clause-refused
returns-in-Err-clause-refused c =
    RefusesToOpen.no_scene _ (c.is_scene_asked.ensures.0 (search rules)) c.in-Err.ensures.refused

pub returns-in-None-clause-refused : goal.returns-in-None-clause-refused
returns-in-None-clause-refused c =
    RefusesToOpen.no_world c.in-Ok.scene (c.is_scene_asked.ensures.0 (search rules))
    c.in-Ok.ensures.scene
    (no_side c.args.tint c.args.side c.in-Ok.scene.side c.cells_asked.result c.args.cap
    c.cells_asked.ensures c.in-None.ensures.exactly.1)
    c.in-Ok.ensures.same

pub returns-in-Ok-behind_scene-clause-opened : goal.returns-in-Ok-behind_scene-clause-opened
returns-in-Ok-behind_scene-clause-opened c =
    boxed_scene c.args.tint c.args.side c.args.cap c.args.keep c.args.file.now
    c.in-Ok-behind_scene.world c.boxed_and_told.result c.boxed_and_told.ensures.value
    (record {
      scene = c.in-Ok.scene;
      has = c.in-Ok.ensures.scene;
      plan = c.in-Some.plan;
      asked = store_asked c.args.tint c.args.side c.in-Ok.scene.side c.cells_asked.result
          c.args.cap c.in-Some.plan c.cells_asked.ensures c.in-Some.ensures.side
          c.in-Some.ensures.buckets c.in-Some.ensures.cap;
      behind = c.in-Ok-behind_scene.ensures.behind;
    })

pub returns-in-Ok-behind_scene-clause-refused : goal.returns-in-Ok-behind_scene-clause-refused
returns-in-Ok-behind_scene-clause-refused c =
    not_boxed_scene c.args.tint c.args.side c.args.cap c.args.file.now c.args.told.now
    c.scene_of_file.new.told c.boxed_and_told.new.told
    (c.is_scene_asked.ensures.0 (search rules)) c.in-Ok.ensures.same c.boxed_and_told.result
    c.boxed_and_told.ensures.refused

pub returns-in-Err-behind_scene-clause-refused : goal.returns-in-Err-behind_scene-clause-refused
returns-in-Err-behind_scene-clause-refused c =
    RefusesToOpen.no_stamps c.in-Ok.scene c.in-Some.plan _
    (c.is_scene_asked.ensures.0 (search rules)) c.in-Ok.ensures.scene
    (store_asked c.args.tint c.args.side c.in-Ok.scene.side c.cells_asked.result c.args.cap
    c.in-Some.plan c.cells_asked.ensures c.in-Some.ensures.side c.in-Some.ensures.buckets
    c.in-Some.ensures.cap)
    c.in-Err-behind_scene.ensures.refused c.in-Ok.ensures.same
