use Rattle.std.proofs.Common.{rules, ℕ, Bool}
use Rattle.transcript.specs.declared.answers.Answer.{Answer}
use Rattle.requests.specs.declared.orders.Request.TheVariants.{Count, Run, Demo, Flood, Scene, Dag, Look, Audit}
use Rattle.script_files.specs.declared.tallies.Done.TheVariants.{Written, Counted, Placed, Looked, Answered}
use Rattle.commands.specs.declared.scene_files.SceneTally.{SceneTally}
use Rattle.commands.specs.Audits.{audit_means}
use Rattle.script_files.specs.Commands.{alone, run_told, load_told}
use Rattle.commands.specs.Counts.{count_means}
use Rattle.commands.specs.Dags.{dag_means}
use Rattle.script_files.specs.Demos.{demo_means}
use Rattle.commands.specs.Floods.{flood_means}
use Rattle.commands.specs.Looks.{look_means}
use Rattle.commands.specs.Outcomes.{Completes}
use Rattle.script_files.specs.Runs.{run_means}
use Rattle.commands.specs.Scenes.{scene_means}
use Rattle.script_files.proofs.Telling.{as_told, completes_as}
use Rattle.script_files.proofs.carrying.carry_out.Goals as goal

pub returns-in-Ok : goal.returns-in-Ok
returns-in-Ok g c = record {
  outcome = (let asked = c.in-Count.file in
      let old = g.S.Shelf.state c.args.shelf.now in
      let new = g.S.Shelf.state c.count_file.new.shelf in
      let own : Completes (count_means asked) c.in-Ok.cells old new = search rules in
      as_told c.args.asked.now (Count asked) c.alone.result _ old new c.in-Count.is c.alone.ensures
      (completes_as (λ (n : ℕ). alone (Counted n)) (count_means asked) c.in-Ok.cells old new own));
}

pub returns-in-Ok-run_files : goal.returns-in-Ok-run_files
returns-in-Ok-run_files g c = record {
  outcome = (let asked = c.in-Run.order in
      let old = g.S.Shelf.state c.args.shelf.now in
      let new = g.S.Shelf.state c.run_files.new.shelf in
      let own : Completes (run_means asked) c.in-Ok-run_files.written old new = search rules in
      as_told c.args.asked.now (Run asked) c.run_told.result _ old new c.in-Run.is c.run_told.ensures
      (completes_as run_told (run_means asked) c.in-Ok-run_files.written old new own));
}

pub returns-in-Ok-run_demo : goal.returns-in-Ok-run_demo
returns-in-Ok-run_demo g c = record {
  outcome = (let asked = c.in-Demo.n in
      let old = g.S.Shelf.state c.args.shelf.now in
      let new = g.S.Shelf.state c.run_demo.new.shelf in
      let own : Completes (demo_means asked) c.in-Ok-run_demo.written old new = search rules in
      as_told c.args.asked.now
      (Demo asked) c.load_told.result _ old new c.in-Demo.is c.load_told.ensures
      (completes_as load_told (demo_means asked) c.in-Ok-run_demo.written old new own));
}

pub returns-in-Ok-flood_file : goal.returns-in-Ok-flood_file
returns-in-Ok-flood_file g c = record {
  outcome = (let asked = c.in-Flood.order in
      let old = g.S.Shelf.state c.args.shelf.now in
      let new = g.S.Shelf.state c.flood_file.new.shelf in
      let own : Completes (flood_means asked) c.in-Ok-flood_file.cells old new = search rules in
      as_told c.args.asked.now
      (Flood asked) c.alone-in-Ok-flood_file.result _ old new c.in-Flood.is c.alone-in-Ok-flood_file.ensures
      (completes_as (λ (n : ℕ). alone (Counted n))
      (flood_means asked) c.in-Ok-flood_file.cells old new own));
}

pub returns-in-Ok-scene_file : goal.returns-in-Ok-scene_file
returns-in-Ok-scene_file g c = record {
  outcome = (let asked = c.in-Scene.order in
      let old = g.S.Shelf.state c.args.shelf.now in
      let new = g.S.Shelf.state c.scene_file.new.shelf in
      let own : Completes (scene_means asked) c.in-Ok-scene_file.tally old new = search rules in
      as_told c.args.asked.now
      (Scene asked) c.alone-in-Ok-scene_file.result _ old new c.in-Scene.is c.alone-in-Ok-scene_file.ensures
      (completes_as (λ (t : SceneTally). alone (Placed t))
      (scene_means asked) c.in-Ok-scene_file.tally old new own));
}

pub returns-in-Ok-dag_file : goal.returns-in-Ok-dag_file
returns-in-Ok-dag_file g c = record {
  outcome = (let asked = c.in-Dag.order in
      let old = g.S.Shelf.state c.args.shelf.now in
      let new = g.S.Shelf.state c.dag_file.new.shelf in
      let own : Completes (dag_means asked) c.in-Ok-dag_file.field-0 old new = search rules in
      as_told c.args.asked.now
      (Dag asked) c.alone-in-Ok-dag_file.result _ old new c.in-Dag.is c.alone-in-Ok-dag_file.ensures
      (completes_as (λ (none : Unit {0}). alone Written)
      (dag_means asked) c.in-Ok-dag_file.field-0 old new own));
}

pub returns-in-Ok-look_file : goal.returns-in-Ok-look_file
returns-in-Ok-look_file g c = record {
  outcome = (let asked = c.in-Look.order in
      let old = g.S.Shelf.state c.args.shelf.now in
      let new = g.S.Shelf.state c.look_file.new.shelf in
      let own : Completes (look_means asked) c.in-Ok-look_file.answer old new = search rules in
      as_told c.args.asked.now
      (Look asked) c.alone-in-Ok-look_file.result _ old new c.in-Look.is c.alone-in-Ok-look_file.ensures
      (completes_as (λ (a : Answer). alone (Looked a))
      (look_means asked) c.in-Ok-look_file.answer old new own));
}

pub returns-in-Ok-audit_files : goal.returns-in-Ok-audit_files
returns-in-Ok-audit_files g c = record {
  outcome = (let asked = c.in-Audit.order in
      let old = g.S.Shelf.state c.args.shelf.now in
      let new = g.S.Shelf.state c.audit_files.new.shelf in
      let own : Completes (audit_means asked) c.in-Ok-audit_files.answer old new = search rules in
      as_told c.args.asked.now
      (Audit asked) c.alone-in-Ok-audit_files.result _ old new c.in-Audit.is c.alone-in-Ok-audit_files.ensures
      (completes_as (λ (a : Bool). alone (Answered a))
      (audit_means asked) c.in-Ok-audit_files.answer old new own));
}
