use Rattle.std.proofs.Common.{rules, ◌≡◌, false}
use Rattle.conformance.specs.sessions.LoggedSaves.{logged_of}
use Rattle.conformance.specs.sessions.Ran.{SessionsRan}
use Rattle.text_laws.specs.regions.LastCounts.{region_counts}
use Rattle.world_run.specs.declared.runs.ScriptsRun.{ScriptsRun}
use Rattle.requests.specs.ScriptNames.{demo_plan, demo_asked}
use Rattle.commands.specs.Scripts.{AreFitScripts}
use Rattle.script_files.specs.Stages.{IsLoadRead, WroteRun}
use Rattle.script_files.specs.declared.scripts.Read.{Read}
use Rattle.script_files.proofs.Loading.{demo_written}
use Rattle.script_files.proofs.demos.run_demo.Goals as goal

pub returns-in-Ok-write_run : goal.returns-in-Ok-write_run
returns-in-Ok-write_run g c = record {
  outcome = (let run : ScriptsRun = c.in-Ok-run_scripts.run' in
      let read : Read = c.in-Ok.read in
      let old = g.S.Shelf.state c.args.shelf.now in
      let new = g.S.Shelf.state c.write_run.new.shelf in
      let written = c.in-Ok-write_run.written in
      let counts = c.region_counts-counts.result in
      let is_read : IsLoadRead c.args.n read = search rules in
      let ran : SessionsRan false demo_plan read.models 0 read.scripts.items run.transcripts.items
      run.run.sessions = search rules in
      let plan_is : run.run.plan ≡ demo_plan = search rules in
      let tint_is : run.run.tint ≡ false = search rules in
      let models_are : run.run.models ≡ read.models = search rules in
      let kept : run.run.kept ≡ logged_of read.scripts.items run.transcripts.items run.run.sessions =
      search rules in
      let fits : AreFitScripts false 8 read.models read.scripts.items = search rules in
      let are : counts ≡ region_counts run.transcripts.items = search rules in
      let wrote : WroteRun demo_asked run written.tally written.ended old new = search rules in
      demo_written c.args.n read run old new c.loads_are_counted.ensures is_read ran plan_is tint_is
      models_are kept fits written.tally written.ended counts are wrote);
}
