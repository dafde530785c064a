use Rattle.std.proofs.Common.{rules, ◌≡◌, ◌≤◌, ℕ, Bool, List, ap, subst}
use Rattle.vw_io.specs.Inputs.{AreTaken}
use Rattle.node_words.specs.Plans.{Layout}
use Rattle.conformance.specs.sessions.LoggedSaves.{logged_of}
use Rattle.conformance.specs.sessions.Ran.{SessionsRanKeeping}
use Rattle.world_run.specs.declared.runs.ScriptsRun.{ScriptsRun}
use Rattle.requests.specs.Orders.{Asked}
use Rattle.script_files.specs.Requests.{run_inputs}
use Rattle.commands.specs.Scripts.{AreFitScripts}
use Rattle.script_files.specs.Stages.{ReadsInputs, StopsRun, WroteRun}
use Rattle.script_files.specs.declared.scripts.Read.{Read}
use Rattle.script_files.proofs.Ending.{run_written, run_stopped}
use Rattle.script_files.proofs.runs.run_files.Goals as goal

pub returns-in-Ok-write_run : goal.returns-in-Ok-write_run
returns-in-Ok-write_run g c = record {
  outcome = (let asked : Asked = c.args.order.now in
      let run : ScriptsRun = c.in-Ok-run_scripts.run' in
      let texts : List (List ℕ) = c.in-Ok-read_all.texts.items in
      let read : Read = c.in-Ok-read_texts.read in
      let old = g.S.Shelf.state c.args.shelf.now in
      let mid = g.S.Shelf.state c.read_all.new.shelf in
      let new = g.S.Shelf.state c.write_run.new.shelf in
      let taken : AreTaken old.files (run_inputs asked) texts = search rules in
      let is_read : ReadsInputs asked texts read = search rules in
      let ran : SessionsRanKeeping c.order.inside.keep c.order.inside.tint c.order.inside.plan
      read.models 0 read.scripts.items run.transcripts.items run.run.sessions = search rules in
      let asked_ran : SessionsRanKeeping asked.keep asked.tint asked.plan read.models 0
      read.scripts.items run.transcripts.items run.run.sessions =
      subst (λ (k : ℕ). SessionsRanKeeping k asked.tint asked.plan read.models 0 read.scripts.items
      run.transcripts.items run.run.sessions) (ap (λ (a : Asked). a.keep) c.order.view_is)
      (subst (λ (b : Bool). SessionsRanKeeping c.order.inside.keep b asked.plan read.models 0
      read.scripts.items run.transcripts.items run.run.sessions)
      (ap (λ (a : Asked). a.tint) c.order.view_is)
      (subst (λ (p : Layout). SessionsRanKeeping c.order.inside.keep c.order.inside.tint p read.models
      0 read.scripts.items run.transcripts.items run.run.sessions)
      (ap (λ (a : Asked). a.plan) c.order.view_is) ran)) in
      let plan_is : run.run.plan ≡ asked.plan = search rules in
      let tint_is : run.run.tint ≡ asked.tint = search rules in
      let models_are : run.run.models ≡ read.models = search rules in
      let fits : AreFitScripts asked.tint asked.plan.side read.models read.scripts.items =
      search rules in
      let kept : run.run.kept ≡ logged_of read.scripts.items run.transcripts.items run.run.sessions =
      search rules in
      let same : mid.files ≡ old.files = search rules in
      let grown : old.faults ≤ mid.faults = search rules in
      let written = c.in-Ok-write_run.written in
      let wrote : WroteRun asked run written.tally written.ended mid new = search rules in
      run_written asked texts read run old mid new taken is_read asked_ran plan_is tint_is
      models_are kept fits same grown written wrote);
}

pub returns : goal.returns
returns g c = record {
  outcome = (let asked : Asked = c.args.order.now in
      let run : ScriptsRun = c.in-Ok-run_scripts.run' in
      let texts : List (List ℕ) = c.in-Ok-read_all.texts.items in
      let read : Read = c.in-Ok-read_texts.read in
      let old = g.S.Shelf.state c.args.shelf.now in
      let mid = g.S.Shelf.state c.read_all.new.shelf in
      let new = g.S.Shelf.state c.write_run.new.shelf in
      let taken : AreTaken old.files (run_inputs asked) texts = search rules in
      let is_read : ReadsInputs asked texts read = search rules in
      let ran : SessionsRanKeeping c.order.inside.keep c.order.inside.tint c.order.inside.plan
      read.models 0 read.scripts.items run.transcripts.items run.run.sessions = search rules in
      let asked_ran : SessionsRanKeeping asked.keep asked.tint asked.plan read.models 0
      read.scripts.items run.transcripts.items run.run.sessions =
      subst (λ (k : ℕ). SessionsRanKeeping k asked.tint asked.plan read.models 0 read.scripts.items
      run.transcripts.items run.run.sessions) (ap (λ (a : Asked). a.keep) c.order.view_is)
      (subst (λ (b : Bool). SessionsRanKeeping c.order.inside.keep b asked.plan read.models 0
      read.scripts.items run.transcripts.items run.run.sessions)
      (ap (λ (a : Asked). a.tint) c.order.view_is)
      (subst (λ (p : Layout). SessionsRanKeeping c.order.inside.keep c.order.inside.tint p read.models
      0 read.scripts.items run.transcripts.items run.run.sessions)
      (ap (λ (a : Asked). a.plan) c.order.view_is) ran)) in
      let plan_is : run.run.plan ≡ asked.plan = search rules in
      let tint_is : run.run.tint ≡ asked.tint = search rules in
      let models_are : run.run.models ≡ read.models = search rules in
      let fits : AreFitScripts asked.tint asked.plan.side read.models read.scripts.items =
      search rules in
      let kept : run.run.kept ≡ logged_of read.scripts.items run.transcripts.items run.run.sessions =
      search rules in
      let same : mid.files ≡ old.files = search rules in
      let grown : old.faults ≤ mid.faults = search rules in
      let stopped : StopsRun asked run c.in-Err-write_run.refused mid new = search rules in
      run_stopped asked texts read run old mid new taken is_read asked_ran plan_is tint_is
      models_are kept fits same grown c.in-Err-write_run.refused stopped);
}
