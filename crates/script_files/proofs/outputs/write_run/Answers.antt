use Rattle.std.proofs.Common.{ℕ, List, map, subst}
use Rattle.vw_io.specs.Outputs.{AreWritten}
use Rattle.transcript.specs.Lines.{transcript_of}
use Rattle.world_run.specs.Closes.{HadHistory}
use Rattle.world_run.specs.Open.{RunState}
use Rattle.commands.specs.Putting.{StopsAmong}
use Rattle.script_files.specs.Requests.{named_texts}
use Rattle.script_files.specs.Stages.{WritesHistory}
use Rattle.script_files.proofs.Ending.{stops_in_texts, stops_in_files, run_writes}
use Rattle.script_files.proofs.outputs.write_run.Goals as goal

pub returns-in-Err : goal.returns-in-Err
returns-in-Err g c = record {
  writes = (let r = c.in-Err.refused in
      let old = g.S.Shelf.state c.args.shelf.now in
      let new = g.S.Shelf.state c.write_transcripts.new.shelf in
      stops_in_texts c.args.order.now c.args.run old c.give_up.ensures r new
      (subst (λ (names : List (List ℕ)). StopsAmong r
      (named_texts names (map transcript_of c.args.run.transcripts.items)) old new) c.requires.named
      c.in-Err.ensures.writes));
}

pub returns-in-Err-write_saves : goal.returns-in-Err-write_saves
returns-in-Err-write_saves g c = record {
  writes = (let old = g.S.Shelf.state c.args.shelf.now in
      let mid = g.S.Shelf.state c.write_transcripts.new.shelf in
      stops_in_files c.args.order.now c.args.run old mid
      (subst (λ (names : List (List ℕ)). AreWritten
      (named_texts names (map transcript_of c.args.run.transcripts.items)) old.files mid.files)
      c.requires.named c.in_default.ensures.writes.0) c.in_default.ensures.writes.1
      (subst (λ (s : RunState). HadHistory s.tint s.plan s.models s.sessions)
      c.in-Err-write_saves.ensures.same c.give_up-in-Err-write_saves.ensures)
      c.in-Err-write_saves.refused (g.S.Shelf.state c.write_saves.new.shelf)
      c.in-Err-write_saves.ensures.writes);
}

pub returns : goal.returns
returns g c = record {
  writes = (let old = g.S.Shelf.state c.args.shelf.now in
      let mid = g.S.Shelf.state c.write_transcripts.new.shelf in
      let late = g.S.Shelf.state c.write_saves.new.shelf in
      let new = g.S.Shelf.state c.write_history.new.shelf in
      run_writes c.args.order.now c.args.run old mid
      (subst (λ (names : List (List ℕ)). AreWritten
      (named_texts names (map transcript_of c.args.run.transcripts.items)) old.files mid.files)
      c.requires.named c.in_default.ensures.writes.0) c.in_default.ensures.writes.1 late
      c.in_default-write_saves.ensures.writes.0 c.in_default-write_saves.ensures.writes.1
      c.write_history.result new
      (subst (λ (s : RunState). WritesHistory c.args.order.now s c.write_history.result late new) c.in_default-write_saves.ensures.same c.write_history.ensures.writes));
}
