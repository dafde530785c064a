-- What each stage of a run gives, as an outcome of the whole command.
use Rattle.std.proofs.Common.{◌≡◌, inl, inr, ℕ, ◌^◌, ◌≤◌, Bool, List, [], ◌∷◌, ◌++◌, length, map, Option, Some, None, Result, Ok, Err, refl, sym, ap, subst, ◌∙◌, arith, append_assoc, append-nil}
use Rattle.std.specs.Prelude.{All}
use Rattle.std.proofs.lemmas.List.{length-append}
use Rattle.std.proofs.lemmas.List.Elements.{All-append, All-contains, All-head, All-nil, All-tail}
use Rattle.history_model.specs.Logs.{Log}
use Rattle.vw_io.specs.Outside.{Files, ShelfState}
use Rattle.vw_io.specs.Inputs.{AreTaken}
use Rattle.vw_io.specs.Outputs.{Named, AreWritten}
use Rattle.history_model.specs.Journal.{journal_of}
use Rattle.vox_read.specs.Contents.{Content}
use Rattle.transcript.specs.Lines.{transcript_of}
use Rattle.conformance.specs.Runs.{AllRanKeeping}
use Rattle.conformance.specs.Saves.{saved_in, saved_of}
use Rattle.conformance.specs.declared.saves.SavedBox.{SavedBox}
use Rattle.world_run.specs.Closed.{Closed}
use Rattle.node_words.specs.Plans.{Layout}
use Rattle.script.specs.Commands.{name_bytes}
use Rattle.script.specs.Fitting.{CommandFits, RisesFrom}
use Rattle.script.specs.declared.commands.ScriptLine.{ScriptLine}
use Rattle.transcript.specs.declared.answers.LineAnswer.{LineAnswer}
use Rattle.conformance.specs.sessions.LoggedSaves.{logged_of, logged_by}
use Rattle.conformance.specs.sessions.Ran.{SessionsRanKeeping, ClosesWorld}
use Rattle.conformance.specs.sessions.SessionViews.{SessionView}
use Rattle.conformance.proofs.OfSessions.Closing.{are_a_run}
use Rattle.conformance.proofs.OfSessions.KeptWorlds.{saved_stay}
use Rattle.conformance.proofs.OfSessions.SuitLaws.{history_suits}
use Rattle.world_run.specs.Closes.{HadHistory}
use Rattle.world_run.specs.Ends.{IsEndOf}
use Rattle.world_run.specs.Open.{RunState, file_of_save}
use Rattle.script_files.specs.declared.tallies.RunWritten.{RunWritten}
use Rattle.report.specs.Numbers.{AreNumbers}
use Rattle.report.specs.Roots.{TellsReport}
use Rattle.world_run.specs.declared.runs.ScriptsRun.{ScriptsRun}
use Rattle.world_run.specs.declared.endings.WorldRan.{WorldRan}
use Rattle.script_files.specs.declared.tallies.Tally.{Tally}
use Rattle.commands.specs.declared.refusals.CommandRefused.TheVariants.{Text, Output}
use Rattle.commands.specs.declared.refusals.NamedOutputRefused.{NamedOutputRefused}
use Rattle.commands.specs.declared.refusals.NamedOutputRefused.TheVariants.{Memory}
use Rattle.commands.specs.declared.refusals.TextRefused.{TextRefused}
use Rattle.script_files.specs.declared.scripts.Read.{Read}
use Rattle.requests.specs.Orders.{Asked}
use Rattle.commands.specs.Putting.{StopsAmong}
use Rattle.commands.specs.Scripts.{AreFitScripts}
use Rattle.script_files.specs.Reports.{ReportIs, BeginsTexts}
use Rattle.script_files.specs.Requests.{RunOutputs, given_seen, given_by, run_inputs, named_texts, save_file, saved_output, wanted_output, written_first, written_last, texts_written}
use Rattle.commands.specs.Inputs.{transcript_name}
use Rattle.script_files.specs.Runs.{IsAccepted, TalliesRun, ScriptsBegan, RefusesRun, run_means}
use Rattle.commands.specs.Outcomes.{Outcome}
use Rattle.script_files.specs.Stages.{JournalIs, ReadsInputs, given_of, ClosesRun, TellsClosedRun, HistoryTexts, AreTexts, WroteHistory, StopsOpen, StopsClosed, WritesClosed, WritesHistory, WroteRun, BeginsRun, StopsRun, WritesRun}
use Rattle.world_run.proofs.Accepting.{saves_fit}
use Rattle.script_files.proofs.SavedFiles.{IsGood, save_same}
use Rattle.commands.proofs.Accepting.{not_accepted}
use Rattle.commands.proofs.Writing.{both_written}
use Rattle.commands.proofs.Putting.{among_after, among_before, at_once, broken_off}

-- ---- what a run writes

-- a report that is not there is none that is wanted
no_report : (others : List Named) (name : Option (List ℕ)) (models : List Content) (log : Log)
    → others ++ wanted_output name [] ≡ [] → ReportIs name models log []
no_report others None models log none = tt
no_report others (Some name) models log none =
    let long = length-append others (wanted_output (Some name) []) in
    let zero = ap length none in
    absurd (omega (arith, long, zero))

-- nothing of the journal and the report was written
pub nothing_began : (asked : Asked) (r : RunState) (closed : Closed) (state : ShelfState)
    → ClosesRun r closed → StopsClosed asked r Memory state state
nothing_began asked r closed state closes = record {
  closed = closed;
  closes = closes;
  outputs = [];
  report = [];
  rest = written_last asked closed.history [];
  parts = refl;
  reported = no_report (wanted_output asked.journal (journal_of closed.history)) asked.report
      r.models closed.history;
  stops = at_once [] state;
}

pub not_closed : (asked : Asked) (r : RunState) (state : ShelfState)
    → HadHistory r.tint r.plan r.models r.sessions → WritesHistory asked r (Err Memory) state state
not_closed asked r state had = inl (record { had = had; stops = at_once [] state })

pub closed_writes : (asked : Asked) (r : RunState) (result : Result RunWritten NamedOutputRefused)
    (old new : ShelfState) → WritesClosed asked r result old new
    → WritesHistory asked r result old new
closed_writes asked r (Ok w) old new writes = writes
closed_writes asked r (Err refused) old new writes = inr writes

-- the texts of a closed world are those of its history
pub told_texts : (asked : Asked) (r : RunState) (w : WorldRan) (texts : HistoryTexts)
    → TellsClosedRun r w
    → ((models : List Content) → TellsReport models w.ended
    → AreNumbers models w.ended.history w.numbers.items
    → AreTexts asked models w.ended.history texts)
    → AreTexts asked r.models w.ended.history texts
told_texts asked r w texts tells are = are r.models tells.report tells.numbers

-- the journal where it is asked for
same_wanted : (name : Option (List ℕ)) (text want : List ℕ) → JournalIs name text want
    → wanted_output name text ≡ wanted_output name want
same_wanted None text want is = refl
same_wanted (Some name) text want is = rw is refl

abbrev pub outputs_last : Asked → HistoryTexts → List Named
outputs_last asked written =
    wanted_output asked.journal written.journal ++ wanted_output asked.report written.report

last_same : (asked : Asked) (models : List Content) (log : Log) (written : HistoryTexts)
    → AreTexts asked models log written
    → outputs_last asked written ≡ written_last asked log written.report
last_same asked models log written are =
    ap (λ (os : List Named). os ++ wanted_output asked.report written.report)
    (same_wanted asked.journal written.journal (journal_of log) are.journal_is)

pub history_written : (asked : Asked) (r : RunState) (closed : Closed) (written : HistoryTexts)
    (outputs : List Named) (tally : Tally) (old new : ShelfState) → ClosesRun r closed
    → AreTexts asked r.models closed.history written → outputs ≡ outputs_last asked written
    → tally ≡ written.tally
    → AreWritten outputs old.files new.files → old.faults ≤ new.faults
    → WroteHistory asked r tally closed old new
history_written asked r closed written outputs tally old new closes are is told whole calm =
    record {
      closes = closes;
      tallied = subst (λ (t : Tally). TalliesRun asked r.models closed.history t)
          (sym told) are.tallied;
      report = written.report;
      reported = are.report_is;
      whole = subst (λ (os : List Named). AreWritten os old.files new.files)
          (is ∙ last_same asked r.models closed.history written are) whole;
      never_falls = calm;
    }

pub history_stopped : (asked : Asked) (r : RunState) (closed : Closed) (written : HistoryTexts)
    (outputs : List Named) (refused : NamedOutputRefused) (old new : ShelfState) → ClosesRun r closed
    → AreTexts asked r.models closed.history written → outputs ≡ outputs_last asked written
    → StopsAmong refused outputs old new → StopsClosed asked r refused old new
history_stopped asked r closed written outputs refused old new closes are is stops = record {
  closed = closed;
  closes = closes;
  outputs = outputs;
  report = written.report;
  rest = [];
  parts = append-nil outputs ∙ is ∙ last_same asked r.models closed.history written are;
  reported = λ all. are.report_is;
  stops = stops;
}

-- ---- all stages of a run

module _ (asked : Asked) (run : ScriptsRun) (old : ShelfState) where
  abbrev given : RunOutputs
  given = given_of run

  abbrev texts_named : List Named
  texts_named = named_texts (map transcript_name asked.scripts)
      (map transcript_of given.transcripts)

  abbrev files_saved : List Named
  files_saved = map (saved_output given.file) given.kept

  -- some first ones of these
  began_first : HadHistory run.run.tint run.run.plan run.run.models run.run.sessions
      → (r : NamedOutputRefused) (new : ShelfState)
      → StopsAmong r (written_first asked given) old new → StopsRun asked run r old new
  began_first had r new stops = record {
    outputs = written_first asked given;
    begins = record {
      log = had.log;
      closes = had.closes;
      begins = record {
        report = [];
        rest = written_last asked had.log [];
        parts = refl;
        reported = no_report (wanted_output asked.journal (journal_of had.log)) asked.report
            given.models had.log;
      };
    };
    stops = stops;
  }

  pub stops_in_texts : HadHistory run.run.tint run.run.plan run.run.models run.run.sessions
      → (r : NamedOutputRefused) (new : ShelfState)
      → StopsAmong r texts_named old new → StopsRun asked run r old new
  stops_in_texts had r new stops =
      began_first had r new (among_before r texts_named files_saved old new stops)

  module _ (mid : ShelfState) (texts_whole : AreWritten texts_named old.files mid.files)
      (texts_calm : old.faults ≤ mid.faults) where
    pub stops_in_files : HadHistory run.run.tint run.run.plan run.run.models run.run.sessions
        → (r : NamedOutputRefused) (new : ShelfState)
        → StopsAmong r files_saved mid new → StopsRun asked run r old new
    stops_in_files had r new stops =
        began_first had r new
        (among_after r texts_named files_saved old mid new texts_whole texts_calm stops)

    module _ (late : ShelfState) (files_whole : AreWritten files_saved mid.files late.files)
        (files_calm : mid.faults ≤ late.faults) where
      first_whole : AreWritten (written_first asked given) old.files late.files
      first_whole =
          both_written texts_named files_saved old.files mid.files late.files texts_whole
          files_whole

      stops_in_closing : (r : NamedOutputRefused) (new : ShelfState)
          → StopsOpen run.run r late new
          → StopsRun asked run r old new
      stops_in_closing r new h =
          began_first h.had r new
          (subst (λ (os : List Named). StopsAmong r os old new)
          (append-nil (written_first asked given))
          (among_after r (written_first asked given) [] old late new first_whole
          (omega (arith, texts_calm, files_calm)) h.stops))

      stops_in_history : (r : NamedOutputRefused) (new : ShelfState)
          → StopsClosed asked run.run r late new → StopsRun asked run r old new
      stops_in_history r new h = record {
        outputs = written_first asked given ++ h.outputs;
        begins = record {
          log = h.closed.history;
          closes = h.closes.closes;
          begins = record {
            report = h.report;
            rest = h.rest;
            parts =
                append_assoc (written_first asked given) h.outputs h.rest
                ∙ ap (λ (os : List Named). written_first asked given ++ os) h.parts;
            reported = h.reported;
          };
        };
        stops =
            among_after r (written_first asked given) h.outputs old late new first_whole
            (omega (arith, texts_calm, files_calm)) h.stops;
      }

      all_written : (tally : Tally) (closed : Closed) (new : ShelfState)
          → WroteHistory asked run.run tally closed late new
          → WroteRun asked run tally closed old new
      all_written tally closed new h = record {
        closes = h.closes;
        tallied = h.tallied;
        report = h.report;
        reported = h.reported;
        whole =
            both_written (written_first asked given) (written_last asked closed.history h.report)
            old.files late.files new.files first_whole h.whole;
        never_falls =
            (let more = h.never_falls in omega (arith, texts_calm, files_calm, more));
      }

      pub run_writes : (result : Result RunWritten NamedOutputRefused) (new : ShelfState)
          → WritesHistory asked run.run result late new → WritesRun asked run result old new
      run_writes (Ok w) new h = all_written w.tally w.ended new h
      run_writes (Err r) new (inl h) = stops_in_closing r new h
      run_writes (Err r) new (inr h) = stops_in_history r new h

-- ---- what sessions saved, once their world is closed

-- each accepted save fits the world
good_saves : (tint : Bool) (p : Layout) (models : List Content) (lines : List (List ScriptLine))
    (transcripts : List (List LineAnswer)) → AreFitScripts tint p.side models lines
    → All (IsGood tint p) (saved_of lines transcripts)
good_saves tint p models [] transcripts fits = All-nil (IsGood tint p)
good_saves tint p models (script ∷ scripts) [] fits = All-nil (IsGood tint p)
good_saves tint p models (script ∷ scripts) (answers ∷ transcripts) fits =
    let each : List ScriptLine → Type 0 =
    All (λ l. CommandFits tint (2 ^ p.side) models l.command) in
    All-append (IsGood tint p) (saved_in script answers) (saved_of scripts transcripts)
    (saves_fit tint (2 ^ p.side) models script answers (All-head each script scripts fits.fit))
    (good_saves tint p models scripts transcripts (record {
      fit = All-tail each script scripts fits.fit;
      rise = All-tail (RisesFrom 1) script scripts fits.rise;
    }))

-- a file under the save's name
abbrev pub named_file : SavedBox → List ℕ → Named
named_file save file = record { name = name_bytes save.name; bytes = file }

pub saved_same : (keep : ℕ) (tint : Bool) (p : Layout) (models : List Content)
    (lines : List (List ScriptLine)) (transcripts : List (List LineAnswer))
    (sessions : List SessionView) (log : Log)
    → AreFitScripts tint p.side models lines
    → SessionsRanKeeping keep tint p models 0 lines transcripts sessions
    → ClosesWorld tint p models sessions log
    → map (saved_output (file_of_save tint models)) (logged_of lines transcripts sessions)
    ≡ map (saved_output (save_file tint models)) (logged_by lines transcripts log)
saved_same keep tint p models lines transcripts sessions log fits ran closes =
    saved_stay (saved_output (file_of_save tint models)) (saved_output (save_file tint models))
    (IsGood tint p) tint p models log
    (λ save s suits g le good.
    ap (named_file save)
    (save_same tint p models log save s suits g le good))
    keep 0 lines transcripts sessions ran
    (history_suits keep tint p models lines transcripts sessions log ran closes) closes.seen
    (λ save is.
    All-contains (IsGood tint p) (saved_of lines transcripts) save
    (good_saves tint p models lines transcripts fits) is)

-- so what was written first is what the one history gives
pub first_same : (asked : Asked) (models : List Content) (lines : List (List ScriptLine))
    (transcripts : List (List LineAnswer)) (sessions : List SessionView) (log : Log)
    → AreFitScripts asked.tint asked.plan.side models lines
    → SessionsRanKeeping asked.keep asked.tint asked.plan models 0 lines transcripts sessions
    → ClosesWorld asked.tint asked.plan models sessions log
    → written_first asked (given_seen asked.tint models lines transcripts sessions)
    ≡ written_first asked (given_by asked.tint models lines log transcripts)
first_same asked models lines transcripts sessions log fits ran closes =
    ap (λ (os : List Named).
    named_texts (map transcript_name asked.scripts) (map transcript_of transcripts) ++ os)
    (saved_same asked.keep asked.tint asked.plan models lines transcripts sessions log fits ran
    closes)

module _ (asked : Asked) (models : List Content) (lines : List (List ScriptLine)) (run : ScriptsRun)
    (ran : SessionsRanKeeping asked.keep asked.tint asked.plan models 0 lines run.transcripts.items
    run.run.sessions)
    (plan_is : run.run.plan ≡ asked.plan) (tint_is : run.run.tint ≡ asked.tint)
    (models_are : run.run.models ≡ models)
    (kept : run.run.kept ≡ logged_of lines run.transcripts.items run.run.sessions)
    (fits : AreFitScripts asked.tint asked.plan.side models lines) where
  pub given_same : given_of run
      ≡ given_seen asked.tint models lines run.transcripts.items run.run.sessions
  given_same = λ i. record {
    models = models_are i;
    transcripts = run.transcripts.items;
    kept = kept i;
    file = file_of_save (tint_is i) (models_are i);
  }

  pub ends_world : (closed : Closed) → ClosesRun run.run closed
      → IsEndOf asked.tint models closed.history closed
  ends_world closed closes =
      subst (λ (c : Bool). IsEndOf c models closed.history closed) tint_is
      (subst (λ (ms : List Content). IsEndOf run.run.tint ms closed.history closed) models_are
      closes.is_end)

  module _ (log : Log)
      (closes : ClosesWorld run.run.tint run.run.plan run.run.models run.run.sessions log) where
    pub closes_world : ClosesWorld asked.tint asked.plan models run.run.sessions log
    closes_world =
        subst (λ (c : Bool). ClosesWorld c asked.plan models run.run.sessions log) tint_is
        (subst (λ (p : Layout). ClosesWorld run.run.tint p models run.run.sessions log)
        plan_is
        (subst (λ (ms : List Content). ClosesWorld run.run.tint run.run.plan ms run.run.sessions
        log) models_are closes))

    -- the history is coloured where tints were asked for
    pub is_coloured : log.coloured ≡ asked.tint
    is_coloured = closes_world.coloured

    pub is_run : AllRanKeeping asked.keep asked.plan models lines run.transcripts.items
        log
    is_run =
        are_a_run asked.keep asked.tint asked.plan models lines run.transcripts.items run.run.sessions
        log ran closes_world

    pub written_same : written_first asked (given_of run)
        ≡ written_first asked
        (given_by asked.tint models lines log run.transcripts.items)
    written_same =
        ap (λ (g : RunOutputs). written_first asked g) given_same
        ∙ first_same asked models lines run.transcripts.items run.run.sessions log fits
        ran closes_world

    pub texts_same : (report : List ℕ) → texts_written asked (given_of run) log report
        ≡ texts_written asked
        (given_by asked.tint models lines log run.transcripts.items)
        log report
    texts_same report =
        ap (λ (os : List Named). os ++ written_last asked log report) written_same

    pub begins_same : (outputs : List Named)
        → BeginsTexts asked (given_of run) log outputs
        → BeginsTexts asked (given_by asked.tint models lines log run.transcripts.items)
        log outputs
    begins_same outputs b = record {
      report = b.report;
      rest = b.rest;
      parts = b.parts ∙ texts_same b.report;
      reported = λ none. subst (λ (ms : List Content).
          ReportIs asked.report ms log b.report) models_are (b.reported none);
    }

-- ---- `run`

module _ (asked : Asked) (texts : List (List ℕ)) (r : Read) (run : ScriptsRun)
    (old mid new : ShelfState) (taken : AreTaken old.files (run_inputs asked) texts)
    (read : ReadsInputs asked texts r)
    (ran : SessionsRanKeeping asked.keep asked.tint asked.plan r.models 0 r.scripts.items
    run.transcripts.items run.run.sessions)
    (plan_is : run.run.plan ≡ asked.plan) (tint_is : run.run.tint ≡ asked.tint)
    (models_are : run.run.models ≡ r.models)
    (kept : run.run.kept ≡ logged_of r.scripts.items run.transcripts.items run.run.sessions)
    (fits : AreFitScripts asked.tint asked.plan.side r.models r.scripts.items)
    (same : mid.files ≡ old.files) (grown : old.faults ≤ mid.faults) where
  abbrev accepts : (log : Log)
      → ClosesWorld run.run.tint run.run.plan run.run.models run.run.sessions log
      → IsAccepted asked texts log run.transcripts.items
  accepts log closes = record {
    models = r.models;
    gives = read.gives;
    lines = r.scripts.items;
    read = read.read;
    apart = read.apart;
    run = is_run asked r.models r.scripts.items run ran plan_is tint_is models_are kept fits log
        closes;
    coloured = is_coloured asked r.models r.scripts.items run ran plan_is tint_is models_are kept
        fits log closes;
  }

  pub run_written : (w : RunWritten) → WroteRun asked run w.tally w.ended mid new
      → Outcome (run_means asked) (Ok w) old new
  run_written w wrote =
      let closed = w.ended in
      record {
        texts = texts;
        taken = taken;
        outputs = texts_written asked (given_of run) closed.history wrote.report;
        gives = record {
          log = closed.history;
          transcripts = run.transcripts.items;
          accepted = accepts closed.history wrote.closes.closes;
          ends = ends_world asked r.models r.scripts.items run ran plan_is tint_is models_are kept
              fits closed wrote.closes;
          tallied = subst (λ (ms : List Content). TalliesRun asked ms closed.history w.tally)
              models_are wrote.tallied;
          report = wrote.report;
          reported = subst (λ (ms : List Content).
              ReportIs asked.report ms closed.history wrote.report) models_are wrote.reported;
          are = texts_same asked r.models r.scripts.items run ran plan_is tint_is models_are kept
              fits closed.history wrote.closes.closes wrote.report;
        };
        whole = subst (λ (f : Option Files).
            AreWritten (texts_written asked (given_of run) closed.history wrote.report) f new.files)
            same wrote.whole;
        never_falls = (let more = wrote.never_falls in omega (arith, grown, more));
      }

  run_begun : (outputs : List Named) → BeginsRun asked run outputs
      → ScriptsBegan asked texts outputs
  run_begun outputs b = record {
    log = b.log;
    transcripts = run.transcripts.items;
    accepted = accepts b.log b.closes;
    begins = begins_same asked r.models r.scripts.items run ran plan_is tint_is models_are kept fits
        b.log b.closes outputs b.begins;
  }

  pub run_stopped : (refused : NamedOutputRefused) → StopsRun asked run refused mid new
      → Outcome (run_means asked) (Err (Output refused)) old new
  run_stopped refused stopped =
      broken_off refused (run_means asked) texts stopped.outputs old mid new taken
      (run_begun stopped.outputs stopped.begins) same grown stopped.stops

-- the inputs were taken, and their texts are refused
pub run_refused : (asked : Asked) (texts : List (List ℕ)) (r : TextRefused) (old new : ShelfState)
    → AreTaken old.files (run_inputs asked) texts → RefusesRun asked texts r
    → new.files ≡ old.files → old.faults ≤ new.faults
    → Outcome (run_means asked) (Err (Text r)) old new
run_refused asked texts r old new taken says files faults =
    not_accepted (run_means asked) r texts old new taken says files faults
