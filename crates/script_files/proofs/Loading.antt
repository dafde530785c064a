-- The run of a load, and what it leaves.
use Rattle.std.proofs.Common.{false, inl, inr, ◌≡◌, ℕ, ◌*◌, ◌^◌, ◌≤◌, arith, Result, List, [], ◌∷◌, length, map, Vec, Global, Ok, Err, refl, ap, subst, ◌∙◌}
use Rattle.std.proofs.lemmas.Bool.{cases_order}
use Rattle.std.proofs.lemmas.List.{length-map}
use Rattle.std.proofs.Math.Nat.{pow-le-pow_right}
use Rattle.vw_io.specs.Outside.{ShelfState}
use Rattle.history_model.specs.Logs.{Log}
use Rattle.vox_chunk.specs.declared.faults.VoxFault.{VoxFault}
use Rattle.vox_read.specs.Contents.{Content}
use Rattle.vox_read.specs.Files.{ReadsModels}
use Rattle.vox_read.specs.Once.{one_reading}
use Rattle.script.specs.declared.commands.ScriptLine.{ScriptLine}
use Rattle.conformance.specs.Runs.{AllRan}
use Rattle.conformance.specs.Agreeing.{Agrees}
use Rattle.gen_load.specs.Draws.{state_after}
use Rattle.gen_load.specs.Loads.{load_model, load_scripts, line_state, scripts_from}
use Rattle.text_laws.specs.loads.ReadLaws.{scripts_are_read}
use Rattle.text_laws.specs.regions.LastCounts.{region_counts}
use Rattle.text_laws.specs.regions.Statements.{load_lines, own_counts, LoadsAreCounted}
use Rattle.commands.specs.declared.refusals.NumberedFault.{NumberedFault}
use Rattle.script_files.specs.declared.tallies.LoadTally.{LoadTally}
use Rattle.commands.specs.declared.refusals.CommandRefused.TheVariants.{Output}
use Rattle.commands.specs.Scripts.{AreFitScripts, scripts_of}
use Rattle.world_run.specs.Closed.{Closed}
use Rattle.conformance.specs.sessions.LoggedSaves.{logged_of}
use Rattle.conformance.specs.sessions.Ran.{ClosesWorld, SessionsRan}
use Rattle.vw_io.specs.Outputs.{Named}
use Rattle.world_run.specs.declared.runs.ScriptsRun.{ScriptsRun}
use Rattle.script_files.specs.declared.tallies.Tally.{Tally}
use Rattle.commands.specs.declared.refusals.NamedOutputRefused.{NamedOutputRefused}
use Rattle.script_files.specs.declared.scripts.Read.{Read}
use Rattle.script_files.specs.Requests.{texts_written}
use Rattle.requests.specs.ScriptNames.{demo_plan, demo_asked}
use Rattle.script_files.specs.Demos.{demo_means, LoadBegan}
use Rattle.commands.specs.Outcomes.{Outcome}
use Rattle.script_files.specs.Stages.{IsLoadRead, given_of, WroteRun, BeginsRun, StopsRun}
use Rattle.commands.proofs.Putting.{broken_off}
use Rattle.script_files.proofs.Ending.{is_coloured, is_run, ends_world, texts_same, begins_same}

-- 256 is one power of two alone
pub eight_of_256 : (s : ℕ) → 2 ^ s ≡ 256 → s ≡ 8
eight_of_256 s e = elim (cases_order s 8) [
  | inl same ↦ same
  | inr other ↦
      elim other [
        | inl less ↦
            (let low : 2 ^ s ≤ 2 ^ 7 = pow-le-pow_right {n = 2} (omega arith) {i = s} {j = 7}
            (omega (arith, less)) in absurd (omega (arith, low, e)))
        | inr more ↦
            (let high : 2 ^ 9 ≤ 2 ^ s = pow-le-pow_right {n = 2} (omega arith) {i = 9} {j = s}
            (omega (arith, more)) in absurd (omega (arith, high, e)))
      ]
]

abbrev Reading : Type 0
Reading = Result (List Content) VoxFault

ok_of : (a b : List Content) (x y : Reading) → x ≡ Ok a → y ≡ Ok b → x ≡ y → a ≡ b
ok_of a b x y of_x of_y same = cc

-- the models that are read are the load's one
pub load_read : (n : ℕ) (vox : List ℕ) (r : Read) (scripts : List (List ℕ))
    → ReadsModels vox (Ok r.models) → ReadsModels vox (Ok (load_model n ∷ []))
    → scripts ≡ load_scripts n → scripts_of false 8 r.models scripts ≡ Ok r.scripts.items
    → IsLoadRead n r
load_read n vox r scripts found says same read =
    let is : r.models ≡ load_model n ∷ [] =
    ok_of r.models (load_model n ∷ []) (Ok r.models) (Ok (load_model n ∷ [])) refl refl
    (one_reading vox (Ok r.models) (Ok (load_model n ∷ [])) found says) in
    record {
      models = is;
      read =
          subst (λ (ms : List Content). scripts_of false 8 ms (load_scripts n)
          ≡ Ok r.scripts.items) is
          (subst (λ (ss : List (List ℕ)). scripts_of false 8 r.models ss
          ≡ Ok r.scripts.items) same read);
    }

-- a load has four scripts
four_scripts : (n : ℕ) → length (load_scripts n) ≡ 4
unfolding scripts_from
four_scripts n = refl

pub few_texts : (n : ℕ) (texts : List (Vec ℕ Global))
    → map (λ (t : Vec ℕ Global). t.items) texts ≡ load_scripts n → length texts ≤ 64
few_texts n texts e =
    omega (arith, ap length e, length-map texts (λ (t : Vec ℕ Global). t.items), four_scripts n)

-- the commands of the load's scripts
load_is_read : (n : ℕ) → scripts_of false 8 (load_model n ∷ []) (load_scripts n) ≡ Ok (load_lines n)
unfolding scripts_from
load_is_read n =
    let g = state_after n 16000 in
    let first = scripts_are_read (line_state g (200 * 0)) 0 (load_model n) refl (omega arith) in
    let second = scripts_are_read (line_state g (200 * 1)) 64 (load_model n) refl (omega arith) in
    let third = scripts_are_read (line_state g (200 * 2)) 128 (load_model n) refl (omega arith) in
    let fourth = scripts_are_read (line_state g (200 * 3)) 192 (load_model n) refl (omega arith) in
    rw (first, second, third, fourth) refl

abbrev LinesRead : Type 0
LinesRead = Result (List (List ScriptLine)) NumberedFault

ok_lines : (a b : List (List ScriptLine)) (x y : LinesRead) → x ≡ Ok a → y ≡ Ok b → x ≡ y → a ≡ b
ok_lines a b x y of_x of_y same = cc

-- what is told of the run of a load
abbrev pub told_of : ℕ → ℕ → List ℕ → LoadTally
told_of n records counts = record { number = n; records = records; counts = counts }

module _ (n : ℕ) (r : Read) (run : ScriptsRun) (old new : ShelfState) (counted : LoadsAreCounted)
    (read : IsLoadRead n r)
    (ran : SessionsRan false demo_plan r.models 0 r.scripts.items run.transcripts.items run.run.sessions)
    (plan_is : run.run.plan ≡ demo_plan) (tint_is : run.run.tint ≡ false)
    (models_are : run.run.models ≡ r.models)
    (kept : run.run.kept ≡ logged_of r.scripts.items run.transcripts.items run.run.sessions)
    (fits : AreFitScripts false 8 r.models r.scripts.items) where
  fits_load : AreFitScripts false 8 (load_model n ∷ []) r.scripts.items
  fits_load = subst (λ (ms : List Content). AreFitScripts false 8 ms r.scripts.items) read.models
      fits

  ran_load : SessionsRan false demo_plan (load_model n ∷ []) 0 r.scripts.items run.transcripts.items
      run.run.sessions
  ran_load =
      subst (λ (ms : List Content). SessionsRan false demo_plan ms 0 r.scripts.items
      run.transcripts.items run.run.sessions) read.models ran

  load_models : run.run.models ≡ load_model n ∷ []
  load_models = models_are ∙ read.models

  module _ (log : Log)
      (closes : ClosesWorld run.run.tint run.run.plan run.run.models run.run.sessions log) where
    run_of_load : AllRan demo_plan (load_model n ∷ []) r.scripts.items run.transcripts.items
        log
    run_of_load =
        is_run demo_asked
        (load_model n ∷ []) r.scripts.items run ran_load plan_is tint_is load_models kept
        fits_load log closes

    -- each region's count is what its own script makes
    own : length log.records ≡ 800
        → region_counts run.transcripts.items ≡ own_counts n
    own all =
        let lines : r.scripts.items ≡ load_lines n =
        ok_lines r.scripts.items (load_lines n) _ _ read.read (load_is_read n) refl in
        let agrees : Agrees demo_plan (load_model n ∷ []) log (load_lines n)
        run.transcripts.items =
        subst (λ (ls : List (List ScriptLine)). Agrees demo_plan (load_model n ∷ []) log
        ls run.transcripts.items) lines run_of_load.agrees in
        counted demo_plan n log run.transcripts.items agrees all

  pub demo_written : (tally : Tally) (closed : Closed) (counts : List ℕ)
      → counts ≡ region_counts run.transcripts.items
      → WroteRun demo_asked run tally closed old new
      → Outcome (demo_means n)
      (Ok (record { tally = told_of n tally.records counts; ended = closed })) old new
  demo_written tally closed counts are w = record {
    texts = [];
    taken = tt;
    outputs = texts_written demo_asked (given_of run) closed.history [];
    gives = record {
      log = closed.history;
      transcripts = run.transcripts.items;
      lines = r.scripts.items;
      read = read.read;
      run = run_of_load closed.history w.closes.closes;
      ends = ends_world demo_asked (load_model n ∷ []) r.scripts.items run ran_load plan_is
          tint_is load_models kept fits_load closed w.closes;
      number = refl;
      records = w.tallied.records;
      counts = are;
      regions = λ all. are ∙ own closed.history w.closes.closes all;
      are = texts_same demo_asked (load_model n ∷ []) r.scripts.items run ran_load plan_is
          tint_is load_models kept fits_load closed.history w.closes.closes [];
    };
    whole = w.whole;
    never_falls = w.never_falls;
  }

  demo_begun : (outputs : List Named) → BeginsRun demo_asked run outputs → LoadBegan n outputs
  demo_begun outputs b = record {
    log = b.log;
    transcripts = run.transcripts.items;
    lines = r.scripts.items;
    read = read.read;
    run = run_of_load b.log b.closes;
    coloured = is_coloured demo_asked (load_model n ∷ []) r.scripts.items run ran_load plan_is
        tint_is load_models kept fits_load b.log b.closes;
    begins = begins_same demo_asked (load_model n ∷ []) r.scripts.items run ran_load plan_is
        tint_is load_models kept fits_load b.log b.closes outputs b.begins;
  }

  pub demo_stopped : (refused : NamedOutputRefused) → StopsRun demo_asked run refused old new
      → Outcome (demo_means n) (Err (Output refused)) old new
  demo_stopped refused s =
      broken_off refused (demo_means n) [] s.outputs old old new tt
      (demo_begun s.outputs s.begins) refl (omega arith) s.stops
