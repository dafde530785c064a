-- What a replay makes, and what a full bucket then says.
use Rattle.std.proofs.Common.{◌≡◌, ℕ, ◌+◌, List, [], ◌∷◌, ◌++◌, length, length-append, Bool, true, false, refl, sym, ap, subst, ◌∙◌, arith}
use Rattle.std.specs.Prelude.{All}
use Rattle.std.proofs.lemmas.List.Elements.{All-nil, All-cons, All-head, All-weaker, Contains-append_right}
use Rattle.vox_read.specs.Contents.{Content}
use Rattle.history_model.specs.declared.acts.Act.{Act}
use Rattle.history_model.specs.declared.histories.Record.{Record}
use Rattle.history_model.specs.LegalLaws.{edit_follows}
use Rattle.history_model.specs.Logs.{Log}
use Rattle.history_model.specs.Positions.{position_after}
use Rattle.history_model.specs.Worlds.{is_edit}
use Rattle.node_words.specs.shapes.Shape.{Shape}
use Rattle.node_words.specs.declared.shares.Full.{Full}
use Rattle.node_words.specs.Enough.{HasEnough}
use Rattle.node_words.specs.Gathering.{Grew, unchanged, one}
use Rattle.node_words.specs.Held.{Wanted}
use Rattle.node_words.specs.Plans.{Layout}
use Rattle.conformance.specs.possible.Needed.{Span}
use Rattle.conformance.specs.Answers.{ExtendsLog}
use Rattle.conformance.specs.scripts.Keeping.{MadeAndMet, IsMadeFor, IsMadeInRun, IsWanted}
use Rattle.conformance.proofs.OfScripts.PossibleLaws.{enough_possible}
use Rattle.conformance.proofs.OfScripts.Refusals.{made_in_stays, wanted_stays}
use Rattle.store_run.specs.declared.stored_versions.Versions.{Versions}
use Rattle.store_run.specs.Kept.{plan_of, log_of, noted_of, AreStoredVersions}
use Rattle.store_run.specs.Steps.{MeetsBucket}
use Rattle.store_run.specs.Replaying.{ReplayState, replay_state, spans_from, MayFillReplay, MakesOnlyParts, TakesEdit, TakesUndo, FillsBucket, RefusesRecord}
use Rattle.store_run.specs.declared.replaying.ReplayRefused.TheVariants as refusals
use Rattle.store_run.proofs.Targets.{grew_wanted}

-- a record on the version before it, which has this number
abbrev span_of : ℕ → Record → Span
span_of n r = record { act = r.act; first = n; last = n }

spans_push : (n m : ℕ) (records : List Record) (r : Record) → m ≡ n + length records
    → spans_from n (records ++ r ∷ []) ≡ spans_from n records ++ span_of m r ∷ []
spans_push n m [] r is =
    let same : n ≡ m = omega arith in ap (λ (k : ℕ). span_of k r ∷ []) same
spans_push n m (q ∷ more) r is =
    ap (λ (ss : List Span). span_of n q ∷ ss) (spans_push (n + 1) m more r (omega arith))

-- a history goes on with more records behind it
abbrev log_with : List Record → Log
log_with records = record { side = 0; coloured = false; records = records; marks = [] }

goes_behind : (records more : List Record) → ExtendsLog (log_with records) (log_with (records ++ more))
goes_behind records more =
    record { side = refl; coloured = refl; more = more; records = refl; marks = All-nil _ }

module _ (p : Layout) (models : List Content) (records : List Record) (r : Record) where
  -- the spans of one record more
  pushed : spans_from 0 (records ++ r ∷ []) ≡ spans_from 0 records ++ span_of
      (length records) r ∷ []
  pushed = spans_push 0 (length records) records r (omega arith)

  abbrev Made : Shape → Type 0
  Made s = IsMadeInRun p models (records ++ r ∷ []) (spans_from 0 (records ++ r ∷ [])) s

  -- what was made before was made
  stays : (made : List Shape) → All (IsMadeInRun p models records (spans_from 0 records)) made
      → All Made made
  stays made all =
      subst (λ (ss : List Span). All (IsMadeInRun p models (records ++ r ∷ []) ss) made)
      (sym pushed)
      (All-weaker (IsMadeInRun p models records (spans_from 0 records)) _
      (λ s m. made_in_stays p models (log_with records) (log_with (records ++ r ∷ []))
      (goes_behind records (r ∷ [])) (spans_from 0 records)
      (span_of (length records) r ∷ []) s m) made all)

  -- and so is each shape that the record wants
  wanted_made : (s : Shape) → IsWanted p models records r.act (length records) s → Made s
  wanted_made s wanted =
      let both = length-append records (r ∷ []) in
      subst (λ (ss : List Span). IsMadeInRun p models (records ++ r ∷ []) ss s) (sym pushed)
      (record {
        made = record {
          span = span_of (length records) r;
          listed = Contains-append_right (spans_from 0 records) (span_of (length records) r ∷ [])
              (span_of (length records) r) (0, omega arith, refl);
          version = length records;
          low = omega arith;
          high = omega arith;
          wanted = wanted_stays p models (log_with records) (log_with (records ++ r ∷ []))
              (goes_behind records (r ∷ [])) r.act (length records) s (omega arith) wanted;
        };
        there = omega arith;
      })

  grown_parts : (old new : List Shape)
      → Grew (IsWanted p models records r.act (length records)) old new
      → All (IsMadeInRun p models records (spans_from 0 records)) old → All Made new
  grown_parts old _ unchanged all = stays old all
  grown_parts old _ (one {a} {new = before} wanted rest) all =
      All-cons Made a before (wanted_made a wanted) (grown_parts old before rest all)

  -- enough of it fills a bucket
  may_fill : (old new : List Shape) (full : Full)
      → Grew (IsWanted p models records r.act (length records)) old new
      → All (IsMadeInRun p models records (spans_from 0 records)) old
      → HasEnough p new full.level full.bucket → MayFillReplay p models (records ++ r ∷ []) full
  may_fill old new full grew all enough =
      enough_possible p models (records ++ r ∷ [])
      (spans_from 0 (records ++ r ∷ [])) full.level full.bucket new
      (All-weaker Made (IsMadeFor p models (records ++ r ∷ []) (spans_from 0 (records ++ r ∷ [])))
      (λ s m. m.made)
      new (grown_parts old new grew all)) enough

-- ---- versions

pub nothing_made : (v : Versions) → noted_of v ≡ record { made = []; met = [] }
    → MakesOnlyParts (replay_state v)
nothing_made v none = record {
  parts = subst (λ (m : MadeAndMet).
      All (IsMadeInRun (plan_of v) v.models.models v.records.items
      (spans_from 0 v.records.items)) m.made)
      (sym none) (All-nil _);
}

pub fills_bucket : (v w : Versions) (act : Act) (full : Full) → MeetsBucket v act full w
    → All (λ m. HasEnough w.store.words.plan w.store.told.made m.level m.bucket) w.store.told.met
    → FillsBucket v act full w
fills_bucket v w act full meets enough = record {
  plan = meets.stay.spares.plan;
  models = meets.stay.models;
  log = meets.stay.log;
  made = meets.fails.made;
  enough =
      subst (λ (q : Layout). HasEnough q w.store.told.made full.level full.bucket) meets.stay.spares.plan
      (All-head (λ (m : Wanted). HasEnough w.store.words.plan w.store.told.made m.level m.bucket) _
      v.store.told.met
      (subst (λ (ms : List Wanted).
      All (λ (m : Wanted). HasEnough w.store.words.plan w.store.told.made m.level m.bucket) ms) meets.fails.met enough));
}

-- the same said of what these parts are equal to
parts_as : (p q : Layout) (models others : List Content) (records more : List Record)
    (made : List Shape)
    → q ≡ p → others ≡ models → more ≡ records
    → All (IsMadeInRun p models records (spans_from 0 records)) made
    → All (IsMadeInRun q others more (spans_from 0 more)) made
parts_as p q models others records more made plan same list all =
    subst (λ (x : Layout). All (IsMadeInRun x others more (spans_from 0 more)) made) (sym plan)
    (subst (λ (x : List Content). All (IsMadeInRun p x more (spans_from 0 more)) made) (sym same)
    (subst (λ (x : List Record). All (IsMadeInRun p models x (spans_from 0 x)) made)
    (sym list) all))

pub edit_parts : (s : ReplayState) (u w : Versions) (r : Record) → replay_state u ≡ s
    → AreStoredVersions u
    → is_edit r.act ≡ true → MakesOnlyParts s → TakesEdit u r w
    → MakesOnlyParts (replay_state w)
edit_parts s u w r is are edit only takes =
    let here : MakesOnlyParts (replay_state u) =
    subst (λ (t : ReplayState). MakesOnlyParts t) (sym is) only in
    record {
      parts = parts_as (plan_of u) (plan_of w) u.models.models w.models.models
          (u.records.items ++ r ∷ [])
          w.records.items w.store.told.made takes.takes.plan takes.takes.models takes.takes.records
          (grown_parts
          (plan_of u) u.models.models u.records.items r u.store.told.made w.store.told.made
          (grew_wanted u r.act are edit u.store.told.made w.store.told.made takes.made) here.parts);
    }

pub way_parts : (s : ReplayState) (u w : Versions) (r : Record) → replay_state u ≡ s
    → MakesOnlyParts s
    → TakesUndo u r w → MakesOnlyParts (replay_state w)
way_parts s u w r is only takes =
    let here : MakesOnlyParts (replay_state u) =
    subst (λ (t : ReplayState). MakesOnlyParts t) (sym is) only in
    record {
      parts = subst (λ (made : List Shape).
          All (IsMadeInRun (plan_of w) w.models.models w.records.items
          (spans_from 0 w.records.items)) made)
          (sym takes.only.made)
          (parts_as (plan_of u) (plan_of w) u.models.models w.models.models
          (u.records.items ++ r ∷ [])
          w.records.items u.store.told.made takes.takes.plan takes.takes.models takes.takes.records
          (stays (plan_of u) u.models.models u.records.items r u.store.told.made here.parts));
    }

pub edit_fills : (s : ReplayState) (u w : Versions) (r : Record) (full : Full) → replay_state u ≡ s
    → AreStoredVersions u
    → is_edit r.act ≡ true → MakesOnlyParts s
    → FillsBucket u r.act full w → RefusesRecord s r (refusals.Full full)
edit_fills s u w r full is are edit only fills =
    let here : MakesOnlyParts (replay_state u) =
    subst (λ (t : ReplayState). MakesOnlyParts t) (sym is) only in (
      edit_follows [] (length s.records + 1) r.act (position_after s.records) edit,
      subst (λ (t : ReplayState). MayFillReplay t.plan t.models (t.records ++ r ∷ []) full) is
          (may_fill (plan_of u) u.models.models u.records.items r u.store.told.made w.store.told.made full
          (grew_wanted u r.act are edit u.store.told.made w.store.told.made fills.made) here.parts fills.enough),
    )

-- ---- the state of versions that only got room

pub state_as : (s : ReplayState) (v u : Versions) → replay_state v ≡ s
    → u.models.models ≡ v.models.models
    → log_of u ≡ log_of v → u.store ≡ v.store → replay_state u ≡ s
state_as s v u is models log store =
    (λ i. record {
      plan = (store i).words.plan;
      tint = (log i).coloured;
      models = models i;
      records = (log i).records;
      noted = record { made = (store i).told.made; met = (store i).told.met };
    }) ∙ is

pub way_made : (s : ReplayState) (u w : Versions) (r : Record) (taken : Bool) → replay_state u ≡ s
    → MakesOnlyParts s → (taken ≡ true → TakesUndo u r w) → (taken ≡ false → w ≡ u)
    → MakesOnlyParts (replay_state w)
way_made s u w r true is only takes stays = way_parts s u w r is only (takes refl)
way_made s u w r false is only takes stays =
    subst (λ (t : ReplayState). MakesOnlyParts t) (sym (ap replay_state (stays refl) ∙ is)) only
