-- Records and marks that come to versions.
use Rattle.std.proofs.Common.{◌≡◌, ℕ, ◌+◌, ◌<◌, ◌≤◌, Some, None, Option, List, [], ◌∷◌, ◌++◌, length, set, refl, sym, ◌∙◌, ap, subst, arith, All, Bool, true}
use Rattle.std.specs.Vec.{with_item}
use Rattle.std.proofs.lemmas.List.{length-set}
use Rattle.std.proofs.lemmas.List.Elements.{All-push}
use Rattle.vox_read.specs.Contents.{Content}
use Rattle.history_model.specs.declared.histories.Mark.{Mark}
use Rattle.history_model.specs.declared.histories.Record.{Record}
use Rattle.history_model.specs.Logs.{Log, suits_tints}
use Rattle.history_model.specs.Positions.{position_after, next_position}
use Rattle.history_model.specs.Laws.{position_of_next}
use Rattle.node_words.specs.declared.shapes.names.Name.{Name}
use Rattle.node_words.specs.shapes.Weights.{weight_of, number_of_trees}
use Rattle.node_words.specs.Plans.{Layout}
use Rattle.one_store.specs.WordIds.{versions}
use Rattle.core_laws.specs.contents.MarkLists.{marks_below, AreOfVersions}
use Rattle.core_laws.specs.contents.Versions.{HoldsVersion, InsertsMark}
use Rattle.core_laws.proofs.OfContents.MarkReadings.{mark_comes}
use Rattle.core_laws.specs.Events.{PutsRoot, TakesRoot}
use Rattle.core_laws.specs.LogEvents.{MayAppend, appends, forgets}
use Rattle.core_laws.specs.Soundness.{SoundVersions, Sound}
use Rattle.core_laws.proofs.StepLaws.{step_sound}
use Rattle.conformance.specs.Running.{GrowsByRecord, ForgetsBy}
use Rattle.act_rebuilds.specs.Drawn.{HaveTints}
use Rattle.one_store.specs.entries.Words.{Written}
use Rattle.undo.specs.Trails.{trail_position}
use Rattle.one_store.specs.Known.{Known, IsStore, core_of, root_tree, stored_root}
use Rattle.one_store.specs.Steps.{KeepsRoot, GivesRoot}
use Rattle.store_run.specs.declared.stored_versions.Versions.{Versions}
use Rattle.store_run.specs.Kept.{plan_of, log_of, moment_of, mark_in, core_with, AreStoredVersions, IsLargeStore, HoldsTree, GainsTree, LosesTree, HoldsSame}
use Rattle.store_run.specs.Steps.{LeavesAll, PutsDown, GainsRecord, GainsMark}
use Rattle.store_run.proofs.Holding.{gained_tree, gained_few, same_again}
use Rattle.store_run.proofs.Marking.{gets_mark, of_versions_still, none_where_unmarked}
use Rattle.store_run.proofs.Sparing.{versions_sound}

-- a version that isn't there has no root
pub no_root : (v : Versions) (place : ℕ) → AreStoredVersions v → moment_of v < place
    → stored_root v.store.roots place ≡ None
no_root v place are past = go (stored_root v.store.roots place) refl
  where
    go : (o : Option Name) → stored_root v.store.roots place ≡ o
        → stored_root v.store.roots place ≡ None
    go None e = e
    go (Some n) e = absurd (let k = are.sound.kept place n e in let le = k.there in omega arith)

-- the versions stay sound under another log, and over another store with the same words
words_sound : (p q : Layout) (models : List Content) (old new : Log) (s : Known) → q ≡ p → old ≡ new
    → SoundVersions p models (core_with old s) → SoundVersions q models (core_with new s)
words_sound p q models old new s plan log sound =
    subst (λ (l : Log). SoundVersions q models (core_with l s)) log
    (subst (λ (r : Layout). SoundVersions r models (core_with old s)) (sym plan) sound)

abbrev longer : Log → Record → Log
longer log r =
    record { side = log.side; coloured = log.coloured; records = log.records ++ r ∷ []; marks = log.marks }

module _ (v : Versions) (s : Known) (r : Record) (root : Option Name) (number place : ℕ)
    (are : AreStoredVersions v) (st : IsStore v.store number)
    (at : place ≡ moment_of v + 1)
    (may : MayAppend (plan_of v) v.models.models r root (core_with (log_of v) v.store))
    (event : PutsRoot (plan_of v) 0 place root (core_of v.store) (core_of s)) where
  puts : PutsRoot (plan_of v) 0 (moment_of v + 1) root (core_with (log_of v) v.store)
      (core_with (longer (log_of v) r) s)
  puts = subst
      (λ (n : ℕ). PutsRoot (plan_of v) 0 n root (core_with (log_of v) v.store)
      (core_with (longer (log_of v) r) s)) at
      (record {
        in_range = event.in_range;
        free = event.free;
        new_root = event.new_root;
        roots = λ n other. event.roots n other;
        entries = record {
          book = λ m i. event.entries.book m i;
          key = λ m l. event.entries.key m
              (record { name = l.name; book = l.book });
        };
        held = event.held;
      })

  longer_sound : Sound (plan_of v) v.models.models (core_with (longer (log_of v) r) s)
  longer_sound =
      step_sound (plan_of v) v.models.models 0 (core_with (log_of v) v.store)
      (core_with (longer (log_of v) r) s) st.plan.side_low
      (versions_sound v number are st)
      (appends r root (record { may = may; log = refl; puts = puts }))

  module _ (w : Versions) (keeps : KeepsRoot v.store place root s)
      (store : w.store ≡ s) (side : w.side ≡ v.side) (models : w.models.models ≡ v.models.models)
      (tint : w.models.tint ≡ v.models.tint)
      (records : w.records.items ≡ v.records.items ++ r ∷ [])
      (marks : w.marks.items ≡ v.marks.items)
      (trail : trail_position w.trail ≡ next_position place r.act (trail_position v.trail)) where
    log_grown : log_of w ≡ longer (log_of v) r
    log_grown = λ i.
        record {
          side = side i;
          coloured = tint i;
          records = records i;
          marks = marks_below
              (mark_in (marks i)) versions;
        }

    plan_kept : plan_of w ≡ plan_of v
    plan_kept = ap (λ (k : Known). k.words.plan) store ∙ ap (λ (x : Written). x.plan) keeps.words

    pub appended_are : suits_tints v.models.tint r.act ≡ true → AreStoredVersions w
    appended_are suits = record {
      side = side ∙ are.side ∙ sym (ap (λ (p : Layout). p.side) plan_kept);
      sound =
          subst (λ (k : Known). SoundVersions (plan_of w) w.models.models (core_with (log_of w) k))
          (sym store)
          (subst (λ (ms : List Content). SoundVersions (plan_of w) ms (core_with (log_of w) s))
          (sym models)
          (words_sound (plan_of v) (plan_of w) v.models.models (longer (log_of v) r)
          (log_of w) s plan_kept (sym log_grown) longer_sound.versions));
      suits =
          subst (λ (b : Bool). All (λ q. suits_tints b q.act ≡ true) w.records.items) (sym tint)
          (subst (λ (rs : List Record). All (λ q. suits_tints v.models.tint q.act ≡ true) rs)
          (sym records)
          (All-push (λ q. suits_tints v.models.tint q.act
          ≡ true) v.records.items r are.suits suits));
      large =
          subst (λ (b : Bool). IsLargeStore b (plan_of w).side) (sym tint)
          (subst (λ (p : Layout). IsLargeStore v.models.tint p.side) (sym plan_kept) are.large);
      colours =
          subst (λ (b : Bool). HaveTints b w.models.models) (sym tint)
          (subst (λ (ms : List Content). HaveTints v.models.tint ms) (sym models) are.colours);
      places = ap (λ (ms : List (Option Mark)). length ms) marks ∙ are.places;
      of_versions = subst (λ (ms : List (Option Mark)). AreOfVersions (mark_in ms))
          (sym marks) are.of_versions;
      position =
          trail ∙ (λ i. next_position (at i) r.act (are.position i))
          ∙ sym (ap position_after records ∙ position_of_next v.records.items r);
    }

    pub appends_record : suits_tints v.models.tint r.act ≡ true → GainsRecord v r w
    appends_record suits = record {
      only = record {
        models = models;
        plan = plan_kept;
        only = record {
          made = ap (λ (k : Known). k.told.made) store ∙ keeps.only.made;
          met = ap (λ (k : Known). k.told.met) store ∙ keeps.only.met;
        };
      };
      grows = subst (λ (l : Log). GrowsByRecord (plan_of v) v.models.models r (log_of v) l)
          (sym log_grown)
          (record {
            legal = longer_sound.versions.legal;
            side = refl;
            coloured = refl;
            suits = suits;
            records = refl;
            marks = refl;
          });
    }

pub keeps_loses : (old new : Known) (place : ℕ) (root : Option Name) → KeepsRoot old place root new
    → LosesTree old root new
keeps_loses old new place root keeps = record { weighs = λ f. keeps.loses.weighs f }

-- ---- marks

-- the versions over another store, with one more mark in its place
abbrev pub marked_over : Versions → Known → Mark → Versions
marked_over v s mark =
    record v { store = s; marks = with_item v.marks mark.version (Some mark) }

abbrev marked_log : Versions → Mark → Log
marked_log v mark =
    record { side = v.side; coloured = v.models.tint; records = v.records.items; marks = marks_below (mark_in (set v.marks.items mark.version (Some mark))) versions }

module _ (v : Versions) (s : Known) (mark : Mark) (root : Option Name) (number : ℕ)
    (are : AreStoredVersions v) (st : IsStore v.store number)
    (kept : HoldsVersion (log_of v) mark.version) (earlier : mark.version < moment_of v)
    (now : mark.at ≡ moment_of v)
    (event : TakesRoot (plan_of v) 0 mark.version (core_of v.store) (core_of s)) where
  in_range : mark.version < versions
  in_range = let few = are.sound.legal.few in omega arith

  free : mark_in v.marks.items mark.version ≡ None
  free = none_where_unmarked
      (mark_in v.marks.items) versions mark.version in_range are.of_versions kept.unmarked

  there : mark.version < length v.marks.items
  there = let all = are.places in let lt = in_range in omega arith

  comes : InsertsMark (log_of v).marks mark (marked_log v mark).marks
  comes = mark_comes (mark_in v.marks.items)
      (mark_in (set v.marks.items mark.version (Some mark))) mark versions in_range
      (gets_mark v.marks.items mark there free) are.of_versions

  takes : TakesRoot (plan_of v) 0 mark.version (core_with (log_of v) v.store)
      (core_with (marked_log v mark) s)
  takes = record {
    in_range = event.in_range;
    no_root = event.no_root;
    roots = λ n other. event.roots n other;
    entries = record {
      book = λ m i. event.entries.book m i;
      key = λ m l. event.entries.key m
          (record { name = l.name; book = l.book });
    };
    held = event.held;
  }

  marked_sound : Sound (plan_of v) v.models.models (core_with (marked_log v mark) s)
  marked_sound =
      step_sound (plan_of v) v.models.models 0 (core_with (log_of v) v.store)
      (core_with (marked_log v mark) s) st.plan.side_low
      (versions_sound v number are st)
      (forgets mark
      (record { earlier = earlier; now = now; side = refl; coloured = refl; records = refl; marks = comes; takes = takes }))

  module _ (u : Versions) (gives : GivesRoot v.store mark.version s)
      (is : root ≡ stored_root v.store.roots mark.version)
      (store : u.store ≡ s) (side : u.side ≡ v.side) (models : u.models.models ≡ v.models.models)
      (tint : u.models.tint ≡ v.models.tint)
      (records : u.records.items ≡ v.records.items)
      (marks : u.marks.items ≡ set v.marks.items mark.version (Some mark))
      (trail : trail_position u.trail ≡ trail_position v.trail) where
    log_marked : log_of u ≡ marked_log v mark
    log_marked = λ i.
        record {
          side = side i;
          coloured = tint i;
          records = records i;
          marks = marks_below
              (mark_in (marks i)) versions;
        }

    marked_plan : plan_of u ≡ plan_of v
    marked_plan = ap (λ (k : Known). k.words.plan) store ∙ ap (λ (x : Written). x.plan) gives.words

    pub marked_are : AreStoredVersions u
    marked_are = record {
      side = side ∙ are.side ∙ sym (ap (λ (p : Layout). p.side) marked_plan);
      sound =
          subst (λ (k : Known). SoundVersions (plan_of u) u.models.models (core_with (log_of u) k))
          (sym store)
          (subst (λ (ms : List Content). SoundVersions (plan_of u) ms (core_with (log_of u) s))
          (sym models)
          (words_sound (plan_of v) (plan_of u) v.models.models (marked_log v mark)
          (log_of u) s marked_plan (sym log_marked) marked_sound.versions));
      suits =
          subst (λ (b : Bool). All (λ q. suits_tints b q.act ≡ true) u.records.items) (sym tint)
          (subst (λ (rs : List Record). All (λ q. suits_tints v.models.tint q.act ≡ true) rs)
          (sym records) are.suits);
      large =
          subst (λ (b : Bool). IsLargeStore b (plan_of u).side) (sym tint)
          (subst (λ (p : Layout). IsLargeStore v.models.tint p.side) (sym marked_plan) are.large);
      colours =
          subst (λ (b : Bool). HaveTints b u.models.models) (sym tint)
          (subst (λ (ms : List Content). HaveTints v.models.tint ms) (sym models) are.colours);
      places = ap (λ (ms : List (Option Mark)). length ms) marks
          ∙ length-set v.marks.items mark.version (Some mark) ∙ are.places;
      of_versions = subst (λ (ms : List (Option Mark)). AreOfVersions (mark_in ms)) (sym marks)
          (of_versions_still v.marks.items mark there are.of_versions);
      position = trail ∙ are.position ∙ sym (ap position_after records);
    }

    pub taken_gains : GainsTree v.store root u.store
    taken_gains = subst (λ (k : Known). GainsTree v.store root k) (sym store) (record {
      weighs = λ f. (
          let tree = ap (λ (r : Option Name). weight_of f (root_tree s r)) is in
          let same =
          ap (λ (x : Written). weight_of f
          (Rattle.core_laws.specs.States.tree_at (Rattle.one_store.specs.entries.Words.key_in x)
          (Rattle.core_laws.specs.contents.Aligned.top x.plan.side)
          (stored_root v.store.roots mark.version))) gives.words in
          omega (arith, gives.gains.weighs f, tree, same));
    })

    pub taken_tree : HoldsTree u.store root
    taken_tree = gained_tree v.store root u.store taken_gains

    pub taken_same : (w : Versions) → PutsDown u root w → HoldsSame v.store w.store
    taken_same w puts = same_again v.store u.store w.store root taken_gains puts.loses

    pub taken_few : number_of_trees v.store.told.held ≤ 2048
        → number_of_trees u.store.told.held ≤ 4008
    taken_few few = let one = gained_few v.store root u.store 2048 taken_gains few in omega arith

    pub marks_version : (w : Versions) → LeavesAll u w → GainsMark v mark w
    marks_version w leaves = record {
      only = record {
        models = leaves.stay.models ∙ models;
        plan = leaves.stay.spares.plan ∙ marked_plan;
        only = record {
          made = leaves.only.made ∙ ap (λ (k : Known). k.told.made) store ∙ gives.only.made;
          met = leaves.only.met ∙ ap (λ (k : Known). k.told.met) store ∙ gives.only.met;
        };
      };
      forgets = subst (λ (l : Log). ForgetsBy (plan_of v) v.models.models mark (log_of v) l)
          (sym (leaves.stay.log ∙ log_marked))
          (record {
            legal = marked_sound.versions.legal;
            side = refl;
            coloured = refl;
            records = refl;
            now = now;
            marks = comes;
          });
    }
