-- Versions stay versions where the store alone changes, and spares the roots in their places.
use Rattle.std.proofs.Common.{◌≡◌, ℕ, ◌^◌, Some, None, Option, List, refl, sym, ◌∙◌, ap, subst, arith}
use Rattle.vox_read.specs.Contents.{Content}
use Rattle.history_model.specs.Logs.{Log}
use Rattle.node_words.specs.declared.shapes.names.Name.{Name}
use Rattle.node_words.specs.shapes.Shape.{ShowsCells}
use Rattle.node_words.specs.shapes.Tree.{Tree, shape_of}
use Rattle.node_words.specs.shapes.Weights.{weight_of}
use Rattle.node_words.specs.Held.{ForHeld, Gains, OnlyHeldChanges}
use Rattle.node_words.specs.Plans.{Layout}
use Rattle.core_laws.specs.contents.Aligned.{top, world_block}
use Rattle.core_laws.specs.Counting.{booked, parented, rooted}
use Rattle.core_laws.specs.States.{State}
use Rattle.core_laws.specs.Soundness.{SoundEntries, SoundVersions, Sound}
use Rattle.core_laws.specs.States.{IsLive}
use Rattle.one_store.specs.Known.{Known, IsStore, known_state, root_tree, stored_root}
use Rattle.one_store.specs.Steps.{SparesRoots, GainsRoot, spares_itself}
use Rattle.store_run.specs.declared.stored_versions.Versions.{Versions}
use Rattle.store_run.specs.Kept.{plan_of, log_of, core_with, AreStoredVersions, AreVersions, IsLargeStore, HoldsTree, HasRecordRoom}
use Rattle.store_run.specs.Steps.{StayVersions, LeavesAll, SharesRootOfVersion, PutsDown}
use Rattle.store_run.proofs.Holding.{root_is, none_weighs, some_weighs}

-- the versions over another store
abbrev pub with_store : Versions → Known → Versions
with_store v s = record v { store = s }

-- the entries of a store are sound with whatever log
pub sound_with : (s : Known) (number : ℕ) (log : Log) → IsStore s number
    → SoundEntries s.words.plan (core_with log s)
unfolding booked parented rooted
sound_with s number log st = record {
  fits = λ n l. st.sound.fits n (record { name = l.name; book = l.book });
  placed = λ n l. st.sound.placed n (record { name = l.name; book = l.book });
  once = λ m n k l. st.sound.once m n (record { name = k.name; book = k.book })
      (record { name = l.name; book = l.book });
  counted = λ f. st.sound.counted f;
}

pub versions_sound : (v : Versions) (number : ℕ) → AreStoredVersions v → IsStore v.store number
    → Sound (plan_of v) v.models.models (core_with (log_of v) v.store)
versions_sound v number are st =
    record { entries = sound_with v.store number (log_of v) st; versions = are.sound }

-- roots stay in their places, each with its tree
pub stored_same : (old new : Known) (place : ℕ) → SparesRoots old new
    → stored_root new.roots place ≡ stored_root old.roots place
stored_same old new place spares = ap (λ (r : List (Option Name)). stored_root r place) spares.roots

pub tree_same : (old new : Known) (place : ℕ) (root : Option Name) → SparesRoots old new
    → root ≡ stored_root old.roots place
    → root_tree new root ≡ root_tree old root
tree_same old new place root spares is =
    ap (root_tree new) is ∙ spares.trees place ∙ sym (ap (root_tree old) is)

sound_spared : (p : Layout) (models : List Content) (log : Log) (old new : Known)
    → SparesRoots old new
    → SoundVersions p models (core_with log old) → new.words.plan ≡ old.words.plan
    → p ≡ old.words.plan
    → SoundVersions p models (core_with log new)
sound_spared p models log old new spares sound plan is = record {
  legal = sound.legal;
  kept = λ v n e. sound.kept v n (sym (stored_same old new v spares) ∙ e);
  level = λ v n e. sound.level v n (sym (stored_same old new v spares) ∙ e);
  shown = λ v kept.
      let side : new.words.plan.side ≡ p.side = ap (λ (q : Layout). q.side) (plan ∙ sym is) in
      let old_side : old.words.plan.side ≡ p.side = ap (λ (q : Layout). q.side) (sym is) in
      subst (λ (t : Tree). ShowsCells (world_block p.side) (shape_of t)
      (Rattle.history_model.specs.Stores.stored_in (2 ^ p.side) models log.records v))
      (let same = ap (root_tree new) (stored_same old new v spares) ∙ spares.trees v in
      sym (ap (λ (l : ℕ). Rattle.core_laws.specs.States.tree_at
      (Rattle.one_store.specs.entries.Words.key_in new.words) (top l) (stored_root new.roots v))
      (sym side) ∙ same
      ∙ ap
      (λ (l : ℕ). Rattle.core_laws.specs.States.tree_at
      (Rattle.one_store.specs.entries.Words.key_in old.words) (top l)
      (stored_root old.roots v)) old_side))
      (sound.shown v kept);
}

pub are_spared : (v : Versions) (s : Known) → AreStoredVersions v → SparesRoots v.store s
    → AreStoredVersions (with_store v s)
are_spared v s are spares = record {
  side = are.side ∙ sym (ap (λ (p : Layout). p.side) spares.plan);
  sound = subst (λ (p : Layout). SoundVersions p v.models.models (core_with (log_of v) s))
      (sym spares.plan)
      (sound_spared (plan_of v) v.models.models
      (log_of v) v.store s spares are.sound spares.plan refl);
  suits = are.suits;
  large = subst (λ (p : Layout). IsLargeStore v.models.tint p.side) (sym spares.plan) are.large;
  colours = are.colours;
  places = are.places;
  of_versions = are.of_versions;
  position = are.position;
}

pub plain_spared : (v : Versions) (s : Known) → SparesRoots v.store s → AreVersions v
    → AreVersions (with_store v s)
plain_spared v s spares are =
    record { stored = are_spared v s are.stored spares; plain = are.plain }

pub stay_spared : (v : Versions) (s : Known) → SparesRoots v.store s
    → StayVersions v (with_store v s)
stay_spared v s spares = record { models = refl; log = refl; spares = spares }

-- a share of the root in a place
pub shares_root : (v : Versions) (s : Known) (version : ℕ) (root : Option Name)
    → root ≡ stored_root v.store.roots version → GainsRoot v.store version s
    → SharesRootOfVersion v version root (with_store v s)
shares_root v s version root is gains = record {
  stay = stay_spared v s gains.spares;
  only = gains.only;
  is = is ∙ sym (stored_same v.store s version gains.spares);
  gains = record {
    weighs = λ f. (
        let tree : weight_of f (root_tree s root) ≡ weight_of f (root_tree v.store (stored_root v.store.roots version)) =
        ap (weight_of f)
        (tree_same v.store s version root gains.spares is ∙ ap (root_tree v.store) is) in
        omega (arith, gains.gains.weighs f, tree));
  };
}

pub gave_nothing : (v : Versions) → LeavesAll v v
gave_nothing v = record {
  stay = record { models = refl; log = refl; spares = spares_itself v.store };
  only = record { made = refl; met = refl };
}

-- a share goes back, where there is one
pub puts_some : (v : Versions) (s : Known) (n : Name) → HoldsTree v.store (Some n)
    → ForHeld v.store.told.held n (λ t. Gains s.told.held t v.store.told.held)
    → OnlyHeldChanges (known_state v.store) (known_state s) → SparesRoots v.store s
    → PutsDown v (Some n) (with_store v s)
puts_some v s n holds back only spares = record {
  leaves = record {
    stay = stay_spared v s spares;
    only =
        record { made = only.made; met = only.met };
  };
  loses = record {
    weighs = λ f. (
        let lost =
        back (root_tree v.store (Some n)) (holds.each n refl) (root_is v.store (Some n)) in
        omega (arith, lost.weighs f, some_weighs v.store n f));
  };
}

pub puts_none : (v : Versions) → PutsDown v None v
puts_none v = record {
  leaves = gave_nothing v;
  loses = record { weighs = λ f. omega (arith, none_weighs v.store f) };
}

pub room_stays : (v : Versions) (s : Known) → HasRecordRoom v → HasRecordRoom (with_store v s)
room_stays v s room = record { record_room = room.record_room; trail_room = room.trail_room }
