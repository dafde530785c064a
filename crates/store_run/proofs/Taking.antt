-- A record that is replayed.
use Rattle.std.proofs.Common.{◌≡◌, ℕ, ◌+◌, ◌≤◌, List, [], ◌∷◌, ◌++◌, length, Some, None, Bool, true, false, Ok, IsTrue, ◌↔◌, ◌^◌, refl, sym, ap, subst, ◌∙◌, arith}
use Rattle.std.proofs.lemmas.List.Elements.{All-nil}
use Rattle.std.specs.Prelude.{Option}
use Rattle.history_model.specs.declared.histories.Record.{Record}
use Rattle.history_model.specs.declared.histories.Mark.{Mark}
use Rattle.history_model.specs.Logs.{Log}
use Rattle.history_model.specs.Worlds.{is_edit}
use Rattle.node_words.specs.declared.shapes.names.Name.{Name}
use Rattle.core_laws.specs.contents.Versions.{HoldsVersion, IsUnmarked}
use Rattle.conformance.specs.Answers.{target_at}
use Rattle.conformance.proofs.OfScripts.Going.{goes_to}
use Rattle.store_run.specs.declared.stored_versions.Versions.{Versions}
use Rattle.node_words.specs.shapes.Weights.{number_of_trees}
use Rattle.one_store.specs.Known.{Known}
use Rattle.store_run.specs.Kept.{plan_of, log_of, moment_of, AreStoredVersions, HoldsNothing, HoldsSame}
use Rattle.store_run.specs.Steps.{MakesRoot, SharesRootOfVersion, GainsRecord, WantsFor}
use Rattle.node_words.specs.shapes.Shape.{Shape}
use Rattle.node_words.specs.Gathering.{Grew}
use Rattle.history_model.specs.declared.acts.Act.{Act}
use Rattle.history_model.specs.declared.acts.Act.TheVariants.{Fill, Erase, Ball, Carve, Copy, Stamp, Tint, Undo, Redo}
use Rattle.history_model.specs.Logs.{HasTarget, MayFollow, side_of_world}
use Rattle.history_model.specs.Positions.{position_after, first_of}
use Rattle.history_model.specs.Tints.{SameTints}
use Rattle.core_laws.proofs.RootCells.{same_cells, same_root}
use Rattle.conformance.proofs.LineKinds.{undo_target, redo_target}
use Rattle.one_store.specs.Known.{IsStore, stored_root}
use Rattle.store_run.specs.Kept.{tints_of}
use Rattle.store_run.specs.Replaying.{TakesEdit, TakesUndo, CanFollow, Replays, IsReplay}
use Rattle.store_run.proofs.KeptWorlds.{tints_by_cells, cells_by_tints}
use Rattle.store_run.proofs.Sparing.{versions_sound}

pub edit_taken : (v u w : Versions) (r : Record) (root : Option Name) → MakesRoot v r.act root u
    → GainsRecord u r w → TakesEdit v r w
edit_taken v u w r root makes appends = record {
  takes = record {
    plan = appends.only.plan ∙ makes.stay.spares.plan;
    tint = appends.grows.coloured ∙ ap (λ (l : Log). l.coloured) makes.stay.log;
    models = appends.only.models ∙ makes.stay.models;
    records = appends.grows.records ∙ ap (λ (l : Log). l.records ++ r ∷ []) makes.stay.log;
    marks = appends.grows.marks ∙ ap (λ (l : Log). l.marks) makes.stay.log;
  };
  made = subst (λ (list : List Shape). Grew (WantsFor v r.act) v.store.told.made list)
      (sym appends.only.only.made) makes.grows.made;
}

pub way_taken : (v u w : Versions) (r : Record) (to : ℕ) (root : Option Name)
    → SharesRootOfVersion v to root u
    → GainsRecord u r w → TakesUndo v r w
way_taken v u w r to root shares appends = record {
  takes = record {
    plan = appends.only.plan ∙ shares.stay.spares.plan;
    tint = appends.grows.coloured ∙ ap (λ (l : Log). l.coloured) shares.stay.log;
    models = appends.only.models ∙ shares.stay.models;
    records = appends.grows.records ∙ ap (λ (l : Log). l.records ++ r ∷ []) shares.stay.log;
    marks = appends.grows.marks ∙ ap (λ (l : Log). l.marks) shares.stay.log;
  };
  only = record {
    made = appends.only.only.made ∙ shares.only.made;
    met = appends.only.only.met ∙ shares.only.met;
  };
}

pub unmarked_kept : (v : Versions) (version : ℕ) → (log_of v).marks ≡ [] → version ≤ moment_of v
    → HoldsVersion (log_of v) version
unmarked_kept v version none there = record {
  there = there;
  unmarked = subst (λ (ms : List Mark). IsUnmarked ms version) (sym none) (All-nil _);
}

-- where an undo or a redo goes to is kept
pub target_kept : (v : Versions) (r : Record) (to : ℕ) → (log_of v).marks ≡ []
    → is_edit r.act ≡ false → Some to ≡ target_at v.records.items (moment_of v) r.act
    → HoldsVersion (log_of v) to
target_kept v r to none other goes =
    unmarked_kept v to none (goes_to (log_of v) r.act to other (sym goes)).there

-- and the act can come next
pub target_follows : (v : Versions) (r : Record) (to : ℕ) → (log_of v).marks ≡ []
    → is_edit r.act ≡ false → Some to ≡ target_at v.records.items (moment_of v) r.act
    → CanFollow v.records.items r
target_follows v r to none other goes =
    subst (λ (ms : List Mark). MayFollow ms (moment_of v + 1) r.act
    (position_after v.records.items)) none
    ((goes_to (log_of v) r.act to other (sym goes)).may
    (subst (λ (ms : List Mark). IsUnmarked ms to) (sym none) (All-nil _)))

no_first : (vs : List ℕ) (n : ℕ) → first_of vs ≡ None → HasTarget [] n vs → ⊥
no_first [] n is has = has
no_first (to ∷ more) n is has = let no : ⊥ = cc in no

-- without a target it can't
no_target : (records : List Record) (n : ℕ) (act : Act) → is_edit act ≡ false
    → target_at records (length records) act ≡ None
    → MayFollow [] n act (position_after records) → ⊥
no_target records n Undo other is may =
    no_first (position_after records).past n (sym (undo_target records) ∙ is) may
no_target records n Redo other is may =
    no_first (position_after records).future n (sym (redo_target records) ∙ is) may
no_target records n (Fill b) other is may = absurd (let no : ⊥ = cc in no)
no_target records n (Erase b) other is may = absurd (let no : ⊥ = cc in no)
no_target records n (Ball b) other is may = absurd (let no : ⊥ = cc in no)
no_target records n (Carve b) other is may = absurd (let no : ⊥ = cc in no)
no_target records n (Copy b c) other is may = absurd (let no : ⊥ = cc in no)
no_target records n (Stamp b c) other is may = absurd (let no : ⊥ = cc in no)
no_target records n (Tint t) other is may = absurd (let no : ⊥ = cc in no)

-- what comes of an undo or a redo
pub way_replays : (old : List Record) (u w : Versions) (r : Record) (taken : Bool)
    → u.records.items ≡ old → is_edit r.act ≡ false
    → (taken ≡ true → TakesUndo u r w) → (taken ≡ true → CanFollow u.records.items r)
    → (taken ≡ false → w ≡ u)
    → (taken ≡ false → target_at u.records.items (moment_of u) r.act ≡ None)
    → Replays old r (Ok taken) w.records.items
way_replays old u w r true same other takes follows stays lacks = (
  subst (λ (rs : List Record). CanFollow rs r) same (follows refl),
  (takes refl).takes.records ∙ ap (λ (rs : List Record). rs ++ r ∷ []) same,
)
way_replays old u w r false same other takes follows stays lacks = (
  λ can. no_target u.records.items (moment_of u + 1) r.act other (lacks refl)
      (subst (λ (rs : List Record). CanFollow rs r) (sym same) can),
  ap (λ (v : Versions). v.records.items) (stays refl) ∙ same,
)

-- ---- two versions have one root exactly where they have the same tints

pub roots_same : (v : Versions) (number a b : ℕ) → AreStoredVersions v → IsStore v.store number
    → HoldsVersion (log_of v) a → HoldsVersion (log_of v) b → (is : Bool)
    → (IsTrue is ↔ (stored_root v.store.roots a ≡ stored_root v.store.roots b))
    → IsTrue is ↔ SameTints (side_of_world v.models.tint (2 ^ (plan_of v).side)) (tints_of v a)
    (tints_of v b)
roots_same v number a b are st of_a of_b is roots =
    let sound = versions_sound v number are st in (
      λ t. subst (λ (l : ℕ). SameTints (side_of_world v.models.tint (2 ^ l)) (tints_of v a)
          (tints_of v b)) are.side
          (tints_by_cells v a b are
          (same_cells (plan_of v) v.models.models _ st.plan.side_low sound a b of_a of_b
          (roots.0 t))),
      λ same. roots.1 (same_root (plan_of v) v.models.models _ st.plan.side_low sound a b of_a of_b
          (cells_by_tints v a b are
          (subst (λ (l : ℕ). SameTints (side_of_world v.models.tint (2 ^ l)) (tints_of v a)
          (tints_of v b)) (sym are.side) same))),
    )

pub same_roots_same : (v : Versions) (number a b : ℕ) → IsReplay v → IsStore v.store number
    → a ≤ moment_of v → b ≤ moment_of v → (is : Bool)
    → (IsTrue is ↔ (stored_root v.store.roots a ≡ stored_root v.store.roots b))
    → IsTrue is ↔ SameTints (side_of_world v.models.tint (2 ^ (plan_of v).side)) (tints_of v a)
    (tints_of v b)
same_roots_same v number a b replay st low high is roots =
    roots_same v number a b replay.are st (unmarked_kept v a replay.unmarked low)
    (unmarked_kept v b replay.unmarked high) is roots

-- ---- nothing is held between two calls

pub free_few : (s : Known) → HoldsNothing s → number_of_trees s.told.held ≤ 2048
free_few s free = omega (arith, free.weighs (λ _. 1))

pub same_free : (s t : Known) → HoldsNothing s → HoldsSame s t → HoldsNothing t
same_free s t free same = record { weighs = λ f. same.weighs f ∙ free.weighs f }
