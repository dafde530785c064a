-- A record follows those before it where it follows them with no mark, and no mark forbids where it
-- goes.
use Rattle.std.proofs.Common.{◌≡◌, ℕ, zero, suc, ◌+◌, ◌<◌, ◌≤◌, Bool, true, false, List, [], ◌∷◌, ◌++◌, length, take, get_or, Option, Some, None, Ok, Err, ◌↔◌, refl, sym, ap, subst, ◌∙◌, inl, inr, ◌⊎◌, arith, length-append, length-take, length-take-le, take_all, take-append-drop}
use Rattle.std.specs.Prelude.{slice_index_or, drop, ◌^◌, All}
use Rattle.std.proofs.lemmas.List.{take_more, get_or_append_left}
use Rattle.std.proofs.lemmas.Bool.{cases_order}
use Rattle.std.proofs.lemmas.List.Elements.{All-push, All-nil}
use Rattle.history_model.specs.Contents.{Content}
use Rattle.history_model.specs.declared.acts.Act.{Act}
use Rattle.history_model.specs.declared.acts.Act.TheVariants.{Fill, Erase, Ball, Carve, Copy, Stamp, Tint, Undo, Redo}
use Rattle.history_model.specs.declared.histories.Mark.{Mark}
use Rattle.history_model.specs.declared.histories.Record.{Record}
use Rattle.history_model.specs.Logs.{FitsWorld, IsVersionHeld, HasTarget, MayFollow, MayFollowFrom}
use Rattle.history_model.specs.Positions.{Position, beginning, next_position, position_from, position_after, first_of}
use Rattle.conformance.specs.Answers.{target_at}
use Rattle.conformance.proofs.LineKinds.{undo_target, redo_target}
use Rattle.node_words.specs.declared.shares.Full.{Full}
use Rattle.node_words.specs.Plans.{Layout}
use Rattle.store_run.specs.Replaying.{ReplayState, Replays, RefusesRecord, MayFillReplay, MayFillAlong}
use Rattle.store_run.specs.declared.replaying.ReplayRefused.TheVariants as replays
use Rattle.audit.specs.declared.audits.AuditRefused.{AuditRefused}
use Rattle.audit.specs.declared.audits.AuditRefused.TheVariants as refusals
use Rattle.audit.specs.Audits.{RefusesAlong}
use Rattle.audit.specs.declared.replaying.UndoTargets.{UndoTargets}
use Rattle.audit.specs.Marks.{TellsMarks}
use Rattle.audit.specs.Replaying.{IsFollowing, FollowEach, AreUndoTargets, Steps, FreeBy, RefusesNext, undo_targets_at}
use Rattle.audit.proofs.Marking.{held_is}

-- ---- where it goes

target_held : (marks : List Mark) (n to : ℕ) (vs : List ℕ) → first_of vs ≡ Some to
    → HasTarget marks n vs ↔ IsVersionHeld marks n to
target_held marks n to [] is = absurd (let no : ⊥ = cc in no)
target_held marks n to (v ∷ more) is =
    let same : v ≡ to = cc in (
      λ held. subst (λ (w : ℕ). IsVersionHeld marks n w) same held,
      λ held. subst (λ (w : ℕ). IsVersionHeld marks n w) (sym same) held,
    )

none_held : (marks : List Mark) (n : ℕ) (vs : List ℕ) → first_of vs ≡ None → HasTarget marks n vs
    → ⊥
none_held marks n [] is has = has
none_held marks n (v ∷ more) is has = let no : ⊥ = cc in no

-- no mark forbids it, by a table of marks
free_by : (marks : List Mark) (table : List (Option Mark)) (n : ℕ) (to : ℕ) → TellsMarks marks table
    → FreeBy (Some to) table n ↔ IsVersionHeld marks n to
free_by marks table n to tells = held_is marks to n (slice_index_or table to None) (tells.each to)

module _ (marks : List Mark) (table : List (Option Mark)) (tells : TellsMarks marks table)
    (n : ℕ) where
  -- of the versions that an undo or a redo can go to
  goes_marked : (vs : List ℕ) (to : Option ℕ) → first_of vs ≡ to → FreeBy to table n
      → HasTarget [] n vs
      → HasTarget marks n vs
  goes_marked vs None is free has = absurd (none_held [] n vs is has)
  goes_marked vs (Some to) is free has =
      (target_held marks n to vs is).1 ((free_by marks table n to tells).0 free)

  goes_unmarked : (vs : List ℕ) → HasTarget marks n vs → HasTarget [] n vs
  goes_unmarked [] has = has
  goes_unmarked (v ∷ more) has = λ k d lt. absurd (omega (arith, lt))

  goes_free : (vs : List ℕ) (to : Option ℕ) → first_of vs ≡ to → HasTarget marks n vs
      → FreeBy to table n
  goes_free vs None is has = tt
  goes_free vs (Some to) is has =
      (free_by marks table n to tells).1 ((target_held marks n to vs is).0 has)

  pub may_marked : (records : List Record) (act : Act)
      → FreeBy (target_at records (length records) act) table n
      → MayFollow [] n act (position_after records) → MayFollow marks n act (position_after records)
  may_marked records Undo free may =
      goes_marked (position_after records).past (target_at records (length records) Undo)
      (sym (undo_target records)) free may
  may_marked records Redo free may =
      goes_marked (position_after records).future (target_at records (length records) Redo)
      (sym (redo_target records)) free may
  may_marked records (Fill b) free may = tt
  may_marked records (Erase b) free may = tt
  may_marked records (Ball b) free may = tt
  may_marked records (Carve b) free may = tt
  may_marked records (Copy b c) free may = tt
  may_marked records (Stamp b c) free may = tt
  may_marked records (Tint t) free may = tt

  pub may_unmarked : (records : List Record) (act : Act)
      → MayFollow marks n act (position_after records)
      → MayFollow [] n act (position_after records)
  may_unmarked records Undo may = goes_unmarked (position_after records).past may
  may_unmarked records Redo may = goes_unmarked (position_after records).future may
  may_unmarked records (Fill b) may = tt
  may_unmarked records (Erase b) may = tt
  may_unmarked records (Ball b) may = tt
  may_unmarked records (Carve b) may = tt
  may_unmarked records (Copy b c) may = tt
  may_unmarked records (Stamp b c) may = tt
  may_unmarked records (Tint t) may = tt

  pub may_free : (records : List Record) (act : Act)
      → MayFollow marks n act (position_after records)
      → FreeBy (target_at records (length records) act) table n
  may_free records Undo may =
      goes_free (position_after records).past (target_at records (length records) Undo)
      (sym (undo_target records)) may
  may_free records Redo may =
      goes_free (position_after records).future (target_at records (length records) Redo)
      (sym (redo_target records)) may
  may_free records (Fill b) may = tt
  may_free records (Erase b) may = tt
  may_free records (Ball b) may = tt
  may_free records (Carve b) may = tt
  may_free records (Copy b c) may = tt
  may_free records (Stamp b c) may = tt
  may_free records (Tint t) may = tt

-- ---- one step

pub step_taken : (side : ℕ) (models : List Content) (marks : List Mark) (table : List (Option Mark))
    (before now : List Record) (r : Record) (taken : Bool) → TellsMarks marks table
    → FitsWorld side models r.act
    → FreeBy (target_at before (length before) r.act) table (length before + 1)
    → Replays before r (Ok taken) now → Steps side models marks before r (Ok taken) now
step_taken side models marks table before now r true tells fits free replays = (
  record {
    fits = fits;
    follows = may_marked marks table tells
        (length before + 1) before r.act free replays.0;
  },
  replays.1,
)
step_taken side models marks table before now r false tells fits free replays =
    λ following. replays.0
    (may_unmarked marks table tells (length before + 1) before r.act following.follows)

pub step_full : (s : ReplayState) (marks : List Mark) (table : List (Option Mark))
    (now : List Record) (r : Record) (full : Full) → TellsMarks marks table
    → FitsWorld (2 ^ s.plan.side) s.models r.act
    → FreeBy (target_at s.records (length s.records) r.act) table (length s.records + 1)
    → RefusesRecord s r (replays.Full full)
    → Steps (2 ^ s.plan.side) s.models marks s.records r (Err (refusals.Full full)) now
step_full s marks table now r full tells fits free refused = record {
  fits = fits;
  follows = may_marked marks table tells
      (length s.records + 1) s.records r.act free refused.0;
}

pub step_forbidden : (side : ℕ) (models : List Content) (marks : List Mark)
    (table : List (Option Mark))
    (before now : List Record) (r : Record) → TellsMarks marks table
    → (FreeBy (target_at before (length before) r.act) table (length before + 1) → ⊥)
    → Steps side models marks before r (Ok false) now
step_forbidden side models marks table before now r tells not_free =
    λ following. not_free
    (may_free marks table tells (length before + 1) before r.act following.follows)

-- ---- all records

follows_on : (marks : List Mark) (n : ℕ) (before : Position) (records : List Record) (r : Record)
    → MayFollowFrom marks n before records
    → MayFollow marks (n + length records) r.act (position_from n before records)
    → MayFollowFrom marks n before (records ++ r ∷ [])
follows_on marks n before [] r so_far next =
    let number : n + 0 ≡ n = omega arith in
    (subst (λ (m : ℕ). MayFollow marks m r.act before) number next, tt)
follows_on marks n before (s ∷ more) r so_far next =
    let number : n + length (s ∷ more) ≡ (n + 1) + length more = omega arith in
    let after : Position = next_position n s.act before in (
      so_far.0,
      follows_on marks (n + 1) after more r so_far.1
          (subst (λ (m : ℕ). MayFollow marks m r.act
          (position_from (n + 1) after more)) number next),
    )

follow_at : (marks : List Mark) (n : ℕ) (before : Position) (records : List Record) (i : ℕ)
    (d : Record)
    → MayFollowFrom marks n before records → i < length records
    → MayFollow marks (n + i) (get_or records i d).act (position_from n before (take i records))
follow_at marks n before [] i d all lt = absurd (omega (arith, lt))
follow_at marks n before (s ∷ more) zero d all lt =
    let number : n ≡ n + 0 = omega arith in
    subst (λ (m : ℕ). MayFollow marks m s.act before) number all.0
follow_at marks n before (s ∷ more) (suc i) d all lt =
    let number : n + 1 + i ≡ n + suc i = omega arith in
    subst (λ (m : ℕ). MayFollow marks m (get_or more i d).act
    (position_from (n + 1) (next_position n s.act before) (take i more))) number
    (follow_at marks (n + 1) (next_position n s.act before) more i d all.1 (omega (arith, lt)))

last_or_less : (n i : ℕ) → n < i + 1 → (n < i) ⊎ (n ≡ i)
last_or_less n i lt = by_order (cases_order n i)
  where
    by_order : (n ≡ i) ⊎ ((n < i) ⊎ (i < n)) → (n < i) ⊎ (n ≡ i)
    by_order (inl same) = inr same
    by_order (inr (inl less)) = inl less
    by_order (inr (inr more)) = absurd (omega (arith, lt, more))

get_or_last : (ways : List UndoTargets) (w d : UndoTargets) → get_or (ways ++ w ∷ []) (length ways) d ≡ w
get_or_last [] w d = refl
get_or_last (v ∷ more) w d = get_or_last more w d

by_cases : {A : Type 0} {B : Type 0} {C : Type 0} → (A → C) → (B → C) → A ⊎ B → C
by_cases f g (inl a) = f a
by_cases f g (inr b) = g b

-- one more record follows
follows_more : (side : ℕ) (models : List Content) (marks : List Mark) (before : List Record)
    (r : Record) → FollowEach side models marks before → IsFollowing side models marks before r
    → FollowEach side models marks (before ++ r ∷ [])
follows_more side models marks before r so_far following =
    let number : length before + 1 ≡ 1 + length before = omega arith in
    record {
      fit = All-push (λ s. FitsWorld side models s.act) before r so_far.fit following.fits;
      follow = follows_on marks 1 beginning before r so_far.follow
          (subst (λ (m : ℕ). MayFollow marks m r.act
          (position_after before)) number following.follows);
    }

-- how far the replay has come
pub record HasReplayed (side : ℕ) (models : List Content) (marks : List Mark)
    (records : List Record)
    (i : ℕ) (replayed : List Record) (ways : List UndoTargets) : Type 0 where
  pub are : replayed ≡ take i records
  pub follow : FollowEach side models marks replayed
  pub as_many : length ways ≡ i
  pub each : (n : ℕ) (d : UndoTargets) → n < i → get_or ways n d ≡ undo_targets_at records n

ways_same : (records replayed : List Record) (i : ℕ) → replayed ≡ take i records
    → i ≤ length records
    → undo_targets_at replayed (length replayed) ≡ undo_targets_at records i
ways_same records replayed i are le =
    let all : take (length replayed) replayed ≡ take i records =
    take_all (length replayed) replayed (omega arith) ∙ are in
    ap (λ (rs : List Record).
    record {
      undo = first_of (position_after rs).past;
      redo = first_of
          (position_after rs).future;
    }) all

pub replayed_none : (side : ℕ) (models : List Content) (marks : List Mark)
    (records replayed : List Record)
    → replayed ≡ [] → HasReplayed side models marks records 0 replayed []
replayed_none side models marks records replayed is = record {
  are = is;
  follow = subst (λ (rs : List Record). FollowEach side models marks rs) (sym is)
      (record { fit = All-nil (λ r. FitsWorld side models r.act); follow = tt });
  as_many = refl;
  each = λ n d lt. absurd (omega (arith, lt));
}

each_more : (records : List Record) (ways : List UndoTargets) (i : ℕ) (w : UndoTargets) → length ways ≡ i
    → ((n : ℕ) (d : UndoTargets) → n < i → get_or ways n d ≡ undo_targets_at records n) → w ≡ undo_targets_at records i
    → (n : ℕ) (d : UndoTargets) → n < i + 1 → get_or (ways ++ w ∷ []) n d ≡ undo_targets_at records n
each_more records ways i w long each is n d lt =
    by_cases (λ (less : n < i). get_or_append_left ways (w ∷ []) d n (omega (arith, long, less))
    ∙ each n d less)
    (λ (same : n ≡ i).
    ap (λ (k : ℕ). get_or (ways ++ w ∷ []) k d) (same ∙ sym long) ∙ get_or_last ways w d
    ∙ is ∙ ap (undo_targets_at records) (sym same))
    (last_or_less n i lt)

pub replayed_more : (side : ℕ) (models : List Content) (marks : List Mark)
    (records replayed now : List Record)
    (i : ℕ) (ways : List UndoTargets) (w : UndoTargets) (r d : Record)
    → HasReplayed side models marks records i replayed ways → i < length records
    → r ≡ get_or records i d
    → w ≡ undo_targets_at replayed (length replayed) → IsFollowing side models marks replayed r
    → now ≡ replayed ++ r ∷ [] → HasReplayed side models marks records (i + 1) now (ways ++ w ∷ [])
replayed_more side models marks records replayed now i ways w r d so_far lt is told following more =
    record {
      are = more ∙ ap (λ (rs : List Record). rs ++ r ∷ []) so_far.are
          ∙ ap (λ (x : Record). take i records ++ x ∷ []) is ∙ sym (take_more records i d lt);
      follow = subst (λ (rs : List Record). FollowEach side models marks rs) (sym more)
          (follows_more side models marks replayed r so_far.follow following);
      as_many = length-append ways (w ∷ []) ∙ ap (λ (k : ℕ). k + 1) so_far.as_many;
      each = each_more records ways i w so_far.as_many so_far.each
          (told ∙ ways_same records replayed i so_far.are (omega arith));
    }

pub replayed_stop : (side : ℕ) (models : List Content) (marks : List Mark)
    (records replayed : List Record)
    (i : ℕ) (ways : List UndoTargets) (r d : Record)
    → HasReplayed side models marks records i replayed ways
    → i < length records → r ≡ get_or records i d → (IsFollowing side models marks replayed r → ⊥)
    → FollowEach side models marks records → ⊥
replayed_stop side models marks records replayed i ways r d so_far lt is wrong all =
    let front : length replayed ≡ i =
    ap (λ (rs : List Record). length rs) so_far.are
    ∙ (let h = length-take i records in omega (arith, h, lt)) in
    let here = follow_at marks 1 beginning records i d all.follow lt in
    let number : 1 + i ≡ length replayed + 1 = omega (arith, front) in
    wrong (record {
      fits = subst (λ (x : Record). FitsWorld side models x.act) (sym is) (all.fit i d lt);
      follows =
          subst (λ (x : Record). MayFollow marks (length replayed + 1) x.act
          (position_after replayed)) (sym is)
          (subst (λ (m : ℕ). MayFollow marks m (get_or records i d).act
          (position_after replayed)) number
          (subst (λ (rs : List Record). MayFollow marks (1 + i) (get_or records i d).act
          (position_after rs)) (sym so_far.are) here));
    })

pub replayed_all : (side : ℕ) (models : List Content) (marks : List Mark)
    (records replayed : List Record)
    (i : ℕ) (ways : List UndoTargets) (w : UndoTargets) → HasReplayed side models marks records i replayed ways
    → i ≡ length records → w ≡ undo_targets_at replayed (length replayed)
    → FollowEach side models marks records × AreUndoTargets records (ways ++ w ∷ []) × (replayed ≡ records)
replayed_all side models marks records replayed i ways w so_far is told =
    let all : take i records ≡ records = take_all i records (omega (arith, is)) in
    let same : replayed ≡ records = so_far.are ∙ all in (
      subst (λ (rs : List Record). FollowEach side models marks rs) same so_far.follow,
      record {
        as_many = length-append ways (w ∷ []) ∙ ap (λ (k : ℕ). k + 1) (so_far.as_many ∙ is);
        each = λ n d le. each_more records ways i w so_far.as_many so_far.each
            (told ∙ ways_same records replayed i so_far.are (omega (arith, is))) n d
            (omega (arith, le, is));
      },
      same,
    )

-- the record that a read past the end would give
abbrev pub any_record : Record
any_record = record {
  session = 0;
  line = 0;
  act = Fill (record {
    at = record { x = 0; y = 0; z = 0 };
    size =
        record { x = 0; y = 0; z = 0 };
  });
}

-- ---- a record that was refused

-- what a record that can follow the first ones needs behind them is needed along all
pub filled_along : (p : Layout) (models : List Content) (marks : List Mark)
    (records replayed : List Record) (i : ℕ) (ways : List UndoTargets)
    (r d : Record) (full : Full) → HasReplayed (2 ^ p.side) models marks records i replayed ways
    → i < length records → length records ≤ 65535
    → r ≡ get_or records i d → IsFollowing (2 ^ p.side) models marks replayed r
    → MayFillReplay p models (replayed ++ r ∷ []) full
    → MayFillAlong p models marks records full
filled_along p models marks records replayed i ways r d full so_far lt few is following fills =
    let next : List Record = take (i + 1) records in
    let more = follows_more (2 ^ p.side) models marks replayed r so_far.follow following in
    let are : replayed ++ r ∷ [] ≡ next =
    ap (λ (rs : List Record). rs ++ r ∷ []) so_far.are
    ∙ ap (λ (x : Record). take i records ++ x ∷ []) is ∙ sym (take_more records i d lt) in
    let follow = subst (λ (rs : List Record). FollowEach (2 ^ p.side) models marks rs) are more in
    record {
      first = next;
      rest = drop (i + 1) records;
      begins = sym (take-append-drop (i + 1) records);
      legal = record {
        few = (let long = length-take-le (i + 1) records (omega (arith, lt)) in
            omega (arith, long, lt, few));
        fit = follow.fit;
        follow = follow.follow;
      };
      fills = subst (λ (rs : List Record). MayFillReplay p models rs full) are fills;
    }

pub refused_along : (p : Layout) (s : ReplayState) (models : List Content) (marks : List Mark)
    (records now : List Record) (i : ℕ) (ways : List UndoTargets)
    (r d : Record) (refused : AuditRefused) → s.plan ≡ p → s.models ≡ models
    → HasReplayed (2 ^ p.side) models marks records i s.records ways
    → i < length records → length records ≤ 65535 → r ≡ get_or records i d
    → Steps (2 ^ s.plan.side) s.models marks s.records r (Err refused) now
    → RefusesNext s r refused → RefusesAlong p models marks records refused
refused_along p s models marks records now i ways r d (refusals.Full full) plan same so_far lt few
    is following fills =
    filled_along p models marks records s.records i ways r d full so_far lt few is
    (subst (λ (q : Layout). IsFollowing (2 ^ q.side) models marks s.records r) plan
    (subst (λ (ms : List Content). IsFollowing (2 ^ s.plan.side) ms marks s.records r)
    same following))
    (subst (λ (q : Layout). MayFillReplay q models (s.records ++ r ∷ []) full) plan
    (subst (λ (ms : List Content). MayFillReplay s.plan ms (s.records ++ r ∷ []) full) same fills))
refused_along p s models marks records now i ways r d refusals.Memory plan same so_far lt few is
    following fills = tt

-- ---- by the plan and the models with which the replay began

pub record_fits : (p q : Layout) (models others : List Content) (records : List Record) (i : ℕ)
    (d : Record)
    → q ≡ p → others ≡ models → i < length records
    → All (λ r. FitsWorld (2 ^ p.side) models r.act) records
    → FitsWorld (2 ^ q.side) others (get_or records i d).act
record_fits p q models others records i d plan same lt all =
    subst (λ (x : Layout). FitsWorld (2 ^ x.side) others (get_or records i d).act) (sym plan)
    (subst (λ (x : List Content). FitsWorld (2 ^ p.side) x (get_or records i d).act) (sym same)
    (all i d lt))

pub steps_as : (p q : Layout) (models others : List Content) (marks : List Mark)
    (before now : List Record)
    (r : Record) (taken : Bool) → q ≡ p → others ≡ models
    → Steps (2 ^ q.side) others marks before r (Ok taken) now
    → Steps (2 ^ p.side) models marks before r (Ok taken) now
steps_as p q models others marks before now r taken plan same steps =
    subst (λ (x : Layout). Steps (2 ^ x.side) models marks before r (Ok taken) now) plan
    (subst (λ (x : List Content). Steps (2 ^ q.side) x marks before r (Ok taken) now) same steps)
