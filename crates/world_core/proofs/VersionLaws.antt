-- Records and marks that come to the log, with the roots of their versions.
use Rattle.std.proofs.Common.{◌≡◌, ℕ, zero, suc, ◌+◌, ◌-◌, ◌<◌, ◌≤◌, refl, sym, ◌∙◌, ap, subst, arith, Some, None, Option, List, [], ◌∷◌, ◌++◌, length, set, get_or, take, drop}
use Rattle.std.specs.List.{slice_get, AllPairs}
use Rattle.std.proofs.lemmas.List.{get_or-set_same, get_or-set_other, length-set, take-append-drop}
use Rattle.std.proofs.lemmas.Option.{slice_get_within, get_or_from_slice_get}
use Rattle.node_words.specs.declared.shapes.names.Name.{Name}
use Rattle.history_model.specs.declared.histories.Record.{Record}
use Rattle.history_model.specs.declared.histories.Mark.{Mark}
use Rattle.history_model.specs.Logs.{Log}
use Rattle.core_laws.specs.contents.Versions.{IsUnmarked, InsertsMark}
use Rattle.core_laws.specs.Counting.{weight}
use Rattle.core_laws.specs.Events.{no_weight, at_most_one, PutsRoot, TakesRoot}
use Rattle.core_laws.specs.LogEvents.{MayAppend, Appends, Forgets, appends, forgets}
use Rattle.world_core.specs.Trading.{HasAll, TradesNames}
use Rattle.world_core.specs.Lawful.{HoldsShares, HoldsAtMost}
use Rattle.world_core.specs.Stored.{Stored, IsStored, stored_state, root_in}
use Rattle.world_core.specs.Steps.{AppendsRoot, MarksRoot}
use Rattle.world_core.proofs.Keeping.{IsSmall, kept, no_weights, one_weight}
use Rattle.world_core.proofs.ShareLaws.{few_after, trades_as}
use Rattle.world_core.proofs.LowerLaws.{has_of}

-- each session holds at most 4,096 shares
pub all_room : (s : Stored) (session : ℕ) (names : List Name) → IsStored s
    → slice_get s.held session ≡ Some names → HoldsAtMost (stored_state s) session 4096
all_room s session names is at = record {
  names = names;
  at = at;
  few = subst IsSmall (get_or_from_slice_get s.held session names [] at)
      (is.few session [] (slice_get_within s.held session names at));
}

few_root : (o : Option Name) → weight (λ _. 1) o ≤ 1
few_root None = omega arith
few_root (Some n) = omega arith

-- no root is kept of a version that isn't there
no_root : (s : Stored) (v : ℕ) → IsStored s → length s.log.records < v → root_in s.roots v ≡ None
no_root s v is past = go (root_in s.roots v) refl
  where
    go : (o : Option Name) → root_in s.roots v ≡ o → root_in s.roots v ≡ None
    go None e = e
    go (Some n) e = absurd (let k = is.sound.versions.kept v n e in let le = k.there in omega arith)

-- the lists with another log, with another root of a version and another holding of a session
abbrev pub logged : Stored → List (Option Name) → Log → ℕ → List Name → Stored
logged s roots log session after =
    record { plan = s.plan; models = s.models; entries = s.entries; roots = roots; log = log; held = set s.held session after }

pub recorded : (s : Stored) (r : Record) (root : Option Name) (names after : List Name)
    (version : ℕ)
    → IsStored s → MayAppend s.plan s.models r root (stored_state s)
    → HoldsShares (stored_state s) r.session (root ∷ []) → slice_get s.held r.session ≡ Some names
    → TradesNames names (root ∷ []) [] after → version ≡ length s.log.records + 1
    → AppendsRoot s r root (logged s (set s.roots version root)
    (record { side = s.log.side; coloured = s.log.coloured; records = s.log.records ++ r ∷ []; marks = s.log.marks }) r.session after)
recorded s r root names after version is may held at trade same =
    let next : ℕ = length s.log.records + 1 in
    let log : Log =
    record { side = s.log.side; coloured = s.log.coloured; records = s.log.records ++ r ∷ []; marks = s.log.marks } in
    let room = may.room in
    let places = is.places in
    let has = has_of s r.session (root ∷ []) names held at in
    let trades =
    trades_as s r.session names after (root ∷ []) [] at has trade (at_most_one root) no_weight
    (one_weight root) no_weights in
    let few =
    few_after s r.session names after (root ∷ []) [] at has trade 4096
    (all_room s r.session names is at) (omega (arith, no_weights (λ _. 1))) in
    subst (λ (v : ℕ). AppendsRoot s r root (logged s (set s.roots v root) log r.session after))
    (sym same)
    (let puts : PutsRoot s.plan r.session next root (stored_state s)
    (stored_state (logged s (set s.roots next root) log r.session after)) = record {
      in_range = omega arith;
      free = no_root s next is (omega arith);
      new_root = get_or-set_same s.roots next root None (omega arith);
      roots = λ v other. get_or-set_other s.roots next v root None other;
      entries = record { book = λ m _. refl; key = λ m _. refl };
      held = trades;
    } in
    let step : Appends s.plan s.models r.session r root (stored_state s) (stored_state (logged s (set s.roots next root) log r.session after)) =
    record { may = may; log = refl; puts = puts } in
    record {
      appends = step;
      keeps = record {
        plan = refl;
        models = refl;
        stored = kept s s.entries (set s.roots next root) log r.session after is is.laid
            (length-set s.roots next root ∙ places) few (appends r root step);
      };
    })

-- the log with one more record, and with a mark at a place
abbrev pub longer : Log → Record → Log
longer log r =
    record { side = log.side; coloured = log.coloured; records = log.records ++ r ∷ []; marks = log.marks }

abbrev pub with_mark : Log → ℕ → Mark → Log
with_mark log place mark =
    record { side = log.side; coloured = log.coloured; records = log.records; marks = take place log.marks ++ mark ∷ drop place log.marks }

-- a mark in its place among marks by rising version
mark_comes : (marks : List Mark) (mark : Mark) (place : ℕ) → place ≤ length marks
    → AllPairs (λ a b. a.version < b.version) marks → IsUnmarked marks mark.version
    → ((k : ℕ) (m : Mark) → k < place → (get_or marks k m).version ≤ mark.version)
    → ((m : Mark) → place < length marks → mark.version < (get_or marks place m).version)
    → InsertsMark marks mark (take place marks ++ mark ∷ drop place marks)
mark_comes marks mark place le rising unmarked lower higher = record {
  before = take place marks;
  after = drop place marks;
  was = sym (take-append-drop place marks);
  is = refl;
  lower = λ k m lt. (
      let wide : length (take place marks) ≡ place =
      Rattle.std.proofs.lemmas.List.length-take-le place marks le in
      let here = Rattle.std.proofs.lemmas.List.get_or-take place marks k m (omega arith) in
      let low = lower k m (omega arith) in
      let other = unmarked k m (omega arith) in
      subst (λ (x : Mark). x.version < mark.version) (sym here) (omega arith));
  higher = λ k m lt. (
      let wide : length (drop place marks) ≡ length marks - place =
      Rattle.std.proofs.lemmas.List.length-drop place marks in
      let here = Rattle.std.proofs.lemmas.List.get_or-drop place marks k m in
      let first = higher m (omega arith) in
      subst (λ (x : Mark). mark.version < x.version) (sym here) (go k m (omega arith) first));
}
  where
    go : (k : ℕ) (m : Mark) → place + k < length marks
        → mark.version < (get_or marks place m).version
        → mark.version < (get_or marks (place + k) m).version
    go zero m lt first = let same : place ≡ place + 0 = omega arith in
        subst (λ (j : ℕ). mark.version < (get_or marks j m).version) same first
    go (suc k) m lt first = let up = rising place (place + suc k) m (omega arith)
        (omega arith) in omega arith

pub marked : (s : Stored) (mark : Mark) (root : Option Name) (names after : List Name) (place : ℕ)
    → IsStored s → mark.version < length s.log.records → mark.at ≡ length s.log.records
    → IsUnmarked s.log.marks mark.version → HoldsAtMost (stored_state s) mark.session 4095
    → slice_get s.held mark.session ≡ Some names → root ≡ root_in s.roots mark.version
    → TradesNames names [] (root ∷ []) after → place ≤ length s.log.marks
    → ((k : ℕ) (m : Mark) → k < place → (get_or s.log.marks k m).version ≤ mark.version)
    → ((m : Mark) → place < length s.log.marks
    → mark.version < (get_or s.log.marks place m).version)
    → MarksRoot s mark root (logged s (set s.roots mark.version None)
    (record { side = s.log.side; coloured = s.log.coloured; records = s.log.records; marks = take place s.log.marks ++ mark ∷ drop place s.log.marks }) mark.session after)
marked s mark root names after place is earlier now unmarked room at its trade le lower higher =
    let few_records = is.sound.versions.legal.few in
    let places = is.places in
    let v : ℕ = mark.version in
    let log : Log =
    record { side = s.log.side; coloured = s.log.coloured; records = s.log.records; marks = take place s.log.marks ++ mark ∷ drop place s.log.marks } in
    let has : HasAll names [] = record { weighs = λ f. omega arith } in
    let trades =
    trades_as s mark.session names after [] (root ∷ []) at has trade no_weight
    (at_most_one (root_in s.roots v)) no_weights
    (λ f. one_weight root f ∙ ap (weight f) its) in
    let few = few_after s mark.session names after [] (root ∷ []) at has trade 4095 room
    (let one = one_weight root (λ _. 1) in let small = few_root root in omega
    (arith, no_weights (λ _. 1))) in
    let takes : TakesRoot s.plan mark.session v (stored_state s) (stored_state (logged s (set s.roots v None) log mark.session after)) = record {
      in_range = omega arith;
      no_root = get_or-set_same s.roots v None None (omega arith);
      roots = λ w other. get_or-set_other s.roots v w None None other;
      entries = record { book = λ m _. refl; key = λ m _. refl };
      held = trades;
    } in
    let step : Forgets s.plan mark.session mark (stored_state s) (stored_state (logged s (set s.roots v None) log mark.session after)) = record {
      earlier = earlier;
      now = now;
      side = refl;
      coloured = refl;
      records = refl;
      marks = mark_comes s.log.marks mark place le is.sound.versions.legal.rising unmarked lower higher;
      takes = takes;
    } in
    record {
      its_root = its;
      forgets = step;
      keeps = record {
        plan = refl;
        models = refl;
        stored = kept s s.entries (set s.roots v None) log mark.session after is is.laid
            (length-set s.roots v None ∙ places) few (forgets mark step);
      };
    }

-- what is found at a place that is there is there with any default
pub found_root : (roots : List (Option Name)) (v : ℕ) (root : Option Name) → v < length roots
    → root ≡ get_or roots v root → root ≡ root_in roots v
found_root roots v root lt found =
    found ∙ Rattle.std.proofs.lemmas.List.get_or_default roots v root None lt
