-- A legal history that is replayed with its marks.
use Rattle.std.proofs.Common.{◌≡◌, ◌≢◌, ℕ, zero, suc, ◌+◌, ◌^◌, ◌<◌, ◌≤◌, List, [], ◌∷◌, ◌++◌, length, take, drop, get_or, length-append, length-drop, length-take-le, take_all, take-append-drop, sym, ap, subst, ◌∙◌, inl, inr, ◌⊎◌, arith}
use Rattle.std.specs.Prelude.{All}
use Rattle.std.specs.List.{AllPairs, Contains}
use Rattle.std.proofs.lemmas.Bool.{cases_order}
use Rattle.std.proofs.lemmas.List.{take_more, drop_more, get_or_default, get_or-take, get_or-drop}
use Rattle.std.proofs.lemmas.List.Elements.{All-push, All-tail, All-contains, Contains-get_or, Contains-append_left, Contains-append_right, Contains-append_cases, Contains-push, Contains-push_cases}
use Rattle.node_words.specs.Plans.{Layout}
use Rattle.vox_read.specs.Contents.{Content}
use Rattle.history_model.specs.declared.acts.Act.{Act}
use Rattle.history_model.specs.declared.acts.Act.TheVariants.{Fill, Erase, Ball, Carve, Copy, Stamp, Tint, Undo, Redo}
use Rattle.history_model.specs.declared.histories.Mark.{Mark}
use Rattle.history_model.specs.declared.histories.Record.{Record}
use Rattle.history_model.specs.Logs.{Log, IsVersionHeld, HasTarget, MayFollow}
use Rattle.history_model.specs.Positions.{Position, position_after}
use Rattle.core_laws.specs.contents.Versions.{HoldsVersion}
use Rattle.core_laws.proofs.OfContents.MarkLaws.{marks_rise}
use Rattle.store_run.specs.Changing.{LogGainsMark, log_with_record}
use Rattle.store_run.specs.Marked.{AreLegalMarks, replayed}
use Rattle.store_run.specs.declared.replaying.ReplayRefused.{ReplayRefused}
use Rattle.store_run.specs.declared.replaying.ReplayRefused.TheVariants as replays
use Rattle.store_run.specs.Replaying.{AreLegalRecords, MakesOnlyParts, MayFillReplay, RefusesRecord}
use Rattle.store_run.specs.Worlds.{WorldState}
use Rattle.dag_answers.specs.Histories.{RefusesHistoryOver, of_replay}
use Rattle.dag_answers.specs.Replays.{AreDue, HasReplayed}
use Rattle.dag_answers.proofs.SortLaws.{same_rising}
use Rattle.dag_answers.proofs.LegalLaws.{ComesNext, legal_front, legal_last}

-- what stands where a list has no mark
abbrev pub any_mark : Mark
any_mark = record { version = 0; at = 0; session = 0; line = 0 }

-- ---- fewer marks forbid less

module _ (some all : List Mark) (within : (m : Mark) → Contains some m → Contains all m) where
  held_within : (n v : ℕ) → IsVersionHeld all n v → IsVersionHeld some n v
  held_within n v held = λ k d lt.
      All-contains (λ (m : Mark). m.version ≡ v → n ≤ m.at) all (get_or some k d) held
      (within (get_or some k d) (Contains-get_or some k d lt))

  target_within : (n : ℕ) (vs : List ℕ) → HasTarget all n vs → HasTarget some n vs
  target_within n [] has = has
  target_within n (to ∷ more) has = held_within n to has

  pub may_within : (n : ℕ) (act : Act) (at : Position) → MayFollow all n act at
      → MayFollow some n act at
  may_within n Undo at may = target_within n at.past may
  may_within n Redo at may = target_within n at.future may
  may_within n (Fill b) at may = tt
  may_within n (Erase b) at may = tt
  may_within n (Ball b) at may = tt
  may_within n (Carve b) at may = tt
  may_within n (Copy b c) at may = tt
  may_within n (Stamp b c) at may = tt
  may_within n (Tint t) at may = tt

-- the next record of a legal history
pub next_of : (side : ℕ) (models : List Content) (log : Log) (n : ℕ) (d : Record)
    → n < length log.records → AreLegalRecords side models log.marks log.records
    → ComesNext side models log.marks (take n log.records) (get_or log.records n d)
next_of side models log n d lt legal =
    legal_last side models log.marks (take n log.records) (get_or log.records n d)
    (subst (λ (rs : List Record). AreLegalRecords side models log.marks rs)
    (take_more log.records n d lt)
    (legal_front side models log.marks (take (n + 1) log.records) (drop (n + 1) log.records)
    (subst (λ (rs : List Record). AreLegalRecords side models log.marks rs)
    (sym (take-append-drop (n + 1) log.records)) legal)))

-- ---- what is due

-- the first ones of some elements are among them
in_take : {X : Type 0} (xs : List X) (k : ℕ) (x : X) → Contains (take k xs) x → Contains xs x
in_take xs k x has =
    subst (λ ys. Contains ys x) (take-append-drop k xs)
    (Contains-append_left (take k xs) (drop k xs) x has)

module _ (models : List Content) (log : Log) (due : List Mark) (of_due : AreDue log.marks due) where
  -- nothing was replayed
  pub has_begun : (now : WorldState) → now.plan.side ≡ log.side → now.models ≡ models
      → now.log ≡ record { side = now.plan.side; coloured = log.coloured; records = []; marks = [] }
      → MakesOnlyParts (replayed now) → HasReplayed models log due 0 0 now
  has_begun now side same is made = record {
    side = side;
    log_side = ap (λ (l : Log). l.side) is ∙ side;
    coloured = ap (λ (l : Log). l.coloured) is;
    models_are = same;
    records = ap (λ (l : Log). l.records) is;
    many = ap (λ (l : Log). length l.records) is;
    there = omega arith;
    rising = subst (λ (l : Log). AllPairs (λ a b. a.version < b.version) l.marks) (sym is)
        (λ i j d lt within. absurd (omega (arith, within)));
    marks = λ m listed.
        absurd (omega (arith, (subst (λ (l : Log). Contains l.marks m) is listed).1));
    all = λ m listed. absurd (omega (arith, listed.1));
    past = λ i d lt. absurd (omega (arith, lt));
    left = λ i d lt. omega arith;
    made = made;
  }

  -- the marks of a replay are marks of the history
  pub marks_within : (n k : ℕ) (now : WorldState) → HasReplayed models log due n k now
      → (m : Mark) → Contains now.log.marks m → Contains log.marks m
  marks_within n k now has m listed = of_due.same m (in_take due k m (has.marks m listed))

  -- so its next record can come
  pub may_come : (n k : ℕ) (now : WorldState) (d : Record) → HasReplayed models log due n k now
      → n < length log.records → AreLegalRecords (2 ^ log.side) models log.marks log.records
      → MayFollow now.log.marks (length now.log.records + 1) (get_or log.records n d).act
      (position_after now.log.records)
  may_come n k now d has lt legal =
      let next = next_of (2 ^ log.side) models log n d lt legal in
      let act = (get_or log.records n d).act in
      let many : length (take n log.records) ≡ length now.log.records =
      ap (λ (rs : List Record). length rs) (sym has.records) in
      subst (λ (rs : List Record). MayFollow now.log.marks (length now.log.records + 1) act
      (position_after rs))
      (sym has.records)
      (subst (λ (m : ℕ). MayFollow now.log.marks (m + 1) act
      (position_after (take n log.records))) many
      (may_within now.log.marks log.marks (marks_within n k now has)
      (length (take n log.records) + 1) act (position_after (take n log.records)) next.may))

  -- and does
  pub has_next : (n k : ℕ) (now new : WorldState) (d : Record) → HasReplayed models log due n k now
      → n < length log.records → All (λ m. n < m.at) (drop k due)
      → new.plan ≡ now.plan → new.models ≡ now.models
      → new.log ≡ log_with_record now.log (get_or log.records n d) → MakesOnlyParts (replayed new)
      → HasReplayed models log due (n + 1) k new
  has_next n k now new d has lt later plan same is made =
      let long = length-append now.log.records (get_or log.records n d ∷ []) in
      let many = has.many in
      let number = ap (λ (l : Log). length l.records) is in
      record {
        side = ap (λ (p : Layout). p.side) plan ∙ has.side;
        log_side = ap (λ (l : Log). l.side) is ∙ has.log_side;
        coloured = ap (λ (l : Log). l.coloured) is ∙ has.coloured;
        models_are = same ∙ has.models_are;
        records =
            ap (λ (l : Log). l.records) is
            ∙ ap (λ (rs : List Record). rs ++ get_or log.records n d ∷ []) has.records
            ∙ sym (take_more log.records n d lt);
        many = omega (arith, number, long, many);
        there = omega (arith, lt);
        rising =
            subst (λ (l : Log). AllPairs (λ a b. a.version < b.version) l.marks) (sym is) has.rising;
        marks = λ m listed. has.marks m (subst (λ (l : Log). Contains l.marks m) is listed);
        all = λ m listed. subst (λ (l : Log). Contains l.marks m) (sym is) (has.all m listed);
        past = λ i e below. (let le = has.past i e below in omega (arith, le));
        left = λ i e below. (let less = later i e below in omega (arith, less));
        made = made;
      }

  -- or finds a full bucket
  pub refuses_next : (p : Layout) (n k : ℕ) (now : WorldState) (d : Record) (why : ReplayRefused)
      → HasReplayed models log due n k now → n < length log.records
      → AreLegalRecords (2 ^ log.side) models log.marks log.records
      → now.plan ≡ p
      → RefusesRecord (replayed now) (get_or log.records n d) why
      → RefusesHistoryOver p models log (of_replay why)
  refuses_next p n k now d (replays.Full full) has lt legal plan fills =
      let next : List Record = take (n + 1) log.records in
      let are : now.log.records ++ get_or log.records n d ∷ [] ≡ next =
      ap (λ (rs : List Record). rs ++ get_or log.records n d ∷ []) has.records
      ∙ sym (take_more log.records n d lt) in
      let side : log.side ≡ p.side = sym has.side ∙ ap (λ (q : Layout). q.side) plan in (
        legal,
        record {
          first = next;
          rest = drop (n + 1) log.records;
          begins = sym (take-append-drop (n + 1) log.records);
          legal =
              subst (λ (s : ℕ). AreLegalRecords (2 ^ s) models log.marks next) side
              (legal_front (2 ^ log.side) models log.marks next (drop (n + 1) log.records)
              (subst (λ (rs : List Record). AreLegalRecords (2 ^ log.side) models log.marks rs)
              (sym (take-append-drop (n + 1) log.records)) legal));
          fills =
              subst (λ (q : Layout). MayFillReplay q models next full) plan
              (subst (λ (ms : List Content). MayFillReplay now.plan ms next full) has.models_are
              (subst (λ (rs : List Record). MayFillReplay now.plan now.models rs full) are fills.1));
        },
      )
  refuses_next p n k now d replays.Memory has lt legal plan fills = tt

  -- ---- a mark that is due

  -- its version is kept
  pub due_kept : (n k : ℕ) (now : WorldState) (d : Mark) → HasReplayed models log due n k now
      → AreLegalMarks (length log.records) log.marks → k < length due → (get_or due k d).at ≡ n
      → HoldsVersion now.log (get_or due k d).version
  due_kept n k now d has legal lt at = record {
    there = (
        let m = get_or due k d in
        let listed = of_due.same m (Contains-get_or due k d lt) in
        let both =
        All-contains
        (λ (x : Mark). (x.version < x.at)
        × (x.at ≤ length log.records)) log.marks m legal.marked listed in
        let many = has.many in
        let less = both.0 in
        omega (arith, less, at, many));
    unmarked = λ i e below.
        let m = get_or now.log.marks i e in
        let taken = has.marks m (Contains-get_or now.log.marks i e below) in
        let short = length-take-le k due (omega (arith, lt)) in
        let inside : taken.0 < k = (let b = taken.1 in omega (arith, b, short)) in
        λ same. of_due.once taken.0 k m inside lt
        (ap (λ (x : Mark). x.version) (sym (get_or-take k due taken.0 m inside) ∙ taken.2) ∙ same
        ∙ ap (λ (x : Mark). x.version) (get_or_default due k d m lt));
  }

  pub due_earlier : (n k : ℕ) (now : WorldState) (d : Mark) → HasReplayed models log due n k now
      → AreLegalMarks (length log.records) log.marks → k < length due → (get_or due k d).at ≡ n
      → (get_or due k d).version < length now.log.records
  due_earlier n k now d has legal lt at =
      let m = get_or due k d in
      let listed = of_due.same m (Contains-get_or due k d lt) in
      let both =
      All-contains
      (λ (x : Mark). (x.version < x.at)
      × (x.at ≤ length log.records)) log.marks m legal.marked listed in
      let many = has.many in
      let less = both.0 in
      omega (arith, less, at, many)

  -- and it comes to the others
  pub due_comes : (n k : ℕ) (now new : WorldState) (d : Mark) → HasReplayed models log due n k now
      → k < length due → (get_or due k d).at ≡ n → new.plan ≡ now.plan → new.models ≡ now.models
      → LogGainsMark now.log (get_or due k d) new.log → MakesOnlyParts (replayed new)
      → HasReplayed models log due n (k + 1) new
  due_comes n k now new d has lt at plan same marks made =
      let m = get_or due k d in
      let more = take_more due k d lt in
      record {
        side = ap (λ (p : Layout). p.side) plan ∙ has.side;
        log_side = marks.side ∙ has.log_side;
        coloured = marks.coloured ∙ has.coloured;
        models_are = same ∙ has.models_are;
        records = marks.records ∙ has.records;
        many = ap (λ (rs : List Record). length rs) marks.records ∙ has.many;
        there = has.there;
        rising = marks_rise now.log.marks new.log.marks m marks.marks has.rising;
        marks = λ x listed.
            subst (λ (ms : List Mark). Contains ms x) (sym more)
            (among x (comes x (subst (λ (ms : List Mark). Contains ms x) marks.marks.is listed)));
        all = λ x listed.
            stays x (Contains-push_cases (take k due) m x
            (subst (λ (ms : List Mark). Contains ms x) more listed));
        past =
            subst (λ (ms : List Mark). All (λ (x : Mark). x.at ≤ n) ms) (sym more)
            (All-push (λ (x : Mark). x.at ≤ n) (take k due) m has.past (omega (arith, at)));
        left = λ i e below.
            let rest = drop_more due k d lt in
            All-tail (λ (x : Mark). n ≤ x.at) m (drop (k + 1) due)
            (subst (λ (ms : List Mark). All (λ (x : Mark). n ≤ x.at) ms) rest has.left) i e below;
        made = made;
      }
    where
      comes : (x : Mark) → Contains (marks.marks.before ++ get_or due k d ∷ marks.marks.after) x
          → Contains now.log.marks x ⊎ (get_or due k d ≡ x)
      comes x listed = go
          (Contains-append_cases marks.marks.before (get_or due k d ∷ marks.marks.after) x listed)
        where
          back : Contains (marks.marks.before ++ marks.marks.after) x → Contains now.log.marks x
          back there = subst (λ (ms : List Mark). Contains ms x) (sym marks.marks.was) there

          go : Contains marks.marks.before x ⊎ Contains (get_or due k d ∷ marks.marks.after) x
              → Contains now.log.marks x ⊎ (get_or due k d ≡ x)
          go (inl front) = inl
              (back (Contains-append_left marks.marks.before marks.marks.after x front))
          go (inr (zero, below, is)) = inr is
          go (inr (suc i, below, is)) =
              inl (back (Contains-append_right marks.marks.before marks.marks.after x
              (i, omega (arith, below), is)))

      among : (x : Mark) → Contains now.log.marks x ⊎ (get_or due k d ≡ x)
          → Contains (take k due ++ get_or due k d ∷ []) x
      among x (inl old) = Contains-append_left (take k due) (get_or due k d ∷ []) x
          (has.marks x old)
      among x (inr is) = subst (λ (y : Mark). Contains (take k due ++ get_or due k d ∷ []) y) is
          (Contains-push (take k due) (get_or due k d))

      put : (x : Mark) → Contains (marks.marks.before ++ get_or due k d ∷ marks.marks.after) x
          → Contains new.log.marks x
      put x there = subst (λ (ms : List Mark). Contains ms x) (sym marks.marks.is) there

      stays : (x : Mark) → Contains (take k due) x ⊎ (get_or due k d ≡ x) → Contains new.log.marks x
      stays x (inr is) =
          put x (Contains-append_right marks.marks.before (get_or due k d ∷ marks.marks.after) x
          (0, omega arith, is))
      stays x (inl old) =
          go (Contains-append_cases marks.marks.before marks.marks.after x
          (subst (λ (ms : List Mark). Contains ms x) marks.marks.was (has.all x old)))
        where
          go : Contains marks.marks.before x ⊎ Contains marks.marks.after x
              → Contains new.log.marks x
          go (inl front) = put x
              (Contains-append_left marks.marks.before (get_or due k d ∷ marks.marks.after) x front)
          go (inr (i, below, is)) =
              put x (Contains-append_right marks.marks.before (get_or due k d ∷ marks.marks.after) x
              (suc i, omega (arith, below), is))

  -- ---- no further mark is due

  pub none_due : (n k : ℕ) → length due ≤ k → All (λ m. n < m.at) (drop k due)
  none_due n k past = λ i d below.
      let long = length-drop k due in absurd (omega (arith, below, long, past))

  pub due_later : (n k : ℕ) (d : Mark) → k < length due → n ≤ (get_or due k d).at
      → (get_or due k d).at ≢ n → All (λ m. n < m.at) (drop k due)
  due_later n k d lt le other = λ i e below.
      let long = length-drop k due in
      let here : get_or (drop k due) i e ≡ get_or due (k + i) e = get_or-drop k due i e in
      let at = ap (λ (m : Mark). m.at) here in
      go i e (omega (arith, below, long)) at
    where
      first : (e : Mark) → get_or due k e ≡ get_or due k d
      first e = get_or_default due k e d lt

      go : (i : ℕ) (e : Mark) → k + i < length due
          → (get_or (drop k due) i e).at ≡ (get_or due (k + i) e).at
          → n < (get_or (drop k due) i e).at
      go zero e below at =
          let same : (get_or due (k + 0) e).at ≡ (get_or due k d).at =
          ap (λ (j : ℕ). (get_or due j e).at) (omega arith) ∙ ap (λ (m : Mark). m.at) (first e) in
          omega (arith, at, same, le, other)
      go (suc i) e below at =
          let rises = of_due.rising k (k + suc i) e (omega arith) below in
          let same = ap (λ (m : Mark). m.at) (first e) in
          omega (arith, at, rises, same, le, other)

  pub none_now : (n k : ℕ) (now : WorldState) (d : Mark) → HasReplayed models log due n k now
      → k < length due → (get_or due k d).at ≢ n → All (λ m. n < m.at) (drop k due)
  none_now n k now d has lt other =
      let long = length-drop k due in
      let le = has.left 0 d (omega (arith, lt, long)) in
      let here : (get_or (drop k due) 0 d).at ≡ (get_or due k d).at =
      ap (λ (m : Mark). m.at) (get_or-drop k due 0 d)
      ∙ ap (λ (j : ℕ). (get_or due j d).at) (omega arith) in
      due_later n k d lt (omega (arith, le, here)) other

  -- ---- all of it was replayed

  module _ (k : ℕ) (now : WorldState) (has : HasReplayed models log due (length log.records) k now)
      (legal : AreLegalMarks (length log.records) log.marks)
      (later : All (λ m. length log.records < m.at) (drop k due)) where
    -- no mark is left
    pub all_due : length due ≤ k
    all_due = go (cases_order k (length due))
      where
        go : (k ≡ length due) ⊎ ((k < length due) ⊎ (length due < k)) → length due ≤ k
        go (inl same) = omega (arith, same)
        go (inr (inr past)) = omega (arith, past)
        go (inr (inl lt)) =
            let m : Mark = record { version = 0; at = 0; session = 0; line = 0 } in
            let x = get_or due k m in
            let listed = of_due.same x (Contains-get_or due k m lt) in
            let both =
            All-contains
            (λ (y : Mark). (y.version < y.at)
            × (y.at ≤ length log.records)) log.marks x legal.marked listed in
            let long = length-drop k due in
            let less = later 0 m (omega (arith, lt, long)) in
            let here : (get_or (drop k due) 0 m).at ≡ x.at =
            ap (λ (y : Mark). y.at) (get_or-drop k due 0 m)
            ∙ ap (λ (j : ℕ). (get_or due j m).at) (omega arith) in
            let le = both.1 in
            absurd (omega (arith, less, here, le))

    pub all_records : now.log.records ≡ log.records
    all_records = has.records ∙ take_all (length log.records) log.records (omega arith)

    -- the marks are those of the history
    marks_there : (m : Mark) → Contains now.log.marks m → Contains log.marks m
    marks_there m listed = marks_within (length log.records) k now has m listed

    marks_back : (m : Mark) → Contains log.marks m → Contains now.log.marks m
    marks_back m listed =
        has.all m
        (subst (λ (ms : List Mark). Contains ms m) (sym (take_all k due all_due)) (of_due.all m listed))

    all_marks : now.log.marks ≡ log.marks
    all_marks = same_rising now.log.marks log.marks has.rising legal.rising marks_there marks_back

    pub all_log : now.log ≡ log
    all_log = λ i. record {
      side = has.log_side i;
      coloured = has.coloured i;
      records = all_records i;
      marks = all_marks i;
    }

-- so it is where the marks that are due are all behind it
pub replayed_log : (models : List Content) (log : Log) (due : List Mark)
    → AreDue log.marks due → (now : WorldState)
    → HasReplayed models log due (length log.records) (length due) now
    → AreLegalMarks (length log.records) log.marks → now.log ≡ log
replayed_log models log due of_due now has legal =
    all_log models log due of_due (length due) now has legal
    (none_due models log due of_due (length log.records) (length due) (omega arith))

-- before the first record nothing is due
pub begun_later : (log : Log) (due : List Mark) → AreDue log.marks due
    → AreLegalMarks (length log.records) log.marks
    → All (λ m. 0 < m.at) (drop 0 due)
begun_later log due of_due legal = λ i d below.
    let m = get_or (drop 0 due) i d in
    let listed = of_due.same m (Contains-get_or due i d below) in
    let both =
    All-contains
    (λ (y : Mark). (y.version < y.at)
    × (y.at ≤ length log.records)) log.marks m legal.marked listed in
    let less = both.0 in
    omega (arith, less)
