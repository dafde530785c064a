-- What the sessions of a world that holds its last versions alone forgot together.
use Rattle.std.proofs.Common.{◌≡◌, ℕ, zero, suc, ◌+◌, ◌-◌, ◌<◌, ◌≤◌, ◌⊎◌, Bool, true, false, not, List, [], ◌∷◌, ◌++◌, length, filter, get_or, refl, ap, sym, subst, ◌∙◌, inl, inr, arith, eq-eqb}
use Rattle.std.specs.Prelude.{All, ⊤, sum_by, nat_le, ◌==◌, ◌&&◌, if◌then◌else◌, IsTrue}
use Rattle.std.specs.List.{Contains, list_any}
use Rattle.std.proofs.lemmas.Bool.{cases_eq, cases_lt, eqb-true, false≢true}
use Rattle.std.proofs.lemmas.List.Elements.{All-nil, All-cons, All-append, All-contains, All-contains_itself, All-filter, All-head, All-tail, All-weaker, Contains-append_cases, Contains-append_left, Contains-append_right, filter_passes}
use Rattle.std.proofs.lemmas.List.Folds.{Any-from_list_any}
use Rattle.std.proofs.lemmas.List.Kept.{AllPairs-filter}
use Rattle.std.proofs.lemmas.List.Sums.{sum_by-append, sum_by-cons, get_or-le-sum_by}
use Rattle.history_model.specs.Contents.{Content}
use Rattle.history_model.specs.declared.acts.Act.TheVariants.{Undo}
use Rattle.history_model.specs.declared.histories.Mark.{Mark}
use Rattle.history_model.specs.declared.histories.Record.{Record}
use Rattle.history_model.specs.Logs.{Log}
use Rattle.node_words.specs.Plans.{Layout}
use Rattle.script.specs.declared.commands.ScriptLine.{ScriptLine}
use Rattle.transcript.specs.declared.answers.LineAnswer.{LineAnswer}
use Rattle.retain.specs.Retained.{falls_out, fallen_by, fallen_from, is_marked_by, with_fallen, AreRising, KeepsLast}
use Rattle.retain.proofs.Merging.{falls, falls_not, fallen_rises}
use Rattle.retain.proofs.OneList.{same_marks}
use Rattle.retain.proofs.Lasting.{keeps_all}
use Rattle.conformance.specs.Answers.{ExtendsLog}
use Rattle.conformance.specs.Passes.{own_of}
use Rattle.conformance.specs.Shown.{Accepted, SameItems, numbered, weight_at, accepted_in, forgotten_in, forgotten_of}
use Rattle.conformance.proofs.Moments.{record_at}
use Rattle.conformance.proofs.Parts.{accepted_own, forgotten_own}
use Rattle.conformance.specs.sessions.SessionViews.{SessionView, log_as}
use Rattle.conformance.specs.sessions.Fallen.{IsFallen, HasMark, OwnAndFallen, OwnMarks}
use Rattle.conformance.specs.sessions.Ran.{SessionsRanKeeping, records_of_all, marks_of_all}
use Rattle.conformance.proofs.OfSessions.Fallen.{any_there, still_marked, fallen_is_of, fallen_wider}
use Rattle.conformance.proofs.OfSessions.Items.{is_mark, self_weighs, weighs_there, same_contains, kept_if, where_so, sums_none, same_numbers}

-- ---- weights

sums_alike : {X : Type 0} (f g : X → ℕ) (xs : List X) → All (λ x. f x ≡ g x) xs
    → sum_by f xs ≡ sum_by g xs
sums_alike f g [] each = refl
sums_alike f g (x ∷ xs) each =
    let a = sum_by-cons f x xs in
    let b = sum_by-cons g x xs in
    let d : f x ≡ g x = All-head (λ y. f y ≡ g y) x xs each in
    let e = sums_alike f g xs (All-tail (λ y. f y ≡ g y) x xs each) in
    omega arith

-- what holds of each that weighs something holds where all together weigh something
some_weighs : {X : Type 0} (w : X → ℕ) (Q : Type 0) (xs : List X) → All (λ x. 0 < w x → Q) xs
    → 0 < sum_by w xs → Q
some_weighs w Q [] each some = (let none : sum_by w [] ≡ 0 = refl in absurd (omega arith))
some_weighs w Q (x ∷ xs) each some =
    let both = sum_by-cons w x xs in
    elim (cases_lt 0 (w x)) [
      | inl here ↦ All-head (λ y. 0 < w y → Q) x xs each here
      | inr none ↦ some_weighs w Q xs (All-tail (λ y. 0 < w y → Q) x xs each) (omega arith)
    ]

one_weighs : {X : Type 0} (w : X → ℕ) (xs : List X) (x : X) → Contains xs x → w x ≤ sum_by w xs
one_weighs w xs x there =
    All-contains (λ y. w y ≤ sum_by w xs) xs x (λ i d lt. get_or-le-sum_by w xs i d lt) there

-- what passes a test, weighed where it passes
sum_kept : {X : Type 0} (f : X → ℕ) (test : X → Bool) (xs : List X)
    → sum_by f (filter test xs) ≡ sum_by (λ x. where_so (test x) (f x)) xs
sum_kept f test [] = refl
sum_kept {X} f test (x ∷ xs) = go (test x) refl (sum_kept f test xs)
  where
    go : (b : Bool) → test x ≡ b
        → sum_by f (filter test xs) ≡ sum_by (λ y. where_so (test y) (f y)) xs
        → sum_by f (filter test (x ∷ xs)) ≡ sum_by (λ y. where_so (test y) (f y)) (x ∷ xs)
    go true e r =
        let h : filter test (x ∷ xs) ≡ x ∷ filter test xs = rw e refl in
        let a : sum_by f (filter test (x ∷ xs)) ≡ sum_by f (x ∷ filter test xs) = ap (sum_by f) h in
        let b = sum_by-cons f x (filter test xs) in
        let c = sum_by-cons (λ y. where_so (test y) (f y)) x xs in
        let d : where_so (test x) (f x) ≡ f x = ap (λ (t : Bool). where_so t (f x)) e in
        omega arith
    go false e r =
        let h : filter test (x ∷ xs) ≡ filter test xs = rw e refl in
        let a : sum_by f (filter test (x ∷ xs)) ≡ sum_by f (filter test xs) = ap (sum_by f) h in
        let c = sum_by-cons (λ y. where_so (test y) (f y)) x xs in
        let d : where_so (test x) (f x) ≡ 0 = ap (λ (t : Bool). where_so t (f x)) e in
        omega arith

-- ---- each session's own marks are its own

all_same : (number : ℕ) (xs ys : List Mark) → SameItems xs ys → All (λ m. m.session ≡ number) ys
    → All (λ m. m.session ≡ number) xs
all_same number xs ys same all = same_numbers (λ (m : Mark). m.session) number xs ys same all

own_marks_own : (keep number : ℕ) (s : SessionView) (script : List ScriptLine)
    (answers : List LineAnswer) → SameItems s.records (accepted_in number script answers)
    → OwnMarks keep s (forgotten_in number script answers) → All (λ m. m.session ≡ number) s.marks
own_marks_own zero number s script answers records own =
    all_same number s.marks (forgotten_in number script answers) own
    (forgotten_own number script answers)
own_marks_own (suc k) number s script answers records own =
    let mine : All (λ c. c.entry.session ≡ number) s.records =
    same_numbers (λ (c : Accepted). c.entry.session) number s.records
    (accepted_in number script answers) records (accepted_own number script answers) in
    let fallen : All (λ m. m.session ≡ number) own.fallen =
    All-weaker (IsFallen (suc k) s.records) (λ (m : Mark). m.session ≡ number)
    (λ m f. (let is = fallen_is_of (suc k) s.records m f in is.1
    ∙ All-contains
    (λ (c : Accepted). c.entry.session
    ≡ number) s.records f.by mine f.listed)) own.fallen own.each
    in
    all_same number s.marks (forgotten_in number script answers ++ own.fallen) own.items
    (All-append (λ (m : Mark). m.session ≡ number) (forgotten_in number script answers) own.fallen
    (forgotten_own number script answers) fallen)

-- ---- the fallen marks of all sessions

pub record FallenOfAll (keep : ℕ) (records : List Accepted) (own forgot : List Mark) : Type 0 where
  pub fallen : List Mark
  pub weighs : (f : Mark → ℕ) → sum_by f own ≡ sum_by f forgot + sum_by f fallen
  pub each : All (IsFallen keep records) fallen

fallen_of_all : (k : ℕ) (tint : Bool) (p : Layout) (models : List Content) (first : ℕ)
    (scripts : List (List ScriptLine)) (transcripts : List (List LineAnswer))
    (sessions : List SessionView)
    → SessionsRanKeeping (suc k) tint p models first scripts transcripts sessions
    → FallenOfAll (suc k) (records_of_all sessions) (marks_of_all sessions)
    (forgotten_of first scripts transcripts)
fallen_of_all k tint p models first [] [] [] ran =
    record {
      fallen = [];
      weighs = λ f.
          (let none : sum_by f [] ≡ 0 = refl in omega arith);
      each = All-nil (IsFallen (suc k) []);
    }
fallen_of_all k tint p models first (script ∷ scripts) (answers ∷ transcripts) (s ∷ sessions) ran =
    let rest = fallen_of_all k tint p models (first + 1) scripts transcripts sessions ran.1 in
    let own : OwnAndFallen (suc k) s (forgotten_in first script answers) = ran.0.marks in
    let here : All (IsFallen (suc k) (s.records ++ records_of_all sessions)) own.fallen =
    All-weaker (IsFallen (suc k) s.records)
    (IsFallen (suc k) (s.records ++ records_of_all sessions))
    (λ m f. fallen_wider (suc k) s.records (s.records ++ records_of_all sessions) m
    (λ c there. Contains-append_left s.records
    (records_of_all sessions) c there) f) own.fallen own.each
    in
    let later : All (IsFallen (suc k) (s.records ++ records_of_all sessions)) rest.fallen =
    All-weaker (IsFallen (suc k) (records_of_all sessions))
    (IsFallen (suc k) (s.records ++ records_of_all sessions))
    (λ m f. fallen_wider (suc k) (records_of_all sessions) (s.records ++ records_of_all sessions) m
    (λ c there. Contains-append_right s.records
    (records_of_all sessions) c there) f) rest.fallen rest.each
    in
    record {
      fallen = own.fallen ++ rest.fallen;
      weighs = λ f. (
          let a = sum_by-append f s.marks (marks_of_all sessions) in
          let b = own.items.weighs f in
          let c = sum_by-append f (forgotten_in first script answers) own.fallen in
          let d =
          sum_by-append f (forgotten_in first script answers)
          (forgotten_of (first + 1) scripts transcripts) in
          let e = sum_by-append f own.fallen rest.fallen in
          let g = rest.weighs f in
          omega arith);
      each = All-append
          (IsFallen (suc k)
          (s.records ++ records_of_all sessions)) own.fallen rest.fallen here later;
    }
fallen_of_all k tint p models first _ _ _ ran = absurd ran

-- what each record pushed out has a mark at the end
all_marked : (k : ℕ) (tint : Bool) (p : Layout) (models : List Content) (log : Log) (first : ℕ)
    (scripts : List (List ScriptLine)) (transcripts : List (List LineAnswer))
    (sessions : List SessionView)
    → SessionsRanKeeping (suc k) tint p models first scripts transcripts sessions
    → All (λ s. ExtendsLog (log_as tint s.log) log) sessions
    → All (HasMark (suc k) log.marks) (records_of_all sessions)
all_marked k tint p models log first [] [] [] ran seen = All-nil (HasMark (suc k) log.marks)
all_marked k tint p models log first (script ∷ scripts) (answers ∷ transcripts)
    (s ∷ sessions) ran seen =
    let own : OwnAndFallen (suc k) s (forgotten_in first script answers) = ran.0.marks in
    let g : ExtendsLog (log_as tint s.log) log =
    All-head (λ t. ExtendsLog (log_as tint t.log) log) s sessions seen in
    All-append (HasMark (suc k) log.marks) s.records (records_of_all sessions)
    (All-weaker (HasMark (suc k) s.log.marks) (HasMark (suc k) log.marks)
    (λ c has late. still_marked s.log.marks log.marks c.at (c.at - suc k) g.marks
    (has late)) s.records own.marked)
    (all_marked k tint p models log (first + 1) scripts transcripts sessions ran.1
    (All-tail (λ t. ExtendsLog (log_as tint t.log) log) s sessions seen))
all_marked k tint p models log first _ _ _ ran seen = absurd ran

-- ---- each record has the version that it pushed out marked

at_moment : (n : ℕ) (c : Accepted) → 0 < weight_at (λ r. 1) n c → c.at ≡ n
at_moment n c some = go (c.at == n) refl some
  where
    go : (b : Bool) → (c.at == n) ≡ b → 0 < (if b then 1 else 0) → c.at ≡ n
    go true e h = eqb-true c.at n e
    go false e h = absurd (omega arith)

marked_at : (k : ℕ) (log : Log) (all : List Accepted) → SameItems (numbered 1 log.records) all
    → All (HasMark (suc k) log.marks) all → (n : ℕ) → suc k ≤ n → n ≤ length log.records
    → IsTrue (is_marked_by n (n - suc k) log.marks)
marked_at k log all same marked n late within =
    let none : Record = record { session = 0; line = 0; act = Undo } in
    let one : sum_by (weight_at (λ r. 1) n) all ≡ 1 =
    record_at log.records all same (λ r. 1) n none (omega arith) within in
    some_weighs (weight_at (λ r. 1) n) (IsTrue (is_marked_by n (n - suc k) log.marks)) all
    (All-weaker (HasMark (suc k) log.marks)
    (λ (c : Accepted). 0 < weight_at (λ r. 1) n c
    → IsTrue (is_marked_by n (n - suc k) log.marks))
    (λ c has here.
    (let at = at_moment n c here in let low : suc k ≤ c.at = omega arith in subst
    (λ (i : ℕ). IsTrue (is_marked_by i (i - suc k) log.marks)) at (has low))) all marked)
    (omega arith)

pub keeps_last : (keep : ℕ) (tint : Bool) (p : Layout) (models : List Content) (log : Log)
    (scripts : List (List ScriptLine)) (transcripts : List (List LineAnswer))
    (sessions : List SessionView)
    → SessionsRanKeeping keep tint p models 0 scripts transcripts sessions
    → All (λ s. ExtendsLog (log_as tint s.log) log) sessions
    → SameItems (numbered 1 log.records) (records_of_all sessions) → KeepsLast keep log
keeps_last zero tint p models log scripts transcripts sessions ran seen records = keeps_all log
keeps_last (suc k) tint p models log scripts transcripts sessions ran seen records = record {
  marked = λ n some late within. marked_at k log (records_of_all sessions) records
      (all_marked k tint p models log 0 scripts transcripts sessions ran seen) n late within;
}

-- ---- the marks of the versions that fell out

abbrev fallen_weight : ℕ → (Mark → ℕ) → Accepted → ℕ
fallen_weight keep f c = sum_by f (fallen_by c.at c.entry (falls_out c.at keep))

fallen_weigh : (keep n : ℕ) (records : List Record) (f : Mark → ℕ)
    → sum_by (fallen_weight keep f) (numbered n records) ≡ sum_by f (fallen_from keep n records)
fallen_weigh keep n [] f = refl
fallen_weigh keep n (r ∷ more) f =
    let a =
    sum_by-cons (fallen_weight keep f) (record { at = n; entry = r }) (numbered (n + 1) more) in
    let b = sum_by-append f (fallen_by n r (falls_out n keep)) (fallen_from keep (n + 1) more) in
    let c = fallen_weigh keep (n + 1) more f in
    let here : fallen_weight keep f (record {
      at =
          n;
      entry = r;
    }) ≡ sum_by f (fallen_by n r (falls_out n keep)) = refl in
    omega arith

-- a mark of a version that a record pushed out is one of those that all records make
fallen_listed : (keep : ℕ) (log : Log) (all : List Accepted)
    → SameItems (numbered 1 log.records) all → (m : Mark) → IsFallen keep all m
    → Contains (fallen_from keep 1 log.records) m
fallen_listed keep log all same m f =
    let own = self_weighs m in
    let here : is_mark m m ≤ fallen_weight keep (is_mark m) f.by =
    one_weighs (is_mark m) (fallen_by f.by.at f.by.entry (falls_out f.by.at keep)) m f.is in
    let low : fallen_weight keep (is_mark m) f.by ≤ sum_by (fallen_weight keep (is_mark m)) all =
    one_weighs (fallen_weight keep (is_mark m)) all f.by f.listed in
    let both = same.weighs (fallen_weight keep (is_mark m)) in
    let total = fallen_weigh keep 1 log.records (is_mark m) in
    weighs_there m (fallen_from keep 1 log.records) (omega arith)

abbrev LiesAt : ℕ → ℕ → Mark → Type 0
LiesAt keep count m = (m.at ≡ m.version + keep) × (m.at ≤ count)

fallen_lies : (keep n count : ℕ) (records : List Record) → 1 ≤ keep → n + length records ≤ count + 1
    → All (LiesAt keep count) (fallen_from keep n records)
fallen_lies keep n count [] some long = All-nil (LiesAt keep count)
fallen_lies keep n count (r ∷ more) some long =
    let rest = fallen_lies keep (n + 1) count more some (omega (arith, long)) in
    elim (cases_lt n keep) [
      | inl early ↦ let none = falls_not n keep early in rw none rest
      | inr late ↦
          let one = falls n keep some late in
          let m : Mark =
          record { version = n - keep; at = n; session = r.session; line = r.line } in
          rw one (All-cons (LiesAt keep count) m (fallen_from keep (n + 1) more)
          (omega (arith, late), omega (arith, long)) rest)
    ]

-- ---- rising versions

first_or_later : (x z : Mark) (xs : List Mark) → Contains (x ∷ xs) z → (x ≡ z) ⊎ Contains xs z
first_or_later x z xs (zero, lt, e) = inl e
first_or_later x z xs (suc k, lt, e) = inr (k, omega arith, e)

above : (x z : Mark) (xs : List Mark) → AreRising (x ∷ xs) → Contains xs z → x.version < z.version
above x z xs rising (k, lt, e) =
    let less : x.version < (get_or xs k z).version =
    rising 0 (suc k) z (omega arith) (omega arith) in
    subst (λ (y : Mark). x.version < y.version) e less

rest_rises : (x : Mark) (xs : List Mark) → AreRising (x ∷ xs) → AreRising xs
rest_rises x xs rising i j d low high = rising (suc i) (suc j) d (omega arith) (omega arith)

-- no version is there twice
one_version : (xs : List Mark) (a b : Mark) → AreRising xs → Contains xs a → Contains xs b
    → a.version ≡ b.version → a ≡ b
one_version [] a b rising here there same = (let lt = here.1 in absurd (omega arith))
one_version (x ∷ xs) a b rising here there same = elim (first_or_later x a xs here) [
  | inl first ↦ elim (first_or_later x b xs there) [
    | inl also ↦ sym first ∙ also
    | inr later ↦ absurd
        (let high = above x b xs rising later in let is : x.version
        ≡ a.version = ap (λ (m : Mark). m.version) first in omega (arith, high, is, same))
  ]
  | inr later ↦ elim (first_or_later x b xs there) [
    | inl first ↦ absurd
        (let high = above x a xs rising later in let is : x.version
        ≡ b.version = ap (λ (m : Mark). m.version) first in omega (arith, high, is, same))
    | inr also ↦ one_version xs a b (rest_rises x xs rising) later also same
  ]
]

abbrev version_weight : ℕ → Mark → ℕ
version_weight v m = where_so (m.version == v) 1

others_weigh_none : (v : ℕ) (x : Mark) (xs : List Mark) → AreRising (x ∷ xs) → x.version ≡ v
    → sum_by (version_weight v) xs ≡ 0
others_weigh_none v x xs rising is =
    sums_none (version_weight v) xs
    (All-weaker (Contains xs) (λ (m : Mark). version_weight v m ≡ 0)
    (λ m there. (let high = above x m xs rising there in other m
    (λ same. omega (arith, high, is, same)) (m.version == v) refl)) xs (All-contains_itself xs))
  where
    other : (m : Mark) → (m.version ≡ v → ⊥) → (b : Bool) → (m.version == v) ≡ b
        → version_weight v m ≡ 0
    other m off true e = absurd (off (eqb-true m.version v e))
    other m off false e = ap (λ (b : Bool). where_so b 1) e

at_most_one : (b : Bool) → where_so b 1 ≤ 1
at_most_one true = omega arith
at_most_one false = omega arith

once : (v : ℕ) (xs : List Mark) → AreRising xs → sum_by (version_weight v) xs ≤ 1
once v [] rising = (let none : sum_by (version_weight v) [] ≡ 0 = refl in omega arith)
once v (x ∷ xs) rising =
    let both = sum_by-cons (version_weight v) x xs in
    elim (cases_eq x.version v) [
      | inl here ↦
          (let rest = others_weigh_none v x xs rising here in
          let few : version_weight v x ≤ 1 = at_most_one (x.version == v) in
          omega arith)
      | inr other ↦
          (let rest = once v xs (rest_rises x xs rising) in
          let none : version_weight v x ≡ 0 = off (x.version == v) refl other in
          omega arith)
    ]
  where
    off : (b : Bool) → (x.version == v) ≡ b → (x.version ≡ v → ⊥) → version_weight v x ≡ 0
    off true e other = absurd (other (eqb-true x.version v e))
    off false e other = ap (λ (b : Bool). where_so b 1) e

-- ---- by hand and fallen

-- none of these names the version of the mark
abbrev is_unnamed : List Mark → Mark → Bool
is_unnamed others m = not (list_any (λ o. o.version == m.version) others)

named : (others : List Mark) (m : Mark) → Contains others m → is_unnamed others m ≡ false
named others m there =
    ap not
    (any_there (λ (o : Mark). o.version == m.version) others m there
    (eq-eqb m.version m.version refl))

-- where a list with rising versions is these two together, none of the first names one of the
-- second
unnamed_others : (all forgot fallen : List Mark) → AreRising all → SameItems all (forgot ++ fallen)
    → All (λ m. is_unnamed forgot m ≡ true) fallen
unnamed_others all forgot fallen rising same =
    All-weaker (Contains fallen) (λ (m : Mark). is_unnamed forgot m ≡ true)
    (λ m there. go m there (list_any (λ o. o.version == m.version) forgot) refl) fallen
    (All-contains_itself fallen)
  where
    go : (m : Mark) → Contains fallen m → (b : Bool)
        → list_any (λ o. o.version == m.version) forgot ≡ b → is_unnamed forgot m ≡ true
    go m there false e = ap not e
    go m there true e =
        let found = Any-from_list_any (λ (o : Mark). o.version == m.version) forgot e in
        let first : version_weight m.version found.1 ≤ sum_by (version_weight m.version) forgot =
        one_weighs (version_weight m.version) forgot found.1 (found.0, found.2, found.3) in
        let one : version_weight m.version found.1 ≡ 1 = ap (λ (b : Bool). where_so b 1) found.4 in
        let second : version_weight m.version m ≤ sum_by (version_weight m.version) fallen =
        one_weighs (version_weight m.version) fallen m there in
        let also : version_weight m.version m ≡ 1 =
        ap (λ (b : Bool). where_so b 1) (eq-eqb m.version m.version refl) in
        let few = once m.version all rising in
        let total = same.weighs (version_weight m.version) in
        let both = sum_by-append (version_weight m.version) forgot fallen in
        absurd (omega arith)

-- what the second ones weigh is what is unnamed of all
fallen_weigh_unnamed : (all forgot fallen : List Mark) (f : Mark → ℕ) → AreRising all
    → SameItems all (forgot ++ fallen) → sum_by f (filter (is_unnamed forgot) all) ≡ sum_by f fallen
fallen_weigh_unnamed all forgot fallen f rising same =
    let kept = sum_kept f (is_unnamed forgot) all in
    let total = same.weighs (λ (m : Mark). where_so (is_unnamed forgot m) (f m)) in
    let both = sum_by-append (λ (m : Mark). where_so (is_unnamed forgot m) (f m)) forgot fallen in
    let none : sum_by (λ (m : Mark). where_so (is_unnamed forgot m) (f m)) forgot ≡ 0 =
    sums_none (λ (m : Mark). where_so (is_unnamed forgot m) (f m)) forgot
    (All-weaker (Contains forgot) (λ (m : Mark). where_so (is_unnamed forgot m) (f m) ≡ 0)
    (λ m there. ap (λ (b : Bool). where_so b (f m)) (named forgot m there)) forgot
    (All-contains_itself forgot))
    in
    let alike : sum_by (λ (m : Mark). where_so (is_unnamed forgot m) (f m)) fallen ≡ sum_by f fallen =
    sums_alike (λ (m : Mark). where_so (is_unnamed forgot m) (f m)) f fallen
    (All-weaker (λ (m : Mark). is_unnamed forgot m ≡ true)
    (λ (m : Mark). where_so (is_unnamed forgot m) (f m) ≡ f m)
    (λ m e. ap (λ (b : Bool). where_so b (f m)) e) fallen
    (unnamed_others all forgot fallen rising same))
    in
    omega arith

and_first : (a b : Bool) → (a && b) ≡ true → a ≡ true
and_first true b e = refl
and_first false b e = absurd (false≢true e)

-- ---- what all forgot is what fell out, beside what they forgot by hand

module _ (k : ℕ) (log : Log) (all : List Accepted) (forgot fallen : List Mark)
    (rising : AreRising log.marks) (records : SameItems (numbered 1 log.records) all)
    (marked : All (HasMark (suc k) log.marks) all)
    (same : SameItems log.marks (forgot ++ fallen)) (each : All (IsFallen (suc k) all) fallen) where
  -- an unnamed mark is one of a version that fell out
  out_of_log : (m : Mark) → Contains log.marks m → is_unnamed forgot m ≡ true
      → Contains (fallen_from (suc k) 1 log.records) m
  out_of_log m there unnamed = elim
      (Contains-append_cases forgot fallen m
      (same_contains log.marks (forgot ++ fallen) m same there)) [
        | inl by_hand ↦ absurd (false≢true (sym (named forgot m by_hand) ∙ unnamed))
        | inr out ↦ fallen_listed (suc k) log all records m
            (All-contains (IsFallen (suc k) all) fallen m each out)
      ]

  -- and the other way
  into_log : (m : Mark) → Contains (fallen_from (suc k) 1 log.records) m
      → is_unnamed forgot m ≡ true → Contains log.marks m
  into_log m there unnamed =
      let lies : LiesAt (suc k) (length log.records) m =
      All-contains (LiesAt (suc k) (length log.records)) (fallen_from (suc k) 1 log.records) m
      (fallen_lies (suc k) 1 (length log.records) log.records (omega arith)
      (omega arith)) there in
      let at = lies.0 in
      let has = marked_at k log all records marked m.at (omega arith) lies.1 in
      let found =
      Any-from_list_any
      (λ (o : Mark). (o.version == (m.at - suc k)) && nat_le o.at m.at) log.marks has in
      let of_it : found.1.version ≡ m.at - suc k =
      eqb-true found.1.version (m.at - suc k)
      (and_first (found.1.version == (m.at - suc k)) (nat_le found.1.at m.at) found.4) in
      let version : found.1.version ≡ m.version = omega arith in
      let listed : Contains log.marks found.1 = (found.0, found.2, found.3) in
      let also : is_unnamed forgot found.1 ≡ true =
      subst (λ (v : ℕ). not (list_any (λ o. o.version == v) forgot) ≡ true)
      (sym version) unnamed in
      let one : found.1 ≡ m =
      one_version (fallen_from (suc k) 1 log.records) found.1 m
      (fallen_rises (suc k) 1 log.records (omega arith))
      (out_of_log found.1 listed also) there version in
      subst (λ (o : Mark). Contains log.marks o) one listed

  same_unnamed : filter (is_unnamed forgot) log.marks ≡ filter (is_unnamed forgot)
      (fallen_from (suc k) 1 log.records)
  same_unnamed =
      same_marks (filter (is_unnamed forgot) log.marks)
      (filter (is_unnamed forgot) (fallen_from (suc k) 1 log.records))
      (AllPairs-filter (λ (a b : Mark). a.version < b.version) (is_unnamed forgot) log.marks rising)
      (AllPairs-filter (λ (a b : Mark). a.version < b.version) (is_unnamed forgot)
      (fallen_from (suc k) 1 log.records) (fallen_rises (suc k) 1 log.records (omega arith)))
      (λ m there. kept_if (is_unnamed forgot) (fallen_from (suc k) 1 log.records) m
      (out_of_log m (was_there log.marks m there) (passes log.marks m there))
      (passes log.marks m there))
      (λ m there. kept_if (is_unnamed forgot) log.marks m
      (into_log m (was_there (fallen_from (suc k) 1 log.records) m there)
      (passes (fallen_from (suc k) 1 log.records) m there))
      (passes (fallen_from (suc k) 1 log.records) m there))
    where
      was_there : (xs : List Mark) (m : Mark) → Contains (filter (is_unnamed forgot) xs) m
          → Contains xs m
      was_there xs m there = All-contains (Contains xs) (filter (is_unnamed forgot) xs) m
          (All-filter (is_unnamed forgot) (Contains xs) xs (All-contains_itself xs)) there

      passes : (xs : List Mark) (m : Mark) → Contains (filter (is_unnamed forgot) xs) m
          → is_unnamed forgot m ≡ true
      passes xs m there = All-contains (λ (o : Mark). is_unnamed forgot o ≡ true)
          (filter (is_unnamed forgot) xs) m (filter_passes (is_unnamed forgot) xs) there

  all_with_fallen : SameItems log.marks (with_fallen (suc k) log.records forgot)
  all_with_fallen = record {
    weighs = λ f. (
        let a = same.weighs f in
        let b = sum_by-append f forgot fallen in
        let c = fallen_weigh_unnamed log.marks forgot fallen f rising same in
        let d : sum_by f (filter (is_unnamed forgot) log.marks) ≡ sum_by f (filter (is_unnamed forgot) (fallen_from (suc k) 1 log.records)) = ap (sum_by f) same_unnamed in
        let e =
        sum_by-append f forgot
        (filter (is_unnamed forgot) (fallen_from (suc k) 1 log.records)) in
        let g : sum_by f (with_fallen (suc k) log.records forgot) ≡ sum_by f (forgot ++ filter (is_unnamed forgot) (fallen_from (suc k) 1 log.records)) = refl in
        omega arith);
  }

marks_weigh : (tint : Bool) (p : Layout) (models : List Content) (f : Mark → ℕ) (first : ℕ)
    (scripts : List (List ScriptLine)) (transcripts : List (List LineAnswer))
    (sessions : List SessionView)
    → SessionsRanKeeping 0 tint p models first scripts transcripts sessions
    → sum_by f (marks_of_all sessions) ≡ sum_by f (forgotten_of first scripts transcripts)
marks_weigh tint p models f first [] [] [] ran = refl
marks_weigh tint p models f first (script ∷ scripts) (answers ∷ transcripts) (s ∷ sessions) ran =
    let here = ran.0.marks.weighs f in
    let rest = marks_weigh tint p models f (first + 1) scripts transcripts sessions ran.1 in
    let one = sum_by-append f s.marks (marks_of_all sessions) in
    let two =
    sum_by-append f (forgotten_in first script answers)
    (forgotten_of (first + 1) scripts transcripts) in
    omega arith
marks_weigh tint p models f first _ _ _ ran = absurd ran

-- the marks of the history are those by hand, and those of the versions that fell out
pub marks_shown : (keep : ℕ) (tint : Bool) (p : Layout) (models : List Content) (log : Log)
    (scripts : List (List ScriptLine)) (transcripts : List (List LineAnswer))
    (sessions : List SessionView)
    → SessionsRanKeeping keep tint p models 0 scripts transcripts sessions
    → AreRising log.marks → All (λ s. ExtendsLog (log_as tint s.log) log) sessions
    → SameItems (numbered 1 log.records) (records_of_all sessions)
    → SameItems log.marks (marks_of_all sessions)
    → SameItems log.marks (with_fallen keep log.records (forgotten_of 0 scripts transcripts))
marks_shown zero tint p models log scripts transcripts sessions ran rising seen records marks =
    record {
      weighs = λ f. marks.weighs f
          ∙ marks_weigh tint p models f 0 scripts transcripts sessions ran;
    }
marks_shown (suc k) tint p models log scripts transcripts sessions ran rising seen records marks =
    let out = fallen_of_all k tint p models 0 scripts transcripts sessions ran in
    let same : SameItems log.marks (forgotten_of 0 scripts transcripts ++ out.fallen) =
    record {
      weighs = λ f. marks.weighs f ∙ out.weighs f
          ∙ sym (sum_by-append f (forgotten_of 0 scripts transcripts) out.fallen);
    } in
    all_with_fallen k log (records_of_all sessions)
    (forgotten_of 0 scripts transcripts) out.fallen rising records
    (all_marked k tint p models log 0 scripts transcripts sessions ran seen) same out.each

-- ---- session by session

-- each session's marks are its own
abbrev OwnTheirs : ℕ → List SessionView → Type 0
OwnTheirs first [] = ⊤
OwnTheirs first (s ∷ sessions) =
    All (λ m. m.session ≡ first) s.marks × OwnTheirs (first + 1) sessions

own_theirs : (keep : ℕ) (tint : Bool) (p : Layout) (models : List Content) (first : ℕ)
    (scripts : List (List ScriptLine)) (transcripts : List (List LineAnswer))
    (sessions : List SessionView)
    → SessionsRanKeeping keep tint p models first scripts transcripts sessions
    → OwnTheirs first sessions
own_theirs keep tint p models first [] [] [] ran = tt
own_theirs keep tint p models first (script ∷ scripts) (answers ∷ transcripts) (s ∷ sessions) ran = (
  own_marks_own keep first s script answers ran.0.records ran.0.marks,
  own_theirs keep tint p models (first + 1) scripts transcripts sessions ran.1,
)
own_theirs keep tint p models first _ _ _ ran = absurd ran

-- the marks of one session, as a weight
abbrev only : (Mark → ℕ) → ℕ → Mark → ℕ
only f session m = where_so (m.session == session) (f m)

other_session : (a b : ℕ) → (a ≡ b → ⊥) → (t : Bool) → (a == b) ≡ t → (a == b) ≡ false
other_session a b off true e = absurd (off (eqb-true a b e))
other_session a b off false e = e

none_of : (f : Mark → ℕ) (session first : ℕ) (marks : List Mark) → (first ≡ session → ⊥)
    → All (λ m. m.session ≡ first) marks → sum_by (only f session) marks ≡ 0
none_of f session first marks off own =
    sums_none (only f session) marks
    (All-weaker (λ (m : Mark). m.session ≡ first) (λ (m : Mark). only f session m ≡ 0)
    (λ m is. ap (λ (b : Bool). where_so b (f m))
    (other_session m.session session (λ e. off (sym is ∙ e))
    (m.session == session) refl)) marks own)

all_of : (f : Mark → ℕ) (session : ℕ) (marks : List Mark) → All (λ m. m.session ≡ session) marks
    → sum_by (only f session) marks ≡ sum_by f marks
all_of f session marks own =
    sums_alike (only f session) f marks
    (All-weaker (λ (m : Mark). m.session ≡ session) (λ (m : Mark). only f session m ≡ f m)
    (λ m is. ap (λ (b : Bool). where_so b (f m)) (eq-eqb m.session session is)) marks own)

later_weigh_none : (f : Mark → ℕ) (session first : ℕ) (sessions : List SessionView)
    → session < first → OwnTheirs first sessions
    → sum_by (only f session) (marks_of_all sessions) ≡ 0
later_weigh_none f session first [] low own = refl
later_weigh_none f session first (s ∷ sessions) low own =
    let a = sum_by-append (only f session) s.marks (marks_of_all sessions) in
    let b = none_of f session first s.marks (λ e. omega arith) own.0 in
    let c = later_weigh_none f session (first + 1) sessions (omega arith) own.1 in
    omega arith

-- each session's marks of a history, from this one on, are those that it lists
abbrev pub AreTheirs : List Mark → ℕ → List SessionView → Type 0
AreTheirs items first [] = ⊤
AreTheirs items first (s ∷ sessions) =
    SameItems (own_of (λ m. m.session) first items) s.marks × AreTheirs items (first + 1) sessions

theirs_from : (items : List Mark) (first : ℕ) (sessions : List SessionView)
    → OwnTheirs first sessions
    →
    ((f : Mark → ℕ) (session : ℕ) → first ≤ session → sum_by (only f session) items
    ≡ sum_by (only f session) (marks_of_all sessions)) → AreTheirs items first sessions
theirs_from items first [] own weighs = tt
theirs_from items first (s ∷ sessions) own weighs = (
  record {
    weighs = λ f. (
        let a = sum_kept f (λ (m : Mark). m.session == first) items in
        let b = weighs f first (omega arith) in
        let c = sum_by-append (only f first) s.marks (marks_of_all sessions) in
        let d = all_of f first s.marks own.0 in
        let e = later_weigh_none f first (first + 1) sessions (omega arith) own.1 in
        let g : sum_by (only f first) items ≡ sum_by (λ (m : Mark). where_so (m.session == first) (f m)) items = refl in
        omega arith);
  },
  theirs_from items (first + 1) sessions own.1 (λ f session le. (
      let b = weighs f session (omega arith) in
      let c = sum_by-append (only f session) s.marks (marks_of_all sessions) in
      let d = none_of f session first s.marks (λ e. omega arith) own.0 in
      omega arith)),
)

pub marks_are_theirs : (keep : ℕ) (tint : Bool) (p : Layout) (models : List Content)
    (items : List Mark) (scripts : List (List ScriptLine)) (transcripts : List (List LineAnswer))
    (sessions : List SessionView)
    → SessionsRanKeeping keep tint p models 0 scripts transcripts sessions
    → SameItems items (marks_of_all sessions) → AreTheirs items 0 sessions
marks_are_theirs keep tint p models items scripts transcripts sessions ran same =
    theirs_from items 0 sessions (own_theirs keep tint p models 0 scripts transcripts sessions ran)
    (λ f session le. same.weighs (only f session))
