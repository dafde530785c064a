-- A session's own marks where the last versions alone are held: line by line they go on.
use Rattle.std.proofs.Common.{◌≡◌, ℕ, zero, suc, ◌+◌, ◌-◌, ◌≤◌, ◌||◌, Bool, true, false, Option, Some, None, List, [], ◌∷◌, ◌++◌, refl, ap, sym, subst, ◌∙◌, inl, inr, arith}
use Rattle.std.specs.Prelude.{All, sum_by, nat_le, ◌==◌, ◌&&◌, IsTrue}
use Rattle.std.specs.List.{Contains, list_any}
use Rattle.std.proofs.lemmas.Bool.{false≢true}
use Rattle.std.proofs.lemmas.List.Elements.{All-nil, All-cons, All-append, All-contains, All-head, All-tail, All-weaker, Contains-append_left, Contains-append_right}
use Rattle.std.proofs.lemmas.List.Folds.{list_any_at}
use Rattle.std.proofs.lemmas.List.Sums.{sum_by-append}
use Rattle.history_model.specs.declared.histories.Mark.{Mark}
use Rattle.history_model.specs.declared.histories.Record.{Record}
use Rattle.retain.specs.Retained.{falls_out, fallen_by, is_marked_by}
use Rattle.retain.proofs.Merging.{falls}
use Rattle.conformance.specs.Answers.{mark_of}
use Rattle.conformance.specs.Shown.{Accepted}
use Rattle.conformance.specs.sessions.SessionViews.{SessionView}
use Rattle.conformance.specs.sessions.Fallen.{PushedOut, PushesOut, LineMarks, IsFallen, HasMark, OwnMarks}

-- ---- marks that stay

pub any_there : {X : Type 0} (p : X → Bool) (xs : List X) (x : X) → Contains xs x → p x ≡ true
    → list_any p xs ≡ true
any_there p xs x (k, lt, e) holds = list_any_at p xs k x lt (ap p e ∙ holds)

any_stays : {X : Type 0} (p : X → Bool) (few more : List X) → All (Contains more) few
    → list_any p few ≡ true → list_any p more ≡ true
any_stays p [] more wide e = absurd (false≢true e)
any_stays {X} p (x ∷ xs) more wide e =
    go (p x) refl (any_stays p xs more (All-tail (Contains more) x xs wide)) e
  where
    go : (b : Bool) → p x ≡ b → (list_any p xs ≡ true → list_any p more ≡ true)
        → (b || list_any p xs) ≡ true → list_any p more ≡ true
    go true is rest h = any_there p more x (All-head (Contains more) x xs wide) is
    go false is rest h = rest h

abbrev names : ℕ → ℕ → Mark → Bool
names n v m = (m.version == v) && nat_le m.at n

-- a version that had a mark by then has it
pub still_marked : (few more : List Mark) (n v : ℕ) → All (Contains more) few
    → IsTrue (is_marked_by n v few) → IsTrue (is_marked_by n v more)
still_marked few more n v wide has = any_stays (names n v) few more wide has

-- ---- whose the marks of versions are that fell out

abbrev IsOf : ℕ → Record → Mark → Type 0
IsOf n r m = (m.at ≡ n) × (m.session ≡ r.session) × (m.line ≡ r.line)

by_whom : (n : ℕ) (r : Record) (o : Option ℕ) → All (IsOf n r) (fallen_by n r o)
by_whom n r None = All-nil (IsOf n r)
by_whom n r (Some v) =
    All-cons (IsOf n r) (record { version = v; at = n; session = r.session; line = r.line }) []
    (refl, refl, refl) (All-nil (IsOf n r))

pub fallen_is_of : (keep : ℕ) (records : List Accepted) (m : Mark) (f : IsFallen keep records m)
    → (m.at ≡ f.by.at) × (m.session ≡ f.by.entry.session) × (m.line ≡ f.by.entry.line)
fallen_is_of keep records m f =
    All-contains (IsOf f.by.at f.by.entry)
    (fallen_by f.by.at f.by.entry (falls_out f.by.at keep)) m
    (by_whom f.by.at f.by.entry (falls_out f.by.at keep)) f.is

pub fallen_wider : (keep : ℕ) (few more : List Accepted) (m : Mark)
    → ((c : Accepted) → Contains few c → Contains more c) → IsFallen keep few m
    → IsFallen keep more m
fallen_wider keep few more m wide f = record { by = f.by; listed = wide f.by f.listed; is = f.is }

-- ---- one line

-- what a line brings of own marks
pub record Grown (keep : ℕ) (xs : List Accepted) (were new : List Mark) : Type 0 where
  pub fallen : List Mark
  pub is : new ≡ fallen ++ were
  pub each : All (IsFallen keep xs) fallen

none_grown : (keep : ℕ) (xs : List Accepted) (were new : List Mark) → new ≡ were
    → Grown keep xs were new
none_grown keep xs were new same =
    record { fallen = []; is = same; each = All-nil (IsFallen keep xs) }

one_grown : (keep v : ℕ) (c : Accepted) (were new : List Mark) → falls_out c.at keep ≡ Some v
    → new ≡ mark_of v c.at c.entry.session c.entry.line ∷ were → Grown keep (c ∷ []) were new
one_grown keep v c were new out is =
    let m : Mark = mark_of v c.at c.entry.session c.entry.line in
    let first : Contains (c ∷ []) c = (0, omega arith, refl) in
    let here : Contains (m ∷ []) m = (0, omega arith, refl) in
    let made : Contains (fallen_by c.at c.entry (falls_out c.at keep)) m =
    subst (λ (o : Option ℕ). Contains (fallen_by c.at c.entry o) m) (sym out) here in
    record {
      fallen = m ∷ [];
      is = is;
      each = All-cons (IsFallen keep (c ∷ [])) m [] (record { by = c; listed = first; is = made })
          (All-nil (IsFallen keep (c ∷ [])));
    }

by_falls : (keep : ℕ) (c : Accepted) (were : List Mark) (new : SessionView) (o : Option ℕ)
    → falls_out c.at keep ≡ o → PushesOut o c were new → Grown keep (c ∷ []) were new.marks
by_falls keep c were new None out pushes = none_grown keep (c ∷ []) were new.marks pushes
by_falls keep c were new (Some v) out pushes = elim pushes.own [
  | inl same ↦ none_grown keep (c ∷ []) were new.marks same
  | inr more ↦ one_grown keep v c were new.marks out more
]

pub line_grows : (keep : ℕ) (xs : List Accepted) (were : List Mark) (new : SessionView)
    → LineMarks keep xs were new → Grown keep xs were new.marks
line_grows keep [] were new marks = none_grown keep [] were new.marks marks
line_grows keep (c ∷ []) were new marks = by_falls keep c were new (falls_out c.at keep) refl marks
line_grows keep (c ∷ d ∷ more) were new marks = absurd marks

-- with 0 none falls out
falls_never : (n : ℕ) → falls_out n 0 ≡ None
falls_never n = refl

none_by_zero : (xs : List Accepted) (were : List Mark) (new : SessionView) → LineMarks 0 xs were new
    → new.marks ≡ were
none_by_zero [] were new marks = marks
none_by_zero (c ∷ []) were new marks =
    subst (λ (o : Option ℕ). PushesOut o c were new) (falls_never c.at) marks
none_by_zero (c ∷ d ∷ more) were new marks = absurd marks

-- what a line's record pushed out has a mark
pushed_marked : (k : ℕ) (c : Accepted) (were : List Mark) (new : SessionView) → suc k ≤ c.at
    → PushesOut (falls_out c.at (suc k)) c were new
    → IsTrue (is_marked_by c.at (c.at - suc k) new.log.marks)
pushed_marked k c were new late pushes =
    let p : PushedOut (c.at - suc k) c were new =
    subst (λ (o : Option ℕ). PushesOut o c were new)
    (falls c.at (suc k) (omega arith) late) pushes in
    p.marked

line_marked : (k : ℕ) (xs : List Accepted) (were : List Mark) (new : SessionView)
    → LineMarks (suc k) xs were new → All (HasMark (suc k) new.log.marks) xs
line_marked k [] were new marks = All-nil (HasMark (suc k) new.log.marks)
line_marked k (c ∷ []) were new marks =
    All-cons (HasMark (suc k) new.log.marks) c [] (λ late. pushed_marked k c were new late marks)
    (All-nil (HasMark (suc k) new.log.marks))
line_marked k (c ∷ d ∷ more) were new marks = absurd marks

-- ---- all lines so far

pub none_own : (keep : ℕ) (s : SessionView) → s.records ≡ [] → s.marks ≡ [] → OwnMarks keep s []
none_own zero s records marks = record { weighs = λ f. ap (sum_by f) marks }
none_own (suc k) s records marks = record {
  fallen = [];
  items = record { weighs = λ f. ap (sum_by f) marks };
  each = All-nil (IsFallen (suc k) s.records);
  marked = subst (λ (cs : List Accepted). All (HasMark (suc k) s.log.marks) cs) (sym records)
      (All-nil (HasMark (suc k) s.log.marks));
}

-- one line more: xs are its records, and `forgot` what it forgot by hand
pub own_more : (keep : ℕ) (old new : SessionView) (xs : List Accepted) (were forgot all : List Mark)
    → new.records ≡ xs ++ old.records → All (Contains new.log.marks) old.log.marks
    → LineMarks keep xs (forgot ++ old.marks) new
    → ((f : Mark → ℕ) → sum_by f all ≡ sum_by f were + sum_by f forgot) → OwnMarks keep old were
    → OwnMarks keep new all
own_more zero old new xs were forgot all records wide marks pushed own = record {
  weighs = λ f. (
      let same : sum_by f new.marks ≡ sum_by f (forgot ++ old.marks) =
      ap (sum_by f) (none_by_zero xs (forgot ++ old.marks) new marks) in
      let a = sum_by-append f forgot old.marks in
      let b = own.weighs f in
      let c = pushed f in
      omega arith);
}
own_more (suc k) old new xs were forgot all records wide marks pushed own =
    let g : Grown (suc k) xs (forgot ++ old.marks) new.marks =
    line_grows (suc k) xs (forgot ++ old.marks) new marks in
    let here : All (IsFallen (suc k) new.records) g.fallen =
    All-weaker (IsFallen (suc k) xs) (IsFallen (suc k) new.records)
    (λ m by. fallen_wider (suc k) xs new.records m
    (λ c there. subst (λ (cs : List Accepted). Contains cs c) (sym records)
    (Contains-append_left xs old.records c there)) by) g.fallen g.each
    in
    let before : All (IsFallen (suc k) new.records) own.fallen =
    All-weaker (IsFallen (suc k) old.records) (IsFallen (suc k) new.records)
    (λ m by. fallen_wider (suc k) old.records new.records m
    (λ c there. subst (λ (cs : List Accepted). Contains cs c) (sym records)
    (Contains-append_right xs old.records c there)) by) own.fallen own.each
    in
    let still : All (HasMark (suc k) new.log.marks) old.records =
    All-weaker (HasMark (suc k) old.log.marks) (HasMark (suc k) new.log.marks)
    (λ c has late. still_marked old.log.marks new.log.marks c.at (c.at - suc k) wide
    (has late)) old.records own.marked
    in
    record {
      fallen = g.fallen ++ own.fallen;
      items = record {
        weighs = λ f. (
            let same : sum_by f new.marks ≡ sum_by f (g.fallen ++ (forgot ++ old.marks)) =
            ap (sum_by f) g.is in
            let a = sum_by-append f g.fallen (forgot ++ old.marks) in
            let b = sum_by-append f forgot old.marks in
            let c = own.items.weighs f in
            let d = sum_by-append f were own.fallen in
            let e = sum_by-append f all (g.fallen ++ own.fallen) in
            let h = sum_by-append f g.fallen own.fallen in
            let i = pushed f in
            omega arith);
      };
      each = All-append (IsFallen (suc k) new.records) g.fallen own.fallen here before;
      marked =
          subst (λ (cs : List Accepted). All (HasMark (suc k) new.log.marks) cs) (sym records)
          (All-append (HasMark (suc k) new.log.marks) xs old.records
          (line_marked k xs (forgot ++ old.marks) new marks) still);
    }
