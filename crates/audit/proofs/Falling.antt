-- The marks by which versions fell out of the last ones, beside those made by hand.
use Rattle.std.proofs.Common.{◌≡◌, ℕ, zero, suc, ◌+◌, ◌-◌, ◌<◌, ◌≤◌, Bool, true, false, not, cond, ◌&&◌, List, [], ◌∷◌, ◌++◌, length, filter, slice_get, Option, Some, None, refl, sym, ap, subst, ◌∙◌, inl, inr, ◌⊎◌, arith}
use Rattle.std.specs.Prelude.{AllPairs, sum_by, ◌==◌, if◌then◌else◌}
use Rattle.std.specs.List.{Contains, list_any}
use Rattle.std.proofs.lemmas.Bool.{and_parts, cases_Bool, cases_lt, eq-eqb, eqb-true}
use Rattle.std.proofs.lemmas.List.{append-nil}
use Rattle.std.proofs.lemmas.List.Kept.{AllPairs-filter}
use Rattle.std.proofs.lemmas.List.Sums.{sum_by-cons, sum_by-append}
use Rattle.history_model.specs.declared.histories.Record.{Record}
use Rattle.history_model.specs.declared.histories.Mark.{Mark}
use Rattle.history_model.specs.Logs.{Log}
use Rattle.retain.specs.Retained.{AreRising, KeepsLast, falls_out, fallen_by, fallen_from, unnamed_by, with_fallen}
use Rattle.retain.proofs.Merging.{falls, falls_not, fallen_rises}
use Rattle.retain.proofs.OneList.{same_marks}
use Rattle.conformance.specs.Shown.{SameItems}
use Rattle.audit.specs.Counts.{is_of, is_by, fell_out, as_by_hand, number_by_hand}
use Rattle.audit.proofs.Counting.{IsIn, in_either, listed, contained, any_of, one_of, any_same, in_filter, of_filter, weigh_parts, pairs_tail, pairs_head, all_of}

-- ---- one of them

-- made as one of these records came, of which the first is number n
pub record IsFallen (keep n : ℕ) (records : List Record) (m : Mark) : Type 0 where
  pub late : n ≤ m.at
  pub out : falls_out m.at keep ≡ Some m.version
  pub who : Record
  pub there : slice_get records (m.at - n) ≡ Some who
  pub session : who.session ≡ m.session
  pub line : who.line ≡ m.line

pub record FallsBy (n keep v : ℕ) : Type 0 where
  pub some : 1 ≤ keep
  pub late : keep ≤ n
  pub version : v ≡ n - keep

pub out_is : (n keep v : ℕ) → falls_out n keep ≡ Some v → FallsBy n keep v
out_is n zero v out = absurd (let bad : None ≡ Some v = out in cc)
out_is n (suc k) v out = elim (cases_lt n (suc k)) [
  | inl early ↦ absurd (let bad : None ≡ Some v = sym (falls_not n (suc k) early) ∙ out in cc)
  | inr late ↦
      let is : Some (n - suc k) ≡ Some v = sym (falls n (suc k) (omega arith) late) ∙ out in
      let same : n - suc k ≡ v = cc in
      record { some = omega arith; late = late; version = sym same }
]

of_by : (m : Mark) (found : Option Record) → is_by m found ≡ true
    → (r : Record) × (found ≡ Some r) × (r.session ≡ m.session) × (r.line ≡ m.line)
of_by m None by = absurd (let bad : false ≡ true = by in cc)
of_by m (Some r) by =
    let both = and_parts (r.session == m.session) (r.line == m.line) by in
    (r, refl, eqb-true r.session m.session both.0, eqb-true r.line m.line both.1)

of_version : (m : Mark) (out : Option ℕ) → is_of m out ≡ true → out ≡ Some m.version
of_version m None is = absurd (let bad : false ≡ true = is in cc)
of_version m (Some v) is = ap Some (eqb-true v m.version is)

both_true : (a b : Bool) → a ≡ true → b ≡ true → a && b ≡ true
both_true a b is also = rw (is, also) refl

pub fell_is : (keep : ℕ) (records : List Record) (m : Mark) → fell_out keep records m ≡ true
    → IsFallen keep 1 records m
fell_is keep records m fell =
    let both =
    and_parts (is_of m (falls_out m.at keep)) (is_by m (slice_get records (m.at - 1))) fell in
    let out = of_version m (falls_out m.at keep) both.0 in
    let by = of_by m (slice_get records (m.at - 1)) both.1 in
    let how = out_is m.at keep m.version out in
    let some = how.some in
    let late = how.late in
    record {
      late = omega
          (arith, some, late);
      out = out;
      who = by.0;
      there = by.1;
      session = by.2;
      line = by.3;
    }

pub is_fell : (keep : ℕ) (records : List Record) (m : Mark) → IsFallen keep 1 records m
    → fell_out keep records m ≡ true
is_fell keep records m f =
    let of : is_of m (falls_out m.at keep) ≡ true =
    ap (is_of m) f.out ∙ eq-eqb m.version m.version refl in
    let by : is_by m (slice_get records (m.at - 1)) ≡ true = ap (is_by m) f.there
    ∙ both_true (f.who.session == m.session) (f.who.line == m.line)
    (eq-eqb f.who.session m.session f.session) (eq-eqb f.who.line m.line f.line) in
    both_true (is_of m (falls_out m.at keep)) (is_by m (slice_get records (m.at - 1))) of by

-- ---- all of them

in_first : {X : Type 0} (xs ys : List X) (x : X) → IsIn x xs → IsIn x (xs ++ ys)
in_first [] ys x is = absurd is
in_first (y ∷ more) ys x (inl is) = inl is
in_first (y ∷ more) ys x (inr is) = inr (in_first more ys x is)

in_second : {X : Type 0} (xs ys : List X) (x : X) → IsIn x ys → IsIn x (xs ++ ys)
in_second [] ys x is = is
in_second (y ∷ more) ys x is = inr (in_second more ys x is)

to_fallen : (keep n : ℕ) (records : List Record) (m : Mark) → IsFallen keep n records m
    → IsIn m (fallen_from keep n records)
to_fallen keep n [] m f = absurd (let bad : None ≡ Some f.who = f.there in cc)
to_fallen keep n (r ∷ more) m f = elim (cases_lt n m.at) [
  | inl later ↦
      let next : m.at - n ≡ suc (m.at - (n + 1)) = omega (arith, later) in
      in_second (fallen_by n r (falls_out n keep)) (fallen_from keep (n + 1) more) m
      (to_fallen keep (n + 1) more m (record {
        late = omega (arith, later);
        out = f.out;
        who = f.who;
        there = subst (λ (k : ℕ). slice_get (r ∷ more) k ≡ Some f.who) next f.there;
        session = f.session;
        line = f.line;
      }))
  | inr by_then ↦
      let late = f.late in
      let at : n ≡ m.at = omega (arith, late, by_then) in
      let none : m.at - n ≡ 0 = omega (arith, by_then) in
      let first : Some r ≡ Some f.who =
      subst (λ (k : ℕ). slice_get (r ∷ more) k ≡ Some f.who) none f.there in
      let same : r ≡ f.who = cc in
      let session : r.session ≡ m.session = ap (λ (x : Record). x.session) same ∙ f.session in
      let line : r.line ≡ m.line = ap (λ (x : Record). x.line) same ∙ f.line in
      let out : falls_out n keep ≡ Some m.version = ap (λ (k : ℕ). falls_out k keep) at ∙ f.out in
      let it : IsIn m (fallen_by n r (Some m.version)) =
      inl (λ i. record { version = m.version; at = at i; session = session i; line = line i }) in
      in_first (fallen_by n r (falls_out n keep)) (fallen_from keep (n + 1) more) m
      (subst (λ (o : Option ℕ). IsIn m (fallen_by n r o)) (sym out) it)
]

pub fallen_of : (keep n : ℕ) (records : List Record) (m : Mark)
    → IsIn m (fallen_from keep n records) → IsFallen keep n records m
fallen_of keep n [] m is = absurd is
fallen_of keep n (r ∷ more) m is =
    elim (in_either (fallen_by n r (falls_out n keep)) (fallen_from keep (n + 1) more) m is) [
      | inl here ↦ first (falls_out n keep) refl here
      | inr there ↦ behind (fallen_of keep (n + 1) more m there)
    ]
  where
    first : (o : Option ℕ) → falls_out n keep ≡ o → IsIn m (fallen_by n r o)
        → IsFallen keep n (r ∷ more) m
    first None out it = absurd it
    first (Some v) out (inr none) = absurd none
    first (Some v) out (inl same) =
        let at : n ≡ m.at = ap (λ (x : Mark). x.at) same in
        let zero_on : 0 ≡ m.at - n = omega (arith, at) in
        record {
          late = omega (arith, at);
          out = ap (λ (k : ℕ). falls_out k keep) (sym at) ∙ out
              ∙ ap Some (ap (λ (x : Mark). x.version) same);
          who = r;
          there = subst (λ (k : ℕ). slice_get (r ∷ more) k ≡ Some r) zero_on refl;
          session = ap (λ (x : Mark). x.session) same;
          line = ap (λ (x : Mark). x.line) same;
        }

    behind : IsFallen keep (n + 1) more m → IsFallen keep n (r ∷ more) m
    behind f =
        let late = f.late in
        let next : suc (m.at - (n + 1)) ≡ m.at - n = omega (arith, late) in
        record {
          late = omega (arith, late);
          out = f.out;
          who = f.who;
          there = subst (λ (k : ℕ). slice_get (r ∷ more) k ≡ Some f.who) next f.there;
          session = f.session;
          line = f.line;
        }

fallen_none : (n : ℕ) (records : List Record) → fallen_from zero n records ≡ []
fallen_none n [] = refl
fallen_none n (r ∷ more) = fallen_none (n + 1) more

fallen_up : (keep : ℕ) (records : List Record) → AreRising (fallen_from keep 1 records)
fallen_up zero records =
    subst (λ (xs : List Mark). AreRising xs) (sym (fallen_none 1 records))
    (λ i j d low high. absurd (omega (arith, high)))
fallen_up (suc k) records = fallen_rises (suc k) 1 records (omega arith)

with_is : (keep : ℕ) (records : List Record) (forgot : List Mark)
    → with_fallen keep records forgot ≡ forgot ++ unnamed_by forgot (fallen_from keep 1 records)
with_is zero records forgot =
    sym
    (ap (λ (xs : List Mark). forgot ++ unnamed_by forgot xs) (fallen_none 1 records)
    ∙ append-nil forgot)
with_is (suc k) records forgot = refl

-- ---- numbers of marks by hand

weigh_each : {X : Type 0} (p : X → Bool) (xs : List X) → ((x : X) → IsIn x xs → p x ≡ false)
    → sum_by (λ x. if p x then 0 else 1) xs ≡ length xs
weigh_each p [] none = refl
weigh_each p (x ∷ more) none =
    let here = sum_by-cons (λ y. if p y then 0 else 1) x more in
    let rest = weigh_each p more (λ y is. none y (inr is)) in
    let not = none x (inl refl) in
    let one : ◌≡◌ {A = ℕ} (if p x then 0 else 1) 1 = rw not refl in
    omega (arith, here, rest, one)

weigh_none : {X : Type 0} (p : X → Bool) (xs : List X) → ((x : X) → IsIn x xs → p x ≡ true)
    → sum_by (λ x. if p x then 0 else 1) xs ≡ 0
weigh_none p [] each = refl
weigh_none p (x ∷ more) each =
    let here = sum_by-cons (λ y. if p y then 0 else 1) x more in
    let rest = weigh_none p more (λ y is. each y (inr is)) in
    let is = each x (inl refl) in
    let zero_of : ◌≡◌ {A = ℕ} (if p x then 0 else 1) 0 = rw is refl in
    omega (arith, here, rest, zero_of)

others_long : {X : Type 0} (p : X → Bool) (xs : List X)
    → sum_by (λ x. if p x then 0 else 1) xs ≡ length (filter (λ x. not (p x)) xs)
others_long p [] = refl
others_long {X} p (x ∷ more) = go (p x) refl (others_long p more)
  where
    go : (b : Bool) → p x ≡ b
        → sum_by (λ y. if p y then 0 else 1) more ≡ length (filter (λ y. not (p y)) more)
        → sum_by (λ y. if p y then 0 else 1) (x ∷ more) ≡ length
        (cond (not (p x)) (x ∷ filter (λ y. not (p y)) more) (filter (λ y. not (p y)) more))
    go true is rest = let here = sum_by-cons (λ y. if p y then 0 else 1) x more in rw (here, is)
        (omega (arith, rest))
    go false is rest = let here = sum_by-cons (λ y. if p y then 0 else 1) x more in rw (here, is)
        (omega (arith, rest))

-- the marks of others
abbrev pub by_hand : ℕ → Log → List Mark
by_hand keep log = filter (λ m. not (fell_out keep log.records m)) log.marks

pub by_hand_long : (keep : ℕ) (log : Log)
    → number_by_hand keep log.records log.marks ≡ length (by_hand keep log)
by_hand_long keep log = others_long (fell_out keep log.records) log.marks

-- ---- beside what transcripts show

one_mark : (marks : List Mark) (a b : Mark) → AreRising marks → IsIn a marks → IsIn b marks
    → a.version ≡ b.version → a ≡ b
one_mark [] a b rising in_a in_b same = absurd in_a
one_mark (x ∷ more) a b rising (inl is) (inl of) same = sym is ∙ of
one_mark (x ∷ more) a b rising (inl is) (inr of) same =
    let lt =
    all_of (λ (y : Mark). x.version < y.version) more b
    (pairs_head (λ (y : Mark) (z : Mark). y.version < z.version) x more rising) of in
    let at : x.version ≡ a.version = ap (λ (y : Mark). y.version) is in
    absurd (omega (arith, lt, at, same))
one_mark (x ∷ more) a b rising (inr is) (inl of) same =
    let lt =
    all_of (λ (y : Mark). x.version < y.version) more a
    (pairs_head (λ (y : Mark) (z : Mark). y.version < z.version) x more rising) is in
    let at : x.version ≡ b.version = ap (λ (y : Mark). y.version) of in
    absurd (omega (arith, lt, at, same))
one_mark (x ∷ more) a b rising (inr is) (inr of) same =
    one_mark more a b
    (pairs_tail (λ (y : Mark) (z : Mark). y.version < z.version) x more rising) is of same

module _ (keep : ℕ) (log : Log) (forgot : List Mark)
    (inside : (m : Mark) → IsIn m forgot → IsIn m log.marks)
    (apart : (m : Mark) → IsIn m forgot → fell_out keep log.records m ≡ false) where
  abbrev fell : Mark → Bool
  fell = fell_out keep log.records

  abbrev fallen : List Mark
  fallen = fallen_from keep 1 log.records

  abbrev is_unnamed : Mark → Bool
  is_unnamed m = not (list_any (λ o. o.version == m.version) forgot)

  -- a mark by which its version fell out, which is none of those shown
  unnamed : AreRising log.marks → (m : Mark) → IsIn m log.marks → fell m ≡ true
      → is_unnamed m ≡ true
  unnamed rising m is fallen_m = elim (cases_Bool (list_any (λ o. o.version == m.version) forgot)) [
    | inl any ↦
        let found = one_of (λ o. o.version == m.version) forgot any in
        let same : found.0 ≡ m =
        one_mark log.marks found.0 m rising (inside found.0 found.1) is
        (eqb-true found.0.version m.version found.2) in
        absurd (let bad : false ≡ true = sym (apart found.0 found.1) ∙ ap fell same
        ∙ fallen_m in cc)
    | inr none ↦ rw none refl
  ]

  has_fallen : AreRising log.marks → (m : Mark) → IsIn m (filter fell log.marks)
      → IsIn m (unnamed_by forgot fallen)
  has_fallen rising m is =
      let both = of_filter fell log.marks m is in
      in_filter is_unnamed fallen m
      (to_fallen keep 1 log.records m (fell_is keep log.records m both.1))
      (unnamed rising m both.0 both.1)

  -- the mark of a version that fell out and that none of those shown names
  fallen_kept : KeepsLast keep log → SameItems (filter (λ m. not (fell m)) log.marks) forgot
      → (u : Mark) → IsIn u (unnamed_by forgot fallen) → IsIn u (filter fell log.marks)
  fallen_kept last same u is =
      let both = of_filter is_unnamed fallen u is in
      let f = fallen_of keep 1 log.records u both.0 in
      let how = out_is u.at keep u.version f.out in
      let some = how.some in
      let late = how.late in
      let at = how.version in
      let within : u.at ≤ length log.records =
      (let first = f.late in let lt = read_within log.records (u.at - 1) f.who f.there in omega
      (arith, first, lt)) in
      let found =
      one_of (λ m. (m.version == (u.at - keep))
      && Rattle.std.specs.Prelude.nat_le m.at u.at) log.marks
      (last.marked u.at some late within) in
      at_mark u found.0 both.1 f
      (subst (λ (v : ℕ). found.0.version ≡ v) (sym at)
      (eqb-true found.0.version (u.at - keep) (and_parts _ _ found.2).0)) found.1
      (cases_Bool (fell found.0))
    where
      read_within : (records : List Record) (i : ℕ) (r : Record) → slice_get records i ≡ Some r
          → i < length records
      read_within [] i r is = absurd (let bad : None ≡ Some r = is in cc)
      read_within (x ∷ more) zero r is = omega arith
      read_within (x ∷ more) (suc i) r is = let rest = read_within more i r is in omega
          (arith, rest)

      at_mark : (v m : Mark) → is_unnamed v ≡ true → IsFallen keep 1 log.records v
          → m.version ≡ v.version → IsIn m log.marks → (fell m ≡ true) ⊎ (fell m ≡ false)
          → IsIn v (filter fell log.marks)
      at_mark v m unnamed_v f of there (inl is_fallen) =
          let g = fell_is keep log.records m is_fallen in
          let a = out_is v.at keep v.version f.out in
          let b = out_is m.at keep m.version g.out in
          let la = a.late in
          let lb = b.late in
          let va = a.version in
          let vb = b.version in
          let at : m.at ≡ v.at = omega (arith, of, la, lb, va, vb) in
          let who : Some g.who ≡ Some f.who =
          sym g.there ∙ ap (λ (k : ℕ). slice_get log.records (k - 1)) at ∙ f.there in
          let one : g.who ≡ f.who = cc in
          let session : m.session ≡ v.session =
          sym g.session ∙ ap (λ (r : Record). r.session) one ∙ f.session in
          let line : m.line ≡ v.line = sym g.line ∙ ap (λ (r : Record). r.line) one ∙ f.line in
          let same : m ≡ v =
          (λ i. record { version = of i; at = at i; session = session i; line = line i }) in
          subst (λ (x : Mark). IsIn x (filter fell log.marks)) same
          (in_filter fell log.marks m there is_fallen)
      at_mark v m unnamed_v f of there (inr not_fallen) =
          let hand = in_filter (λ x. not (fell x)) log.marks m there (rw not_fallen refl) in
          let any =
          any_of (λ o. o.version == v.version) (filter (λ x. not (fell x)) log.marks) m hand
          (eq-eqb m.version v.version of) in
          let named : list_any (λ o. o.version == v.version) forgot ≡ true = sym (any_same (λ o. o.version == v.version) (filter (λ x. not (fell x)) log.marks) forgot same) ∙ any in
          absurd (let bad : not true ≡ true = ap not (sym named) ∙ unnamed_v in cc)

  pub marks_are_shown : AreRising log.marks → KeepsLast keep log
      → SameItems (by_hand keep log) forgot
      → SameItems log.marks (with_fallen keep log.records forgot)
  marks_are_shown rising last same =
      let others : List Mark = unnamed_by forgot fallen in
      let one : filter fell log.marks ≡ others = same_marks (filter fell log.marks) others
      (AllPairs-filter (λ (a : Mark) (b : Mark). a.version < b.version) fell log.marks rising)
      (AllPairs-filter (λ (a : Mark) (b : Mark). a.version < b.version) is_unnamed fallen
      (fallen_up keep log.records))
      (λ z there. listed others z (has_fallen rising z (contained (filter fell log.marks) z there)))
      (λ z there. listed (filter fell log.marks) z
      (fallen_kept last same z (contained others z there))) in
      subst (λ (xs : List Mark). SameItems log.marks xs) (sym (with_is keep log.records forgot))
      (record {
        weighs = λ g. (
            let parts = weigh_parts g fell log.marks in
            let hand = same.weighs g in
            let rest = ap (sum_by g) one in
            let sum = sum_by-append g forgot others in
            omega (arith, parts, hand, rest, sum));
      })

  pub shown_long : SameItems log.marks (with_fallen keep log.records forgot)
      → length forgot ≡ number_by_hand keep log.records log.marks
  shown_long same =
      let others : List Mark = unnamed_by forgot fallen in
      let weights = same.weighs (as_by_hand keep log.records) in
      let whole = ap (sum_by (as_by_hand keep log.records)) (with_is keep log.records forgot) in
      let sum = sum_by-append (as_by_hand keep log.records) forgot others in
      let each = weigh_each fell forgot apart in
      let none =
      weigh_none fell others
      (λ m is. is_fell keep log.records m
      (fallen_of keep 1 log.records m (of_filter is_unnamed fallen m is).0)) in
      omega (arith, weights, whole, sum, each, none)
