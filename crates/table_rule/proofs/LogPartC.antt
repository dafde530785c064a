-- Part C for the log: what one seat knows, and what each other one knows still.
use Rattle.std.proofs.Common.{◌≡◌, ◌≢◌, ℕ, zero, suc, ◌+◌, ◌<◌, ◌≤◌, eqb, eq-eqb, ne_eqb, Some, List, [], ◌∷◌, ◌++◌, length, get_or, set, refl, sym, ap, ◌∙◌, inl, inr, arith, append_assoc}
use Rattle.std.specs.Prelude.{sum_by, All, if◌then◌else◌}
use Rattle.std.specs.List.{slice_get, Contains}
use Rattle.std.proofs.lemmas.Bool.{cases_eq}
use Rattle.std.proofs.lemmas.List.Sums.{sum_by-cons}
use Rattle.std.proofs.lemmas.Option.{none-some, same_Some}
use Rattle.retain.specs.Logs.{Log}
use Rattle.retain.specs.Mark.{Mark}
use Rattle.retain.specs.Record.{Record}
use Rattle.table_rule.specs.LogKnowing.{IsPrefix, ListsOwn, OwnsIn, WasFound, AreOfSessions, KnowsLog, if_among, numbered_from}
use Rattle.table_rule.specs.LogViews.{LogView}
use Rattle.retain.specs.Listing.{Accepted, Found}
use Rattle.table_rule.specs.Views.{SeatView}
use Rattle.table_rule.proofs.Lookups.{each}
use Rattle.table_rule.proofs.OwnLaws.{among_in, among_out, sum_same, sum_none}

-- what one seat knows of the log
pub record SeatKnows (log : Log) (numbers : List ℕ) (l : LogView) : Type 0 where
  pub seen : IsPrefix l.seen log
  pub taken : (t : Log) → Contains l.taken t → IsPrefix t log
  pub own : ListsOwn log numbers l.records l.marks
  pub own_seen : l.taken ≡ [] → ListsOwn l.seen numbers l.records l.marks
  pub found : (f : Found) → Contains l.found f → WasFound log f

pub one_knows : (made : ℕ) (log : Log) (views : List SeatView) (seat : ℕ) (v : SeatView)
    → KnowsLog made log views → slice_get views seat ≡ Some v → SeatKnows log v.numbers v.log
one_knows made log views seat v k at = record {
  seen = k.seen seat v at;
  taken = k.taken seat v at;
  own = k.own seat v at;
  own_seen = k.own_seen seat v at;
  found = k.found seat v at;
}

-- the log becomes another one, of which each seat knows what it knew
pub knows_move : (made : ℕ) (a b : Log) (views : List SeatView) (seat : ℕ) (w : SeatView)
    → KnowsLog made a views → AreOfSessions made b → ((l : Log) → IsPrefix l a → IsPrefix l b)
    → ((f : Found) → WasFound a f → WasFound b f)
    → ((j : ℕ) (d : SeatView) → j ≢ seat → slice_get views j ≡ Some d → OwnsIn a d → OwnsIn b d)
    → SeatKnows b w.numbers w.log → KnowsLog made b (set views seat w)
knows_move made a b views seat w k of begins found own s = record {
  sessions = of;
  seen = each (λ i d. IsPrefix d.log.seen b) views seat w s.seen
      (λ j d _ e. begins d.log.seen (k.seen j d e));
  taken = each (λ i d. (l : Log) → Contains d.log.taken l → IsPrefix l b) views seat w s.taken
      (λ j d _ e l c. begins l (k.taken j d e l c));
  own = each (λ i d. OwnsIn b d) views seat w s.own (λ j d ne e. own j d ne e (k.own j d e));
  own_seen = each (λ i d. d.log.taken ≡ [] → OwnsIn d.log.seen d) views seat w s.own_seen
      (λ j d _ e. k.own_seen j d e);
  found = each (λ i d. (f : Found) → Contains d.log.found f → WasFound b f) views seat w s.found
      (λ j d _ e f c. found f (k.found j d e f c));
}

-- or stays
pub knows_set : (made : ℕ) (log : Log) (views : List SeatView) (seat : ℕ) (w : SeatView)
    → KnowsLog made log views → SeatKnows log w.numbers w.log → KnowsLog made log (set views seat w)
knows_set made log views seat w k s =
    knows_move made log log views seat w k k.sessions (λ l b. b) (λ f h. h) (λ j d ne e o. o) s

-- one summand is at most the sum
pub sum_has : {A : Type 0} (f : A → ℕ) (xs : List A) (x : A) → Contains xs x → f x ≤ sum_by f xs
sum_has f [] x c = absurd (let k = c.1 in omega arith)
sum_has {A} f (y ∷ xs) x c = go c.0 c.1 c.2 (λ t. sum_has f xs x t)
  where
    go : (k : ℕ) → k < length (y ∷ xs) → get_or (y ∷ xs) k x ≡ x
        → (Contains xs x → f x ≤ sum_by f xs) → f x ≤ sum_by f (y ∷ xs)
    go zero lt e more = let s = sum_by-cons f y xs in let h = ap f e in omega arith
    go (suc k) lt e more =
        let s = sum_by-cons f y xs in let m = more (k, omega arith, e) in omega arith

pub sum_numbered : (g : Accepted → ℕ) (k : ℕ) (xs ys : List Record)
    → sum_by g (numbered_from k (xs ++ ys)) ≡ sum_by g (numbered_from k xs)
    + sum_by g (numbered_from (k + length xs) ys)
unfolding numbered_from
sum_numbered g k [] ys = let e : k ≡ k + 0 = omega arith in
    let s = ap (λ (n : ℕ). sum_by g (numbered_from n ys)) e in omega arith
sum_numbered g k (x ∷ xs) ys =
    let more = sum_numbered g (suc k) xs ys in
    let e : suc k + length xs ≡ k + length (x ∷ xs) = omega arith in
    let last = ap (λ (n : ℕ). sum_by g (numbered_from n ys)) e in
    let a = sum_by-cons g (record { at = k; entry = x }) (numbered_from (suc k) (xs ++ ys)) in
    let b = sum_by-cons g (record { at = k; entry = x }) (numbered_from (suc k) xs) in omega arith

pub sum_one : (g : Accepted → ℕ) (k : ℕ) (r : Record) (rs : List Record)
    → sum_by g (numbered_from k (r ∷ rs)) ≡ g (record { at = k; entry = r })
    + sum_by g (numbered_from (suc k) rs)
unfolding numbered_from
sum_one g k r rs = sum_by-cons g (record { at = k; entry = r }) (numbered_from (suc k) rs)

pub sum_last : (g : Accepted → ℕ) (k : ℕ) (r : Record)
    → sum_by g (numbered_from k (r ∷ [])) ≡ g (record { at = k; entry = r })
unfolding numbered_from
sum_last g k r = let s = sum_by-cons g (record { at = k; entry = r }) [] in omega arith

-- 1 for the record of this number
abbrev is_number : ℕ → Accepted → ℕ
is_number n x = if eqb x.at n then 1 else 0

number_is : (n : ℕ) (x : Accepted) → x.at ≡ n → is_number n x ≡ 1
number_is n x e = ap (λ b. if b then 1 else 0) (eq-eqb x.at n e)

number_not : (n : ℕ) (x : Accepted) → x.at ≢ n → is_number n x ≡ 0
number_not n x ne = ap (λ b. if b then 1 else 0) (ne_eqb x.at n ne)

below_number : (k : ℕ) (rs : List Record)
    → All (λ (x : Accepted). x.at < k + length rs) (numbered_from k rs)
unfolding numbered_from
below_number k [] i d lt = absurd (omega arith)
below_number k (r ∷ rs) zero d lt = omega arith
below_number k (r ∷ rs) (suc i) d lt =
    let more = below_number (suc k) rs i d (omega arith) in omega arith

among_zeroes : (numbers : List ℕ) (s : ℕ) → if_among numbers s 0 ≡ 0
unfolding if_among
among_zeroes [] s = refl
among_zeroes (x ∷ xs) s = elim (cases_eq x s) [
  | inl same ↦ ap (λ b. if b then 0 else if_among xs s 0) (eq-eqb x s same)
  | inr other ↦
      ap (λ b. if b then 0 else if_among xs s 0) (ne_eqb x s other) ∙ among_zeroes xs s
]

pub among_zero : (numbers : List ℕ) (s n : ℕ) → n ≡ 0 → if_among numbers s n ≡ 0
among_zero numbers s n e = ap (if_among numbers s) e ∙ among_zeroes numbers s

-- a record that the log has and that wasn't seen is of no number whose records all were seen
pub unseen_record : (seen log : Log) (numbers : List ℕ) (rs : List Accepted) (ms : List Mark)
    (r : Record) (rest : List Record) → log.records ≡ seen.records ++ r ∷ rest
    → ListsOwn log numbers rs ms → ListsOwn seen numbers rs ms → Contains numbers r.session → ⊥
unseen_record seen log numbers rs ms r rest is all some c =
    let n : ℕ = 1 + length seen.records in
    let g : Accepted → ℕ = λ x. if_among numbers x.entry.session (is_number n x) in
    let none : sum_by g (numbered_from 1 seen.records) ≡ 0 =
    sum_same g (λ x. 0) (numbered_from 1 seen.records)
    (λ k d lt. (let low = below_number 1 seen.records k d lt in
    let x : Accepted = get_or (numbered_from 1 seen.records) k d in
    among_zero numbers x.entry.session (is_number n x) (number_not n x (λ e. omega arith))))
    ∙ sum_none (numbered_from 1 seen.records) in
    let own = some.records_are (is_number n) in
    let mine = all.records_are (is_number n) in
    let parts = ap (λ (l : List Record). sum_by g (numbered_from 1 l)) is
    ∙ sum_numbered g 1 seen.records (r ∷ rest) in
    let here = sum_one g n r rest in
    let one : g (record { at = n; entry = r }) ≡ 1 =
    among_in numbers r.session _ c ∙ number_is n (record { at = n; entry = r }) refl in
    omega arith

-- so the lists stay those of what is seen where such a record is seen
pub own_seen_more : (seen log : Log) (numbers : List ℕ) (rs : List Accepted) (ms : List Mark)
    (r : Record) (rest : List Record) → log.records ≡ seen.records ++ r ∷ rest
    → ListsOwn log numbers rs ms → ListsOwn seen numbers rs ms
    → ListsOwn (record seen { records = seen.records ++ r ∷ [] }) numbers rs ms
own_seen_more seen log numbers rs ms r rest is all some = record {
  records_are = λ f.
      (let g : Accepted → ℕ = λ x. if_among numbers x.entry.session (f x) in
      let own = some.records_are f in let parts = sum_numbered g 1 seen.records (r ∷ []) in
      let last = sum_last g (1 + length seen.records) r in
      let none = among_out numbers r.session (f (record {
        at = 1 + length seen.records;
        entry = r;
      })) (λ c. unseen_record seen log numbers rs ms r rest is all some c) in omega arith);
  marks_are = some.marks_are;
}

-- the next record of a log, behind those that begin it
pub next_of : (a b : Log) (r : Record) → (s : IsPrefix a b)
    → slice_get b.records (length a.records) ≡ Some r
    → (rest : List Record) × (b.records ≡ a.records ++ r ∷ rest)
next_of a b r s is =
    let at : slice_get s.more 0 ≡ Some r =
    sym (get_behind a.records s.more) ∙ ap (λ (l : List Record). slice_get l (length a.records))
    (sym s.records) ∙ is in
    let more = first_is s.more r at in
    (more.0, s.records ∙ ap (λ (l : List Record). a.records ++ l) more.1)
  where
    get_behind : (xs ys : List Record) → slice_get (xs ++ ys) (length xs) ≡ slice_get ys 0
    get_behind [] ys = refl
    get_behind (x ∷ xs) ys = get_behind xs ys

    first_is : (xs : List Record) (r : Record) → slice_get xs 0 ≡ Some r
        → (rest : List Record) × (xs ≡ r ∷ rest)
    first_is [] r e = absurd (none-some r e)
    first_is (x ∷ xs) r e =
        (xs, ap (λ (y : Record). y ∷ xs) (same_Some x r e))

pub begins_next : (a b : Log) (r : Record) → (s : IsPrefix a b)
    → slice_get b.records (length a.records) ≡ Some r
    → IsPrefix (record a { records = a.records ++ r ∷ [] }) b
begins_next a b r s is = let next = next_of a b r s is in record {
  more = next.0;
  records = next.1 ∙ sym (append_assoc a.records (r ∷ []) next.0);
  marks = s.marks;
}

-- a record is appended: it is one more of the seat that has its session's number
pub own_appended : (log : Log) (numbers : List ℕ) (rs : List Accepted) (ms : List Mark)
    (r : Record) (n : ℕ) → n ≡ 1 + length log.records → Contains numbers r.session
    → ListsOwn log numbers rs ms
    → ListsOwn (record log { records = log.records ++ r ∷ [] }) numbers
    (record { at = n; entry = r } ∷ rs) ms
own_appended log numbers rs ms r n is has own = record {
  records_are = λ f.
      (let g : Accepted → ℕ = λ x. if_among numbers x.entry.session (f x) in
      let all = own.records_are f in let parts = sum_numbered g 1 log.records (r ∷ []) in
      let last = sum_last g (1 + length log.records) r in
      let here = among_in numbers r.session (f (record {
        at = 1 + length log.records;
        entry = r;
      })) has in
      let same = ap (λ (k : ℕ). f (record { at = k; entry = r })) is in
      let more = sum_by-cons f (record { at = n; entry = r }) rs in omega arith);
  marks_are = own.marks_are;
}

-- and none of each other one
pub other_appended : (log : Log) (numbers : List ℕ) (rs : List Accepted) (ms : List Mark)
    (r : Record) → (Contains numbers r.session → ⊥) → ListsOwn log numbers rs ms
    → ListsOwn (record log { records = log.records ++ r ∷ [] }) numbers rs ms
other_appended log numbers rs ms r out own = record {
  records_are = λ f.
      (let g : Accepted → ℕ = λ x. if_among numbers x.entry.session (f x) in
      let all = own.records_are f in let parts = sum_numbered g 1 log.records (r ∷ []) in
      let last = sum_last g (1 + length log.records) r in
      let none = among_out numbers r.session (f (record {
        at = 1 + length log.records;
        entry = r;
      })) out in omega arith);
  marks_are = own.marks_are;
}

-- what began the log begins it still
pub begins_appended : (a log : Log) (r : Record) → IsPrefix a log
    → IsPrefix a (record log { records = log.records ++ r ∷ [] })
begins_appended a log r s = record {
  more = s.more ++ r ∷ [];
  records = ap (λ (l : List Record). l ++ r ∷ []) s.records
      ∙ append_assoc a.records s.more (r ∷ []);
  marks = s.marks;
}
