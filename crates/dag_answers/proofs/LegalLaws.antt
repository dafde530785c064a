-- What breaks the rules of a legal history.
use Rattle.std.proofs.Common.{◌≡◌, ℕ, ◌+◌, ◌^◌, ◌<◌, List, [], ◌∷◌, ◌++◌, length, take, drop, get_or, length-append, length-take-le, append_assoc, refl, sym, ap, subst, ◌∙◌, arith}
use Rattle.std.specs.Prelude.{All}
use Rattle.std.proofs.lemmas.List.{get_or_append_left, take-append-drop, drop_more}
use Rattle.std.proofs.lemmas.List.Elements.{All-push, All-contains, Contains-push}
use Rattle.vox_read.specs.Contents.{Content}
use Rattle.history_model.specs.declared.histories.Mark.{Mark}
use Rattle.history_model.specs.declared.histories.Record.{Record}
use Rattle.history_model.specs.Logs.{Log, FitsWorld, MayFollow, MayFollowFrom, IsLegal}
use Rattle.history_model.specs.Positions.{Position, beginning, next_position, position_from, position_after}
use Rattle.store_run.specs.Replaying.{AreLegalRecords}
use Rattle.dag_answers.specs.Legality.{IsFirstIllegal}
use Rattle.store_run.specs.Marked.{AreLegalMarks}

pub all_front : {X : Type 0} (P : X → Type 0) (xs ys : List X) → All P (xs ++ ys) → All P xs
all_front P xs ys all = λ k d lt.
    let long = length-append xs ys in
    subst P (get_or_append_left xs ys d k lt) (all k d (omega (arith, lt, long)))

follow_front : (marks : List Mark) (n : ℕ) (at : Position) (xs ys : List Record)
    → MayFollowFrom marks n at (xs ++ ys) → MayFollowFrom marks n at xs
follow_front marks n at [] ys follow = tt
follow_front marks n at (r ∷ xs) ys follow =
    (follow.0, follow_front marks (n + 1) (next_position n r.act at) xs ys follow.1)

-- the first records of legal ones are legal
pub legal_front : (side : ℕ) (models : List Content) (marks : List Mark) (xs ys : List Record)
    → AreLegalRecords side models marks (xs ++ ys) → AreLegalRecords side models marks xs
legal_front side models marks xs ys legal = record {
  few = (let long = length-append xs ys in let few = legal.few in omega (arith, long, few));
  fit = all_front (λ (r : Record). FitsWorld side models r.act) xs ys legal.fit;
  follow = follow_front marks 1 beginning xs ys legal.follow;
}

pub first_not_legal : (side : ℕ) (models : List Content) (log : Log) (n : ℕ)
    → IsFirstIllegal side models log n → AreLegalRecords side models log.marks log.records → ⊥
first_not_legal side models log n first legal =
    first.breaks (legal_front side models log.marks (first.front ++ first.bad ∷ []) first.rest
    (subst (λ (rs : List Record). AreLegalRecords side models log.marks rs)
    (first.whole ∙ sym (append_assoc first.front (first.bad ∷ []) first.rest)) legal))

-- a history with legal marks is legal just where its records are
pub legal_records : (models : List Content) (log : Log) → IsLegal (2 ^ log.side) models log
    → AreLegalRecords (2 ^ log.side) models log.marks log.records
legal_records models log legal = record { few = legal.few; fit = legal.fit; follow = legal.follow }

pub legal_whole : (models : List Content) (log : Log) → AreLegalMarks (length log.records) log.marks
    → AreLegalRecords (2 ^ log.side) models log.marks log.records
    → IsLegal (2 ^ log.side) models log
legal_whole models log marks records = record {
  same_side = refl;
  few = records.few;
  fit = records.fit;
  follow = records.follow;
  rising = marks.rising;
  marked = marks.marked;
}

-- ---- one record more

follow_push : (marks : List Mark) (n : ℕ) (at : Position) (xs : List Record) (r : Record)
    → MayFollowFrom marks n at xs → MayFollow marks (n + length xs) r.act (position_from n at xs)
    → MayFollowFrom marks n at (xs ++ r ∷ [])
follow_push marks n at [] r follow may =
    let same : n + 0 ≡ n = omega arith in
    (subst (λ (m : ℕ). MayFollow marks m r.act at) same may, tt)
follow_push marks n at (x ∷ xs) r follow may =
    let same : n + length (x ∷ xs) ≡ (n + 1) + length xs = omega arith in
    let next = next_position n x.act at in (
      follow.0,
      follow_push marks (n + 1) next xs r follow.1
          (subst (λ (m : ℕ). MayFollow marks m r.act (position_from (n + 1) next xs)) same may),
    )

follow_last : (marks : List Mark) (n : ℕ) (at : Position) (xs : List Record) (r : Record)
    → MayFollowFrom marks n at (xs ++ r ∷ [])
    → MayFollow marks (n + length xs) r.act (position_from n at xs)
follow_last marks n at [] r follow =
    let same : n ≡ n + 0 = omega arith in
    subst (λ (m : ℕ). MayFollow marks m r.act at) same follow.0
follow_last marks n at (x ∷ xs) r follow =
    let same : (n + 1) + length xs ≡ n + length (x ∷ xs) = omega arith in
    let next = next_position n x.act at in
    subst (λ (m : ℕ). MayFollow marks m r.act (position_from (n + 1) next xs)) same
    (follow_last marks (n + 1) next xs r follow.1)

-- a record can come behind legal ones
pub record ComesNext (side : ℕ) (models : List Content) (marks : List Mark) (front : List Record)
    (r : Record) : Type 0 where
  pub early : length front < 65535
  pub fits : FitsWorld side models r.act
  pub may : MayFollow marks (length front + 1) r.act (position_after front)

module _ (side : ℕ) (models : List Content) (marks : List Mark) (front : List Record)
    (r : Record) where
  pub legal_push : AreLegalRecords side models marks front → ComesNext side models marks front r
      → AreLegalRecords side models marks (front ++ r ∷ [])
  legal_push legal next =
      let long = length-append front (r ∷ []) in
      let early = next.early in
      let same : length front + 1 ≡ 1 + length front = omega arith in
      record {
        few = omega (arith, long, early);
        fit = All-push (λ (q : Record). FitsWorld side models q.act) front r legal.fit next.fits;
        follow = follow_push marks 1 beginning front r legal.follow
            (subst (λ (m : ℕ). MayFollow marks m r.act (position_after front)) same next.may);
      }

  pub legal_last : AreLegalRecords side models marks (front ++ r ∷ [])
      → ComesNext side models marks front r
  legal_last legal =
      let long = length-append front (r ∷ []) in
      let few = legal.few in
      let same : 1 + length front ≡ length front + 1 = omega arith in
      record {
        early = omega (arith, long, few);
        fits = All-contains (λ (q : Record). FitsWorld side models q.act)
            (front ++ r ∷ []) r legal.fit
            (Contains-push front r);
        may = subst (λ (m : ℕ). MayFollow marks m r.act (position_after front)) same
            (follow_last marks 1 beginning front r legal.follow);
      }

-- the record of this place is the first that can't
pub illegal_at : (side : ℕ) (models : List Content) (log : Log) (i : ℕ) (d : Record)
    → i < length log.records → AreLegalRecords side models log.marks (take i log.records)
    → (ComesNext side models log.marks (take i log.records) (get_or log.records i d) → ⊥)
    → IsFirstIllegal side models log (i + 1)
illegal_at side models log i d lt legal never = record {
  front = take i log.records;
  bad = get_or log.records i d;
  rest = drop (i + 1) log.records;
  whole =
      sym (take-append-drop i log.records)
      ∙ ap (λ (rs : List Record). take i log.records ++ rs) (drop_more log.records i d lt);
  number = (let long = length-take-le i log.records (omega (arith, lt)) in omega (arith, long));
  legal = legal;
  breaks = λ whole. never
      (legal_last side models log.marks (take i log.records) (get_or log.records i d) whole);
}
