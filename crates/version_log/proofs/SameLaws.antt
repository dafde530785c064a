-- Two versions that are compared.
use Rattle.std.proofs.Common.{◌≡◌, ◌≢◌, ◌↔◌, ◌^◌, ◌≤◌, ℕ, suc, Bool, true, false, Option, Some, None, List, [], ◌∷◌, IsTrue, nat_lt, if◌then◌else◌, inr, sym, ◌∙◌, ap, subst, arith}
use Rattle.std.proofs.lemmas.List.Elements.{All-cons}
use Rattle.std.specs.List.{Contains}
use Rattle.history_model.specs.declared.histories.Mark.{Mark}
use Rattle.node_words.specs.declared.shapes.names.Name.{Name}
use Rattle.core_laws.specs.places.KeyWords.{child_of_word}
use Rattle.core_laws.specs.contents.Aligned.{top}
use Rattle.core_laws.specs.contents.Versions.{IsUnmarked, SameWorld}
use Rattle.table_rule.specs.LogFacts.{IsShownRoot, number_seen, seen_has}
use Rattle.table_rule.specs.ViewFacts.{ViewFacts}
use Rattle.table_rule.specs.Views.{SeatView}
use Rattle.table_rule.proofs.Containing.{contains_more}
use Rattle.retain.specs.Listing.{Found}
use Rattle.table_rule.specs.LogChanges.{has_mark, marks_with, place_mark}
use Rattle.node_table.specs.LogTurns.{LearnsLog, LooksForMark}
use Rattle.retain.specs.declared.comparing.SameRefused.{SameRefused}
use Rattle.retain.specs.declared.comparing.SameRefused.TheVariants.{NoVersion, Forgotten}
use Rattle.version_log.specs.Sames.{IsFoundOpen, RefusesVersion, RefusesSame, AnswersSame}
use Rattle.version_log.specs.Reading.{learns_on}

-- a root that was shown is shown still once more words are known
shown_still : (v w : SeatView) (n : ℕ) (r : Option Name) → LearnsLog v w → IsShownRoot v n r
    → IsShownRoot w n r
shown_still v w n r l shown =
    record {
      unmarked = record {
        turn = ap (λ (x : SeatView). x.log.turn) l.is ∙ shown.unmarked.turn;
        there = subst (λ (k : ℕ). n ≤ k) (sym (ap (λ (x : SeatView). number_seen x) l.is))
            shown.unmarked.there;
        unmarked = l.grows.stays _ _ shown.unmarked.unmarked;
      };
      word = shown.word;
      known = l.grows.stays _ _ shown.known;
      is = shown.is
          ∙ ap (λ k. child_of_word (top k) shown.word)
          (sym (ap (λ (x : SeatView). x.plan.side) l.is));
    }

-- two roots that were shown are one exactly where their versions have the same cells
pub one_root : (v u w : SeatView) (m n : ℕ) (r s : Option Name) (answer : Bool) → LearnsLog v u
    → LearnsLog u w → IsShownRoot u m r → IsShownRoot w n s → ViewFacts w
    → IsTrue answer ↔ (r ≡ s)
    → IsTrue answer ↔ SameWorld (2 ^ v.plan.side) (seen_has v m) (seen_has v n)
one_root v u w m n r s answer first second shown_r shown_s tells is =
    let whole : LearnsLog v w = learns_on v u w first second in
    let here : IsShownRoot w m r = shown_still u w m r second shown_r in
    let told : IsTrue answer ↔ SameWorld (2 ^ w.plan.side) (seen_has w m) (seen_has w n) = (
      λ yes. tells.roots.one_root m n r s here shown_s (is.0 yes),
      λ same. is.1 (tells.roots.one_world m n r s here shown_s same),
    )
    in
    let P : SeatView → Type 0 =
    λ x. IsTrue answer ↔ SameWorld (2 ^ x.plan.side) (seen_has x m) (seen_has x n)
    in
    subst P whole.is told

-- one mark more is none of another version
place_other : (mark : Mark) (marks : List Mark) (u : ℕ) → mark.version ≢ u → IsUnmarked marks u
    → IsUnmarked (place_mark mark marks) u
unfolding place_mark
place_other mark [] u other none = All-cons (λ m. m.version ≢ u) mark [] other none
place_other mark (m ∷ marks) u other none =
    let first : m.version ≢ u = none 0 m (omega arith) in
    let rest : IsUnmarked marks u = λ k d lt. none (suc k) d (omega arith) in
    elim (nat_lt mark.version m.version) as
    (λ b. IsUnmarked (if b then mark ∷ m ∷ marks else m ∷ place_mark mark marks) u) [
      | true ↦ All-cons (λ x. x.version ≢ u) mark (m ∷ marks) other none
      | false ↦ All-cons (λ x. x.version ≢ u) m (place_mark mark marks) first
          (place_other mark marks u other rest)
    ]

marks_other : (mark : Mark) (marks : List Mark) (u : ℕ) → mark.version ≢ u → IsUnmarked marks u
    → IsUnmarked (marks_with mark marks) u
marks_other mark marks u other none =
    elim (has_mark mark.version marks) as
    (λ b. IsUnmarked (if b then marks else place_mark mark marks) u) [
      | true ↦ none
      | false ↦ place_other mark marks u other none
    ]

-- what was found of another version is so still
pub others_stay : (v w : SeatView) (n : ℕ) (o : Option Mark) (at u : ℕ) → LooksForMark v n o w
    → u ≢ n → IsFoundOpen v u at → IsFoundOpen w u at
others_stay v w n None at u f other is =
    record {
      there = is.there;
      unmarked = subst (λ (ms : List Mark). IsUnmarked ms u)
          (sym (ap (λ (x : SeatView). x.log.seen.marks) f.is)) is.unmarked;
      found = subst (λ (fs : List Found). Contains fs (record { version = u; at = at }))
          (sym (ap (λ (x : SeatView). x.log.found) f.is))
          (contains_more (record { version = n; at = number_seen v }) v.log.found _ is.found);
    }
others_stay v w n (Some m) at u f other is =
    record {
      there = is.there;
      unmarked = subst (λ (ms : List Mark). IsUnmarked ms u)
          (sym (ap (λ (x : SeatView). x.log.seen.marks) f.is))
          (marks_other m v.log.seen.marks u (λ same. other (sym same ∙ f.version)) is.unmarked);
      found = subst (λ (fs : List Found). Contains fs (record { version = u; at = at }))
          (sym (ap (λ (x : SeatView). x.log.found) f.is)) is.found;
    }

-- the first version was found, and the second one refused
pub second_refused : (v w at : ℕ) (e : SameRefused) (x z : SeatView) → number_seen x ≡ at
    → v ≢ w → ((u : ℕ) → u ≢ w → IsFoundOpen x u at → IsFoundOpen z u at) → number_seen z ≡ at
    → IsFoundOpen x v at → RefusesVersion w e z → RefusesSame v w e z
second_refused v w at (NoVersion told version) x z here other stays now found refused =
    inr (
      subst (λ (k : ℕ). IsFoundOpen z v k) (sym (refused.0 ∙ now))
          (stays v other found),
      refused,
    )
second_refused v w at (Forgotten told mark) x z here other stays now found refused =
    inr (
      subst (λ (k : ℕ). IsFoundOpen z v k) (sym (refused.0 ∙ now))
          (stays v other found),
      refused,
    )

-- words that were learned leave what was found
found_learned : (x z : SeatView) (u at : ℕ) → LearnsLog x z → IsFoundOpen x u at
    → IsFoundOpen z u at
found_learned x z u at l is =
    subst (λ (y : SeatView). IsFoundOpen y u at) (sym l.is)
    (record { there = is.there; unmarked = is.unmarked; found = is.found })

-- both were found, and compared
pub both_told : (v w at : ℕ) (answer : Bool) (x z : SeatView) → LearnsLog x z → number_seen x ≡ at
    → IsFoundOpen x v at → IsFoundOpen x w at
    → IsTrue answer ↔ SameWorld (2 ^ x.plan.side) (seen_has x v) (seen_has x w)
    → AnswersSame v w (record { at = at; equal = answer }) z
both_told v w at answer x z l here first second equal =
    let P : SeatView → Type 0 =
    λ y. IsTrue answer ↔ SameWorld (2 ^ y.plan.side) (seen_has y v) (seen_has y w)
    in
    record {
      at = sym here ∙ sym (ap (λ (y : SeatView). number_seen y) l.is);
      first = found_learned x z v at l first;
      second = found_learned x z w at l second;
      equal = subst P (sym l.is) equal;
    }
