-- The first line that doesn't fit is one: a shorter beginning goes on as a longer one does.
use Rattle.std.specs.Prelude.{◌≡◌, ℕ, ◌<◌, List, [], ◌∷◌, ◌++◌, length, refl}
use Rattle.std.proofs.Common.{inl, inr, get_or, ap, sym, ◌∙◌, subst, arith, append_assoc}
use Rattle.std.proofs.lemmas.Bool.{cases_order}
use Rattle.plain_text.specs.Parts.{Unfit, FirstUnfit}

abbrev first : List (List ℕ) → List ℕ
first ls = get_or ls 0 []

abbrev tail_of : List (List ℕ) → List (List ℕ)
tail_of [] = []
tail_of (x ∷ more) = more

-- what stands behind a shorter front begins with what the longer one has besides
record Behind (a b rest other : List (List ℕ)) : Type 0 where
  line : List ℕ
  more : List (List ℕ)
  longer : b ≡ a ++ line ∷ more
  behind : rest ≡ line ∷ (more ++ other)

behind : (a b rest other : List (List ℕ)) → length a < length b → a ++ rest ≡ b ++ other
    → Behind a b rest other
behind a [] rest other less same = absurd (omega (arith, less))
behind [] (x ∷ b) rest other less same =
    record { line = x; more = b; longer = refl; behind = same }
behind (y ∷ a) (x ∷ b) rest other less same =
    let further = behind a b rest other (omega (arith, less)) (ap tail_of same) in
    record {
      line = further.line;
      more = further.more;
      longer =
          ap (λ (l : List ℕ). l ∷ b) (sym (ap first same))
          ∙ ap (λ (ls : List (List ℕ)). y ∷ ls) further.longer;
      behind = further.behind;
    }

-- a longer front that some text begins with goes on behind the shorter one
goes_on : (Kind : List (List ℕ) → Type 0) (a : List (List ℕ)) (line next : List ℕ)
    (more rest others : List (List ℕ)) → Kind (a ++ line ∷ (more ++ next ∷ others))
    → Unfit Kind a (line ∷ (more ++ rest)) → (rest ≡ [] → ⊥) → ⊥
goes_on Kind a line next [] [] others kind unfit some = some refl
goes_on Kind a line next [] (r ∷ rest) others kind unfit some = unfit next others kind
goes_on Kind a line next (m ∷ more) rest others kind unfit some =
    unfit m (more ++ next ∷ others) kind

some_left : (Kind : List (List ℕ) → Type 0) (front rest : List (List ℕ)) → Unfit Kind front rest
    → rest ≡ [] → ⊥
some_left Kind front [] unfit none = unfit
some_left Kind front (r ∷ rest) unfit none =
    let long : length (r ∷ rest) ≡ 0 = ap length none in omega (arith, long)

no_shorter : (Kind : List (List ℕ) → Type 0) (all : List (List ℕ)) (m n : ℕ)
    (f : FirstUnfit Kind all m) (g : FirstUnfit Kind all n) → length f.front < length g.front → ⊥
no_shorter Kind all m n f g less =
    let b = behind f.front g.front f.rest g.rest less (sym f.whole ∙ g.whole) in
    let next : List (List ℕ) = g.begun.0 ∷ g.begun.1 in
    let kind : Kind (f.front ++ b.line ∷ (b.more ++ next)) =
    subst Kind
    (ap (λ (ls : List (List ℕ)). ls ++ next) b.longer
    ∙ append_assoc f.front (b.line ∷ b.more) next)
    g.begun.2 in
    goes_on Kind f.front b.line g.begun.0 b.more g.rest g.begun.1 kind
    (subst (Unfit Kind f.front) b.behind f.unfit) (some_left Kind g.front g.rest g.unfit)

pub unfit_once : (Kind : List (List ℕ) → Type 0) (all : List (List ℕ)) (m n : ℕ) → FirstUnfit Kind all m
    → FirstUnfit Kind all n → m ≡ n
unfit_once Kind all m n f g =
    elim (cases_order (length f.front) (length g.front)) [
      | inl same ↦ omega (arith, f.number, g.number, same)
      | inr (inl less) ↦ absurd (no_shorter Kind all m n f g less)
      | inr (inr more) ↦ absurd (no_shorter Kind all n m g f more)
    ]
