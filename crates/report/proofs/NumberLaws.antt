-- There is one number of different contents.
use Rattle.std.proofs.Common.{◌≡◌, ℕ, zero, suc, ◌+◌, ◌<◌, ◌≤◌, Bool, true, false, List, [], ◌∷◌, length, get_or, refl, sym, ◌∙◌, ap, subst, arith, eqb, ◌^◌}
use Rattle.std.specs.Prelude.{All, slice_index}
use Rattle.std.specs.List.{AllPairs, list_any}
use Rattle.std.proofs.lemmas.Bool.{eqb-true}
use Rattle.std.proofs.lemmas.List.{get_or_default}
use Rattle.std.proofs.lemmas.List.Elements.{All-head, All-tail}
use Rattle.std.proofs.lemmas.List.Folds.{Any-from_list_any}
use Rattle.std.proofs.lemmas.Map.Keys.{IsDistinct-from_apart}
use Rattle.std.proofs.lemmas.Map.Steps.{length-le_from_distinct_below}
use Rattle.history_model.specs.Worlds.{World}
use Rattle.node_words.specs.Plans.{Layout}
use Rattle.history_model.specs.Contents.{Content}
use Rattle.vw_cell.specs.declared.blocks.Block.{Block}
use Rattle.core_laws.specs.contents.Aligned.{top, world_block}
use Rattle.core_laws.specs.contents.Versions.{HoldsVersion}
use Rattle.core_laws.specs.States.{State}
use Rattle.core_laws.specs.Soundness.{Sound}
use Rattle.history_model.specs.Stores.{stored_in}
use Rattle.core_laws.specs.Blocks.{IsIdle, live_number}
use Rattle.core_laws.proofs.ContentLaws.{live_contents}
use Rattle.report.specs.Numbers.{HasNumber, AreNumbers}
use Rattle.report.proofs.RootLaws.{log_side}
use Rattle.core_laws.specs.contents.Contents.{Site, SameContent, HasSame, HasContents}

same_back : (level : ℕ) (cells : ℕ → World) (s t : Site) → SameContent level cells s t
    → SameContent level cells t s
same_back level cells s t e = record { each = λ x y z lx ly lz. sym (e.each x y z lx ly lz) }

same_on : (level : ℕ) (cells : ℕ → World) (s t u : Site) → SameContent level cells s t
    → SameContent level cells t u → SameContent level cells s u
same_on level cells s t u a b =
    record { each = λ x y z lx ly lz. a.each x y z lx ly lz ∙ b.each x y z lx ly lz }

bool_false : (b : Bool) → (b ≡ true → ⊥) → b ≡ false
bool_false true h = absurd (h refl)
bool_false false h = refl

module _ (level : ℕ) (cells : ℕ → World) (others : List Site) where
  -- where each site of a list has its content among the others
  places : (sites : List Site) → All (HasSame level cells others) sites → List ℕ
  places [] all = []
  places (s ∷ more) all = (All-head (HasSame level cells others) s more all).at ∷ places more
      (All-tail (HasSame level cells others) s more all)

  number_of_places : (sites : List Site) (all : All (HasSame level cells others) sites)
      → length (places sites all) ≡ length sites
  unfolding places
  number_of_places [] all = refl
  number_of_places (s ∷ more) all = ap suc
      (number_of_places more (All-tail (HasSame level cells others) s more all))

  place_at : (sites : List Site) (all : All (HasSame level cells others) sites) (i d : ℕ)
      (e f : Site) → i < length sites
      → (get_or (places sites all) i d < length others)
      × SameContent level cells (get_or sites i e) (get_or others (get_or (places sites all) i d) f)
  unfolding places
  place_at [] all i d e f lt = absurd (omega arith)
  place_at (s ∷ more) all zero d e f lt =
      let h : HasSame level cells others s = All-head (HasSame level cells others) s more all in (
        h.below,
        subst (λ (t : Site). SameContent level cells s t)
            (get_or_default others h.at s f h.below) h.same,
      )
  place_at (s ∷ more) all (suc i) d e f lt = place_at more
      (All-tail (HasSame level cells others) s more all) i d e f (omega arith)

  -- different contents stand at different places
  at_most : (sites : List Site) (f : Site) → All (HasSame level cells others) sites
      → AllPairs (λ s t. ¬ SameContent level cells s t) sites → length sites ≤ length others
  at_most sites f all apart =
      let ks : List ℕ = places sites all in
      let len : length ks ≡ length sites = number_of_places sites all in
      let distinct = IsDistinct-from_apart eqb ks (λ i j d a b. bool_false _ (λ e.
      let jl : j < length sites = omega (arith, len) in
      let il : i < length sites = omega (arith, len) in
      let p = (place_at sites all i d f f il).1 in
      let q = (place_at sites all j d f f jl).1 in
      let same : get_or ks i d ≡ get_or ks j d = eqb-true _ _ e in
      apart i j f a jl
      (same_on level cells _ _ _
      (subst (λ (k : ℕ). SameContent level cells (get_or sites i f)
      (get_or others k f)) same p) (same_back level cells _ _ q)))) in
      let below : (q : ℕ) → list_any (eqb q) ks ≡ true → q < length others = λ q h. (
      let (k, x, lt, at, e) = Any-from_list_any (eqb q) ks h in
      let kl : k < length sites = omega (arith, lt, len) in
      let v : q ≡ get_or ks k x = eqb-true q x e ∙ sym at in
      let low = (place_at sites all k x f f kl).0 in
      omega (arith, v, low)) in
      let r = length-le_from_distinct_below ks (length others) distinct below in
      omega (arith, r, len)

some_number : (whole : Block) (cells : ℕ → World) (IsThere : ℕ → Type 0) (level a b : ℕ)
    → HasContents whole cells IsThere level a → HasContents whole cells IsThere level b
    → (sites : List Site) → (f : HasContents whole cells IsThere level a) → f.sites ≡ sites → a ≤ b
some_number whole cells IsThere level a b h g [] f e =
    (let n = f.as_many in let none : length f.sites ≡ 0 = ap length e in omega arith)
some_number whole cells IsThere level a b h g (s ∷ more) f e =
    let r =
    at_most level cells g.sites f.sites s
    (λ i d lt. g.complete (get_or f.sites i d) (f.filled i d lt)) f.different in
    let m = f.as_many in
    let n = g.as_many in
    omega arith

pub one_number : (whole : Block) (cells : ℕ → World) (IsThere : ℕ → Type 0) (level a b : ℕ)
    → HasContents whole cells IsThere level a → HasContents whole cells IsThere level b → a ≡ b
one_number whole cells IsThere level a b h g =
    let up : a ≤ b = some_number whole cells IsThere level a b h g h.sites h refl in
    let down : b ≤ a = some_number whole cells IsThere level b a g h g.sites g refl in
    omega arith

-- the live entries of a store that nobody holds a share of are the numbers
pub numbers_told : (p : Layout) (models : List Content) (state : State) (numbers : List ℕ)
    → 2 ≤ p.side → Sound p models state → IsIdle state → length numbers ≡ top p.side + 1
    → ((level : ℕ) → level ≤ top p.side → slice_index numbers level ≡ live_number p state level)
    → AreNumbers models state.log numbers
numbers_told p models state numbers low s idle as_many told =
    let side : state.log.side ≡ p.side = log_side p models state.log s.versions.legal in
    record {
      as_many = as_many ∙ ap (λ (n : ℕ). top n + 1) (sym side);
      each = λ level le.
          let here : level ≤ top p.side = subst (λ (n : ℕ). level ≤ top n) side le in
          subst (λ (n : ℕ). HasNumber models state.log level n) (sym (told level here))
          (subst (λ (n : ℕ). HasContents (world_block n)
          (λ v. stored_in (2 ^ n) models state.log.records v) (HoldsVersion state.log) level
          (live_number p state level)) (sym side)
          (live_contents p models state level low s idle (omega arith)));
    }
