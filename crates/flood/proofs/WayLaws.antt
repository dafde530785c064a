-- Ways, place by place and along a run of bits.
use Rattle.std.proofs.Common.{◌≡◌, ℕ, zero, suc, ◌+◌, ◌*◌, ◌/◌, ◌<◌, ◌≤◌, List, [], ◌∷◌, ◌++◌, refl, ap, sym, subst, inl, inr, arith, lit<}
use Rattle.std.specs.Prelude.{map}
use Rattle.std.proofs.lemmas.Nat.{mod_below}
use Rattle.vw_cell.specs.declared.cells.Cell.{Cell}
use Rattle.vw_cell.specs.Counts.{cell_at}
use Rattle.flood.specs.Paths.{AreBeside, on_x, on_y, on_z, IsPath, IsJoined}
use Rattle.flood.specs.Words.{bit_at_place, place_at_bit, IsSet, IsClearAt, IsTowards}

-- one cell further
way_on : (Open : Cell → Type 0) (more : List Cell) (a q r : Cell) → IsPath Open a more q
    → AreBeside q r → Open r → IsPath Open a (more ++ r ∷ []) r
way_on Open [] a q r (first, same) beside is_open =
    (first, subst (λ (c : Cell). AreBeside c r) (sym same) beside, (is_open, refl))
way_on Open (b ∷ more) a q r (first, next, rest) beside is_open =
    (first, next, way_on Open more b q r rest beside is_open)

pub joined_on : (Open : Cell → Type 0) (a q r : Cell) → IsJoined Open a q → AreBeside q r → Open r
    → IsJoined Open a r
joined_on Open a q r j beside is_open =
    record { more = j.more ++ r ∷ []; way = way_on Open j.more a q r j.way beside is_open }

-- a way begins with an open cell
pub way_first : (Open : Cell → Type 0) (more : List Cell) (a q : Cell) → IsPath Open a more q
    → Open a
way_first Open [] a q w = w.0
way_first Open (b ∷ more) a q w = w.0

way_ends : (Open : Cell → Type 0) (more : List Cell) (a q : Cell) → IsPath Open a more q → Open q
way_ends Open [] a q (first, same) = subst Open same first
way_ends Open (b ∷ more) a q (first, next, rest) = way_ends Open more b q rest

-- a way ends with an open cell
pub joined_ends : (Open : Cell → Type 0) (a q : Cell) → IsJoined Open a q → Open q
joined_ends Open a q j = way_ends Open j.more a q j.way

-- bits and places
pub bit_of_place : (i : ℕ) → bit_at_place (place_at_bit i) ≡ i
bit_of_place i = omega arith

pub same_place : {a b c x y z : ℕ} → a ≡ x → b ≡ y → c ≡ z → cell_at a b c ≡ cell_at x y z
same_place p q r = rw (p, q, r) refl

pub place_of_bit : (p : Cell) → p.x < 256 → p.y < 256 → place_at_bit (bit_at_place p) ≡ p
place_of_bit p x y = same_place (omega arith) (omega arith) (omega arith)

pub clear_place : (words : List ℕ) (i : ℕ) → IsSet words i → IsClearAt words (place_at_bit i)
clear_place words i set = record {
  x = mod_below i 256 (lit< tt);
  y = mod_below (i / 256) 256 (lit< tt);
  set = subst (λ (j : ℕ). IsSet words j) (sym (bit_of_place i)) set;
}

-- what is towards a bit is beside its place
pub beside_towards : (k i j : ℕ) → IsTowards k i j → AreBeside (place_at_bit i) (place_at_bit j)
beside_towards zero i j (e, h) = on_x (inl (omega arith)) (omega arith) (omega arith)
beside_towards (suc zero) i j (e, h) = on_x (inr (omega arith)) (omega arith) (omega arith)
beside_towards (suc (suc zero)) i j (e, h) = on_y (omega arith) (inl (omega arith)) (omega arith)
beside_towards (suc (suc (suc zero))) i j (e, h) =
    on_y (omega arith) (inr (omega arith)) (omega arith)
beside_towards (suc (suc (suc (suc zero)))) i j e =
    on_z (omega arith) (omega arith) (inl (omega arith))
beside_towards (suc (suc (suc (suc (suc zero))))) i j e =
    on_z (omega arith) (omega arith) (inr (omega arith))
beside_towards (suc (suc (suc (suc (suc (suc k)))))) i j e = absurd e

-- and what is beside a place is towards its bit
pub towards_beside : (a b : Cell) → a.x < 256 → b.x < 256 → a.y < 256 → b.y < 256 → AreBeside a b
    → (k : ℕ) × (k < 6) × IsTowards k (bit_at_place a) (bit_at_place b)
towards_beside a b ax bx ay by (on_x (inl n) y z) = (0, omega arith, (omega arith, omega arith))
towards_beside a b ax bx ay by (on_x (inr n) y z) = (1, omega arith, (omega arith, omega arith))
towards_beside a b ax bx ay by (on_y x (inl n) z) = (2, omega arith, (omega arith, omega arith))
towards_beside a b ax bx ay by (on_y x (inr n) z) = (3, omega arith, (omega arith, omega arith))
towards_beside a b ax bx ay by (on_z x y (inl n)) = (4, omega arith, omega arith)
towards_beside a b ax bx ay by (on_z x y (inr n)) = (5, omega arith, omega arith)

-- along a run of bits of one word, up and down
pub run_up : (words : List ℕ) (start w j n : ℕ) → j + n < 64
    → ((k : ℕ) → j < k → k ≤ j + n → IsSet words (64 * w + k))
    → IsJoined (IsClearAt words) (place_at_bit start) (place_at_bit (64 * w + j))
    → IsJoined (IsClearAt words) (place_at_bit start) (place_at_bit (64 * w + (j + n)))
run_up words start w j zero lt set from =
    subst (λ (i : ℕ). IsJoined (IsClearAt words) (place_at_bit start) (place_at_bit (64 * w + i)))
    (let e : j ≡ j + zero = omega arith in e) from
run_up words start w j (suc n) lt set from =
    let near = run_up words start w j n (omega arith) (λ k a b. set k a (omega arith)) from in
    joined_on (IsClearAt words) _ (place_at_bit (64 * w + (j + n)))
    (place_at_bit (64 * w + (j + suc n))) near
    (beside_towards 0 (64 * w + (j + n)) (64 * w + (j + suc n)) (omega arith, omega arith))
    (clear_place words (64 * w + (j + suc n)) (set (j + suc n) (omega arith) (omega arith)))

pub run_down : (words : List ℕ) (start w m n : ℕ) → m + n < 64
    → ((k : ℕ) → m ≤ k → k < m + n → IsSet words (64 * w + k))
    → IsJoined (IsClearAt words) (place_at_bit start) (place_at_bit (64 * w + (m + n)))
    → IsJoined (IsClearAt words) (place_at_bit start) (place_at_bit (64 * w + m))
run_down words start w m zero lt set from =
    subst (λ (i : ℕ). IsJoined (IsClearAt words) (place_at_bit start) (place_at_bit (64 * w + i)))
    (let e : m + zero ≡ m = omega arith in e) from
run_down words start w m (suc n) lt set from =
    let more : suc m + n ≡ m + suc n = omega arith in
    let near =
    run_down words start w (suc m) n (omega arith) (λ k a b. set k (omega arith) (omega arith))
    (subst (λ (i : ℕ). IsJoined (IsClearAt words) (place_at_bit start)
    (place_at_bit (64 * w + i))) (sym more) from) in
    joined_on (IsClearAt words) _ (place_at_bit (64 * w + suc m)) (place_at_bit (64 * w + m)) near
    (beside_towards 1 (64 * w + suc m) (64 * w + m) (omega arith, omega arith))
    (clear_place words (64 * w + m) (set m (omega arith) (omega arith)))

-- a way, place by place, in other cells
pub way_maps : (P Q : Cell → Type 0) (f : Cell → Cell) → ((c : Cell) → P c → Q (f c))
    → ((a b : Cell) → P a → P b → AreBeside a b → AreBeside (f a) (f b))
    → (more : List Cell) (a q : Cell) → IsPath P a more q → IsPath Q (f a) (map f more) (f q)
way_maps P Q f each next [] a q (first, same) = (each a first, ap f same)
way_maps P Q f each next (b ∷ more) a q (first, beside, rest) = (
  each a first,
  next a b first
      (way_first P more b q rest) beside,
  way_maps P Q f each next more b q rest,
)

pub joined_maps : (P Q : Cell → Type 0) (f : Cell → Cell) → ((c : Cell) → P c → Q (f c))
    → ((a b : Cell) → P a → P b → AreBeside a b → AreBeside (f a) (f b)) → {a q : Cell}
    → IsJoined P a q → IsJoined Q (f a) (f q)
joined_maps P Q f each next {a} {q} j =
    record { more = map f j.more; way = way_maps P Q f each next j.more a q j.way }
