-- How long a track stays in a stretch of cells.
use Rattle.std.proofs.Common.{◌≡◌, ℕ, zero, suc, ◌+◌, ◌-◌, ◌*◌, ◌/◌, ◌^◌, ◌<◌, ◌≤◌, inl, inr, ap, ◌∙◌, arith}
use Rattle.std.proofs.lemmas.Nat.{mul-le}
use Rattle.std.proofs.lemmas.Bool.{cases_lt}
use Rattle.vw_cell.specs.declared.boxes.Boxed.{Boxed}
use Rattle.ray_walk.specs.declared.courses.Track.{Track}
use Rattle.ray_walk.specs.declared.courses.Course.{Course}
use Rattle.ray_walk.specs.Courses.{IsTrackIn, IsTrack, StaysUntil, IsOut, InBoxUntil}

-- products grow with each factor
grows : (u a b : ℕ) → a ≤ b → u * a ≤ u * b
grows u a b h = mul-le u a u b (omega arith) h

grows_left : (j k a : ℕ) → j ≤ k → j * a ≤ k * a
grows_left j k a h = mul-le j a k a h (omega arith)

-- a cell below another ends before it begins
ends_before : (u c high : ℕ) → c < high → u * c + u ≤ u * high
ends_before u c high h = let g = grows u (c + 1) high (omega arith) in omega (arith, g)

no_factor : (k b : ℕ) → b ≡ 0 → k * b ≡ 0
no_factor k b e = ap (λ (n : ℕ). k * n) e ∙ omega arith

-- what division tells, as products
div_under : (n d : ℕ) → n / d * d ≤ n
div_under n zero = omega arith
div_under n (suc d) = omega arith

div_over : (n d : ℕ) → 0 < d → n < n / d * d + d
div_over n d h = omega arith

one_way_ahead : (t : Track) → IsTrack t → 0 < t.ahead → t.behind ≡ 0
one_way_ahead t i h = elim i.one_way [ inl none ↦ absurd (omega arith) | inr none ↦ none ]

one_way_behind : (t : Track) → IsTrack t → 0 < t.behind → t.ahead ≡ 0
one_way_behind t i h = elim i.one_way [ inl none ↦ none | inr none ↦ absurd (omega arith) ]

pub ahead_stays : (t : Track) (low high k c way next : ℕ) → IsTrack t → 0 < t.ahead
    → IsTrackIn t k c → low ≤ c → c < high → way ≡ t.unit * high - t.start
    → next ≡ (way + t.ahead - 1) / t.ahead → StaysUntil t low high k next
ahead_stays t low high k c way next i moves p above below e n =
    let a = t.ahead in
    let still = one_way_ahead t i moves in
    let kb = no_factor k t.behind still in
    let from_low = grows t.unit low c above in
    let to_high = ends_before t.unit c high below in
    let p0 = p.0 in
    let p1 = p.1 in
    let over = div_over (way + a - 1) a moves in
    let under = div_under (way + a - 1) a in
    let q : next * a ≡ (way + a - 1) / a * a = ap (λ (m : ℕ). m * a) n in
    record {
      later = λ _. elim
          (cases_lt k next) [
            | inl lt ↦ lt
            | inr ge ↦
                (let far = grows_left next k a ge in absurd
                (omega (arith, far, over, q, p1, to_high, kb, e)))
          ];
      above = λ j from to.
          (let jb = no_factor j t.behind still in let more = grows_left k j a from in omega
          (arith, jb, more, from_low, p0, kb));
      below = λ j from to.
          (let near = grows_left (j + 1) next a (omega arith) in omega
          (arith, near, under, q, p1, to_high, kb, e));
    }

pub behind_stays : (t : Track) (low high k c way next : ℕ) → IsTrack t → 0 < t.behind
    → IsTrackIn t k c → low ≤ c → c < high → way ≡ t.start - t.unit * low
    → next ≡ way / t.behind + 1 → StaysUntil t low high k next
behind_stays t low high k c way next i moves p above below e n =
    let b = t.behind in
    let still = one_way_behind t i moves in
    let ka = no_factor k t.ahead still in
    let from_low = grows t.unit low c above in
    let to_high = ends_before t.unit c high below in
    let p0 = p.0 in
    let p1 = p.1 in
    let over = div_over way b moves in
    let under = div_under way b in
    let q : next * b ≡ way / b * b + b = ap (λ (m : ℕ). m * b) n ∙ omega arith in
    record {
      later = λ _. elim
          (cases_lt k next) [
            | inl lt ↦ lt
            | inr ge ↦
                (let far = grows_left next k b ge in absurd
                (omega (arith, far, over, q, p0, from_low, ka, e)))
          ];
      above = λ j from to.
          (let near = grows_left (j + 1) next b (omega arith) in omega
          (arith, near, under, q, p0, from_low, ka, e));
      below = λ j from to.
          (let ja = no_factor j t.ahead still in let more = grows_left k j b from in omega
          (arith, ja, more, to_high, p1, ka));
    }

-- a track that is past the side stays there
pub past_side : (t : Track) (side k : ℕ) → IsTrack t → t.start < t.unit * side
    → side ≤ (t.start + k * t.ahead - k * t.behind) / t.unit → IsOut t side k
past_side t side k i begins past = record {
  each = λ j c from p below.
      let some = i.some in
      let under = div_under (t.start + k * t.ahead - k * t.behind) t.unit in
      let reach = grows_left side ((t.start + k * t.ahead - k * t.behind) / t.unit) t.unit past in
      let ends = ends_before t.unit c side below in
      let more = grows_left k j t.ahead from in
      let p1 = p.1 in
      elim i.one_way [
        | inl none ↦ (let ka = no_factor k t.ahead none in omega (arith, under, reach, begins, ka))
        | inr none ↦
            (let jb = no_factor j t.behind none in omega (arith, under, reach, more, jb, ends, p1))
      ];
}

-- products tell which factor is less
less_factor : (u a b : ℕ) → u * a < u * b → a < b
less_factor u a b h =
    elim (cases_lt a b) [ inl lt ↦ lt | inr ge ↦ (let g = grows u b a ge in absurd (omega arith)) ]

-- what lies between two cells' beginnings stands in a cell between
between : (t : Track) (low high k next j c : ℕ) → StaysUntil t low high k next → k ≤ j → j < next
    → IsTrackIn t j c → (low ≤ c) × (c < high)
between t low high k next j c s from to p =
    let above = s.above j from to in
    let below = s.below j from to in
    let p0 = p.0 in
    let p1 = p.1 in
    let up : low < c + 1 = less_factor t.unit low (c + 1) (omega (arith, above, p1)) in
    let down : c < high = less_factor t.unit c high (omega (arith, below, p0)) in
    (omega arith, down)

pub in_box_until : (r : Course) (b : Boxed) (k x y z next : ℕ) → k < 2 ^ 45
    → StaysUntil r.x b.at.x (b.at.x + b.size.x) k x → StaysUntil r.y b.at.y (b.at.y + b.size.y) k y
    → StaysUntil r.z b.at.z (b.at.z + b.size.z) k z
    → k < next → next ≤ x → next ≤ y → next ≤ z → InBoxUntil r b k next
in_box_until r b k x y z next small sx sy sz later lx ly lz = record {
  later = later;
  each = λ j c from to at. record {
    x = between r.x b.at.x (b.at.x + b.size.x) k x j c.x sx from (omega arith) at.x;
    y = between r.y b.at.y (b.at.y + b.size.y) k y j c.y sy from (omega arith) at.y;
    z = between r.z b.at.z (b.at.z + b.size.z) k z j c.z sz from (omega arith) at.z;
  };
}
