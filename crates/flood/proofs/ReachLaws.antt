-- Words that are reached, one at a time.
use Rattle.std.proofs.Common.{◌≡◌, ℕ, zero, suc, ◌+◌, ◌-◌, ◌*◌, ◌/◌, ◌%◌, ◌^◌, ◌<◌, ◌≤◌, ◌⊎◌, List, [], ◌∷◌, ◌++◌, length, set, refl, ap, sym, subst, ◌∙◌, inl, inr, arith, lit<, get_or-set_other, get_or-set_same, length-append, take, drop, append-nil, replicate}
use Rattle.std.specs.Prelude.{slice_index, bit_or, bit_and}
use Rattle.std.specs.List.{Contains}
use Rattle.std.specs.Int.{bit_at}
use Rattle.std.proofs.Math.ListN.{length-set}
use Rattle.std.proofs.lemmas.List.{drop_all, take_all, length-replicate}
use Rattle.std.proofs.lemmas.Bool.{cases_eq, cases_lt}
use Rattle.std.proofs.lemmas.Nat.{mod_below}
use Rattle.std.proofs.lemmas.Nat.Bits.{bit_at-zero, bit_at_above}
use Rattle.std.proofs.lemmas.List.Elements.{Contains-append_left, Contains-push, Contains-push_cases}
use Rattle.vw_cell.specs.Sums.{sum_below, sum_below-change}
use Rattle.vw_cell.specs.declared.cells.Cell.{Cell}
use Rattle.flood.specs.Paths.{IsJoined, IsPath}
use Rattle.flood.specs.Words.{bit_at_place, place_at_bit, IsSet, IsClearAt, IsTowards, IsClosedAt, Spreads, AreJoined, IsRegionOf, room, IsBeyond, ReachesWord, ReachesBeyond, Spills, Visits, Settles}
use Rattle.flood.proofs.SpreadLaws.{left_bit, right_bit, both_bits, and_bits, either_bit, grows_more, bit_at_up, up_bit_at}
use Rattle.flood.proofs.WayLaws.{joined_on, way_first, bit_of_place, clear_place, beside_towards, towards_beside, run_up, run_down}

-- a word that is put, and the others
put_here : (words : List ℕ) (v x i : ℕ) → v < length words → i / 64 ≡ v
    → slice_index (set words v x) (i / 64) ≡ x
put_here words v x i lt e =
    ap (λ (u : ℕ). slice_index (set words v x) u) e ∙ get_or-set_same words v x 0 lt

put_there : (words : List ℕ) (v x u : ℕ) → (u ≡ v → ⊥)
    → slice_index (set words v x) u ≡ slice_index words u
put_there words v x u other = get_or-set_other words v u x 0 other

pub set_by_word : (a b : List ℕ) (i : ℕ) → slice_index a (i / 64) ≡ slice_index b (i / 64)
    → IsSet a i → IsSet b i
set_by_word a b i e one = sym (ap (λ (w : ℕ). bit_at w (i % 64)) e) ∙ one

-- a word that grows leaves less room
room_falls : (words : List ℕ) (v x : ℕ) → v < length words → slice_index words v < x
    → slice_index words v < 2 ^ 64 → room (set words v x) + 1 ≤ room words
room_falls words v x lt up fits =
    let n : ℕ = length words in
    let f : ℕ → ℕ = λ u. 2 ^ 64 - slice_index words u in
    let g : ℕ → ℕ = λ u. 2 ^ 64 - slice_index (set words v x) u in
    let change =
    sum_below-change n v f g lt
    (λ i _ other. ap (λ (w : ℕ). 2 ^ 64 - w) (sym (put_there words v x i other))) in
    let here : g v ≡ 2 ^ 64 - x = ap (λ (w : ℕ). 2 ^ 64 - w) (get_or-set_same words v x 0 lt) in
    let whole : room (set words v x) ≡ sum_below n g =
    ap (λ (m : ℕ). sum_below m g) (length-set words v x) in
    omega (arith, change, here, whole, up, fits)

pub room_no_more : (words : List ℕ) (v x : ℕ) → v < length words → slice_index words v ≤ x
    → room (set words v x) ≤ room words
room_no_more words v x lt up =
    let n : ℕ = length words in
    let f : ℕ → ℕ = λ u. 2 ^ 64 - slice_index words u in
    let g : ℕ → ℕ = λ u. 2 ^ 64 - slice_index (set words v x) u in
    let change =
    sum_below-change n v f g lt
    (λ i _ other. ap (λ (w : ℕ). 2 ^ 64 - w) (sym (put_there words v x i other))) in
    let here : g v ≡ 2 ^ 64 - x = ap (λ (w : ℕ). 2 ^ 64 - w) (get_or-set_same words v x 0 lt) in
    let whole : room (set words v x) ≡ sum_below n g =
    ap (λ (m : ℕ). sum_below m g) (length-set words v x) in
    omega (arith, change, here, whole, up)

-- nothing new was to be put
pub reaches_none : (clear words stack : List ℕ) (v bits : ℕ)
    → bit_or (slice_index words v) (bit_and bits (slice_index clear v)) ≡ slice_index words v
    → ReachesWord clear v bits words words stack stack
reaches_none clear words stack v bits still = record {
  same_length = refl;
  keeps = λ i set. set;
  only = λ i set. inl set;
  puts = λ i p.
      let of_v : bit_at (slice_index clear v) (i % 64) ≡ 1 =
      sym (ap (λ (u : ℕ). bit_at (slice_index clear u) (i % 64)) p.word) ∙ p.is_clear in
      let here : bit_at (slice_index words v) (i % 64) ≡ 1 =
      sym (ap (λ (w : ℕ). bit_at w (i % 64)) still)
      ∙ right_bit (slice_index words v) _ (i % 64) (and_bits bits _ (i % 64) p.bit of_v) in
      ap (λ (u : ℕ). bit_at (slice_index words u) (i % 64)) p.word ∙ here;
  waits = λ u w. w;
  changed = λ u. inl refl;
  inside = λ u w. inl w;
  falls = omega arith;
}

-- bits were put
pub reaches_some : (clear words stack : List ℕ) (v bits : ℕ) → v < length words
    → (bit_or (slice_index words v) (bit_and bits (slice_index clear v)) ≡ slice_index words v → ⊥)
    → slice_index words v < 2 ^ 64 → length (stack ++ v ∷ []) ≡ length stack + 1
    → ReachesWord clear v bits words
    (set words v (bit_or (slice_index words v) (bit_and bits (slice_index clear v)))) stack
    (stack ++ v ∷ [])
reaches_some clear words stack v bits lt other fits pushed =
    let x : ℕ = bit_or (slice_index words v) (bit_and bits (slice_index clear v)) in
    record {
      same_length = length-set words v x;
      keeps = λ i set_i. elim (cases_eq (i / 64) v) [
        | inl here ↦ ap (λ (w : ℕ). bit_at w (i % 64)) (put_here words v x i lt here)
            ∙ left_bit (slice_index words v) _ (i % 64)
            (sym (ap (λ (u : ℕ). bit_at (slice_index words u) (i % 64)) here) ∙ set_i)
        | inr there ↦ set_by_word words (set words v x) i
            (sym (put_there words v x (i / 64) there)) set_i
      ];
      only = λ i set_i. elim (cases_eq (i / 64) v) [
        | inl here ↦ (
            let in_x : bit_at x (i % 64) ≡ 1 =
            sym (ap (λ (w : ℕ). bit_at w (i % 64)) (put_here words v x i lt here)) ∙ set_i in
            elim (either_bit (slice_index words v) _ (i % 64) in_x) [
              | inl old ↦ inl (ap (λ (u : ℕ). bit_at (slice_index words u) (i % 64)) here ∙ old)
              | inr new ↦ (
                  let parts = both_bits bits (slice_index clear v) (i % 64) new in
                  inr (record {
                    word = here;
                    bit = parts.0;
                    is_clear = ap
                        (λ (u : ℕ). bit_at (slice_index clear u) (i % 64)) here ∙ parts.1;
                  }))
            ])
        | inr there ↦ inl
            (set_by_word (set words v x) words i (put_there words v x (i / 64) there) set_i)
      ];
      puts = λ i p.
          let of_v : bit_at (slice_index clear v) (i % 64) ≡ 1 =
          sym (ap (λ (u : ℕ). bit_at (slice_index clear u) (i % 64)) p.word) ∙ p.is_clear in
          ap (λ (w : ℕ). bit_at w (i % 64)) (put_here words v x i lt p.word)
          ∙ right_bit (slice_index words v) _ (i % 64) (and_bits bits _ (i % 64) p.bit of_v);
      waits = λ u w. Contains-append_left stack (v ∷ []) u w;
      changed = λ u. elim (cases_eq u v) [
        | inl here ↦ inr
            (subst (λ (t : ℕ). Contains (stack ++ v ∷ []) t) (sym here) (Contains-push stack v))
        | inr there ↦ inl (put_there words v x u there)
      ];
      inside = λ u w. elim
          (Contains-push_cases stack v u w) [ inl old ↦ inl old | inr new ↦ inr (sym new) ];
      falls =
          let less =
          room_falls words v x lt
          (grows_more (slice_index words v)
          (bit_and bits (slice_index clear v)) other) fits in
          omega (arith, less, pushed);
    }

-- the bits that a spread adds to a word are joined
word_bit : (w m i : ℕ) → i / 64 ≡ w → i % 64 ≡ m → 64 * w + m ≡ i
word_bit w m i p q = omega arith

pub spread_joined : (clear words : List ℕ) (start w word : ℕ) → w < length words
    → Spreads (slice_index clear w) (slice_index words w) word → AreJoined clear start words
    → AreJoined clear start (set words w word)
spread_joined clear words start w word lt spreads joined = record {
  each = λ i set_i. elim (cases_eq (i / 64) w) [
    | inl here ↦ (
        let m : ℕ = i % 64 in
        let small : m < 64 = mod_below i 64 (lit< tt) in
        let one : bit_at word m ≡ 1 =
        sym (ap (λ (x : ℕ). bit_at x (i % 64)) (put_here words w word i lt here)) ∙ set_i in
        let run = spreads.runs m small one in
        let set_at : (k : ℕ) → k < 64 → bit_at (slice_index clear w) k ≡ 1 → IsSet clear (64 * w + k) = λ k lt_k bit_k.
        let at_word : (64 * w + k) / 64 ≡ w = omega arith in
        let at_bit : (64 * w + k) % 64 ≡ k = omega arith in
        rw (at_word, at_bit) bit_k
        in
        let below = run.below in
        let at_word : (64 * w + run.j) / 64 ≡ w = omega arith in
        let at_bit : (64 * w + run.j) % 64 ≡ run.j = omega arith in
        let seed : IsSet words (64 * w + run.j) = rw (at_word, at_bit) run.seed in
        let from = joined.each (64 * w + run.j) seed in
        let back : 64 * w + m ≡ i = word_bit w m i here refl in
        subst (λ (k : ℕ). IsJoined (IsClearAt clear) (place_at_bit start) (place_at_bit k)) back
        (elim (cases_lt m run.j) [
          | inl up ↦ (
              let e : m + (run.j - m) ≡ run.j = omega arith in
              run_down clear start w m (run.j - m) (omega arith)
              (λ k a b. set_at k (omega arith) (run.run k (inr (a, omega arith))))
              (subst (λ (j : ℕ). IsJoined (IsClearAt clear) (place_at_bit start)
              (place_at_bit (64 * w + j))) (sym e) from))
          | inr down ↦ (
              let e : run.j + (m - run.j) ≡ m = omega arith in
              subst (λ (j : ℕ). IsJoined (IsClearAt clear) (place_at_bit start)
              (place_at_bit (64 * w + j))) e
              (run_up clear start w run.j (m - run.j) (omega arith)
              (λ k a b. set_at k (omega arith) (run.run k (inl (a, omega arith)))) from))
        ]))
    | inr there ↦ joined.each i
        (set_by_word (set words w word) words i (put_there words w word (i / 64) there) set_i)
  ];
}

-- within its word, what is towards a bit is reached by the spread
within_word : (clear words : List ℕ) (w k i j seeds : ℕ)
    → Spreads (slice_index clear w) seeds (slice_index words w) → i / 64 ≡ w → j / 64 ≡ w
    → IsTowards k i j → IsSet words i → IsSet clear j → IsSet words j
within_word clear words w zero i j seeds s iw jw (e, h) set_i set_j =
    let m : ℕ = i % 64 in
    let next : j % 64 ≡ m + 1 = omega arith in
    let one : bit_at (slice_index words w) m ≡ 1 =
    sym (ap (λ (u : ℕ). bit_at (slice_index words u) m) iw) ∙ set_i in
    let free : bit_at (slice_index clear w) (m + 1) ≡ 1 =
    sym (ap (λ (u : ℕ). bit_at (slice_index clear w) u) next)
    ∙ sym (ap (λ (u : ℕ). bit_at (slice_index clear u) (j % 64)) jw) ∙ set_j in
    ap (λ (u : ℕ). bit_at (slice_index words u) (j % 64)) jw
    ∙ ap (λ (u : ℕ). bit_at (slice_index words w) u) next ∙ s.up m (omega arith) one free
within_word clear words w (suc zero) i j seeds s iw jw (e, h) set_i set_j =
    let m : ℕ = j % 64 in
    let next : i % 64 ≡ m + 1 = omega arith in
    let one : bit_at (slice_index words w) (m + 1) ≡ 1 =
    sym (ap (λ (u : ℕ). bit_at (slice_index words w) u) next)
    ∙ sym (ap (λ (u : ℕ). bit_at (slice_index words u) (i % 64)) iw) ∙ set_i in
    let free : bit_at (slice_index clear w) m ≡ 1 =
    sym (ap (λ (u : ℕ). bit_at (slice_index clear u) m) jw) ∙ set_j in
    ap (λ (u : ℕ). bit_at (slice_index words u) m) jw ∙ s.down m (omega arith) one free
within_word clear words w (suc (suc zero)) i j seeds s iw jw (e, h) set_i set_j =
    absurd (omega arith)
within_word clear words w (suc (suc (suc zero))) i j seeds s iw jw (e, h) set_i set_j =
    absurd (omega arith)
within_word clear words w (suc (suc (suc (suc zero)))) i j seeds s iw jw e set_i set_j =
    absurd (omega arith)
within_word clear words w (suc (suc (suc (suc (suc zero))))) i j seeds s iw jw e set_i set_j =
    absurd (omega arith)
within_word clear words w (suc (suc (suc (suc (suc (suc k)))))) i j seeds s iw jw e set_i set_j =
    absurd e

-- a bit that is set lies within the words
pub set_inside : (words : List ℕ) (i : ℕ) → IsSet words i → i < 64 * length words
set_inside words i one =
    elim (cases_lt (i / 64) (length words)) [
      | inl less ↦ omega arith
      | inr more ↦ absurd (
          let none : slice_index words (i / 64) ≡ 0 =
          Rattle.std.proofs.lemmas.List.get_or_past words (i / 64) 0 more in
          let zeros : bit_at (slice_index words (i / 64)) (i % 64) ≡ 0 =
          ap (λ (x : ℕ). bit_at x (i % 64)) none ∙ bit_at-zero (i % 64) in
          omega (arith, zeros, one))
    ]

pub spills_none : (clear words stack : List ℕ) (w : ℕ) → Spills clear w 0 words words stack stack
spills_none clear words stack w = record {
  same_length = refl;
  keeps = λ i set_i. set_i;
  joined = λ start a. a;
  waits = λ u c. c;
  changed = λ u. inl refl;
  inside = λ u c. inl c;
  falls = omega arith;
  done = λ d i j lt. absurd (omega arith);
}

-- in one more way
pub spills_one : (clear old now new before mid after : List ℕ) (w k seeds word bits : ℕ)
    → Spreads (slice_index clear w) seeds (slice_index old w)
    → IsBeyond (length clear) k w (slice_index old w) word bits
    → Spills clear w k old now before mid → ReachesWord clear word bits now new mid after
    → Spills clear w (k + 1) old new before after
spills_one clear old now new before mid after w k seeds word bits spreads there so_far step =
    record {
      same_length = step.same_length ∙ so_far.same_length;
      keeps = λ i set_i. step.keeps i (so_far.keeps i set_i);
      joined = λ start a. record {
        each = λ i set_i. elim (step.only i set_i) [
          | inl was ↦ (so_far.joined start a).each i was
          | inr put ↦ (
              let from = there.only (i % 64) (mod_below i 64 (lit< tt)) put.bit in
              let i0 : ℕ = from.0 in
              let set_0 : IsSet old i0 =
              ap (λ (u : ℕ). bit_at (slice_index old u) (i0 % 64)) from.1 ∙ from.2 in
              let back : 64 * word + i % 64 ≡ i = word_bit word (i % 64) i put.word refl in
              joined_on (IsClearAt clear) _ (place_at_bit i0) (place_at_bit i) (a.each i0 set_0)
              (beside_towards k i0 i (subst (λ (j : ℕ). IsTowards k i0 j) back from.3))
              (clear_place clear i put.is_clear))
        ];
      };
      waits = λ u c. step.waits u (so_far.waits u c);
      changed = λ u. elim (step.changed u) [
        | inl same ↦ elim
            (so_far.changed u) [
              | inl as_old ↦ inl (same ∙ as_old)
              | inr waiting ↦ inr
                  (step.waits u waiting)
            ]
        | inr waiting ↦ inr waiting
      ];
      inside = λ u c. elim (step.inside u c) [
        | inl was ↦ so_far.inside u was
        | inr is_word ↦ inr (let lt = there.inside in omega arith)
      ];
      falls = omega (arith, so_far.falls, step.falls);
      done = λ d i j lt of_w set_i t clear_j. elim (cases_eq d k) [
        | inl last ↦ (
            let towards : IsTowards k i j = subst (λ (e : ℕ). IsTowards e i j) last t in
            let bit : bit_at (slice_index old w) (i % 64) ≡ 1 =
            sym (ap (λ (u : ℕ). bit_at (slice_index old u) (i % 64)) of_w) ∙ set_i in
            elim (there.all i j of_w bit towards (set_inside clear j clear_j)) [
              | inl within ↦ step.keeps j
                  (so_far.keeps j
                  (within_word clear old w k i j seeds spreads of_w within towards set_i clear_j))
              | inr beyond ↦ step.puts j
                  (record { word = beyond.0; bit = beyond.1; is_clear = clear_j })
            ])
        | inr other ↦ step.keeps j (so_far.done d i j (omega arith) of_w set_i t clear_j)
      ];
    }

-- a word was spread, and spilled in all ways
pub visits : (clear old new before after : List ℕ) (w word : ℕ) → w < length old
    → Spreads (slice_index clear w) (slice_index old w) word
    → Spills clear w 6 (set old w word) new before after → Visits clear w old new before after
visits clear old new before after w word lt spreads spills =
    let mid : List ℕ = set old w word in
    let to_mid : (i : ℕ) → IsSet old i → IsSet mid i = λ i set_i. elim (cases_eq (i / 64) w) [
      | inl here ↦ (
          let small : i % 64 < 64 = mod_below i 64 (lit< tt) in
          ap (λ (x : ℕ). bit_at x (i % 64)) (put_here old w word i lt here)
          ∙ spreads.keeps (i % 64) small
          (sym (ap (λ (u : ℕ). bit_at (slice_index old u) (i % 64)) here) ∙ set_i))
      | inr there ↦ set_by_word old mid i (sym (put_there old w word (i / 64) there)) set_i
    ] in
    let here : IsClosedAt clear new w ⊎ Contains after w = elim (spills.changed w) [
      | inl same ↦ inl (record {
        each = λ k lt_k i j of_w set_i t clear_j.
            let in_mid : IsSet mid i =
            set_by_word new mid i
            (ap (λ (u : ℕ). slice_index new u) of_w ∙ same
            ∙ sym (ap (λ (u : ℕ). slice_index mid u) of_w)) set_i in
            spills.done k i j lt_k of_w in_mid t clear_j;
      })
      | inr waiting ↦ inr waiting
    ] in
    record {
      same_length = spills.same_length ∙ length-set old w word;
      keeps = λ i set_i. spills.keeps i (to_mid i set_i);
      joined = λ start a. spills.joined start (spread_joined clear old start w word lt spreads a);
      waits = spills.waits;
      here = here;
      elsewhere = λ u closed. elim (cases_eq u w) [
        | inl is_w ↦ subst (λ (v : ℕ). IsClosedAt clear new v ⊎ Contains after v) (sym is_w) here
        | inr other ↦ elim (spills.changed u) [
          | inl same ↦ inl (record {
            each = λ k lt_k i j of_u set_i t clear_j.
                let in_mid : IsSet mid i =
                set_by_word new mid i
                (ap (λ (v : ℕ). slice_index new v) of_u ∙ same
                ∙ sym (ap (λ (v : ℕ). slice_index mid v) of_u)) set_i in
                let not_w : i / 64 ≡ w → ⊥ = λ e. other (sym of_u ∙ e) in
                let in_old : IsSet old i =
                set_by_word mid old i (put_there old w word (i / 64) not_w) in_mid in
                spills.keeps j (to_mid j (closed.each k lt_k i j of_u in_old t clear_j));
          })
          | inr waiting ↦ inr waiting
        ]
      ];
      inside = spills.inside;
      falls = (let less = room_no_more old w word lt spreads.more in omega
          (arith, less, spills.falls));
    }

pub reaches_pushed : (clear words stack after : List ℕ) (v bits : ℕ) → after ≡ stack ++ v ∷ []
    → v < length words
    → (bit_or (slice_index words v) (bit_and bits (slice_index clear v)) ≡ slice_index words v → ⊥)
    → slice_index words v < 2 ^ 64
    → ReachesWord clear v bits words
    (set words v
    (bit_or (slice_index words v) (bit_and bits (slice_index clear v)))) stack after
reaches_pushed clear words stack after v bits pushed lt other fits =
    subst (λ (items : List ℕ). ReachesWord clear v bits words
    (set words v
    (bit_or (slice_index words v) (bit_and bits (slice_index clear v)))) stack items)
    (sym pushed)
    (reaches_some clear words stack v bits lt other fits (length-append stack (v ∷ [])))

-- the next way of a visit, from what the calls gave
pub spills_next : (clear old now new before mid after : List ℕ) (w k mine : ℕ) → w < length old
    → Spreads (slice_index clear w) (slice_index old w) mine
    → Spills clear w k (set old w mine) now before mid
    → ReachesBeyond clear w k mine now new mid after
    → Spills clear w (k + 1) (set old w mine) new before after
spills_next clear old now new before mid after w k mine lt spreads so_far step =
    let is : slice_index (set old w mine) w ≡ mine = get_or-set_same old w mine 0 lt in
    spills_one clear (set old w mine) now new before mid after w k
    (slice_index old w) step.word step.there
    (subst (λ (x : ℕ). Spreads (slice_index clear w) (slice_index old w) x) (sym is) spreads)
    (subst (λ (x : ℕ). IsBeyond (length clear) k w x step.word step.there)
    (sym is) step.beyond) so_far step.reached

-- nothing waits
pub settles : (clear old now before stack : List ℕ) → length stack ≡ 0 → length now ≡ length old
    → ((i : ℕ) → IsSet old i → IsSet now i)
    → ((start : ℕ) → AreJoined clear start old → AreJoined clear start now)
    →
    ((u : ℕ) → IsClosedAt clear old u ⊎ Contains before u → IsClosedAt clear now u
    ⊎ Contains stack u) → Settles clear old now before
settles clear old now before stack none same keeps joined closed = record {
  same_length = same;
  keeps = keeps;
  joined = joined;
  closed = λ u c. elim (closed u c) [
    | inl is ↦ is
    | inr waiting ↦ absurd (let lt = waiting.1 in omega arith)
  ];
}

-- one visit of a word that waited
Contains_last : (stack rest : List ℕ) (w u : ℕ) → stack ≡ rest ++ w ∷ [] → Contains stack u
    → Contains rest u ⊎ (w ≡ u)
Contains_last stack rest w u is c =
    Contains-push_cases rest w u (subst (λ (xs : List ℕ). Contains xs u) is c)

-- the state of the loop: what was closed or waited is, or waits still
pub record Settling (clear_words old now before stack : List ℕ) : Type 0 where
  pub same_length : length now ≡ length old
  pub keeps : (i : ℕ) → IsSet old i → IsSet now i
  pub joined : (start : ℕ) → AreJoined clear_words start old → AreJoined clear_words start now
  pub closed : (u : ℕ) → IsClosedAt clear_words old u ⊎ Contains before u
      → IsClosedAt clear_words now u ⊎ Contains stack u
  pub inside : (u : ℕ) → Contains stack u → u < length clear_words

pub settling_none : (clear old before : List ℕ) → ((u : ℕ) → Contains before u → u < length clear)
    → Settling clear old old before before
settling_none clear old before inside = record {
  same_length = refl;
  keeps = λ i s. s;
  joined = λ start a. a;
  closed = λ u c. c;
  inside = inside;
}

pub settling_one : (clear old now new before stack rest after : List ℕ) (w : ℕ)
    → stack ≡ rest ++ w ∷ [] → Settling clear old now before stack
    → Visits clear w now new rest after → Settling clear old new before after
settling_one clear old now new before stack rest after w is so_far v = record {
  same_length = v.same_length ∙ so_far.same_length;
  keeps = λ i s. v.keeps i (so_far.keeps i s);
  joined = λ start a. v.joined start (so_far.joined start a);
  closed = λ u c. elim (so_far.closed u c) [
    | inl closed ↦ v.elsewhere u closed
    | inr waiting ↦ elim (Contains_last stack rest w u is waiting) [
      | inl still ↦ inr (v.waits u still)
      | inr it ↦ subst (λ (t : ℕ). IsClosedAt clear new t ⊎ Contains after t) it v.here
    ]
  ];
  inside = λ u c. elim (v.inside u c) [
    | inl was ↦ so_far.inside u
        (subst (λ (xs : List ℕ). Contains xs u) (sym is) (Contains-append_left rest (w ∷ []) u was))
    | inr lt ↦ lt
  ];
}

pub last_inside : (clear stack rest : List ℕ) (w : ℕ) → stack ≡ rest ++ w ∷ []
    → ((u : ℕ) → Contains stack u → u < length clear) → w < length clear
last_inside clear stack rest w is inside =
    inside w (subst (λ (xs : List ℕ). Contains xs w) (sym is) (Contains-push rest w))

pub settled : (clear old now before stack : List ℕ) → length stack ≡ 0
    → Settling clear old now before stack → Settles clear old now before
settled clear old now before stack none s =
    settles clear old now before stack none s.same_length s.keeps s.joined s.closed

pub falls_on : (now new stack rest after : List ℕ) (w : ℕ) → stack ≡ rest ++ w ∷ []
    → 2 * room new + length after ≤ 2 * room now + length rest
    → 2 * room new + length after < 2 * room now + length stack
falls_on now new stack rest after w is falls =
    let one = length-append rest (w ∷ []) in
    let e : length stack ≡ length (rest ++ w ∷ []) = ap length is in
    omega (arith, one, e, falls)

-- from the first word to the region
pub first_joined : (clear : List ℕ) (n start : ℕ) (words : List ℕ)
    → ((i : ℕ) → IsSet words i → (i ≡ start) × IsSet clear i) → AreJoined clear start words
first_joined clear n start words only = record {
  each = λ i s.
      let is = only i s in
      subst (λ (j : ℕ). IsJoined (IsClearAt clear) (place_at_bit start) (place_at_bit j)) (sym is.0)
      (record {
        more = [];
        way =
            (clear_place clear start (subst (λ (j : ℕ). IsSet clear j) is.0 is.1), refl);
      });
}

closed_way : (clear words : List ℕ) (more : List Cell) (a q : Cell)
    → ((u : ℕ) → u < length clear → IsClosedAt clear words u) → IsPath (IsClearAt clear) a more q
    → IsSet words (bit_at_place a) → IsSet words (bit_at_place q)
closed_way clear words [] a q closed (first, same) set_a =
    subst (λ (p : Cell). IsSet words (bit_at_place p)) same set_a
closed_way clear words (b ∷ more) a q closed (first, next, rest) set_a =
    let b_clear : IsClearAt clear b = way_first (IsClearAt clear) more b q rest in
    let way = towards_beside a b first.x b_clear.x first.y b_clear.y next in
    let inside = set_inside clear (bit_at_place a) first.set in
    let set_b =
    (closed (bit_at_place a / 64) (omega arith)).each way.0 way.1 (bit_at_place a)
    (bit_at_place b) refl set_a way.2 b_clear.set in
    closed_way clear words more b q closed rest set_b

-- what settled from the start's word is the region
pub is_region : (clear first words : List ℕ) (start : ℕ) → start < 64 * length clear
    → ((i : ℕ) → IsSet first i → (i ≡ start) × IsSet clear i)
    → (IsSet clear start → IsSet first start) → Settles clear first words (start / 64 ∷ [])
    → IsRegionOf clear start words
is_region clear first words start inside only begun s = record {
  only = s.joined start (first_joined clear (length clear) start first only);
  all = λ p j.
      let closed : (u : ℕ) → u < length clear → IsClosedAt clear words u =
      λ u lt. elim (cases_eq u (start / 64)) [
        | inl here ↦ s.closed u
            (inr (subst (λ (t : ℕ). Contains (start / 64 ∷ []) t) (sym here)
            (0, omega arith, refl)))
        | inr there ↦ s.closed u
            (inl (record {
              each = λ k lt_k i i2 of_u set_i. absurd
                  (there (sym of_u ∙ ap (λ (t : ℕ). t / 64) (only i set_i).0));
            }))
      ] in
      let from_clear : IsClearAt clear (place_at_bit start) =
      way_first (IsClearAt clear) j.more (place_at_bit start) p j.way in
      let start_clear : IsSet clear start =
      subst (λ (i : ℕ). IsSet clear i) (bit_of_place start) from_clear.set in
      let start_set : IsSet words (bit_at_place (place_at_bit start)) =
      subst (λ (i : ℕ). IsSet words i) (sym (bit_of_place start))
      (s.keeps start (begun start_clear)) in
      closed_way clear words j.more (place_at_bit start) p closed j.way start_set;
}

-- a list that was written whole through a slice
pub written_whole : (size : ℕ) (new xs : List ℕ) → length new ≡ length xs → size ≡ length xs
    → take size (new ++ drop (length new) xs) ≡ new
written_whole size new xs same all =
    let none : drop (length new) xs ≡ [] = drop_all (length new) xs (omega arith) in
    rw (none, append-nil) (take_all size new (omega arith))

-- the first word
one_bit : (k m : ℕ) → m < 64 → bit_at (1 * 2 ^ k % 2 ^ 64) m ≡ 1 → m ≡ k
one_bit k m h one =
    let up = bit_at_up 1 k m h one in
    elim (cases_lt 0 (m - k)) [
      | inl more ↦ absurd
          (let none = bit_at_above 1 1 (m - k) (lit< tt) more in omega (arith, none, up.1))
      | inr none ↦ (let le = up.0 in omega arith)
    ]

zero_words : (n k : ℕ) → slice_index (replicate n 0) k ≡ 0
zero_words zero k = refl
zero_words (suc n) zero = refl
zero_words (suc n) (suc k) = zero_words n k

pub first_only : (clear first zeros : List ℕ) (n start x : ℕ) → zeros ≡ replicate n 0
    → n ≡ length clear → start < 64 * length clear
    → x ≡ bit_and (slice_index clear (start / 64)) (1 * 2 ^ (start % 64) % 2 ^ 64)
    → first ≡ set zeros (start / 64) x → (i : ℕ) → IsSet first i → (i ≡ start) × IsSet clear i
first_only clear first zeros n start x are all inside is written i set_i =
    let lt : start / 64 < length zeros =
    omega (arith, ap length are, length-replicate {A = ℕ} n 0) in
    let set_0 : IsSet (set zeros (start / 64) x) i =
    subst (λ (xs : List ℕ). IsSet xs i) written set_i in
    elim (cases_eq (i / 64) (start / 64)) [
      | inl here ↦ (
          let in_x : bit_at x (i % 64) ≡ 1 =
          sym (ap (λ (w : ℕ). bit_at w (i % 64)) (put_here zeros (start / 64) x i lt here))
          ∙ set_0 in
          let parts = both_bits _ _ (i % 64) (sym (ap (λ (w : ℕ). bit_at w (i % 64)) is) ∙ in_x) in
          let bit : i % 64 ≡ start % 64 =
          one_bit (start % 64) (i % 64) (mod_below i 64 (lit< tt)) parts.1 in
          (omega arith, ap (λ (u : ℕ). bit_at (slice_index clear u) (i % 64)) here ∙ parts.0))
      | inr there ↦ absurd (
          let old : IsSet zeros i =
          set_by_word (set zeros (start / 64) x) zeros i
          (put_there zeros (start / 64) x (i / 64) there) set_0 in
          let none : bit_at (slice_index zeros (i / 64)) (i % 64) ≡ 0 =
          ap (λ (xs : List ℕ). bit_at (slice_index xs (i / 64)) (i % 64)) are
          ∙ ap (λ (w : ℕ). bit_at w (i % 64)) (zero_words n (i / 64))
          ∙ bit_at-zero (i % 64) in
          omega (arith, none, old))
    ]

pub first_begun : (clear first zeros : List ℕ) (n start x : ℕ) → zeros ≡ replicate n 0
    → n ≡ length clear → start < 64 * length clear
    → x ≡ bit_and (slice_index clear (start / 64)) (1 * 2 ^ (start % 64) % 2 ^ 64)
    → first ≡ set zeros (start / 64) x → IsSet clear start → IsSet first start
first_begun clear first zeros n start x are all inside is written set_s =
    let lt : start / 64 < length zeros =
    omega (arith, ap length are, length-replicate {A = ℕ} n 0) in
    let small : start % 64 < 64 = mod_below start 64 (lit< tt) in
    let none : start % 64 - start % 64 ≡ 0 = omega arith in
    let one : bit_at (1 * 2 ^ (start % 64) % 2 ^ 64) (start % 64) ≡ 1 =
    up_bit_at 1 (start % 64) (start % 64) small (omega arith)
    (ap (λ (k : ℕ). bit_at 1 k) none) in
    let in_x : bit_at x (start % 64) ≡ 1 =
    ap (λ (w : ℕ). bit_at w (start % 64)) is ∙ and_bits _ _ (start % 64) set_s one in
    subst (λ (xs : List ℕ). IsSet xs start) (sym written)
    (ap (λ (w : ℕ). bit_at w (start % 64)) (put_here zeros (start / 64) x start lt refl) ∙ in_x)

pub region_found : (clear first zeros words made : List ℕ) (n start x : ℕ) → zeros ≡ replicate n 0
    → n ≡ length clear → start < 64 * length clear
    → x ≡ bit_and (slice_index clear (start / 64)) (1 * 2 ^ (start % 64) % 2 ^ 64)
    → first ≡ set zeros (start / 64) x → made ≡ words → Settles clear first words (start / 64 ∷ [])
    → IsRegionOf clear start made
region_found clear first zeros words made n start x are all inside is written e s =
    subst (λ (xs : List ℕ). IsRegionOf clear start xs) (sym e)
    (is_region clear first words start inside
    (first_only clear first zeros n start x are all inside is written)
    (first_begun clear first zeros n start x are all inside is written) s)

-- a list whose last item could not be taken
pub emptied : (xs ys : List ℕ) (n : ℕ) → n ≡ 0 → xs ≡ ys ++ [] → ys ≡ take (n - 1) xs
    → length xs ≡ 0
emptied xs ys n none parts rest =
    let zeros : n - 1 ≡ 0 = omega arith in
    let nothing : ys ≡ [] = rest ∙ ap (λ (k : ℕ). take k xs) zeros in
    ap length (parts ∙ ap (λ (zs : List ℕ). zs ++ []) nothing)

-- what a vector has once a slice of the whole of it was settled
pub region_written : (clear zeros lent words empty stack : List ℕ) (n size start x : ℕ)
    → zeros ≡ replicate n 0 → n ≡ length clear → start < 64 * length clear
    → x ≡ bit_and (slice_index clear (start / 64)) (1 * 2 ^ (start % 64) % 2 ^ 64)
    → lent ≡ set zeros (start / 64) x → size ≡ length zeros → empty ≡ []
    → stack ≡ empty ++ start / 64 ∷ [] → Settles clear lent words stack
    → IsRegionOf clear start (take size (words ++ drop (length words) (set zeros (start / 64) x)))
region_written clear zeros lent words empty stack n size start x are all inside is written fits none pushed s =
    let whole : take size (words ++ drop (length words) (set zeros (start / 64) x)) ≡ words =
    written_whole size words (set zeros (start / 64) x) (s.same_length ∙ ap length written)
    (fits ∙ sym (length-set zeros (start / 64) x))
    in
    let one : stack ≡ start / 64 ∷ [] = pushed ∙ ap (λ (xs : List ℕ). xs ++ start / 64 ∷ []) none in
    region_found clear lent zeros words _ n start x are all inside is written whole
    (subst (λ (xs : List ℕ). Settles clear lent words xs) one s)
