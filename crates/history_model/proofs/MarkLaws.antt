-- The words of a mark's line and of the side's line are read as them, and as nothing else.
use Rattle.std.specs.Prelude.{◌≡◌, ℕ, zero, suc, ◌*◌, ◌/◌, ◌^◌, ◌<◌, ◌≤◌, IsTrue, Bool, true, false, List, [], ◌∷◌, Option, Some, None, MatchOption, Result, Ok, Err, codes, refl}
use Rattle.std.proofs.Math.Nat.{pow-suc}
use Rattle.std.proofs.Common.{lit≤, cond, ap, sym, ◌∙◌, subst, arith, inl, inr}
use Rattle.std.proofs.lemmas.Bool.{cases_lt}
use Rattle.std.specs.Str.{bytes_eq}
use Rattle.std.specs.Fmt.{decimal}
use lib.Pow.{pow_mono}
use Rattle.std.proofs.lemmas.Slice.Eq.{bytes_eq-Decides}
use Rattle.vw_cell.specs.declared.cells.Cell.{Cell}
use Rattle.vw_cell.specs.Counts.{cell_at}
use Rattle.vw_cell.specs.Sides.{is_side}
use Rattle.plain_text.specs.declared.faults.WordFault.{WordFault}
use Rattle.plain_text.specs.declared.faults.WordFault.TheVariants.{Word}
use Rattle.plain_text.specs.Steps.{◌>>=◌, three_words, number_by}
use Rattle.plain_text.specs.Numbers.{exact}
use Rattle.plain_text.specs.NumberLaws.{exact_again}
use Rattle.history_model.specs.declared.histories.Mark.{Mark}
use Rattle.history_model.specs.Packing.{Reads}
use Rattle.history_model.specs.Journal.{journal_side}
use Rattle.history_model.specs.Spelling.{three_numbers, IsSmallCell}
use Rattle.history_model.proofs.SpellingLaws.{numbers_again, numbers_take, number_takes, IsWord, IsWords}
use Rattle.history_model.specs.Entries.{IsNextMark, IsSide, mark_list, side_list, mark_spelled, side_spelled}

abbrev pair : Cell → ℕ → Cell × ℕ
pair head line = (head, line)

abbrev head_of : Mark → Cell
head_of m = cell_at m.version m.at m.session

mark_again : (m : Mark) → IsSmallCell (head_of m) → m.line < 2 ^ 32
    → mark_spelled (mark_list m) ≡ Ok (pair (head_of m) m.line)
unfolding mark_spelled three_words
mark_again m small_head small_line =
    let n = numbers_again (head_of m) small_head in
    let l = exact_again (2 ^ 32) m.line (lit≤ tt) small_line in
    rw (n, l) refl

mark_parts : (numbers : Result Cell WordFault) (last : Result ℕ WordFault) (head : Cell) (line : ℕ)
    → (numbers >>= λ h. (last >>= λ l. Ok (pair h l))) ≡ Ok (pair head line)
    → (numbers ≡ Ok head) × (last ≡ Ok line)
mark_parts (Ok h) (Ok l) head line same =
    let both : pair h l ≡ pair head line = cc in
    (ap (λ (e : Cell × ℕ). Ok e.0) both, ap (λ (e : Cell × ℕ). Ok e.1) both)
mark_parts (Ok h) (Err fault) head line same = absurd cc
mark_parts (Err fault) last head line same = absurd cc

abbrev word_by : Bool → Result (Unit {0}) WordFault
word_by test = cond test (Ok tt) (Err Word)

fixed_is : {A : Type 0} (word fixed : List ℕ) (test : Bool) (rest : Result A WordFault) (x : A)
    → bytes_eq word fixed ≡ test → (word_by test >>= λ end. rest) ≡ Ok x
    → (word ≡ fixed) × (rest ≡ Ok x)
fixed_is word fixed true rest x is same = ((bytes_eq-Decides word fixed).0 is, same)
fixed_is word fixed false rest x is same = absurd cc

mark_takes : (ws : List (List ℕ)) (m : Mark) → mark_spelled ws ≡ Ok (pair (head_of m) m.line)
    → mark_list m ≡ ws
unfolding mark_spelled three_words
mark_takes (name ∷ x ∷ y ∷ z ∷ l ∷ []) m same =
    let named =
    fixed_is name (codes "mark") (bytes_eq name (codes "mark")) _
    (pair (head_of m) m.line) refl same in
    let parts =
    mark_parts (three_numbers (exact (2 ^ 32)) (x, y, z)) (number_by (exact (2 ^ 32)) l)
    (head_of m) m.line named.1 in
    let numbers : IsWords (head_of m) x y z = numbers_take x y z (head_of m) parts.0 in
    let line : IsWord m.line l = number_takes l m.line parts.1 in
    let e = named.0 in
    let ex = numbers.0.0 in
    let ey = numbers.1.0 in
    let ez = numbers.2.0 in
    let el = line.0 in
    cc
mark_takes _ m same = absurd cc

mark_read : (count least : ℕ) (m : Mark) → count ≤ 65535 → IsNextMark count least m
    → mark_spelled (mark_list m) ≡ Ok (pair (head_of m) m.line)
mark_read count least m few is =
    mark_again m (omega (arith, is.1), omega (arith, is.1), omega (arith, is.1)) (is.1.3)

pub no_mark : (count least : ℕ) (ws : List (List ℕ)) (fault : WordFault) → count ≤ 65535
    → mark_spelled ws ≡ Err fault → (m : Mark) → IsNextMark count least m → mark_list m ≡ ws → ⊥
no_mark count least ws fault few read m is same =
    (let again = mark_read count least m few is in let moved = ap mark_spelled same in let wrong : Ok (pair (head_of m) m.line) ≡ Err fault = sym again ∙ moved ∙ read in cc)

pub other_mark : (count least : ℕ) (ws : List (List ℕ)) (head : Cell) (line : ℕ) → count ≤ 65535
    → mark_spelled ws ≡ Ok (head, line)
    → (least ≤ head.x → head.x < head.y → head.y ≤ count → head.z < 64 → ⊥)
    → (m : Mark) → IsNextMark count least m → mark_list m ≡ ws → ⊥
other_mark count least ws head line few read other m is same =
    let both : Ok (pair (head_of m) m.line) ≡ Ok (pair head line) =
    sym (mark_read count least m few is) ∙ ap mark_spelled same ∙ read in
    let one : pair (head_of m) m.line ≡ pair head line = cc in
    let at : head_of m ≡ head = ap (λ (e : Cell × ℕ). e.0) one in
    let x : m.version ≡ head.x = ap (λ (c : Cell). c.x) at in
    let y : m.at ≡ head.y = ap (λ (c : Cell). c.y) at in
    let z : m.session ≡ head.z = ap (λ (c : Cell). c.z) at in
    other (omega (arith, is.0)) (omega (arith, is.1)) (omega (arith, is.1)) (omega (arith, is.1))

pub this_mark : (ws : List (List ℕ)) (head : Cell) (line : ℕ) (m : Mark)
    → mark_spelled ws ≡ Ok (head, line) → head ≡ cell_at m.version m.at m.session → m.line ≡ line
    → mark_list m ≡ ws
this_mark ws head line m read same same_line =
    let e : pair head line ≡ pair (head_of m) m.line =
    ap (λ (h : Cell). pair h line) same ∙ ap (λ (l : ℕ). pair (head_of m) l) (sym same_line) in
    mark_takes ws m (read ∙ ap (λ (p : Cell × ℕ). Ok p) e)

pub mark_by : (count least : ℕ) (ws : List (List ℕ)) (head : Cell) (line : ℕ) (read : Option Mark)
    → count ≤ 65535 → mark_spelled ws ≡ Ok (head, line)
    → MatchOption read (least ≤ head.x → head.x < head.y → head.y ≤ count → head.z < 64 → ⊥)
    (λ m. IsNextMark count least m × (head ≡ cell_at m.version m.at m.session)
    × (m.line ≡ line))
    → Reads (IsNextMark count least) mark_list ws read
mark_by count least ws head line None few spelled other =
    other_mark count least ws head line few spelled other
mark_by count least ws head line (Some m) few spelled is =
    (is.0, this_mark ws head line m spelled is.1 is.2)

pub marks_once : (count least other : ℕ) (a b : Mark) → count ≤ 65535 → IsNextMark count least a
    → IsNextMark count other b → mark_list a ≡ mark_list b → a ≡ b
marks_once count least other a b few is_a is_b same =
    let both : Ok (pair (head_of a) a.line) ≡ Ok (pair (head_of b) b.line) =
    sym (mark_read count least a few is_a) ∙ ap mark_spelled same
    ∙ mark_read count other b few is_b in
    let one : pair (head_of a) a.line ≡ pair (head_of b) b.line = cc in
    ap (λ (e : Cell × ℕ). record { version = e.0.x; at = e.0.y; session = e.0.z; line = e.1 }) one

-- ---- the side

pub side_small : (exponent : ℕ) → exponent ≤ 12 → 2 ^ exponent ≤ 4096
side_small exponent few = let bound : 2 ^ exponent ≤ 2 ^ 12 = pow_mono few in bound

pub world_small : (coloured : Bool) (exponent : ℕ) → exponent ≤ 12
    → journal_side coloured exponent < 2 ^ 32
world_small false exponent few = let small = side_small exponent few in omega (arith, small)
world_small true exponent few = let small = side_small exponent few in omega (arith, small)

side_again : (coloured : Bool) (exponent : ℕ) → exponent ≤ 12
    → side_spelled (side_list coloured exponent) ≡ Ok (journal_side coloured exponent)
unfolding side_spelled
side_again coloured exponent few =
    let again =
    exact_again (2 ^ 32) (journal_side coloured exponent) (lit≤ tt)
    (world_small coloured exponent few) in
    rw again refl

side_takes : (ws : List (List ℕ)) (n : ℕ) → side_spelled ws ≡ Ok n
    → codes "side" ∷ decimal n ∷ [] ≡ ws
unfolding side_spelled
side_takes (name ∷ number ∷ []) n same =
    let named =
    fixed_is name (codes "side") (bytes_eq name (codes "side"))
    (number_by (exact (2 ^ 32)) number) n refl same in
    let word = number_takes number n named.1 in
    let e = named.0 in
    let en = word.0 in
    cc
side_takes _ n same = absurd cc

sides_are : (exponent : ℕ) → 2 ≤ exponent → exponent ≤ 12 → IsTrue (is_side (2 ^ exponent))
sides_are zero low high = absurd (omega arith)
sides_are (suc zero) low high = absurd (omega arith)
sides_are (suc (suc zero)) low high = refl
sides_are (suc (suc (suc zero))) low high = refl
sides_are (suc (suc (suc (suc zero)))) low high = refl
sides_are (suc (suc (suc (suc (suc zero))))) low high = refl
sides_are (suc (suc (suc (suc (suc (suc zero)))))) low high = refl
sides_are (suc (suc (suc (suc (suc (suc (suc zero))))))) low high = refl
sides_are (suc (suc (suc (suc (suc (suc (suc (suc zero)))))))) low high = refl
sides_are (suc (suc (suc (suc (suc (suc (suc (suc (suc zero))))))))) low high = refl
sides_are (suc (suc (suc (suc (suc (suc (suc (suc (suc (suc zero)))))))))) low high = refl
sides_are (suc (suc (suc (suc (suc (suc (suc (suc (suc (suc (suc zero))))))))))) low high = refl
sides_are (suc (suc (suc (suc (suc (suc (suc (suc (suc (suc (suc (suc zero)))))))))))) low high =
    refl
sides_are (suc
    (suc (suc (suc (suc (suc (suc (suc (suc (suc (suc (suc (suc more))))))))))))) low high =
    absurd (omega arith)

-- a quarter of a side
quarter_is : (m : ℕ) → 2 ^ suc (suc m) / 4 ≡ 2 ^ m
quarter_is m = let whole = pow-suc 2 (suc m) in let half = pow-suc 2 m in omega (arith, whole, half)

pub whole_again : (exponent : ℕ) → 4 ≤ exponent → 4 * (2 ^ exponent / 4) ≡ 2 ^ exponent
whole_again zero low = absurd (omega arith)
whole_again (suc zero) low = absurd (omega arith)
whole_again (suc (suc m)) low =
    let whole = pow-suc 2 (suc m) in let half = pow-suc 2 m in omega (arith, whole, half)

pub world_is_side : (exponent n : ℕ) → 4 ≤ exponent → exponent ≤ 12 → n ≡ 2 ^ exponent / 4
    → IsTrue (is_side n)
world_is_side zero n low high same = absurd (omega arith)
world_is_side (suc zero) n low high same = absurd (omega arith)
world_is_side (suc (suc m)) n low high same =
    subst (λ (k : ℕ). IsTrue (is_side k)) (sym (same ∙ quarter_is m))
    (sides_are m (omega arith) (omega arith))

pub quarter_is_side : (side e cells : ℕ) → 4 ≤ side → e ≡ side → (2 ≤ e) × (e ≤ 12)
    → cells ≡ 2 ^ side → IsTrue (is_side (cells / 4))
quarter_is_side side e cells low same few is =
    world_is_side side (cells / 4) low (omega (arith, same, few)) (ap (λ (n : ℕ). n / 4) is)

pub no_world_side : (coloured : Bool) (n : ℕ) → (IsTrue (is_side n) → ⊥) → (exponent : ℕ)
    → IsSide coloured exponent → journal_side coloured exponent ≡ n → ⊥
no_world_side false n none exponent is same =
    none (subst (λ (k : ℕ). IsTrue (is_side k)) same (sides_are exponent is.0 is.1))
no_world_side true n none exponent is same =
    none (world_is_side exponent n (is.2 refl) is.1 (sym same))

pub no_store_side : (world n : ℕ) → n ≡ 2 ^ world → (IsTrue (is_side (4 * n)) → ⊥) → (exponent : ℕ)
    → IsSide true exponent → journal_side true exponent ≡ 2 ^ world → ⊥
no_store_side world n cells none exponent is same =
    let whole = whole_again exponent (is.2 refl) in
    let e : 2 ^ exponent ≡ 4 * n = omega (arith, whole, same, cells) in
    none (subst (λ (k : ℕ). IsTrue (is_side k)) e (sides_are exponent is.0 is.1))

not_low : (world s : ℕ) → 2 ≤ world → 2 ^ s ≡ 4 * 2 ^ world → s < 4 → ⊥
not_low world s low same less =
    let up : 2 ^ 2 ≤ 2 ^ world = pow_mono low in
    let few : s ≤ 3 = omega arith in
    let most : 2 ^ s ≤ 2 ^ 3 = pow_mono few in
    omega (arith, up, most, same)

pub store_side_is : (world s n : ℕ) → 2 ≤ world → 2 ≤ s → s ≤ 12 → n ≡ 2 ^ world → 2 ^ s ≡ 4 * n
    → IsSide true s × (journal_side true s ≡ 2 ^ world)
store_side_is world s n low some few cells same =
    let e : 2 ^ s ≡ 4 * 2 ^ world = omega (arith, cells, same) in
    let four : 4 ≤ s = elim (cases_lt s 4) [
      | inl less ↦ absurd (not_low world s low e less)
      | inr more ↦ more
    ] in
    ((some, few, λ _. four), omega (arith, e))

pub no_side : (coloured : Bool) (ws : List (List ℕ)) (fault : WordFault)
    → side_spelled ws ≡ Err fault → (exponent : ℕ) → IsSide coloured exponent
    → side_list coloured exponent ≡ ws → ⊥
no_side coloured ws fault read exponent is same =
    (let again = side_again coloured exponent is.1 in let moved = ap side_spelled same in let wrong : Ok (journal_side coloured exponent) ≡ Err fault = sym again ∙ moved ∙ read in cc)

pub other_side : (coloured : Bool) (ws : List (List ℕ)) (n : ℕ) → side_spelled ws ≡ Ok n
    → ((exponent : ℕ) → IsSide coloured exponent → journal_side coloured exponent ≡ n → ⊥)
    → (exponent : ℕ) → IsSide coloured exponent → side_list coloured exponent ≡ ws → ⊥
other_side coloured ws n read other exponent is same =
    let both : Ok (journal_side coloured exponent) ≡ Ok n =
    sym (side_again coloured exponent is.1) ∙ ap side_spelled same ∙ read in
    other exponent is cc

pub this_side : (coloured : Bool) (ws : List (List ℕ)) (n exponent : ℕ) → side_spelled ws ≡ Ok n
    → journal_side coloured exponent ≡ n → side_list coloured exponent ≡ ws
this_side coloured ws n exponent read same =
    ap (λ (k : ℕ). codes "side" ∷ decimal k ∷ []) same ∙ side_takes ws n read

whole_sides : (coloured : Bool) (a b : ℕ) → IsSide coloured a → IsSide coloured b
    → journal_side coloured a ≡ journal_side coloured b → 2 ^ a ≡ 2 ^ b
whole_sides false a b is_a is_b same = same
whole_sides true a b is_a is_b same =
    let of_a = whole_again a (is_a.2 refl) in
    let of_b = whole_again b (is_b.2 refl) in
    omega (arith, of_a, of_b, same)

pub sides_once : (coloured : Bool) (a b : ℕ) → IsSide coloured a → IsSide coloured b
    → side_list coloured a ≡ side_list coloured b → 2 ^ a ≡ 2 ^ b
sides_once coloured a b is_a is_b same =
    let both : Ok (journal_side coloured a) ≡ Ok (journal_side coloured b) =
    sym (side_again coloured a is_a.1) ∙ ap side_spelled same ∙ side_again coloured b is_b.1 in
    let e : journal_side coloured a ≡ journal_side coloured b = cc in
    whole_sides coloured a b is_a is_b e
