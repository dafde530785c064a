-- A text is that of one history at most.
use Rattle.std.specs.Prelude.{◌≡◌, ℕ, suc, ◌+◌, ◌^◌, ◌<◌, ◌≤◌, Bool, List, [], ◌∷◌, ◌++◌, length, codes, refl}
use Rattle.std.proofs.Common.{ap, sym, ◌∙◌, subst, arith, append_assoc}
use Rattle.std.proofs.Math.Nat.{pow-suc}
use Rattle.std.proofs.lemmas.List.{append-nil}
use lib.Pow.{pow_mono}
use Rattle.std.specs.List.{AllByRecursion}
use Rattle.plain_text.specs.Parts.{words, lines, line_of}
use Rattle.history_model.specs.declared.histories.Record.{Record}
use Rattle.history_model.specs.declared.histories.Mark.{Mark}
use Rattle.history_model.specs.Logs.{Log}
use Rattle.history_model.specs.Journal.{journal_of}
use Rattle.history_model.specs.Entries.{IsRecord, IsSide, AreMarks, HasJournal, mark_list, side_list, record_texts, mark_texts, front_lines, last_lines}
use Rattle.history_model.proofs.MarkLaws.{marks_once, sides_once, side_small}
use Rattle.history_model.proofs.JournalLaws.{mark_words, side_words, end_words, journal_lines}
use Rattle.history_model.proofs.GoingOn.{peel_records, tail_no_record, next_is, headers_once, side_told, first, rest_of}

-- exponents
not_below : (a b : ℕ) → 2 ^ a ≡ 2 ^ b → a < b → ⊥
not_below a b same less =
    let up : suc a ≤ b = omega arith in
    let more : 2 ^ (suc a) ≤ 2 ^ b = pow_mono up in
    let low : 0 ≤ a = omega arith in
    let some : 2 ^ 0 ≤ 2 ^ a = pow_mono low in
    omega (arith, more, same, some, pow-suc 2 a)

exponents : (a b : ℕ) → 2 ^ a ≡ 2 ^ b → a ≡ b
exponents a b same =
    (let one = not_below a b same in let other = not_below b a (sym same) in omega
    (arith, one, other))

marks_same : (count least : ℕ) (a b : List Mark) → count ≤ 65535 → AreMarks count least a
    → AreMarks count least b → mark_texts a ++ last_lines ≡ mark_texts b ++ last_lines → a ≡ b
marks_same count least [] [] few of_a of_b same = refl
marks_same count least [] (m ∷ b) few of_a of_b same =
    let e : codes "end" ≡ line_of (mark_list m) = ap first same in
    let ws : codes "end" ∷ [] ≡ mark_list m =
    sym end_words ∙ ap words e ∙ mark_words count m few of_b.1 in
    absurd (let none : [] ≡ rest_of (mark_list m) = ap rest_of ws in cc)
marks_same count least (m ∷ a) [] few of_a of_b same =
    let e : codes "end" ≡ line_of (mark_list m) = ap first (sym same) in
    let ws : codes "end" ∷ [] ≡ mark_list m =
    sym end_words ∙ ap words e ∙ mark_words count m few of_a.1 in
    absurd (let none : [] ≡ rest_of (mark_list m) = ap rest_of ws in cc)
marks_same count least (m ∷ a) (n ∷ b) few of_a of_b same =
    let e : line_of (mark_list m) ≡ line_of (mark_list n) = ap first same in
    let ws : mark_list m ≡ mark_list n =
    sym (mark_words count m few of_a.1) ∙ ap words e ∙ mark_words count n few of_b.1 in
    let one : m ≡ n = marks_once count least least m n few (of_a.0, of_a.1) (of_b.0, of_b.1) ws in
    let of_more : AreMarks count (n.version + 1) a =
    subst (λ (x : Mark). AreMarks count (x.version + 1) a) one of_a.2 in
    ap (λ (x : Mark). x ∷ a) one
    ∙ ap (λ (xs : List Mark). n ∷ xs)
    (marks_same count (n.version + 1) a b few of_more of_b.2 (ap rest_of same))

abbrev log_of : ℕ → Bool → List Record → List Mark → Log
log_of side coloured records marks =
    record { side = side; coloured = coloured; records = records; marks = marks }

parts_same : (a b : Log) → a.side ≡ b.side → a.coloured ≡ b.coloured → a.records ≡ b.records
    → a.marks ≡ b.marks → a ≡ b
parts_same a b side coloured records marks =
    ap (λ (n : ℕ). log_of n a.coloured a.records a.marks) side
    ∙ ap (λ (c : Bool). log_of b.side c a.records a.marks) coloured
    ∙ ap (λ (rs : List Record). log_of b.side b.coloured rs a.marks) records
    ∙ ap (λ (ms : List Mark). log_of b.side b.coloured b.records ms) marks

-- with our records, no further one
records_same : (a b : Log) (more : List Record) → b.coloured ≡ a.coloured → HasJournal a → HasJournal b
    → b.records ≡ a.records ++ more
    → record_texts (length a.records + 1) more ++
    (mark_texts b.marks ++ last_lines) ≡ mark_texts a.marks ++ last_lines
    → (b.records ≡ a.records)
    × (mark_texts b.marks ++ last_lines ≡ mark_texts a.marks ++ last_lines)
records_same a b [] alike told told_other whole behind = (whole ∙ append-nil a.records, behind)
records_same a b (r ∷ more) alike told told_other whole behind =
    let theirs : IsRecord a.coloured b.side r = next_is a b r more alike told_other whole in
    absurd (tail_no_record (length a.records) 0 a.marks told.few told.marks _ _ a.coloured b.side
    (length a.records + 1) r (side_small b.side told_other.side.1)
    (omega (arith, told.few)) theirs (sym behind) refl)

lines_once : (a b : Log) → HasJournal a → HasJournal b
    → front_lines a ++ last_lines ≡ front_lines b ++ last_lines → a ≡ b
lines_once a b told told_other same =
    let alike : b.coloured ≡ a.coloured =
    headers_once b.coloured a.coloured (ap first (sym same)) in
    let side_line : line_of (side_list a.coloured a.side) ≡ line_of (side_list b.coloured b.side) =
    ap (λ (ls : List (List ℕ)). first (rest_of ls)) same in
    let side_ws : side_list a.coloured a.side ≡ side_list b.coloured b.side =
    sym (side_words a.coloured a.side told.side.1) ∙ ap words side_line
    ∙ side_words b.coloured b.side told_other.side.1 in
    let of_b : IsSide a.coloured b.side =
    subst (λ (c : Bool). IsSide c b.side) alike (side_told b told_other) in
    let side : a.side ≡ b.side =
    exponents a.side b.side
    (sides_once a.coloured a.side b.side (side_told a told) of_b
    (side_ws ∙ ap (λ (c : Bool). side_list c b.side) alike)) in
    let theirs : AllByRecursion (IsRecord a.coloured b.side) b.records =
    subst (λ (c : Bool). AllByRecursion
    (IsRecord c b.side) b.records) alike told_other.records in
    let entries : (record_texts 1 b.records ++ mark_texts b.marks) ++ last_lines ≡ (record_texts 1 a.records ++ mark_texts a.marks) ++ last_lines = ap (λ (ls : List (List ℕ)). rest_of (rest_of ls)) (sym same) in
    let lined : record_texts 1 b.records ++ (mark_texts b.marks ++ last_lines) ≡ record_texts 1 a.records ++ (mark_texts a.marks ++ last_lines) =
    sym (append_assoc (record_texts 1 b.records) (mark_texts b.marks) last_lines) ∙ entries
    ∙ append_assoc (record_texts 1 a.records) (mark_texts a.marks) last_lines in
    let p =
    peel_records a.coloured a.side b.side 1 (length a.records + 1) b.records a.records
    (mark_texts b.marks ++ last_lines) (mark_texts a.marks ++ last_lines) (omega arith)
    (side_small a.side told.side.1) (side_small b.side told_other.side.1)
    (omega (arith, told.few)) theirs told.records
    (tail_no_record (length b.records) 0 b.marks told_other.few told_other.marks) lined in
    let records = records_same a b p.more alike told told_other p.whole p.behind in
    let b_marks : AreMarks (length a.records) 0 b.marks =
    subst (λ (rs : List Record). AreMarks (length rs) 0 b.marks) records.0 told_other.marks in
    parts_same a b side (sym alike) (sym records.0)
    (marks_same (length a.records) 0 a.marks b.marks told.few told.marks b_marks
    (sym records.1))

-- a text is that of one history
pub journals_once : (a b : Log) → HasJournal a → HasJournal b → journal_of a ≡ journal_of b → a ≡ b
journals_once a b told told_other same =
    lines_once a b told told_other
    (sym (journal_lines a told) ∙ ap lines same ∙ journal_lines b told_other)
