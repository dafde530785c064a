-- The rows of the words of a run are those of their parts.
use Rattle.std.proofs.Common.{◌≡◌, ℕ, ◌+◌, ◌<◌, ◌==◌, Bool, true, false, List, [], ◌∷◌, ◌++◌, length, drop, get_or, codes, refl, sym, ap, subst, ◌∙◌, arith, inl, inr, ◌⊎◌}
use Rattle.std.specs.Prelude.{fold, ◌||◌, ◌&&◌, if◌then◌else◌}
use Rattle.std.specs.List.{list_all, before_first, after_first, position_or_len}
use Rattle.std.specs.Str.{bytes_eq}
use Rattle.std.proofs.lemmas.Slice.Eq.{bytes_eq-Decides}
use Rattle.std.proofs.lemmas.Bool.{and_parts, cases_order}
use Rattle.std.proofs.lemmas.Bool.Decides.{nat_tests}
use Rattle.std.proofs.lemmas.List.{drop_all}
use Rattle.std.proofs.lemmas.List.Sums.{split_at_first, passes_at_first}
use Rattle.clap.specs.Walk.{Held, Row, Text, Walk, walked}
use Rattle.requests.specs.command_line.Parts.{Part, Operand, Gives, Colours, NoPart, is_flag, is_operand, is_option, is_part, option_with, behind_equals, word_alone, parts_of}
use Rattle.requests.proofs.OfCommandLine.Walking.{rules, rows_held, with_operand, with_option, with_flag, at, holding, joined_held, flagged, flag_met, Meets, operand_met, operand_held, side_meets, buckets_meets, cap_meets, keep_meets, journal_meets, report_meets}

-- what parts put into the rows
abbrev pub rows_by : List Part → List Row → List Row
rows_by [] rows = rows
rows_by (Operand text ∷ parts) rows = rows_by parts (with_operand text rows)
rows_by (Gives option value ∷ parts) rows = rows_by parts (with_option option value rows)
rows_by (Colours ∷ parts) rows = rows_by parts (with_flag rows)
rows_by (NoPart ∷ parts) rows = rows_by parts rows

rows_then : (part : Part) (parts : List Part) (rows : List Row)
    → rows_by (part ∷ parts) rows ≡ rows_by parts (rows_by (part ∷ []) rows)
rows_then (Operand text) parts rows = refl
rows_then (Gives option value) parts rows = refl
rows_then Colours parts rows = refl
rows_then NoPart parts rows = refl

-- ---- the options

named : (option word : Text) → Meets option → bytes_eq option word ≡ true → Meets word
named option word meets same = subst Meets ((bytes_eq-Decides option word).0 same) meets

one_of : (word : Text) (a b c d e f : Bool) → (a ≡ true → Meets word) → (b ≡ true → Meets word)
    → (c ≡ true → Meets word) → (d ≡ true → Meets word) → (e ≡ true → Meets word)
    → (f ≡ true → Meets word)
    → a || (b || (c || (d || (e || (f || false))))) ≡ true → Meets word
one_of word true b c d e f of_a of_b of_c of_d of_e of_f is = of_a refl
one_of word false true c d e f of_a of_b of_c of_d of_e of_f is = of_b refl
one_of word false false true d e f of_a of_b of_c of_d of_e of_f is = of_c refl
one_of word false false false true e f of_a of_b of_c of_d of_e of_f is = of_d refl
one_of word false false false false true f of_a of_b of_c of_d of_e of_f is = of_e refl
one_of word false false false false false true of_a of_b of_c of_d of_e of_f is = of_f refl
one_of word false false false false false false of_a of_b of_c of_d of_e of_f is =
    absurd (let bad : false ≡ true = is in cc)

pub option_meets : (word : Text) → is_option word ≡ true → Meets word
option_meets word is =
    one_of word (bytes_eq (codes "--side") word) (bytes_eq (codes "--buckets") word) (bytes_eq (codes "--cap") word) (bytes_eq (codes "--keep") word) (bytes_eq (codes "--journal") word) (bytes_eq (codes "--report") word)
    (named (codes "--side") word side_meets) (named (codes "--buckets") word buckets_meets) (named (codes "--cap") word cap_meets) (named (codes "--keep") word keep_meets) (named (codes "--journal") word journal_meets) (named (codes "--report") word report_meets) is

-- ---- a word that is cut at `=`

abbrev is_equals : ℕ → Bool
is_equals = λ b. b == 61

word_cut : (word : Text) (first : ℕ) (others : Text) → after_first is_equals word ≡ first ∷ others
    → word ≡ before_first is_equals word ++ 61 ∷ first ∷ others
word_cut word first others cut = go (cases_order (position_or_len is_equals word) (length word))
  where
    go : (position_or_len is_equals word ≡ length word)
        ⊎
        ((position_or_len is_equals word < length word)
        ⊎ (length word < position_or_len is_equals word)) → word
        ≡ before_first is_equals word ++ 61 ∷ first ∷ others
    go (inl same) = absurd
        (let none : drop (position_or_len is_equals word + 1) word
        ≡ [] = drop_all (position_or_len is_equals word + 1) word
        (omega (arith, same)) in let bad : first ∷ others ≡ [] = sym cut ∙ none in cc)
    go (inr (inr over)) = absurd
        (let none : drop (position_or_len is_equals word + 1) word
        ≡ [] = drop_all (position_or_len is_equals word + 1) word
        (omega (arith, over)) in let bad : first ∷ others ≡ [] = sym cut ∙ none in cc)
    go (inr (inl inside)) =
        let passes : (get_or word (position_or_len is_equals word) 0 == 61) ≡ true = passes_at_first is_equals word 0 inside in
        let is : get_or word (position_or_len is_equals word) 0 ≡ 61 = grind (arith, nat_tests) in
        split_at_first is_equals word 0 inside
        ∙ ap (λ b. before_first is_equals word ++ b ∷ after_first is_equals word) is
        ∙ ap (λ rest. before_first is_equals word ++ 61 ∷ rest) cut

-- ---- a word alone

pub record Goes (behind : Bool) (h : Held) (word : Text) (part : Part) : Type 0 where
  pub to : Bool
  pub held : Held
  pub walks : walked rules [] (at behind h) word ≡ at to held
  pub puts : rows_held held ≡ rows_by (part ∷ []) (rows_held h)

joined_goes : (behind : Bool) (h : Held) (word option : Text) (value : Text)
    → ((first : ℕ) (others : Text) → value ≡ first ∷ others → word ≡ option ++ 61 ∷ first ∷ others)
    → is_part (behind_equals option value) ≡ true → Goes behind h word (behind_equals option value)
joined_goes behind h word option [] cut part = absurd (let bad : false ≡ true = part in cc)
joined_goes behind h word option (first ∷ others) cut part = go (is_option option) refl part
  where
    go : (b : Bool) → is_option option ≡ b
        → is_part (if b then Gives option (first ∷ others) else NoPart) ≡ true
        → Goes behind h word (if is_option option then Gives option (first ∷ others) else NoPart)
    go false is right = absurd (let bad : false ≡ true = right in cc)
    go true is right = rw is (record {
      to = false;
      held = joined_held option (first ∷ others) h;
      walks = ap (walked rules [] (at behind h)) (cut first others refl)
          ∙ (option_meets option is).behind_equals behind h (first ∷ others);
      puts = refl;
    })

alone_goes : (behind : Bool) (h : Held) (word : Text) → is_part (word_alone word) ≡ true
    → Goes behind h word (word_alone word)
alone_goes behind h word part = go (is_operand word) (is_flag word) refl refl part
  where
    go : (b f : Bool) → is_operand word ≡ b → is_flag word ≡ f
        → is_part
        (if b then Operand word
        else (if f then Colours
        else behind_equals (before_first is_equals word) (after_first is_equals word)))
        ≡ true
        → Goes behind h word
        (if is_operand word then Operand word
        else (if is_flag word then Colours
        else behind_equals (before_first is_equals word) (after_first is_equals word)))
    go true f is flag right = rw is (record { to = true; held = holding (codes "operands") word h; walks = operand_met behind h word is; puts = operand_held h word })
    go false true is flag right = rw (is, flag) (record {
      to = false;
      held = flagged h;
      walks = ap (walked rules [] (at behind h)) (sym ((bytes_eq-Decides (codes "--colours") word).0 flag)) ∙ flag_met behind h;
      puts = refl;
    })
    go false false is flag right = rw (is, flag)
        (joined_goes behind h word (before_first is_equals word) (after_first is_equals word)
        (word_cut word) right)

-- ---- all words

front : (a b : Bool) → a && b ≡ true → (a ≡ true) × (b ≡ true)
front a b both = and_parts a b both

pub walk_rows : (words : List Text) → list_all is_part (parts_of words) ≡ true
    → (behind : Bool) (h : Held)
    → rows_held (fold (walked rules []) (at behind h) words).held ≡ rows_by (parts_of words)
    (rows_held h)
walk_rows [] right behind h = refl
walk_rows (word ∷ []) right behind h = go (is_option word) refl right
  where
    go : (b : Bool) → is_option word ≡ b
        → is_part (if b then NoPart else word_alone word) && true ≡ true
        → rows_held (walked rules [] (at behind h) word).held ≡ rows_by
        ((if is_option word then NoPart else word_alone word) ∷ []) (rows_held h)
    go true is part = absurd (let bad : false ≡ true = part in cc)
    go false is part =
        let goes = alone_goes behind h word (front _ _ part).0 in
        rw is (ap (λ (w : Walk). rows_held w.held) goes.walks ∙ goes.puts)
walk_rows (word ∷ next ∷ others) right behind h =
    go (is_option word) refl right (walk_rows others) (walk_rows (next ∷ others))
  where
    go : (b : Bool) → is_option word ≡ b
        → list_all is_part
        (if b then option_with word next ∷ parts_of others
        else word_alone word ∷ parts_of (next ∷ others)) ≡ true
        → (list_all is_part (parts_of others) ≡ true → (k : Bool) (g : Held)
        → rows_held (fold (walked rules []) (at k g) others).held
        ≡ rows_by (parts_of others) (rows_held g))
        → (list_all is_part (parts_of (next ∷ others)) ≡ true → (k : Bool) (g : Held)
        → rows_held (fold (walked rules []) (at k g) (next ∷ others)).held
        ≡ rows_by (parts_of (next ∷ others)) (rows_held g))
        → rows_held
        (fold (walked rules [])
        (walked rules [] (walked rules [] (at behind h) word) next) others).held
        ≡ rows_by (if is_option word then option_with word next ∷ parts_of others
        else word_alone word ∷ parts_of (next ∷ others)) (rows_held h)
    go true is all far near = valued (is_operand next) refl (front _ _ all).0
      where
        meets : Meets word
        meets = option_meets word is

        valued : (b : Bool) → is_operand next ≡ b
            → is_part (if b then Gives word next else NoPart) ≡ true
            → rows_held
            (fold (walked rules [])
            (walked rules [] (walked rules [] (at behind h) word) next) others).held
            ≡ rows_by (if is_option word then option_with word next ∷ parts_of others
            else word_alone word ∷ parts_of (next ∷ others)) (rows_held h)
        valued false can part = absurd (let bad : false ≡ true = part in cc)
        valued true can part =
            rw (is, can)
            (ap (λ (w : Walk). rows_held
            (fold (walked rules []) (walked rules [] w next) others).held) (meets.name behind h)
            ∙ ap (λ (w : Walk). rows_held (fold (walked rules []) w others).held)
            (meets.next h next can)
            ∙ far (front _ _ all).1 false (holding word next h)
            ∙ ap (rows_by (parts_of others)) (meets.held h next))
    go false is all far near =
        let parts = front _ _ all in
        let goes = alone_goes behind h word parts.0 in
        rw is
        (ap (λ (w : Walk). rows_held (fold (walked rules []) w (next ∷ others)).held) goes.walks
        ∙ near parts.1 goes.to goes.held
        ∙ ap (rows_by (parts_of (next ∷ others))) goes.puts
        ∙ sym (rows_then (word_alone word) (parts_of (next ∷ others)) (rows_held h)))
