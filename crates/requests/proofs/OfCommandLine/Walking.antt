-- The walk of the command over the words of a run, word after word.
use Rattle.std.proofs.Common.{◌≡◌, ◌==◌, Bool, true, false, List, [], ◌∷◌, ◌++◌, codes, Some, None, refl, ap}
use Rattle.std.specs.Prelude.{not, ◌&&◌, if◌then◌else◌}
use Rattle.clap.specs.Walk.{Held, Row, Rule, Text, Walk, idle, positional, option, walked, settled, settled_rows, with_values, without, positional_held, is_pending}
use Rattle.clap.specs.Values.{reading_of}
use Rattle.clap.specs.Simple.{built, filled, with_index}
use Rattle.clap.specs.declared.builder.value_parser.Reading.{Reading}
use Rattle.clap.specs.declared.builder.value_parser.ValueParser.TheVariants as parsers
use Rattle.clap.specs.declared.parser.matches.ValueSource.TheVariants.{CommandLine}
use Rattle.requests.specs.command_line.Parts.{is_operand}
use Rattle.requests.specs.command_line.Command.{run_app, operands_rule}

abbrev pub rules : List Rule
rules = (built run_app).top.rules

abbrev pub as_text : Reading
as_text = reading_of parsers.String

-- the rows with one more operand, and with a value of an option
abbrev pub with_operand : Text → List Row → List Row
with_operand text rows = with_values (codes "operands") as_text CommandLine (text ∷ []) rows

abbrev pub with_option : Text → Text → List Row → List Row
with_option word value rows = with_values word as_text CommandLine (value ∷ []) (without word rows)

-- the rows with the flag set
abbrev pub as_flag : Reading
as_flag = reading_of parsers.Bool

abbrev pub with_flag : List Row → List Row
with_flag rows =
    with_values (codes "--colours") as_flag CommandLine (codes "true" ∷ [])
    (without (codes "--colours") rows)

-- what is held, with the values of the last part put in their row
abbrev pub rows_held : Held → List Row
rows_held h = settled_rows rules h.pending h.rows

-- between two parts: behind an operand or not
abbrev pub at : Bool → Held → Walk
at behind h =
    record {
      held = h;
      waiting = if behind then positional
          else idle;
      position = 1;
      is_trailing = false;
      stopped = None;
    }

-- behind the word of an option
abbrev pub wants : Text → Held → Walk
wants id h =
    record {
      held = record
          (settled rules h) {
            pending = Some
                (id, []);
          };
      waiting = option id;
      position = 1;
      is_trailing = false;
      stopped = None;
    }

-- the value of a part is held
abbrev pub holding : Text → Text → Held → Held
holding id value h = record (settled rules h) { pending = Some (id, value ∷ []) }

abbrev pub joined_held : Text → Text → Held → Held
joined_held word value h = record h { rows = with_option word value (rows_held h); pending = None }

abbrev operands_built : Rule
operands_built = with_index 1 (filled operands_rule)

no_and : (b : Bool) → b && false ≡ false
no_and true = refl
no_and false = refl

operand_placed : (h : Held) (word : Text)
    → positional_held rules operands_built word h ≡ holding (codes "operands") word h
operand_placed h word = let once = no_and (is_pending operands_built h.pending) in rw once refl

pub operand_met : (behind : Bool) (h : Held) (word : Text) → is_operand word ≡ true
    → walked rules [] (at behind h) word ≡ at true (holding (codes "operands") word h)
unfolding walked
operand_met behind h [] is = absurd (let bad : false ≡ true = is in cc)
operand_met true h (first ∷ others) is = go (first == 45) refl is
  where
    go : (b : Bool) → (first == 45) ≡ b → not b ≡ true
        → walked rules [] (at true h) (first ∷ others) ≡ at true
        (holding (codes "operands") (first ∷ others) h)
    go true same other = absurd (let bad : false ≡ true = other in cc)
    go false same other = rw (same, same) (ap (at true) (operand_placed h (first ∷ others)))
operand_met false h (first ∷ others) is = go (first == 45) refl is
  where
    go : (b : Bool) → (first == 45) ≡ b → not b ≡ true
        → walked rules [] (at false h) (first ∷ others) ≡ at true
        (holding (codes "operands") (first ∷ others) h)
    go true same other = absurd (let bad : false ≡ true = other in cc)
    go false same other = rw (same, same) (ap (at true) (operand_placed h (first ∷ others)))

pub operand_held : (h : Held) (text : Text)
    → rows_held (holding (codes "operands") text h) ≡ with_operand text (rows_held h)
operand_held h text = refl

-- the flag is held
abbrev pub flagged : Held → Held
flagged h = record h { rows = with_flag (rows_held h); pending = None }

pub flag_met : (behind : Bool) (h : Held)
    → walked rules [] (at behind h) (codes "--colours") ≡ at false (flagged h)
unfolding walked
flag_met true h = refl
flag_met false h = refl

-- an option's word, and its value as the next word or behind `=`
pub record Meets (word : Text) : Type 0 where
  pub name : (behind : Bool) (h : Held) → walked rules [] (at behind h) word ≡ wants word h
  pub next : (h : Held) (value : Text) → is_operand value ≡ true
      → walked rules [] (wants word h) value ≡ at false (holding word value h)
  pub behind_equals : (behind : Bool) (h : Held) (value : Text)
      → walked rules [] (at behind h) (word ++ 61 ∷ value) ≡ at false (joined_held word value h)
  pub held : (h : Held) (value : Text)
      → rows_held (holding word value h) ≡ with_option word value (rows_held h)

side_name : (behind : Bool) (h : Held)
    → walked rules [] (at behind h) (codes "--side") ≡ wants (codes "--side") h
unfolding walked
side_name true h = refl
side_name false h = refl

side_joined : (behind : Bool) (h : Held) (value : Text)
    → walked rules [] (at behind h) (codes "--side" ++ 61 ∷ value) ≡ at false
    (joined_held (codes "--side") value h)
unfolding walked
side_joined true h value = refl
side_joined false h value = refl

side_next : (h : Held) (value : Text) → is_operand value ≡ true
    → walked rules [] (wants (codes "--side") h) value ≡ at false (holding (codes "--side") value h)
unfolding walked
side_next h [] is = absurd (let bad : false ≡ true = is in cc)
side_next h (first ∷ others) is = go (first == 45) refl is
  where
    go : (b : Bool) → (first == 45) ≡ b → not b ≡ true
        → walked rules [] (wants (codes "--side") h) (first ∷ others) ≡ at false
        (holding (codes "--side") (first ∷ others) h)
    go true same other = absurd (let bad : false ≡ true = other in cc)
    go false same other = rw (same, same) refl

pub side_meets : Meets (codes "--side")
side_meets =
    record {
      name = side_name;
      next = side_next;
      behind_equals = side_joined;
      held =
          λ h value. refl;
    }

buckets_name : (behind : Bool) (h : Held)
    → walked rules [] (at behind h) (codes "--buckets") ≡ wants (codes "--buckets") h
unfolding walked
buckets_name true h = refl
buckets_name false h = refl

buckets_joined : (behind : Bool) (h : Held) (value : Text)
    → walked rules [] (at behind h) (codes "--buckets" ++ 61 ∷ value) ≡ at false
    (joined_held (codes "--buckets") value h)
unfolding walked
buckets_joined true h value = refl
buckets_joined false h value = refl

buckets_next : (h : Held) (value : Text) → is_operand value ≡ true
    → walked rules [] (wants (codes "--buckets") h) value ≡ at false
    (holding (codes "--buckets") value h)
unfolding walked
buckets_next h [] is = absurd (let bad : false ≡ true = is in cc)
buckets_next h (first ∷ others) is = go (first == 45) refl is
  where
    go : (b : Bool) → (first == 45) ≡ b → not b ≡ true
        → walked rules [] (wants (codes "--buckets") h) (first ∷ others) ≡ at false
        (holding (codes "--buckets") (first ∷ others) h)
    go true same other = absurd (let bad : false ≡ true = other in cc)
    go false same other = rw (same, same) refl

pub buckets_meets : Meets (codes "--buckets")
buckets_meets =
    record {
      name = buckets_name;
      next = buckets_next;
      behind_equals = buckets_joined;
      held =
          λ h value. refl;
    }

cap_name : (behind : Bool) (h : Held)
    → walked rules [] (at behind h) (codes "--cap") ≡ wants (codes "--cap") h
unfolding walked
cap_name true h = refl
cap_name false h = refl

cap_joined : (behind : Bool) (h : Held) (value : Text)
    → walked rules [] (at behind h) (codes "--cap" ++ 61 ∷ value) ≡ at false
    (joined_held (codes "--cap") value h)
unfolding walked
cap_joined true h value = refl
cap_joined false h value = refl

cap_next : (h : Held) (value : Text) → is_operand value ≡ true
    → walked rules [] (wants (codes "--cap") h) value ≡ at false (holding (codes "--cap") value h)
unfolding walked
cap_next h [] is = absurd (let bad : false ≡ true = is in cc)
cap_next h (first ∷ others) is = go (first == 45) refl is
  where
    go : (b : Bool) → (first == 45) ≡ b → not b ≡ true
        → walked rules [] (wants (codes "--cap") h) (first ∷ others) ≡ at false
        (holding (codes "--cap") (first ∷ others) h)
    go true same other = absurd (let bad : false ≡ true = other in cc)
    go false same other = rw (same, same) refl

pub cap_meets : Meets (codes "--cap")
cap_meets = record {
  name = cap_name;
  next = cap_next;
  behind_equals = cap_joined;
  held =
      λ h value. refl;
}

keep_name : (behind : Bool) (h : Held)
    → walked rules [] (at behind h) (codes "--keep") ≡ wants (codes "--keep") h
unfolding walked
keep_name true h = refl
keep_name false h = refl

keep_joined : (behind : Bool) (h : Held) (value : Text)
    → walked rules [] (at behind h) (codes "--keep" ++ 61 ∷ value) ≡ at false
    (joined_held (codes "--keep") value h)
unfolding walked
keep_joined true h value = refl
keep_joined false h value = refl

keep_next : (h : Held) (value : Text) → is_operand value ≡ true
    → walked rules [] (wants (codes "--keep") h) value ≡ at false (holding (codes "--keep") value h)
unfolding walked
keep_next h [] is = absurd (let bad : false ≡ true = is in cc)
keep_next h (first ∷ others) is = go (first == 45) refl is
  where
    go : (b : Bool) → (first == 45) ≡ b → not b ≡ true
        → walked rules [] (wants (codes "--keep") h) (first ∷ others) ≡ at false
        (holding (codes "--keep") (first ∷ others) h)
    go true same other = absurd (let bad : false ≡ true = other in cc)
    go false same other = rw (same, same) refl

pub keep_meets : Meets (codes "--keep")
keep_meets =
    record {
      name = keep_name;
      next = keep_next;
      behind_equals = keep_joined;
      held =
          λ h value. refl;
    }

journal_name : (behind : Bool) (h : Held)
    → walked rules [] (at behind h) (codes "--journal") ≡ wants (codes "--journal") h
unfolding walked
journal_name true h = refl
journal_name false h = refl

journal_joined : (behind : Bool) (h : Held) (value : Text)
    → walked rules [] (at behind h) (codes "--journal" ++ 61 ∷ value) ≡ at false
    (joined_held (codes "--journal") value h)
unfolding walked
journal_joined true h value = refl
journal_joined false h value = refl

journal_next : (h : Held) (value : Text) → is_operand value ≡ true
    → walked rules [] (wants (codes "--journal") h) value ≡ at false
    (holding (codes "--journal") value h)
unfolding walked
journal_next h [] is = absurd (let bad : false ≡ true = is in cc)
journal_next h (first ∷ others) is = go (first == 45) refl is
  where
    go : (b : Bool) → (first == 45) ≡ b → not b ≡ true
        → walked rules [] (wants (codes "--journal") h) (first ∷ others) ≡ at false
        (holding (codes "--journal") (first ∷ others) h)
    go true same other = absurd (let bad : false ≡ true = other in cc)
    go false same other = rw (same, same) refl

pub journal_meets : Meets (codes "--journal")
journal_meets =
    record {
      name = journal_name;
      next = journal_next;
      behind_equals = journal_joined;
      held =
          λ h value. refl;
    }

report_name : (behind : Bool) (h : Held)
    → walked rules [] (at behind h) (codes "--report") ≡ wants (codes "--report") h
unfolding walked
report_name true h = refl
report_name false h = refl

report_joined : (behind : Bool) (h : Held) (value : Text)
    → walked rules [] (at behind h) (codes "--report" ++ 61 ∷ value) ≡ at false
    (joined_held (codes "--report") value h)
unfolding walked
report_joined true h value = refl
report_joined false h value = refl

report_next : (h : Held) (value : Text) → is_operand value ≡ true
    → walked rules [] (wants (codes "--report") h) value ≡ at false
    (holding (codes "--report") value h)
unfolding walked
report_next h [] is = absurd (let bad : false ≡ true = is in cc)
report_next h (first ∷ others) is = go (first == 45) refl is
  where
    go : (b : Bool) → (first == 45) ≡ b → not b ≡ true
        → walked rules [] (wants (codes "--report") h) (first ∷ others) ≡ at false
        (holding (codes "--report") (first ∷ others) h)
    go true same other = absurd (let bad : false ≡ true = other in cc)
    go false same other = rw (same, same) refl

pub report_meets : Meets (codes "--report")
report_meets =
    record {
      name = report_name;
      next = report_next;
      behind_equals = report_joined;
      held =
          λ h value. refl;
    }
