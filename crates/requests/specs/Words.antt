-- The words after the program's name, and what they ask for.
use Rattle.std.specs.Prelude.{ℕ, ◌^◌, ◌==◌, ◌&&◌, not, nat_le, if◌then◌else◌, List, [], ◌∷◌, Bool, true, false, find, length, replicate, Option, Some, None, Result, Ok, Err, codes}
use Rattle.std.specs.List.{list_all}
use Rattle.std.specs.Str.{bytes_eq}
use Rattle.script.specs.declared.faults.ScriptKind.{ScriptKind}
use Rattle.script.specs.Numbers.{number_of}
use Rattle.node_words.specs.Plans.{Layout, is_number_of_buckets, is_cap, usual_buckets}
use Rattle.requests.specs.command_line.Parts.{LineTexts, is_operand, parts_of, line_texts, are_of_a_run}
use Rattle.requests.specs.Orders.{allowed_buckets}
use Rattle.history_model.specs.Logs.{store_exponent}
use Rattle.history_model.specs.declared.questions.Question.{Question}
use Rattle.requests.specs.Questions.{question_in}
use Rattle.requests.specs.declared.orders.Request.{Request}
use Rattle.requests.specs.declared.orders.Request.TheVariants.{Count, Run, Demo, Flood, Scene, Dag, Look, Audit}

-- `count FILE`
abbrev pub counted : List (List ℕ) → Option Request
counted (file ∷ []) = if is_operand file then Some (Count file) else None
counted _ = None

-- a number of 1 to 6 digits, as a word
abbrev pub ok_number : Result ℕ ScriptKind → Option ℕ
ok_number (Ok n) = Some n
ok_number (Err kind) = None

abbrev pub short_number : List ℕ → Option ℕ
short_number word = if nat_le (length word) 6 then ok_number (number_of word) else None

-- the exponent of a side from 4 to 4,096
abbrev pub exponent_of : ℕ → Option ℕ
exponent_of n = find (λ e. 2 ^ e == n) (2 ∷ 3 ∷ 4 ∷ 5 ∷ 6 ∷ 7 ∷ 8 ∷ 9 ∷ 10 ∷ 11 ∷ 12 ∷ [])

-- a plan with as many buckets on each level, or with the usual ones, where the numbers are in their
-- ranges
abbrev pub checked_plan : ℕ → Option ℕ → ℕ → Option Layout
checked_plan side None cap =
    if is_cap cap then Some (record { side = side; buckets = usual_buckets; cap = cap }) else None
checked_plan side (Some buckets) cap =
    if is_number_of_buckets buckets && is_cap cap
    then Some (record { side = side; buckets = replicate 11 buckets; cap = cap }) else None

-- ---- the words of `run`

-- the exponent of the world's side that a run's words tell: 8, that of a side of 256, where they
-- give none
abbrev pub side_read : Option ℕ → Option ℕ
side_read None = None
side_read (Some n) = exponent_of n

abbrev pub side_or_default : Option (List ℕ) → Option ℕ
side_or_default None = Some 8
side_or_default (Some word) = side_read (short_number word)

-- the exponent of the side of the store that keeps a world of this side, whose cells have tints or
-- not: with tints the store has four times the side, so that the world's is 1,024 at most
abbrev pub store_of : Bool → ℕ → Option ℕ
store_of false side = Some side
store_of true side = if nat_le side 10 then Some (store_exponent true side) else None

abbrev pub store_of_option : Bool → Option ℕ → Option ℕ
store_of_option tint None = None
store_of_option tint (Some side) = store_of tint side

-- the cap is 128 where the words give none
abbrev pub cap_or_default : Option (List ℕ) → Option ℕ
cap_or_default None = Some 128
cap_or_default (Some word) = short_number word

-- the usual buckets stand where the words give no number of them
abbrev pub plan_by_number : ℕ → Option ℕ → ℕ → Option Layout
plan_by_number side None cap = None
plan_by_number side (Some buckets) cap = checked_plan side (Some buckets) cap

abbrev pub plan_by_word : ℕ → Option (List ℕ) → ℕ → Option Layout
plan_by_word side None cap = checked_plan side None cap
plan_by_word side (Some word) cap = plan_by_number side (short_number word) cap

abbrev pub plan_of_options : Option ℕ → Option (List ℕ) → Option ℕ → Option Layout
plan_of_options (Some side) buckets (Some cap) = plan_by_word side buckets cap
plan_of_options side buckets cap = None

abbrev pub plan_of_line : LineTexts → Option Layout
plan_of_line line =
    plan_of_options (store_of_option line.colours (side_or_default line.side)) line.buckets
    (cap_or_default line.cap)

-- how many last versions alone are held: from 1 to 65,535, and all, told by 0, where the words give
-- no number of them
abbrev pub keep_of : Option ℕ → Option ℕ
keep_of None = None
keep_of (Some n) = if nat_le 1 n && nat_le n 65535 then Some n else None

abbrev pub keep_or_default : Option (List ℕ) → Option ℕ
keep_or_default None = Some 0
keep_or_default (Some word) = keep_of (short_number word)

-- the first operand is the VOX file, and the others are the scripts
abbrev pub run_named : Layout → ℕ → LineTexts → List (List ℕ) → Option Request
run_named plan keep line [] = None
run_named plan keep line (file ∷ scripts) = Some (Run (record {
  plan = plan;
  tint = line.colours;
  keep = keep;
  journal = line.journal;
  report = line.report;
  file = file;
  scripts = scripts;
}))

abbrev pub run_planned : Option Layout → Option ℕ → LineTexts → Option Request
run_planned (Some plan) (Some keep) line = run_named plan keep line line.operands
run_planned plan keep line = None

-- the texts of the words behind `run`, where they can stand there
abbrev pub run_texts : List (List ℕ) → Option LineTexts
run_texts words =
    let parts = parts_of words in
    if are_of_a_run parts then Some (line_texts parts) else None

abbrev pub parse_run : Option LineTexts → Option Request
parse_run None = None
parse_run (Some line) = run_planned (plan_of_line line) (keep_or_default line.keep) line

-- the same of all words, where they are those of `run`
abbrev pub run_line_texts : List (List ℕ) → Option LineTexts
run_line_texts [] = None
run_line_texts (command ∷ others) =
    if bytes_eq command (codes "run") then run_texts others else None

-- `demo N`
abbrev pub demo_of : Option ℕ → Option Request
demo_of None = None
demo_of (Some n) = Some (Demo n)

abbrev pub demo_words : List (List ℕ) → Option Request
demo_words (number ∷ []) = demo_of (short_number number)
demo_words _ = None

-- `flood FILE m x y z OUT`, each number of 1 to 6 digits
abbrev pub flood_with : List ℕ → Option ℕ → Option ℕ → Option ℕ → Option ℕ → List ℕ
    → Option Request
flood_with file (Some m) (Some x) (Some y) (Some z) out = Some (Flood (record {
  file = file;
  model = m;
  x = x;
  y = y;
  z = z;
  out = out;
}))
flood_with file m x y z out = None

abbrev pub flood_words : List (List ℕ) → Option Request
flood_words (file ∷ m ∷ x ∷ y ∷ z ∷ out ∷ []) =
    if is_operand file && (is_operand out && not (bytes_eq file out))
    then flood_with file (short_number m) (short_number x) (short_number y) (short_number z) out
    else None
flood_words _ = None

-- `scene FILE OUT SCRIPT`, no two of which are one name
abbrev pub scene_words : List (List ℕ) → Option Request
scene_words (file ∷ out ∷ script ∷ []) =
    if is_operand file && (is_operand out && (is_operand script && (not (bytes_eq file out)
    && (not (bytes_eq file script) && not (bytes_eq out script)))))
    then Some (Scene (record { file = file; out = out; script = script })) else None
scene_words _ = None

-- `dag FILE JOURNAL OUT`, of which the last is no name of the others
abbrev pub dag_words : List (List ℕ) → Option Request
dag_words (file ∷ journal ∷ out ∷ []) =
    if is_operand file && (is_operand journal && (is_operand out && (not (bytes_eq file out)
    && not (bytes_eq journal out))))
    then Some (Dag (record { file = file; journal = journal; out = out })) else None
dag_words _ = None

-- `audit FILE JOURNAL SCRIPT ..`, with 1 to 64 scripts
abbrev pub is_number_of_scripts : ℕ → Bool
is_number_of_scripts n = nat_le 1 n && nat_le n 64

abbrev pub audit_of : Option ℕ → ℕ → List (List ℕ) → Option Request
audit_of buckets keep (file ∷ journal ∷ scripts) =
    if list_all is_operand (file ∷ journal ∷ scripts) && is_number_of_scripts (length scripts)
    then Some (Audit (record {
      buckets = buckets;
      keep = keep;
      file = file;
      journal = journal;
      scripts = scripts;
    }))
    else None
audit_of buckets keep _ = None

-- the number of buckets that a word tells, from 1 to 4,096
abbrev pub buckets_of : Option ℕ → Option ℕ
buckets_of None = None
buckets_of (Some n) = allowed_buckets n

-- behind `--buckets b` and `--keep k`
abbrev pub audit_by : Option ℕ → Option ℕ → List (List ℕ) → Option Request
audit_by (Some buckets) (Some keep) words = audit_of (Some buckets) keep words
audit_by buckets keep words = None

-- behind one of them, the other may stand
abbrev pub audit_judged : Option ℕ → List (List ℕ) → Option Request
audit_judged None words = None
audit_judged (Some buckets) (option ∷ number ∷ others) =
    if bytes_eq option (codes "--keep")
    then audit_by (Some buckets) (keep_of (short_number number)) others
    else audit_of (Some buckets) 0 (option ∷ number ∷ others)
audit_judged (Some buckets) _ = None

abbrev pub audit_kept : Option ℕ → List (List ℕ) → Option Request
audit_kept None words = None
audit_kept (Some keep) (option ∷ number ∷ others) =
    if bytes_eq option (codes "--buckets")
    then audit_by (buckets_of (short_number number)) (Some keep) others
    else audit_of None keep (option ∷ number ∷ others)
audit_kept (Some keep) _ = None

-- where `--buckets b` doesn't come first
abbrev pub audit_unjudged : List (List ℕ) → Option Request
audit_unjudged (option ∷ number ∷ others) =
    if bytes_eq option (codes "--keep")
    then audit_kept (keep_of (short_number number)) others
    else audit_of None 0 (option ∷ number ∷ others)
audit_unjudged _ = None

-- `audit [--buckets b] [--keep k] FILE JOURNAL SCRIPT ..`, the options in either order
abbrev pub audit_words : List (List ℕ) → Option Request
audit_words (option ∷ number ∷ others) =
    if bytes_eq option (codes "--buckets")
    then audit_judged (buckets_of (short_number number)) others
    else audit_unjudged (option ∷ number ∷ others)
audit_words _ = None

-- `look DAG v` and a question; the version has 1 to 6 digits
abbrev pub look_with : List ℕ → Option ℕ → Option Question → Option Request
look_with dag (Some version) (Some question) =
    Some (Look (record { dag = dag; version = version; question = question }))
look_with dag version question = None

abbrev pub look_words : List (List ℕ) → Option Request
look_words (dag ∷ version ∷ name ∷ numbers) =
    if is_operand dag then look_with dag (short_number version) (question_in name numbers)
    else None
look_words _ = None

-- what the words ask for, where they are in the grammar: `count FILE`; `demo N`;
-- `flood FILE m x y z OUT`; `scene FILE OUT SCRIPT`; `dag FILE JOURNAL OUT`;
-- `look DAG v` and a question; `audit [--buckets b] [--keep k] FILE JOURNAL SCRIPT ..`;
-- or `run`, and behind it in any order FILE SCRIPT .. and at most once each `--side s`,
-- `--buckets b`, `--cap c`, `--keep k`, `--journal J`, `--report P` and `--colours`
abbrev pub named_request : List ℕ → List (List ℕ) → Option Request
named_request command others =
    if bytes_eq command (codes "count") then counted others
    else (if bytes_eq command (codes "run") then parse_run (run_texts others)
    else (if bytes_eq command (codes "demo") then demo_words others
    else (if bytes_eq command (codes "flood") then flood_words others
    else (if bytes_eq command (codes "scene") then scene_words others
    else (if bytes_eq command (codes "dag") then dag_words others
    else (if bytes_eq command (codes "look") then look_words others
    else (if bytes_eq command (codes "audit") then audit_words others else None)))))))

abbrev pub request_of : List (List ℕ) → Option Request
request_of [] = None
request_of (command ∷ others) = named_request command others
