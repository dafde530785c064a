-- What the last line of a load's transcript tells.
use Rattle.std.proofs.Common.{◌≡◌, ℕ, suc, ◌+◌, ◌-◌, ◌≤◌, List, [], ◌∷◌, length, Option, None, Some, refl, sym, ap, subst, ◌∙◌, arith}
use Rattle.std.specs.Prelude.{All}
use Rattle.std.specs.List.{AllPairs, AllZip, slice_get}
use Rattle.std.proofs.lemmas.List.Elements.{All-nil, All-cons, All-head}
use Rattle.vw_cell.specs.declared.boxes.Boxed.{Boxed}
use Rattle.vw_cell.specs.Counts.{number_in}
use Rattle.history_model.specs.Contents.{Content}
use Rattle.node_words.specs.Plans.{Layout}
use Rattle.history_model.specs.declared.acts.Act.{Act}
use Rattle.history_model.specs.declared.questions.Question.{Question}
use Rattle.history_model.specs.declared.questions.Question.TheVariants.{Count}
use Rattle.history_model.specs.Logs.{Log}
use Rattle.history_model.specs.Worlds.{World}
use Rattle.history_model.specs.Moments.{world_has}
use Rattle.history_model.specs.Tints.{Tints}
use Rattle.script.specs.declared.commands.Command.{Command}
use Rattle.script.specs.declared.commands.Command.TheVariants.{Ask}
use Rattle.script.specs.declared.commands.ScriptLine.{ScriptLine}
use Rattle.transcript.specs.declared.answers.Answer.{Answer}
use Rattle.transcript.specs.declared.answers.LineAnswer.{LineAnswer}
use Rattle.conformance.specs.Agreeing.{InOrder}
use Rattle.conformance.specs.Answers.{Answers, LineFits, Names, LooksUp, asked_version, tells, no_version, forgotten}
use Rattle.conformance.specs.QuestionAnswers.{AnswersTo, count}
use Rattle.text_laws.specs.regions.LastCounts.{count_in_answer}
use Rattle.text_laws.proofs.OfRegions.Showing.{script_of, tail_pairs, head_pairs}

abbrev pub version_asked : Command → Option ℕ
version_asked (Ask version question) = version
version_asked _ = None

abbrev pub question_asked : Question → Command → Question
question_asked d (Ask version question) = question
question_asked d _ = d

abbrev pub box_asked : Boxed → Question → Boxed
box_asked d (Count b) = b
box_asked d _ = d

told_is : (side : ℕ) (w : World) (t : Tints) (b : Boxed) (q : Question) (a : Answer) → q ≡ Count b
    → AnswersTo side w t q a → count_in_answer a ≡ number_in b w
told_is side w t b q a e (count of cells is) = is ∙ ap (λ c. number_in c w) (ap (box_asked b) e)
told_is side w t b q a e other = absurd (let bad : ⊥ = cc in bad)

pub count_is : (p : Layout) (models : List Content) (log : Log) (R : ℕ → Type 0)
    (session line n : ℕ) (b : Boxed) (c : Command) (a : Answer) → c ≡ Ask None (Count b)
    → Answers p models log R session line n c a
    → count_in_answer a ≡ number_in b (world_has models log.records n)
count_is p models log R session line n b c a e (tells version question answer readable tell) =
    let at : version ≡ None = ap version_asked e in
    let of : question ≡ Count b = ap (question_asked question) e in
    told_is _ (world_has models log.records (asked_version version n)) _ b question answer of tell
    ∙ ap (λ v. number_in b (world_has models log.records (asked_version v n))) at
count_is p models log R session line n b c a e (no_version command v names over) =
    absurd (subst (λ (k : Command). Names R n k v) e names)
count_is p models log R session line n b c a e (forgotten command v up was) =
    absurd (subst (λ (k : Command). LooksUp R log.records n k v) e up)
count_is p models log R session line n b c a e other = absurd (let bad : ⊥ = cc in bad)

-- the last line, and the moments before it
pub record Ends (p : Layout) (models : List Content) (log : Log) (session : ℕ) (l : ScriptLine)
    (t : List LineAnswer) : Type 0 where
  pub line : LineAnswer
  pub last : slice_get t (length t - 1) ≡ Some line
  pub fits : LineFits p models log session l line
  pub within : All (λ a. a.at ≤ line.at) t

same_last : (a d : LineAnswer) (t : List LineAnswer)
    → slice_get (a ∷ d ∷ t) (length (a ∷ d ∷ t) - 1) ≡ slice_get (d ∷ t) (length (d ∷ t) - 1)
same_last a d t =
    let long : length (a ∷ d ∷ t) - 1 ≡ suc (length t) = omega arith in
    let short : length (d ∷ t) - 1 ≡ length t = omega arith in
    let next : slice_get (a ∷ d ∷ t) (suc (length t)) ≡ slice_get (d ∷ t) (length t) = refl in
    ap (slice_get (a ∷ d ∷ t)) long ∙ next ∙ sym (ap (slice_get (d ∷ t)) short)

pub ends : (p : Layout) (models : List Content) (log : Log) (session number : ℕ) (l : ScriptLine)
    (acts : List Act) (t : List LineAnswer)
    → AllZip (LineFits p models log session) (script_of number acts l) t → AllPairs InOrder t
    → Ends p models log session l t
ends p models log session number l [] [] zip pairs = absurd zip
ends p models log session number l [] (a ∷ []) zip pairs =
    record {
      line = a;
      last = refl;
      fits = zip.0;
      within = All-cons
          (λ (x : LineAnswer). x.at ≤ a.at) a [] (omega arith) (All-nil _);
    }
ends p models log session number l [] (a ∷ d ∷ t) zip pairs = absurd zip.1
ends p models log session number l (act ∷ acts) [] zip pairs = absurd zip
ends p models log session number l (act ∷ []) (a ∷ []) zip pairs = absurd zip.1
ends p models log session number l (act ∷ other ∷ acts) (a ∷ []) zip pairs = absurd zip.1
ends p models log session number l (act ∷ acts) (a ∷ d ∷ t) zip pairs =
    let rest =
    ends p models log session (number + 1) l acts (d ∷ t) zip.1 (tail_pairs a (d ∷ t) pairs) in
    let next = (All-head (InOrder a) d t (head_pairs a (d ∷ t) pairs)).no_earlier in
    let last = All-head (λ (x : LineAnswer). x.at ≤ rest.line.at) d t rest.within in
    record {
      line = rest.line;
      last = same_last a d t ∙ rest.last;
      fits = rest.fits;
      within = All-cons (λ (x : LineAnswer). x.at ≤ rest.line.at) a (d ∷ t)
          (omega (arith, next, last)) rest.within;
    }
