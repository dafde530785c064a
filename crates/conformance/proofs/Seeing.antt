-- A session that runs beside others keeps its lines, and at the end they agree with the whole
-- history.
use Rattle.std.proofs.Common.{◌≡◌, ℕ, ◌+◌, ◌<◌, ◌≤◌, List, [], ◌∷◌, ◌++◌, length, get_or, ap, ◌∙◌, inl, inr, arith, length-append}
use Rattle.std.specs.Prelude.{All, sum_by}
use Rattle.std.specs.List.{AllZip, Contains}
use Rattle.std.proofs.lemmas.List.Elements.{All-nil, All-cons, All-contains, All-weaker}
use Rattle.history_model.specs.Contents.{Content}
use Rattle.history_model.specs.declared.histories.Mark.{Mark}
use Rattle.history_model.specs.Logs.{Log}
use Rattle.node_words.specs.Plans.{Layout}
use Rattle.script.specs.declared.commands.ScriptLine.{ScriptLine}
use Rattle.transcript.specs.declared.answers.LineAnswer.{LineAnswer}
use Rattle.conformance.specs.Answers.{IsUnforgotten, LineFits, ExtendsLog}
use Rattle.conformance.specs.Shown.{Accepted, accepted_by, accepted_in}
use Rattle.conformance.specs.Agreeing.{InOrder, SessionAgrees}
use Rattle.conformance.specs.Passes.{Found, IsLooked, LineSeen, PassSoFar, PassStep, Closes}
use Rattle.conformance.specs.Kinds.{IsAfter}
use Rattle.conformance.proofs.GoingOn.{answers_stay}
use Rattle.conformance.proofs.Lists.{zip_push, zip_map, pairs_push}
use Rattle.conformance.proofs.Running.{accepted_push}

pub longer : (old new : Log) → ExtendsLog old new → length old.records ≤ length new.records
longer old new g =
    (let more : length new.records
    ≡ length (old.records ++ g.more) = ap length g.records in let both = length-append old.records g.more in omega arith)

pub seen_within : (p : Layout) (models : List Content) (seen : Log) (found : List Found)
    (own : List Mark) (session : ℕ) (script : List ScriptLine) (transcript : List LineAnswer)
    → AllZip (LineSeen p models seen found own session) script transcript
    → All (λ a. a.at ≤ length seen.records) transcript
seen_within p models seen found own session [] [] all = All-nil _
seen_within p models seen found own session [] (a ∷ transcript) all = absurd all
seen_within p models seen found own session (l ∷ script) [] all = absurd all
seen_within p models seen found own session (l ∷ script) (a ∷ transcript) all =
    All-cons (λ b. b.at ≤ length seen.records) a transcript all.0.within
    (seen_within p models seen found own session script transcript all.1)

-- one more line of a session
pub pass_line : (p : Layout) (models : List Content) (session : ℕ) (script : List ScriptLine)
    (transcript : List LineAnswer) (l : ScriptLine) (old new : Log) (found more : List Found)
    (records now : List Accepted) (own mine : List Mark) (a : LineAnswer)
    → PassSoFar p models session script transcript old found records own → IsAfter script l
    → PassStep p models session l old new found more records now own mine a
    → PassSoFar p models session (script ++ l ∷ []) (transcript ++ a ∷ []) new more now mine
pass_line p models session script transcript l old new found more records now own mine a s rising step =
    let within = seen_within p models old found own session script transcript s.lines in
    record {
      lines =
          zip_push (LineSeen p models new more mine session) script transcript l a
          (zip_map (LineSeen p models old found own session)
          (LineSeen p models new more mine session)
          (λ k. k.line < l.line) script transcript rising
          (λ k b lt fits. stays k b lt fits) s.lines)
          step.fits;
      moments =
          pairs_push InOrder transcript a s.moments
          (All-weaker (λ b. b.at ≤ length old.records) (λ b. InOrder b a) (λ b le. (
          let low = step.no_earlier in
          record {
            no_earlier = omega arith;
            later = λ e.
                (let so = step.later e in omega arith);
            unseen = λ base e.
                (let so = step.unseen base e in omega arith);
          })) transcript within);
      accepted = record {
        weighs = λ f. step.accepted.weighs f
            ∙ joined f records (accepted_by session l.line l.command a.at a.answer)
            (accepted_in session script transcript)
            (accepted_in session (script ++ l ∷ []) (transcript ++ a ∷ []))
            (s.accepted.weighs f)
            (accepted_push
            (LineSeen p models old found own session) f session script transcript l a s.lines);
      };
    }
  where
    joined : {X : Type 0} (f : X → ℕ) (xs ys zs all : List X) → sum_by f xs ≡ sum_by f zs
        → sum_by f all ≡ sum_by f zs + sum_by f ys → sum_by f (xs ++ ys) ≡ sum_by f all
    joined f xs ys zs all a b =
        (let c = Rattle.std.proofs.lemmas.List.Sums.sum_by-append f xs ys in omega arith)

    stays : (k : ScriptLine) (b : LineAnswer) → k.line < l.line
        → LineSeen p models old found own session k b → LineSeen p models new more mine session k b
    stays k b lt fits =
        let wide = longer old new step.goes_on in
        let within = fits.within in
        record {
          same_line = fits.same_line;
          within = omega arith;
          answers =
              answers_stay old new step.goes_on b.at fits.within (IsLooked found own k.line b.at)
              (IsLooked more mine k.line b.at)
              (λ v le looked. record {
                listed = elim looked.listed [
                  | inl there ↦ inl
                      (All-contains (Contains more) found
                      (record { version = v; at = b.at }) step.found_stay there)
                  | inr newest ↦ inr newest
                ];
                later = λ i d low same. elim (step.own_or_new i d low) [
                  | inl was ↦ All-contains (λ (m : Mark). m.version ≡ v → k.line ≤ m.line) own
                      (get_or mine i d) looked.later was same
                  | inr made ↦ omega arith
                ];
              }) p models session k.line k.command b.answer fits.answers;
        }

-- at the end
pub looked_stands : (found : List Found) (own marks : List Mark) (session line n v : ℕ)
    → All (λ f. All (λ m. m.version ≡ f.version → f.at ≤ m.at) marks) found
    → All (λ m. m.session ≡ session → Contains own m) marks → All (λ m. m.version < m.at) marks
    → IsLooked found own line n v → IsUnforgotten marks session line n v
looked_stands found own marks session line n v excluded listed dated looked = record {
  later = elim looked.listed [
    | inl there ↦ All-contains
        (λ (f : Found). All (λ m. m.version ≡ f.version → f.at ≤ m.at) marks) found
        (record { version = v; at = n }) excluded there
    | inr newest ↦ λ i d lt same. (let late = dated i d lt in omega arith)
  ];
  own = λ i d lt same mine. All-contains (λ (m : Mark). m.version ≡ v → line ≤ m.line) own
      (get_or marks i d) looked.later (listed i d lt mine) same;
}

pub pass_agrees : (p : Layout) (models : List Content) (session : ℕ) (script : List ScriptLine)
    (transcript : List LineAnswer) (seen whole : Log) (found : List Found) (records : List Accepted)
    (own : List Mark)
    → PassSoFar p models session script transcript seen found records own
    → Closes seen found session own whole → SessionAgrees p models whole session script transcript
pass_agrees p models session script transcript seen whole found records own s c = record {
  lines = zip_map (LineSeen p models seen found own session) (LineFits p models whole session)
      (λ _. Unit {0}) script transcript (λ i d lt. tt) (λ k b _ fits. fit k b fits) s.lines;
  moments = s.moments;
}
  where
    fit : (k : ScriptLine) (b : LineAnswer) → LineSeen p models seen found own session k b
        → LineFits p models whole session k b
    fit k b fits =
        let wide = longer seen whole c.goes_on in
        let within = fits.within in
        record {
          same_line = fits.same_line;
          within = omega arith;
          answers =
              answers_stay seen whole c.goes_on b.at fits.within (IsLooked found own k.line b.at)
              (IsUnforgotten whole.marks session k.line b.at)
              (λ v le looked. looked_stands found own whole.marks session k.line b.at v c.excluded c.listed c.dated looked) p models session k.line k.command b.answer fits.answers;
        }
