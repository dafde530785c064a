-- Scripts that are read one after the other.
use Rattle.std.specs.Prelude.{All}
use Rattle.std.proofs.Common.{Bool, ◌≡◌, ℕ, ◌+◌, ◌^◌, ◌<◌, ◌≤◌, List, [], ◌∷◌, ◌++◌, length, drop, get_or, Result, Ok, Err, refl, sym, ap, subst, ◌∙◌, arith, append_assoc, append-nil}
use Rattle.std.proofs.lemmas.List.{drop_more, drop_all, length-append}
use Rattle.std.proofs.lemmas.List.Elements.{All-nil, All-append}
use Rattle.plain_text.specs.Steps.{◌>>=◌}
use Rattle.vox_read.specs.Contents.{Content}
use Rattle.script.specs.declared.commands.ScriptLine.{ScriptLine}
use Rattle.script.specs.declared.faults.ScriptFault.{ScriptFault}
use Rattle.script.specs.Fitting.{CommandFits, RisesFrom}
use Rattle.history_model.specs.Logs.{store_exponent}
use Rattle.script.specs.Scripts.{commands_of}
use Rattle.commands.specs.declared.refusals.NumberedFault.{NumberedFault}
use Rattle.commands.specs.declared.refusals.TextRefused.{TextRefused}
use Rattle.commands.specs.declared.refusals.TextRefused.TheVariants.{Vox, Script, Collides, NoScene, NoPlace, StoreFull, NoDag, Journal, Transcript, Memory}
use Rattle.commands.specs.Refusals.{RefusesScripts}
use Rattle.commands.specs.Scripts.{in_script, texts_from, scripts_of, AreFitScripts, ReadsScript}

-- what was read before, and what the texts behind it say
abbrev pub behind : {X E : Type 0} → List X → Result (List X) E → Result (List X) E
behind before (Ok others) = Ok (before ++ others)
behind before (Err e) = Err e

-- of the texts the first k are read
pub record IsReadTo (tint : Bool) (side : ℕ) (models : List Content) (texts : List (List ℕ)) (k : ℕ)
    (scripts : List (List ScriptLine)) : Type 0 where
  pub number : length scripts ≡ k
  pub read : scripts_of tint side models texts ≡ behind scripts
      (texts_from tint side models k (drop k texts))
  pub fit : AreFitScripts tint (store_exponent tint side) models scripts

none_behind : {X E : Type 0} (r : Result (List X) E) → r ≡ behind [] r
none_behind (Ok xs) = refl
none_behind (Err e) = refl

pub none_read : (tint : Bool) (side : ℕ) (models : List Content) (texts : List (List ℕ))
    → IsReadTo tint side models texts 0 []
none_read tint side models texts = record {
  number = refl;
  read = none_behind (scripts_of tint side models texts);
  fit = record { fit = All-nil _; rise = All-nil _ };
}

one_behind : {X E : Type 0} (before : List X) (x : X) (r : Result (List X) E)
    → behind before (r >>= λ others. Ok (x ∷ others)) ≡ behind (before ++ x ∷ []) r
one_behind before x (Ok others) = ap Ok (sym (append_assoc before (x ∷ []) others))
one_behind before x (Err e) = refl

-- what the texts say, of which one has these commands
first_read : (tint : Bool) (side : ℕ) (models : List Content) (number : ℕ) (text : List ℕ)
    (others : List (List ℕ)) (read : Result (List ScriptLine) ScriptFault) (lines : List ScriptLine)
    → read ≡ Ok lines
    → (in_script number read >>= λ lines. texts_from tint side models (number + 1) others >>=
    λ more. Ok
    (lines ∷ more))
    ≡ (texts_from tint side models (number + 1) others >>= λ more. Ok (lines ∷ more))
first_read tint side models number text others read lines is = rw is refl

pub next_read : (tint : Bool) (side : ℕ) (models : List Content) (texts : List (List ℕ))
    (text : List ℕ) (k : ℕ)
    (old new : List (List ScriptLine)) → k < length texts → text ≡ get_or texts k text
    → IsReadTo tint side models texts k old → ReadsScript tint side models text old new
    → IsReadTo tint side models texts (k + 1) new
next_read tint side models texts text k old new within at so_far reads =
    let more : drop k texts ≡ text ∷ drop (k + 1) texts =
    drop_more texts k text within ∙ ap (λ t. t ∷ drop (k + 1) texts) (sym at) in
    let rest = drop (k + 1) texts in
    let here : texts_from tint side models k (text ∷ rest) ≡ (texts_from tint side models (k + 1) rest >>= λ others. Ok (reads.lines ∷ others)) =
    first_read tint side models k text rest
    (commands_of tint side models text) reads.lines reads.read in
    record {
      number = ap length reads.kept ∙ length-append old (reads.lines ∷ [])
          ∙ (let n = so_far.number in omega (arith, n));
      read = so_far.read ∙ ap (λ ts. behind old (texts_from tint side models k ts)) more
          ∙ ap (behind old) here
          ∙ one_behind old reads.lines (texts_from tint side models (k + 1) rest)
          ∙ ap (λ ss. behind ss (texts_from tint side models (k + 1) rest)) (sym reads.kept);
      fit = subst (AreFitScripts tint (store_exponent tint side) models) (sym reads.kept) (record {
        fit = All-append
            (All (λ l. CommandFits tint (2 ^ store_exponent tint side) models l.command)) old
            (reads.lines ∷ []) so_far.fit.fit reads.fit.fit;
        rise = All-append (RisesFrom 1) old (reads.lines ∷ []) so_far.fit.rise reads.fit.rise;
      });
    }

pub all_read : (tint : Bool) (side : ℕ) (models : List Content) (texts : List (List ℕ)) (k : ℕ)
    (scripts : List (List ScriptLine)) → length texts ≤ k
    → IsReadTo tint side models texts k scripts
    → scripts_of tint side models texts ≡ Ok scripts
all_read tint side models texts k scripts past so_far =
    so_far.read ∙ ap (λ ts. behind scripts (texts_from tint side models k ts))
    (drop_all k texts past)
    ∙ ap Ok (append-nil scripts)

-- a fault of the next text is the first of all
fault_at : (tint : Bool) (side : ℕ) (models : List Content) (number : ℕ) (others : List (List ℕ))
    (old : List (List ScriptLine)) (here : Result (List ScriptLine) NumberedFault)
    (at : NumberedFault) → here ≡ Err at
    → behind old
    (here >>= λ lines. texts_from tint side models (number + 1) others >>= λ more. Ok
    (lines ∷ more)) ≡ Err at
fault_at tint side models number others old here at is = rw is refl

pub next_refused : (r : TextRefused) (tint : Bool) (side : ℕ) (models : List Content)
    (texts : List (List ℕ))
    (text : List ℕ) (k : ℕ) (old : List (List ScriptLine)) → k < length texts
    → text ≡ get_or texts k text
    → IsReadTo tint side models texts k old
    → RefusesScripts r (in_script (length old) (commands_of tint side models text))
    → RefusesScripts r (scripts_of tint side models texts)
next_refused (Script at) tint side models texts text k old within is so_far refuses =
    let more : drop k texts ≡ text ∷ drop (k + 1) texts =
    drop_more texts k text within ∙ ap (λ t. t ∷ drop (k + 1) texts) (sym is) in
    let here : in_script k (commands_of tint side models text) ≡ Err at =
    subst (λ (n : ℕ). in_script n (commands_of tint side models text)
    ≡ Err at) so_far.number refuses.1 in (
      refuses.0,
      so_far.read ∙ ap (λ ts. behind old (texts_from tint side models k ts)) more
          ∙ fault_at tint side models k (drop (k + 1) texts) old _ at here,
    )
next_refused Memory tint side models texts text k old within is so_far refuses = tt
next_refused (Vox fault) tint side models texts text k old within is so_far refuses = absurd refuses
next_refused Collides tint side models texts text k old within is so_far refuses = absurd refuses
next_refused (NoScene fault) tint side models texts text k old within is so_far refuses =
    absurd refuses
next_refused NoPlace tint side models texts text k old within is so_far refuses = absurd refuses
next_refused (StoreFull full) tint side models texts text k old within is so_far refuses =
    absurd refuses
next_refused (NoDag place) tint side models texts text k old within is so_far refuses =
    absurd refuses
next_refused (Journal line) tint side models texts text k old within is so_far refuses =
    absurd refuses
next_refused (Transcript at) tint side models texts text k old within is so_far refuses =
    absurd refuses
