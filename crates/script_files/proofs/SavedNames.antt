-- Names under which scripts save.
use Rattle.std.proofs.Common.{◌≡◌, ℕ, ◌+◌, ◌<◌, List, [], ◌∷◌, ◌++◌, length, take, get_or, sym, ap, ◌∙◌, append_assoc, append-nil}
use Rattle.std.proofs.lemmas.List.{take_more}
use Rattle.script.specs.declared.commands.ScriptLine.{ScriptLine}
use Rattle.script_files.specs.Requests.{name_saved, names_saved_in}

names_push : (lines : List ScriptLine) (l : ScriptLine)
    → names_saved_in (lines ++ l ∷ []) ≡ names_saved_in lines ++ name_saved l.command
names_push [] l = append-nil _
names_push (k ∷ lines) l =
    ap (λ (ns : List (List ℕ)). name_saved k.command ++ ns) (names_push lines l)
    ∙ sym (append_assoc (name_saved k.command) (names_saved_in lines) _)

pub next_names : (start old new : List (List ℕ)) (lines : List ScriptLine) (i : ℕ)
    (l : ScriptLine) → i < length lines → l ≡ get_or lines i l
    → old ≡ start ++ names_saved_in (take i lines) → new ≡ old ++ name_saved l.command
    → new ≡ start ++ names_saved_in (take (i + 1) lines)
next_names start old new lines i l lt at so_far added =
    let more : take (i + 1) lines ≡ take i lines ++ l ∷ [] =
    take_more lines i l lt ∙ ap (λ (k : ScriptLine). take i lines ++ k ∷ []) (sym at) in
    added ∙ ap (λ (ns : List (List ℕ)). ns ++ name_saved l.command) so_far
    ∙ append_assoc start (names_saved_in (take i lines)) (name_saved l.command)
    ∙ ap (λ (ns : List (List ℕ)). start ++ ns) (sym (names_push (take i lines) l))
    ∙ ap (λ (ls : List ScriptLine). start ++ names_saved_in ls) (sym more)
