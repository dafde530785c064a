-- Rooms of scripts, in the order of these.
use Rattle.std.proofs.Common.{◌≡◌, ℕ, ◌+◌, ◌<◌, List, [], ◌∷◌, ◌++◌, length, take, get_or, sym, ◌∙◌, ap, subst}
use Rattle.std.specs.Prelude.{All}
use Rattle.std.specs.List.{AllZip}
use Rattle.std.proofs.lemmas.List.{take_more}
use Rattle.std.proofs.lemmas.List.Elements.{All-cons, All-nil}
use Rattle.script.specs.declared.commands.ScriptLine.{ScriptLine}
use Rattle.world_run.specs.declared.rooms.ScriptRoom.{ScriptRoom}
use Rattle.world_run.specs.Works.{IsEmptyRoom, IsRoomFor}

pub rooms_empty : (scripts : List (List ScriptLine)) (rooms : List ScriptRoom)
    → AllZip IsRoomFor scripts rooms → All IsEmptyRoom rooms
rooms_empty [] [] are = All-nil IsEmptyRoom
rooms_empty [] (r ∷ rooms) are = absurd are
rooms_empty (s ∷ scripts) [] are = absurd are
rooms_empty (s ∷ scripts) (r ∷ rooms) are =
    All-cons IsEmptyRoom r rooms are.0.no_pin (rooms_empty scripts rooms are.1)

pub one_more_room : (scripts : List (List ScriptLine)) (rooms : List ScriptRoom)
    (script : List ScriptLine) (room : ScriptRoom) → AllZip IsRoomFor scripts rooms
    → IsRoomFor script room
    → AllZip IsRoomFor (scripts ++ script ∷ []) (rooms ++ room ∷ [])
one_more_room [] [] script room are is = (is, tt)
one_more_room [] (r ∷ rooms) script room are is = absurd are
one_more_room (s ∷ scripts) [] script room are is = absurd are
one_more_room (s ∷ scripts) (r ∷ rooms) script room are is =
    (are.0, one_more_room scripts rooms script room are.1 is)

pub next_room : (scripts : List (List ScriptLine)) (i : ℕ) (script : List ScriptLine)
    (rooms more : List ScriptRoom) (room : ScriptRoom) → i < length scripts
    → script ≡ get_or scripts i script → more ≡ rooms ++ room ∷ []
    → AllZip IsRoomFor (take i scripts) rooms → IsRoomFor script room
    → AllZip IsRoomFor (take (i + 1) scripts) more
next_room scripts i script rooms more room lt is pushed are one =
    let next : take (i + 1) scripts ≡ take i scripts ++ script ∷ [] =
    take_more scripts i script lt
    ∙ ap (λ (l : List ScriptLine). take i scripts ++ l ∷ []) (sym is) in
    subst (λ (rs : List ScriptRoom). AllZip IsRoomFor (take (i + 1) scripts) rs) (sym pushed)
    (subst (λ (ls : List (List ScriptLine)). AllZip IsRoomFor ls (rooms ++ room ∷ [])) (sym next)
    (one_more_room (take i scripts) rooms script room are one))
