-- Which save has which number.
use Rattle.std.proofs.Common.{◌≡◌, ℕ, zero, suc, ◌+◌, ◌<◌, Some, List, [], ◌∷◌, ◌++◌, length, length-append, take, drop, get_or, refl, sym, ◌∙◌, ap, subst, arith, append-nil, append_assoc}
use Rattle.std.specs.Prelude.{map}
use Rattle.std.specs.List.{slice_get}
use Rattle.std.proofs.lemmas.List.{drop_more, length-map, take_more}
use Rattle.std.proofs.lemmas.Option.{get_or_from_slice_get, none-some, same_Some}
use Rattle.conformance.specs.declared.saves.SavedBox.{SavedBox}
use Rattle.conformance.specs.sessions.LoggedSaves.{LoggedSave, logged_at}
use Rattle.session.specs.SessionWorlds.{session_view}
use Rattle.world_run.specs.declared.open_runs.SavedSession.{SavedSession}
use Rattle.world_run.specs.Open.{HasSave, logged_in}

get_left : {X : Type 0} (xs ys : List X) (i : ℕ) (x : X) → slice_get xs i ≡ Some x
    → slice_get (xs ++ ys) i ≡ Some x
get_left [] ys i x at = absurd (none-some x at)
get_left (z ∷ xs) ys zero x at = at
get_left (z ∷ xs) ys (suc i) x at = get_left xs ys i x at

get_right : {X : Type 0} (xs ys : List X) (i j : ℕ) → j ≡ length xs + i
    → slice_get (xs ++ ys) j ≡ slice_get ys i
get_right [] ys i j e = ap (λ (n : ℕ). slice_get ys n) (let same : j ≡ i = omega arith in same)
get_right (x ∷ xs) ys i zero e = absurd (omega arith)
get_right (x ∷ xs) ys i (suc j) e = get_right xs ys i j (omega arith)

get_mapped : {X Y : Type 0} (f : X → Y) (xs : List X) (i : ℕ) (x : X) → slice_get xs i ≡ Some x
    → slice_get (map f xs) i ≡ Some (f x)
get_mapped f [] i x at = absurd (none-some x at)
get_mapped f (z ∷ xs) zero x at = ap (λ y. Some (f y)) (same_Some z x at)
get_mapped f (z ∷ xs) (suc i) x at = get_mapped f xs i x at

pub kept_there : (sessions : List SavedSession) (at : ℕ) (s : SavedSession) (left k : ℕ)
    (b : SavedBox) → slice_get sessions at ≡ Some s → slice_get s.saves.items left ≡ Some b
    → k ≡ length (logged_in (take at sessions)) + left
    → slice_get (logged_in sessions) k ≡ Some (logged_at (session_view s.session.view).log b)
kept_there [] at s left k b of here e = absurd (none-some s of)
kept_there (z ∷ sessions) zero s left k b of here e =
    let same : z ≡ s = same_Some z s of in
    let at : left ≡ k =
    (let none : length (logged_in (take 0 (z ∷ sessions))) ≡ 0 = refl in omega arith) in
    get_left (map (logged_at (session_view z.session.view).log) z.saves.items) (logged_in sessions) k _
    (subst (λ (n : ℕ). slice_get (map (logged_at (session_view z.session.view).log) z.saves.items) n
    ≡ Some (logged_at (session_view s.session.view).log b)) at
    (subst (λ (y : SavedSession). slice_get
    (map (logged_at (session_view y.session.view).log) y.saves.items) left
    ≡ Some (logged_at (session_view s.session.view).log b)) (sym same)
    (get_mapped (logged_at (session_view s.session.view).log) s.saves.items left b here)))
kept_there (z ∷ sessions) (suc at) s left k b of here e =
    let mine = map (logged_at (session_view z.session.view).log) z.saves.items in
    let both = length-append mine (logged_in (take at sessions)) in
    let j = length (logged_in (take at sessions)) + left in
    get_right mine (logged_in sessions) j k (omega arith)
    ∙ kept_there sessions at s left j b of here refl

pub kept_more : (sessions : List SavedSession) (s : SavedSession)
    → logged_in (sessions ++ s ∷ []) ≡ logged_in sessions ++ map
    (logged_at (session_view s.session.view).log) s.saves.items
kept_more [] s = append-nil _
kept_more (z ∷ sessions) s =
    ap (λ (ks : List LoggedSave). map
    (logged_at (session_view z.session.view).log) z.saves.items ++ ks) (kept_more sessions s)
    ∙ sym
    (append_assoc (map (logged_at (session_view z.session.view).log) z.saves.items)
    (logged_in sessions) _)

pub number_first : (sessions : List SavedSession) (i : ℕ) (s : SavedSession) → i < length sessions
    → s ≡ get_or sessions i s
    → length (logged_in (take (i + 1) sessions)) ≡ length
    (logged_in (take i sessions)) + length s.saves.items
number_first sessions i s lt is =
    let next : take (i + 1) sessions ≡ take i sessions ++ s ∷ [] =
    take_more sessions i s lt ∙ ap (λ (z : SavedSession). take i sessions ++ z ∷ []) (sym is) in
    let all = ap (λ (zs : List SavedSession). length (logged_in zs)) next in
    let more = ap length (kept_more (take i sessions) s) in
    let both =
    length-append (logged_in (take i sessions))
    (map (logged_at (session_view s.session.view).log) s.saves.items) in
    let mine = length-map s.saves.items (logged_at (session_view s.session.view).log) in
    omega arith

pub number_left : (sessions : List SavedSession) (i : ℕ) (s : SavedSession) → i < length sessions
    → s ≡ get_or sessions i s
    → length (logged_in (drop i sessions)) ≡ length s.saves.items + length
    (logged_in (drop (i + 1) sessions))
number_left sessions i s lt is =
    let next : drop i sessions ≡ s ∷ drop (i + 1) sessions =
    drop_more sessions i s lt ∙ ap (λ (z : SavedSession). z ∷ drop (i + 1) sessions) (sym is) in
    let all = ap (λ (zs : List SavedSession). length (logged_in zs)) next in
    let both =
    length-append (map (logged_at (session_view s.session.view).log) s.saves.items)
    (logged_in (drop (i + 1) sessions)) in
    let mine = length-map s.saves.items (logged_at (session_view s.session.view).log) in
    omega arith

-- the place of a save
pub has_save : (sessions : List SavedSession) (k at left : ℕ) (one : SavedSession)
    → at < length sessions → one ≡ get_or sessions at one → left < length one.saves.items
    → k ≡ length (logged_in (take at sessions)) + left
    → HasSave sessions k (record { session = at; save = left })
has_save sessions k at left one lt is less e = record {
  session = lt;
  each = λ s of.
      let same : one ≡ s = is ∙ get_or_from_slice_get sessions at s one of in (
        subst (λ (z : SavedSession). left < length z.saves.items) same less,
        λ b here. kept_there sessions at s left k b of here e,
      );
}
