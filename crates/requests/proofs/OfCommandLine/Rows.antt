-- The values that rows of matches have, by their ids.
use Rattle.std.proofs.Common.{◌≡◌, Bool, true, false, List, [], ◌∷◌, ◌++◌, Option, Some, None, refl, sym, ap, subst, ◌∙◌}
use Rattle.std.proofs.lemmas.List.{append-nil}
use Rattle.std.specs.Prelude.{find, option_map, option_and_then, slice_get, cond}
use Rattle.std.specs.Str.{bytes_eq}
use Rattle.std.proofs.lemmas.Slice.Eq.{bytes_eq-Decides}
use Rattle.clap.specs.Walk.{Row, Text, at_row, with_values, without, more_values, all_of, first_of}
use Rattle.clap.specs.declared.builder.value_parser.Reading.{Reading}
use Rattle.clap.specs.declared.parser.matches.ValueSource.{ValueSource}

-- the values of the row that a look-up found
abbrev pub values_found : Option Row → Option (List Text)
values_found found = option_map (λ r. r.values) found

abbrev pub has_id : Text → Row → Bool
has_id id r = bytes_eq r.id id

-- ---- a row of another id

abbrev pub IsApart : Text → Text → Type 0
IsApart id other = bytes_eq id other ≡ false

apart_by : (a id other : Text) → bytes_eq a id ≡ true → IsApart id other → IsApart a other
apart_by a id other same apart =
    subst (λ (t : Text). IsApart t other) (sym ((bytes_eq-Decides a id).0 same)) apart

either_row : (b : Bool) (r : Row) (f g : Option Row) → values_found f ≡ values_found g
    → values_found (cond b (Some r) f) ≡ values_found (cond b (Some r) g)
either_row true r f g same = refl
either_row false r f g same = same

pub other_found : (id other : Text) (change : Row → List Row) (missing : List Row)
    → IsApart id other
    → ((r : Row) (rs : List Row) → IsApart r.id other → all_of other (change r ++ rs)
    ≡ all_of other rs)
    → all_of other missing ≡ None
    → (rows : List Row) → all_of other (at_row id change missing rows) ≡ all_of other rows
other_found id other change missing apart skips none [] = none
other_found id other change missing apart skips none (r ∷ rs) =
    go (bytes_eq r.id id) refl (other_found id other change missing apart skips none rs)
  where
    go : (b : Bool) → bytes_eq r.id id ≡ b
        → all_of other (at_row id change missing rs) ≡ all_of other rs
        → all_of other (at_row id change missing (r ∷ rs)) ≡ all_of other (r ∷ rs)
    go true same behind = let no : IsApart r.id other = apart_by r.id id other same apart in rw
        (same, no) (skips r rs no)
    go false same behind = rw same
        (either_row (bytes_eq r.id other) r (find (has_id other) (at_row id change missing rs))
        (find (has_id other) rs) behind)

-- ---- a row of this id

-- where no row has the id, the missing ones come behind
pub none_found : (id : Text) (change : Row → List Row) (missing rows : List Row)
    → all_of id rows ≡ None → at_row id change missing rows ≡ rows ++ missing
none_found id change missing [] none = refl
none_found id change missing (r ∷ rs) none =
    go (bytes_eq r.id id) refl (λ n. none_found id change missing rs n)
  where
    go : (b : Bool) → bytes_eq r.id id ≡ b
        → (all_of id rs ≡ None → at_row id change missing rs ≡ rs ++ missing)
        → at_row id change missing (r ∷ rs) ≡ (r ∷ rs) ++ missing
    go true has behind = absurd
        (let m : all_of id (r ∷ rs) ≡ Some r.values = rw has refl in let no : Some r.values
        ≡ None = sym m ∙ none in cc)
    go false same behind = rw same
        (ap (λ others. r ∷ others)
        (behind (let n : all_of id (r ∷ rs) ≡ None = none in let m : all_of id (r ∷ rs)
        ≡ all_of id rs = rw same refl in sym m ∙ n)))

pub pushed_found : (id : Text) (new : Row) (rows : List Row) → all_of id rows ≡ None
    → bytes_eq new.id id ≡ true → all_of id (rows ++ new ∷ []) ≡ Some new.values
pushed_found id new [] none same = rw same refl
pushed_found id new (r ∷ rs) none same =
    go (bytes_eq r.id id) refl (λ n. pushed_found id new rs n same)
  where
    go : (b : Bool) → bytes_eq r.id id ≡ b
        → (all_of id rs ≡ None → all_of id (rs ++ new ∷ []) ≡ Some new.values)
        → all_of id ((r ∷ rs) ++ new ∷ []) ≡ Some new.values
    go true has behind = absurd
        (let m : all_of id (r ∷ rs) ≡ Some r.values = rw has refl in let no : Some r.values
        ≡ None = sym m ∙ none in cc)
    go false has behind = let m : all_of id (r ∷ rs)
        ≡ all_of id rs = rw has refl in rw has (behind (sym m ∙ none))

-- further values stand behind those that the row has
pub more_found : (id : Text) (s : ValueSource) (values : List Text) (missing rows : List Row)
    (vs : List Text) → all_of id rows ≡ Some vs
    → all_of id (at_row id (more_values s values) missing rows) ≡ Some (vs ++ values)
more_found id s values missing [] vs some = absurd (let no : None ≡ Some vs = some in cc)
more_found id s values missing (r ∷ rs) vs some =
    go (bytes_eq r.id id) refl (λ n. more_found id s values missing rs vs n)
  where
    go : (b : Bool) → bytes_eq r.id id ≡ b
        →
        (all_of id rs ≡ Some vs → all_of id (at_row id (more_values s values) missing rs)
        ≡ Some (vs ++ values))
        → all_of id (at_row id (more_values s values) missing (r ∷ rs))
        ≡ Some (vs ++ values)
    go true has behind = let m : all_of id (r ∷ rs)
        ≡ Some r.values = rw has refl in let is : Some r.values ≡ Some vs = sym m
        ∙ some in rw (has, has) (ap (λ o. option_map (λ ws. ws ++ values) o) is)
    go false has behind = let m : all_of id (r ∷ rs)
        ≡ all_of id rs = rw has refl in rw (has, has) (behind (sym m ∙ some))

pub first_is : (id : Text) (rows : List Row)
    → first_of id rows ≡ option_and_then (λ vs. slice_get vs 0) (all_of id rows)
first_is id rows = go (find (has_id id) rows)
  where
    go : (found : Option Row)
        → option_and_then (λ (r : Row). slice_get r.values 0) found ≡ option_and_then
        (λ (vs : List Text). slice_get vs 0) (values_found found)
    go None = refl
    go (Some r) = refl

-- ---- uses of an argument

same_id : (id : Text) → bytes_eq id id ≡ true
same_id id = (bytes_eq-Decides id id).1 refl

pub set_new : (id : Text) (how : Reading) (s : ValueSource) (values : List Text) (rows : List Row)
    → all_of id rows ≡ None
    → all_of id (with_values id how s values (without id rows)) ≡ Some values
set_new id how s values rows none =
    let new : Row =
    record { id = id; values = values; count = None; source = Some s; reading = how } in
    let gone : without id rows ≡ rows ++ [] = none_found id (λ _. []) [] rows none in
    let kept : rows ++ [] ≡ rows = append-nil rows in
    let put : with_values id how s values rows ≡ rows ++ new ∷ [] =
    none_found id (more_values s values) (new ∷ []) rows none in
    ap (λ rs. all_of id (with_values id how s values rs)) (gone ∙ kept) ∙ ap (all_of id) put
    ∙ pushed_found id new rows none (same_id id)

pub append_new : (id : Text) (how : Reading) (s : ValueSource) (values : List Text)
    (rows : List Row) → all_of id rows ≡ None
    → all_of id (with_values id how s values rows) ≡ Some values
append_new id how s values rows none =
    let new : Row =
    record { id = id; values = values; count = None; source = Some s; reading = how } in
    ap (all_of id) (none_found id (more_values s values) (new ∷ []) rows none)
    ∙ pushed_found id new rows none (same_id id)

pub put_other : (id other : Text) (how : Reading) (s : ValueSource) (values : List Text)
    (rows : List Row) → IsApart id other
    → all_of other (with_values id how s values rows) ≡ all_of other rows
put_other id other how s values rows apart =
    other_found id other (more_values s values)
    (record { id = id; values = values; count = None; source = Some s; reading = how } ∷ []) apart
    (λ r rs no. rw no refl) (rw apart refl) rows

pub set_other : (id other : Text) (how : Reading) (s : ValueSource) (values : List Text)
    (rows : List Row) → IsApart id other
    → all_of other (with_values id how s values (without id rows)) ≡ all_of other rows
set_other id other how s values rows apart =
    put_other id other how s values (without id rows) apart
    ∙ other_found id other (λ _. []) [] apart (λ r rs no. refl) refl rows
