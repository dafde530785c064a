-- What is told of the root of a version is told of the version's cells.
use Rattle.std.proofs.Common.{◌≡◌, ℕ, ◌-◌, ◌^◌, Bool, true, false, List, Option, Some, None, refl, sym, subst}
use Rattle.std.specs.Prelude.{Result, Ok, Err, IfOk}
use Rattle.std.proofs.lemmas.Bool.{false≢true}
use Rattle.vw_cell.specs.declared.boxes.Boxed.{Boxed}
use Rattle.vw_cell.specs.Extents.{IsExtent, IsLeastBox}
use Rattle.node_words.specs.declared.shapes.names.Name.{Name}
use Rattle.node_words.specs.descent.Roots.{ForWorld}
use Rattle.history_model.specs.Worlds.{World}
use Rattle.core_laws.specs.contents.Versions.{SameWorld}
use Rattle.measure.specs.Changes.{differs, is_other}
use Rattle.dag_file.specs.Trees.{Opened, opened_state, version_tree, HasVersion, StandsForVersion}
use Rattle.dag_answers.specs.OfVersions.{OfVersion, TellsChanges, TellsSame}

pub of_version : (o : Opened) (number : ℕ) (root : Option Name) (P : World → Type 0)
    → HasVersion o.bytes (o.side - 1) number → StandsForVersion o number root
    → ForWorld (opened_state o).held o.side root P → OfVersion o.bytes o.side number P
of_version o number root P has stands tells = record {
  v = has.0;
  is = has.1;
  holds = tells (version_tree o.bytes (o.side - 1) has.0) (stands has.0 has.1);
}

-- what is made of a root that stands in the store of the side, where it is made
pub made_of_version : {X E : Type 0} (P : ℕ → X → World → Type 0) (o : Opened) (number : ℕ)
    (root : Option Name) (side : ℕ) (name : Option Name) (result : Result X E)
    → HasVersion o.bytes (o.side - 1) number → StandsForVersion o number root → side ≡ o.side
    → name ≡ root
    → IfOk result (λ x. ForWorld (opened_state o).held side name (P side x))
    → IfOk result (λ x. OfVersion o.bytes o.side number (P o.side x))
made_of_version P o number root side name (Err e) has stands of_side of_root made = tt
made_of_version P o number root side name (Ok x) has stands of_side of_root made =
    of_version o number root (P o.side x) has stands
    (subst (λ (r : Option Name). ForWorld (opened_state o).held o.side r (P o.side x)) of_root
    (subst (λ (s : ℕ). ForWorld (opened_state o).held s name (P s x)) of_side made))

-- the least box of all that differs between two roots
module _ (o : Opened) (a b side : ℕ) (before after first second : Option Name)
    (least : Option Boxed) where
  pub told_changes : HasVersion o.bytes (o.side - 1) a → StandsForVersion o a before
      → HasVersion o.bytes (o.side - 1) b → StandsForVersion o b after → side ≡ o.side
      → first ≡ before → second ≡ after
      → ForWorld (opened_state o).held side first
      (λ old. ForWorld (opened_state o).held side second
      (λ new. IsExtent (2 ^ side) (differs old new) least))
      → TellsChanges o.bytes o.side a b least
  told_changes has_a stands_a has_b stands_b of_side of_first of_second tells =
      let P : ℕ → Option Name → Option Name → Type 0 = λ s x y. ForWorld (opened_state o).held s x (λ old. ForWorld (opened_state o).held s y (λ new. IsExtent (2 ^ s) (differs old new) least)) in
      let told : P o.side before after =
      subst (λ (y : Option Name). P o.side before y) of_second
      (subst (λ (x : Option Name). P o.side x second) of_first
      (subst (λ (s : ℕ). P s first second) of_side tells)) in
      record {
        v = has_a.0;
        is = has_a.1;
        holds = of_version o b after _ has_b stands_b
            (told (version_tree o.bytes (o.side - 1) has_a.0) (stands_a has_a.0 has_a.1));
      }

-- ---- what differs nowhere is the same

alike : (x y : Bool) → is_other x y ≡ false → x ≡ y
alike false false e = refl
alike true true e = refl
alike false true e = absurd (false≢true (sym e))
alike true false e = absurd (false≢true (sym e))

not_other : (x y : Bool) → x ≡ y → is_other x y ≡ true → ⊥
not_other false false e other = false≢true other
not_other true true e other = false≢true other
not_other false true e other = false≢true e
not_other true false e other = false≢true (sym e)

same_everywhere : (side : ℕ) (old new : World) → IsExtent side (differs old new) None
    → SameWorld side old new
same_everywhere side old new none = record { each = λ c inside. alike (old c) (new c) (none c inside) }

other_somewhere : (side : ℕ) (old new : World) (least : Boxed)
    → IsLeastBox side (differs old new) least → SameWorld side old new → ⊥
other_somewhere side old new least is same =
    not_other (old is.some) (new is.some) (same.each is.some is.inside) is.set

pub told_same : (bytes : List ℕ) (side a b : ℕ) → TellsChanges bytes side a b None
    → TellsSame bytes side a b true
told_same bytes side a b told = record {
  v = told.v;
  is = told.is;
  holds = record {
    v = told.holds.v;
    is = told.holds.is;
    holds = (λ t. same_everywhere (2 ^ side) _ _ told.holds.holds, λ s. refl);
  };
}

pub told_other : (bytes : List ℕ) (side a b : ℕ) (least : Boxed)
    → TellsChanges bytes side a b (Some least) → TellsSame bytes side a b false
told_other bytes side a b least told = record {
  v = told.v;
  is = told.is;
  holds = record {
    v = told.holds.v;
    is = told.holds.is;
    holds = (
      λ t. absurd (false≢true t),
      λ s. absurd (other_somewhere (2 ^ side) _ _ least told.holds.holds s),
    );
  };
}
