-- What a search and a new entry show, of the key that a packed one is.
use Rattle.std.proofs.Common.{◌≡◌, ℕ, subst}
use Rattle.node_words.specs.declared.keys.Key.{Key}
use Rattle.node_words.specs.declared.shapes.names.Name.{Name}
use Rattle.node_words.specs.Held.{ForChildren}
use Rattle.node_words.specs.Plans.{Layout}
use Rattle.table_rule.specs.Changes.{children_of_key}
use Rattle.table_rule.specs.Views.{BucketAt, SeatView}
use Rattle.node_table.specs.Acts.{PublishesUnderTurn}
use Rattle.node_table.specs.Finding.{FindsPlace, HasKeyAt, HasNoRoom, IsFreeAt}
use Rattle.node_table.specs.TableStates.{PassState}
use Rattle.node_table.specs.declared.places.Place.{Place}

pub found_other_key : (p : Layout) (s t : PassState) (key other : Key) (b : BucketAt)
    (place : Place) → key ≡ other → FindsPlace p s t key b place → FindsPlace p s t other b place
found_other_key p s t key other b place e =
    subst (λ (k : Key). FindsPlace p s t k b place) e

pub has_other_key : {p : Layout} {s t : PassState} {key other : Key} {b : BucketAt} {slot : ℕ}
    → key ≡ other → HasKeyAt p s t key b slot → HasKeyAt p s t other b slot
has_other_key {p} {s} {t} {key} {other} {b} {slot} e =
    subst (λ (k : Key). HasKeyAt p s t k b slot) e

pub free_other_key : {p : Layout} {s t : PassState} {key other : Key} {b : BucketAt} {slot : ℕ}
    → key ≡ other → IsFreeAt p s t key b slot → IsFreeAt p s t other b slot
free_other_key {p} {s} {t} {key} {other} {b} {slot} e =
    subst (λ (k : Key). IsFreeAt p s t k b slot) e

pub full_other_key : {p : Layout} {s t : PassState} {key other : Key} {b : BucketAt}
    → key ≡ other → HasNoRoom p s t key b → HasNoRoom p s t other b
full_other_key {p} {s} {t} {key} {other} {b} e = subst (λ (k : Key). HasNoRoom p s t k b) e

pub published_other_key : (v w : SeatView) (n : Name) (key other : Key) → key ≡ other
    → ForChildren v.held (children_of_key key) (λ row. PublishesUnderTurn v n key row w)
    → ForChildren v.held (children_of_key other) (λ row. PublishesUnderTurn v n other row w)
published_other_key v w n key other e =
    subst
    (λ (k : Key). ForChildren v.held (children_of_key k) (λ row. PublishesUnderTurn v n k row w)) e
