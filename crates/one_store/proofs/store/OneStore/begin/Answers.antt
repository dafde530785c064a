use Rattle.std.proofs.Common.{sym, subst, ap, ◌∙◌, ℕ, None, Option, List, length}
use Rattle.std.proofs.lemmas.List.{length-replicate}
use Rattle.node_words.specs.declared.shapes.names.Name.{Name}
use Rattle.one_store.specs.notes.StoreNotes.{StoreNotes}
use Rattle.one_store.specs.Known.{IsStore, stored_root}
use Rattle.one_store.proofs.AddLaws.{begun_store, no_roots}
use Rattle.one_store.proofs.store.OneStore.begin.Goals as goal

pub invariant_of-result : goal.invariant_of-result
invariant_of-result c =
    let w = c.in_ok-begin.field-0 in
    let roots = c.in_ok-no_roots.field-0.items in
    let e = c.in_ok-no_roots.ensures in
    let long =
    ap (λ (r : List (Option Name)). length r) e
    ∙ length-replicate {A = Option Name} 65536 None in
    let empty =
    λ (place : ℕ). ap (λ (r : List (Option Name)). stored_root r place) e
    ∙ no_roots 65536 place in
    subst (λ (t : StoreNotes). IsStore (record { words = w; roots = roots; told = t }) 0)
    (sym c.in_ok-new.ensures)
    (begun_store w roots c.in_ok-begin.ensures.is_plan c.in_ok-begin.ensures.free long empty)

pub returns-clause-roots : goal.returns-clause-roots
returns-clause-roots c place =
    ap (λ (r : List (Option Name)). stored_root r place) c.in_ok-no_roots.ensures
    ∙ no_roots 65536 place
