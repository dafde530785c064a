use Rattle.std.proofs.Common.{◌<◌, ◌∙◌, ℕ, set, length, ap, sym, subst, arith}
use Rattle.std.specs.Prelude.{vec_items, vec_capacity}
use Rattle.std.proofs.lemmas.List.{map-set, set-get_or, get_or-map, length-map}
use Rattle.one_store.specs.entries.Rows.{PutsItem, PutsIn, items_of, rooms_of}
use Rattle.one_store.proofs.OfEntries.RowLaws.{puts_in}
use Rattle.one_store.proofs.entries.rows.put_in.Goals as goal

pub returns-clause-puts : goal.returns-clause-puts
returns-clause-puts g c =
    let rows = c.args.rows.now.items in
    let inside : c.args.k < length (items_of rows) =
    omega (arith, length-map rows vec_items, c.requires.row) in
    let was =
    ap vec_items c.index_mut.ensures.value
    ∙ sym (get_or-map vec_items rows c.args.k _ _ c.requires.row) in
    subst (λ new. PutsIn c.args.empty (items_of rows) c.args.k c.args.i c.args.item new)
    (sym (map-set vec_items rows c.args.k c.put.new.row))
    (puts_in c.args.empty (items_of rows)
    (vec_items c.put.new.row) c.args.k c.args.i c.args.item inside
    (subst (λ row. PutsItem c.args.empty row c.args.i c.args.item
    (vec_items c.put.new.row)) was c.put.ensures.puts))

pub returns-clause-rooms : goal.returns-clause-rooms
returns-clause-rooms g c =
    let rows = c.args.rows.now.items in
    map-set vec_capacity rows c.args.k c.put.new.row
    ∙ ap (λ (room : ℕ). set (rooms_of rows) c.args.k room)
    (c.put.ensures.room ∙ ap vec_capacity c.index_mut.ensures.value
    ∙ sym (get_or-map vec_capacity rows c.args.k _ 0 c.requires.row))
    ∙ set-get_or (rooms_of rows) c.args.k 0
