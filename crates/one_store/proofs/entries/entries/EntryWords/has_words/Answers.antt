use Rattle.std.proofs.Common.{◌-◌, ◌∙◌, ℕ, List, ap, sym, arith}
use Rattle.std.specs.Prelude.{slice_index_or}
use Rattle.one_store.specs.declared.entries.key_words.Pairs.{Pairs}
use Rattle.one_store.specs.entries.Rows.{item_in, items_of}
use Rattle.one_store.specs.entries.Words.{Written, no_pairs}
use Rattle.one_store.proofs.OfEntries.ReadLaws.{row_key}
use Rattle.one_store.proofs.OfEntries.WordLaws.{one_row}
use Rattle.one_store.proofs.entries.entries.EntryWords.has_words.Goals as goal

pub returns : goal.returns
returns c =
    let rows = ap items_of c.deref-2.ensures.value ∙ ap (λ (w : Written). w.pairs) c.self.view_is in
    let read =
    sym (c.item-2.ensures
    ∙ ap (λ (r : List Pairs). slice_index_or r c.place-2.result no_pairs) c.row-pairs.ensures
    ∙ ap (λ (r : List (List Pairs)). item_in no_pairs r (c.from.result - 1) c.place-2.result) rows
    ∙ ap (λ (l : ℕ). item_in no_pairs c.args.self.now.pairs (l - 1) c.place-2.result) c.from.ensures
    ∙ ap (item_in no_pairs c.args.self.now.pairs (c.args.n.level - 1)) c.place-2.ensures.value) in (
      λ q. row_key c.args.n.level _ _ _ _ (omega (arith, c.if-n-eq0.false))
          (read ∙ c.is.ensures.0 q),
      λ q. c.is.ensures.1
          (sym read ∙ one_row c.args.n.level _ _ _ _ (omega (arith, c.if-n-eq0.false)) q),
    )
