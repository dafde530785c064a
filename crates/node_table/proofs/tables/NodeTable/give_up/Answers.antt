use Rattle.std.proofs.Common.{rules, ◌≡◌, length, vec_len, sym, ap, ◌∙◌, subst}
use Rattle.std.specs.Slots.{slots_items}
use Rattle.table_rule.specs.Reading.{word_at}
use Rattle.table_rule.specs.LogWords.{log_in}
use Rattle.node_table.specs.TableStates.{TableState}
use Rattle.node_table.specs.Closing.{HaveHistory}
use Rattle.node_table.proofs.LastWords.{ends_in}
use Rattle.node_table.proofs.tables.NodeTable.give_up.Goals as goal

pub returns : goal.returns
returns c =
    let key = c.self.inside.words.shared.key in
    let words = slots_items c.close_with-ended.result.words in
    let same : length c.args.passes.items ≡ vec_len c.args.passes = search rules in
    let all = ends_in key c.args.passes.items c.join_all-seat.result.id c.join_all-seat.result.me.0
    words (slots_items c.close_with-ended.result.slots) c.join_all-seat.ensures.gathers
    (same ∙ c.requires.made ∙ ap (λ (t : TableState). t.made) (sym c.self.view_is))
    c.close_with-ended.ensures.values.2 in
    subst (λ (t : TableState). HaveHistory t c.args.passes.items) c.self.view_is (record {
      log = log_in key.plan (word_at key.plan words);
      legal = all.0.sound.versions.legal;
      tells = all.2;
      enough = all.1;
    })
