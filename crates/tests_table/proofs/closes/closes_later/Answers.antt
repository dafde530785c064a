use Rattle.std.proofs.Common.{◌≡◌, ◌∷◌, ◌++◌, [], List, All, rules, sym, subst}
use Rattle.node_table.specs.TableStates.{PassState}
use Rattle.node_table.specs.Closing.{IsSpare}
use Rattle.table_rule.proofs.OwnLaws.{all_end}
use Rattle.tests_table.proofs.closes.closes_later.Goals as goal

pub closes_blank-requires : goal.closes_blank-requires
closes_blank-requires c =
    let items : c.push.new.self.items ≡ c.args.passes.items ++ c.args.kept ∷ [] = search rules in
    subst (λ (l : List PassState). All (IsSpare c.args.table) l) (sym items)
    (all_end (IsSpare c.args.table) c.args.passes.items c.args.kept c.requires.passes
    c.requires.kept)
