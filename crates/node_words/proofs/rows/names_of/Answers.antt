use Rattle.std.proofs.Common.{◌≡◌, ◌∙◌, arith, length, None}
use Rattle.node_words.proofs.RowLaws.{eight_names, default_same}
use Rattle.node_words.proofs.rows.names_of.Goals as goal

pub returns : goal.returns
returns c =
    let cs = c.args.children.now in
    let l : length cs ≡ 8 = omega arith in
    rw (
      c.name_of.ensures ∙ default_same cs 0 _ None (omega arith),
      c.name_of-2.ensures ∙ default_same cs 1 _ None (omega arith),
      c.name_of-3.ensures ∙ default_same cs 2 _ None (omega arith),
      c.name_of-4.ensures ∙ default_same cs 3 _ None (omega arith),
      c.name_of-5.ensures ∙ default_same cs 4 _ None (omega arith),
      c.name_of-6.ensures ∙ default_same cs 5 _ None (omega arith),
      c.name_of-7.ensures ∙ default_same cs 6 _ None (omega arith),
      c.name_of-8.ensures ∙ default_same cs 7 _ None (omega arith),
    ) (eight_names cs l)
