use Rattle.std.proofs.Common.{ap, ◌∙◌, arith}
use Rattle.std.specs.Slots.{slots_items}
use Rattle.node_words.specs.Plans.{Layout}
use Rattle.core_laws.specs.places.WordIds.{Used, place}
use Rattle.core_laws.proofs.OfPlaces.Apart.{place_low}
use Rattle.table_rule.specs.Reading.{word_at}
use Rattle.node_table.proofs.CountLaws.{unused_free, word_read}
use Rattle.node_table.proofs.counting.used_in.Goals as goal

pub word-used-requires : goal.word-used-requires
word-used-requires c =
    let there = c.used-place.ensures ∙ ap (λ (q : Layout). place q
    (Used c.args.level c.args.bucket)) c.requires.places in
    let low = place_low c.args.plan.now (Used c.args.level c.args.bucket) c.requires.there in (
      omega (arith, there, low, c.requires.wide),
      c.requires.full,
    )

pub returns-then-used-from-clause-free : goal.returns-then-used-from-clause-free
returns-then-used-from-clause-free c =
    let p = c.args.plan.now in let words = slots_items c.args.ended.now.words in
    let there = c.used-place.ensures ∙ ap (λ (q : Layout). place q
    (Used c.args.level c.args.bucket)) c.requires.places in
    let used = word_read p words (Used c.args.level c.args.bucket) c.used-place.result
    c.word-used.result c.requires.there there c.word-used.ensures in
    λ slot low high. unused_free (word_at p words) c.args.level c.args.bucket c.word-used.result
    c.requires.unused used slot (omega (arith, low))
