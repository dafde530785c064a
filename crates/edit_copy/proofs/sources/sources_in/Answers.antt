use Rattle.std.proofs.Common.{◌-◌, ◌∙◌, [], ◌∷◌}
use Rattle.node_words.specs.Held.{name_in}
use Rattle.edit_copy.specs.Copies.{IsSource}
use Rattle.edit_copy.proofs.SourceLaws.{source_before, each_of_eight}
use Rattle.edit_copy.proofs.sources.sources_in.Goals as goal

pub returns-clause-sources : goal.returns-clause-sources
returns-clause-sources g c row are =
    let was = g.B.Blocks.seen c.args.store.now in
    let after1 = c.source_in.ensures.seen in
    let after2 = c.source_in-2.ensures.seen ∙ after1 in
    let after3 = c.source_in-3.ensures.seen ∙ after2 in
    let after4 = c.source_in-4.ensures.seen ∙ after3 in
    let after5 = c.source_in-5.ensures.seen ∙ after4 in
    let after6 = c.source_in-6.ensures.seen ∙ after5 in
    let after7 = c.source_in-7.ensures.seen ∙ after6 in
    each_of_eight
    (λ j. IsSource was.held (c.args.level - 1) row c.args.at c.args.offset j
    (name_in (c.source_in.result ∷ c.source_in-2.result ∷ c.source_in-3.result ∷ c.source_in-4.result ∷ c.source_in-5.result ∷ c.source_in-6.result ∷ c.source_in-7.result ∷ c.source_in-8.result ∷ []) j))
    (c.source_in.ensures.source row are)
    (source_before was _ c.args.level c.args.sources.now row c.args.at c.args.offset 1 c.source_in-2.result after1 are c.source_in-2.ensures.source)
    (source_before was _ c.args.level c.args.sources.now row c.args.at c.args.offset 2 c.source_in-3.result after2 are c.source_in-3.ensures.source)
    (source_before was _ c.args.level c.args.sources.now row c.args.at c.args.offset 3 c.source_in-4.result after3 are c.source_in-4.ensures.source)
    (source_before was _ c.args.level c.args.sources.now row c.args.at c.args.offset 4 c.source_in-5.result after4 are c.source_in-5.ensures.source)
    (source_before was _ c.args.level c.args.sources.now row c.args.at c.args.offset 5 c.source_in-6.result after5 are c.source_in-6.ensures.source)
    (source_before was _ c.args.level c.args.sources.now row c.args.at c.args.offset 6 c.source_in-7.result after6 are c.source_in-7.ensures.source)
    (source_before was _ c.args.level c.args.sources.now row c.args.at c.args.offset 7 c.source_in-8.result after7 are c.source_in-8.ensures.source)

pub returns-clause-rests : goal.returns-clause-rests
returns-clause-rests g c =
    let to2 = g.met.B.Blocks.rests_on _ _ _ c.source_in.ensures.rests c.source_in-2.ensures.rests in
    let to3 = g.met.B.Blocks.rests_on _ _ _ to2 c.source_in-3.ensures.rests in
    let to4 = g.met.B.Blocks.rests_on _ _ _ to3 c.source_in-4.ensures.rests in
    let to5 = g.met.B.Blocks.rests_on _ _ _ to4 c.source_in-5.ensures.rests in
    let to6 = g.met.B.Blocks.rests_on _ _ _ to5 c.source_in-6.ensures.rests in
    let to7 = g.met.B.Blocks.rests_on _ _ _ to6 c.source_in-7.ensures.rests in
    g.met.B.Blocks.rests_on _ _ _ to7 c.source_in-8.ensures.rests
