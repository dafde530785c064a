use Rattle.store_run.proofs.Rebuilding.{made_all, gained_all, met_all}
use Rattle.store_run.proofs.stored_versions.Versions.rebuild.Goals as goal

pub returns-clause-makes : goal.returns-clause-makes
returns-clause-makes g c =
    made_all c.args.self.now c.share-base.new.self c.rebuild_from-made.new.self c.give_back.new.self c.share-base.result c.args.act c.number-number.result
    c.moment.result c.rebuild_from-made.result c.share-base.ensures.shares c.moment.ensures.value c.share-base.ensures.are
    c.rebuild_from-made.ensures.only c.give_back.ensures.puts c.number-number.ensures.store c.rebuild_from-made.ensures.makes

pub returns-clause-meets : goal.returns-clause-meets
returns-clause-meets g c =
    met_all c.args.self.now c.share-base.new.self c.rebuild_from-made.new.self c.give_back.new.self c.share-base.result c.args.act c.number-number.result
    c.moment.result c.rebuild_from-made.result c.share-base.ensures.shares c.moment.ensures.value c.share-base.ensures.are
    c.rebuild_from-made.ensures.only c.give_back.ensures.puts c.number-number.ensures.store c.rebuild_from-made.ensures.meets

pub returns-clause-gains : goal.returns-clause-gains
returns-clause-gains g c =
    gained_all c.args.self.now c.share-base.new.self c.rebuild_from-made.new.self c.give_back.new.self c.share-base.result c.args.act c.number-number.result
    c.moment.result c.rebuild_from-made.result c.share-base.ensures.shares c.moment.ensures.value c.share-base.ensures.are
    c.rebuild_from-made.ensures.only c.give_back.ensures.puts c.number-number.ensures.store c.rebuild_from-made.ensures.makes
