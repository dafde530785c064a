use Rattle.std.proofs.Common.{refl, arith, ◌+◌}
use Rattle.store_run.proofs.Logging.{appended_are, appends_record, keeps_loses}
use Rattle.store_run.proofs.stored_versions.Versions.append.Goals as goal

pub returns-clause-are : goal.returns-clause-are
returns-clause-are c =
    appended_are c.args.self.now c.keep_root.new.self c.args.next c.args.root c.number-number.result (c.moment-version.result + 1) c.requires.are c.number-number.ensures.store
    (omega (arith, c.moment-version.ensures.value)) c.requires.may c.keep_root.ensures.event _ c.keep_root.ensures.keeps
    refl refl refl refl c.push_reserved.ensures.items refl c.take.ensures c.requires.suits

pub returns-clause-appends : goal.returns-clause-appends
returns-clause-appends c =
    appends_record c.args.self.now c.keep_root.new.self c.args.next c.args.root c.number-number.result (c.moment-version.result + 1) c.requires.are c.number-number.ensures.store
    (omega (arith, c.moment-version.ensures.value)) c.requires.may c.keep_root.ensures.event _ c.keep_root.ensures.keeps
    refl refl refl refl c.push_reserved.ensures.items refl c.take.ensures c.requires.suits

pub returns-clause-plain : goal.returns-clause-plain
returns-clause-plain c plainly =
    record {
      stored =
          appended_are c.args.self.now c.keep_root.new.self c.args.next c.args.root c.number-number.result (c.moment-version.result + 1) c.requires.are c.number-number.ensures.store
          (omega (arith, c.moment-version.ensures.value)) c.requires.may c.keep_root.ensures.event _ c.keep_root.ensures.keeps
          refl refl refl refl c.push_reserved.ensures.items refl c.take.ensures c.requires.suits;
      plain = plainly.plain;
    }

pub returns-clause-loses : goal.returns-clause-loses
returns-clause-loses c =
    keeps_loses c.args.self.now.store c.keep_root.new.self
    (c.moment-version.result + 1) c.args.root c.keep_root.ensures.keeps
