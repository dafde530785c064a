use Rattle.std.proofs.Common.{◌∙◌, arith, refl}
use Rattle.conformance.proofs.OfScripts.Saving.{all_lines_saved, no_line_saved}
use Rattle.conformance.proofs.OfSessions.Looping.{asked_next, asked_within}
use Rattle.world_run.proofs.Accepting.{all_answers, next_saved}
use Rattle.world_run.proofs.accepted.push_accepted.Goals as goal

pub loop-k-init : goal.loop-k-init
loop-k-init c = record {
  saved = no_line_saved c.args.saves.now.items;
  few = omega arith;
  capacity = refl;
}

pub push_save-requires : goal.push_save-requires
push_save-requires c =
    let within =
    asked_within c.args.lines.now c.loop-k.k c.index-lines-k.result c.loop-k-test.true c.index-lines-k.is in
    let few = c.loop-k.invariant.few in
    let same = c.loop-k.invariant.capacity in
    let room = c.requires.room in
    omega arith

pub loop-k-preserved : goal.loop-k-preserved
loop-k-preserved c =
    let next =
    asked_next c.args.lines.now c.loop-k.k c.index-lines-k.result c.loop-k-test.true c.index-lines-k.is in
    let few = c.loop-k.invariant.few in
    let more = c.push_save.ensures.len in
    record {
      saved =
          next_saved c.args.saves.now.items c.loop-k.saves.items c.push_save.new.saves.items c.args.lines.now c.args.answers.now c.loop-k.k c.index-lines-k.result c.answer_at-answer.result
          c.loop-k-test.true c.requires.many c.index-lines-k.is c.answer_at-answer.ensures c.loop-k.invariant.saved c.push_save.ensures.saved;
      few = omega arith;
      capacity = c.push_save.ensures.capacity ∙ c.loop-k.invariant.capacity;
    }

pub returns : goal.returns
returns c =
    let past = c.loop-k-test.false in
    let many = c.requires.many in
    all_lines_saved c.args.saves.now.items c.loop-k.saves.items c.args.lines.now c.loop-k.k c.args.answers.now past
    (all_answers c.args.saves.now.items c.loop-k.saves.items c.args.lines.now c.args.answers.now c.loop-k.k (omega arith) c.loop-k.invariant.saved)
