use Rattle.std.proofs.Common.{◌≡◌, ℕ, ◌+◌, ◌-◌, sym, ◌∙◌, ap, arith}
use Rattle.history_model.specs.Worlds.{World}
use Rattle.history_model.specs.Tints.{ink_of}
use Rattle.history_model.specs.Parts.{part, part_number, after_parts, made_in}
use Rattle.history_model.proofs.PartLaws.{fixed_step, read_step}
use Rattle.history_model.proofs.making.is_made.Goals as goal

pub returns-in-Fixed : goal.returns-in-Fixed
returns-in-Fixed g c = λ w of_w.
    let n : ℕ = c.args.n in
    let parts : ℕ → World → World =
    part n (ink_of c.args.models.now c.args.act.now) c.args.act.now in
    let number : ℕ = part_number c.args.act.now in
    let k : ℕ = c.part_number-parts.result - 1 - c.loop-done.done in
    let value = c.part_number-parts.ensures.value in
    let low = c.loop-done-test.true in
    sym (fixed_step parts
    (made_in n c.args.models.now c.args.act.now) w c.args.q c.loop-done.at number
    c.loop-done.done k (c.loop-done.invariant w)
    (omega (arith, value, low)) c.in-Fixed.set c.in-Fixed.ensures)

pub loop-done-preserved : goal.loop-done-preserved
loop-done-preserved g c = λ w.
    let n : ℕ = c.args.n in
    let parts : ℕ → World → World =
    part n (ink_of c.args.models.now c.args.act.now) c.args.act.now in
    let number : ℕ = part_number c.args.act.now in
    let k : ℕ = c.part_number-parts.result - 1 - c.loop-done.done in
    let value = c.part_number-parts.ensures.value in
    let low = c.loop-done-test.true in
    let left : k ≡ number - (c.loop-done.done + 1) = omega (arith, value, low) in
    read_step parts (made_in n c.args.models.now c.args.act.now) w c.args.q c.loop-done.at number
    c.loop-done.done k (c.loop-done.invariant w)
    (omega (arith, value, low)) c.in-Read.p c.in-Read.ensures
    ∙ ap (λ (j : ℕ). after_parts parts j w c.in-Read.p) left

pub returns : goal.returns
returns g c = λ w of_w.
    let n : ℕ = c.args.n in
    let parts : ℕ → World → World =
    part n (ink_of c.args.models.now c.args.act.now) c.args.act.now in
    let value = c.part_number-parts.ensures.value in
    let end = c.loop-done-test.false in
    let none : part_number c.args.act.now - c.loop-done.done ≡ 0 = omega (arith, value, end) in
    of_w.each c.loop-done.at c.first.result c.first.ensures
    ∙ sym (c.loop-done.invariant w ∙ ap (λ (j : ℕ). after_parts parts j w c.loop-done.at) none)

pub loop-done-init : goal.loop-done-init
loop-done-init g c = λ w.
    let n : ℕ = c.args.n in
    let parts : ℕ → World → World =
    part n (ink_of c.args.models.now c.args.act.now) c.args.act.now in
    let all : part_number c.args.act.now ≡ part_number c.args.act.now - 0 = omega arith in
    ap (λ (j : ℕ). after_parts parts j w c.args.q) all
