use Rattle.std.proofs.Common.{rules, ◌≡◌, length, eqb, w8, ap, arith, ◌/◌, ◌^◌, ℕ}
use Rattle.std.proofs.lemmas.Simd.{bitmask_splat}
use Rattle.one_store.proofs.OfEntries.MaskLaws.{no_hits, first_hit}
use Rattle.one_store.proofs.entries.tags.position.Goals as goal

pub returns-then-hits-eq0-clause-none : goal.returns-then-hits-eq0-clause-none
returns-then-hits-eq0-clause-none c q =
    let long : length c.args.tags.now ≡ 16 = search rules in
    let hits = bitmask_splat w8 eqb c.args.tags.now 16 c.args.byte long (omega arith) in
    no_hits c.args.tags.now c.args.from c.args.byte _ long
    (ap (λ (m : ℕ). m / 2 ^ c.args.from) hits) c.if-hits-eq0.true

pub returns-else-hits-eq0-clause-found : goal.returns-else-hits-eq0-clause-found
returns-else-hits-eq0-clause-found c =
    let long : length c.args.tags.now ≡ 16 = search rules in
    let hits = bitmask_splat w8 eqb c.args.tags.now 16 c.args.byte long (omega arith) in
    first_hit c.args.tags.now c.args.from c.args.byte _ long
    (ap (λ (m : ℕ). m / 2 ^ c.args.from) hits) (omega (arith, c.if-hits-eq0.false))
    (search rules)
