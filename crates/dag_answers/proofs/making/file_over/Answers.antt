use Rattle.std.proofs.Common.{rules, ◌≡◌, ◌-◌, ℕ, subst, sym, ap, ◌∙◌}
use Rattle.node_words.specs.Plans.{Layout}
use Rattle.dag_file.specs.Lists.{HoldsList, IsFileOfList}
use Rattle.dag_answers.proofs.MadeLaws.{list_file, list_held, list_rises, list_small}
use Rattle.dag_answers.proofs.making.file_over.Goals as goal

pub file_of_roots-requires-clause-roots : goal.file_of_roots-requires-clause-roots
file_of_roots-requires-clause-roots g c =
    let same : c.args.history.now.side ≡ c.history.inside.side = search rules in
    subst (λ (s : ℕ). HoldsList c.in_ok-held.held.store.told.held
    (s - 1) c.in_ok-held.held.roots.items) same
    (list_held c.args.models c.args.history.now c.in_ok-replay.replay
    c.in_ok-held.held.store.told.held c.in_ok-held.held.roots.items
    (ap (λ (p : Layout). p.side) (c.in_ok-replay.ensures.world.plan ∙ c.requires.plan))
    c.in_ok-replay.ensures.world.models c.in_ok-replay.ensures.world.log (search rules)
    c.in_ok-held.ensures.roots)

pub file_of_roots-requires-clause-rise : goal.file_of_roots-requires-clause-rise
file_of_roots-requires-clause-rise g c =
    list_rises c.args.models c.args.history.now c.in_ok-replay.replay
    c.in_ok-held.held.store.told.held c.in_ok-held.held.roots.items
    (ap (λ (p : Layout). p.side) (c.in_ok-replay.ensures.world.plan ∙ c.requires.plan))
    c.in_ok-replay.ensures.world.models c.in_ok-replay.ensures.world.log (search rules)
    c.in_ok-held.ensures.roots

pub file_of_roots-requires-clause-small : goal.file_of_roots-requires-clause-small
file_of_roots-requires-clause-small g c =
    list_small c.args.models c.args.history.now c.in_ok-replay.replay
    c.in_ok-held.held.store.told.held c.in_ok-held.held.roots.items
    (ap (λ (p : Layout). p.side) (c.in_ok-replay.ensures.world.plan ∙ c.requires.plan))
    c.in_ok-replay.ensures.world.models c.in_ok-replay.ensures.world.log (search rules)
    c.in_ok-held.ensures.roots c.requires.replays.records.few

pub returns-clause-file : goal.returns-clause-file
returns-clause-file g c =
    let same : c.args.history.now.side ≡ c.history.inside.side = search rules in
    let held = c.in_ok-held.held.store.told.held in
    let roots = c.in_ok-held.held.roots.items in
    let file = c.in_ok-file.file.items in
    list_file c.args.models c.args.history.now c.in_ok-replay.replay held roots
    (ap (λ (p : Layout). p.side) (c.in_ok-replay.ensures.world.plan ∙ c.requires.plan))
    c.in_ok-replay.ensures.world.models c.in_ok-replay.ensures.world.log (search rules)
    c.in_ok-held.ensures.roots file
    (subst (λ (s : ℕ). IsFileOfList held (s - 1) roots file) (sym same) c.in_ok-file.ensures.file)
