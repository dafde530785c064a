use Rattle.std.proofs.Common.{rules, length, map, sym, arith, ◌∙◌, ap}
use Rattle.std.proofs.lemmas.List.{get_or-map, length-map}
use Rattle.script.specs.Scripts.{commands_of}
use Rattle.commands.specs.declared.refusals.TextRefused.{TextRefused}
use Rattle.commands.specs.Refusals.{RefusesScripts}
use Rattle.commands.specs.Scripts.{in_script, scripts_of}
use Rattle.commands.proofs.ScriptLists.{next_read, next_refused}
use Rattle.commands.proofs.scripts.read_scripts.Goals as goal

pub loop-text-preserved : goal.loop-text-preserved
loop-text-preserved g c =
    let texts = c.args.texts.now in
    let k = c.loop-text.text-index in
    let one =
    c.as_slice.ensures ∙ ap (λ t. g.T.AsSlice.items t) c.text-item.is
    ∙ sym
    (get_or-map (λ t. g.T.AsSlice.items t) texts k c.text-item.result c.as_slice.result.now c.loop-text-test.true) in
    next_read c.args.tint c.args.side c.args.models.now (map (λ t. g.T.AsSlice.items t) texts)
    c.as_slice.result.now k _ _
    (omega (arith, c.loop-text-test.true, length-map texts (λ t. g.T.AsSlice.items t))) one
    c.loop-text.invariant c.in_ok-read_next.ensures.read

pub returns-in_err-read_next-clause-refused : goal.returns-in_err-read_next-clause-refused
returns-in_err-read_next-clause-refused g c =
    let texts = c.args.texts.now in
    let k = c.loop-text.text-index in
    let one =
    c.as_slice.ensures ∙ ap (λ t. g.T.AsSlice.items t) c.text-item.is
    ∙ sym
    (get_or-map (λ t. g.T.AsSlice.items t) texts k c.text-item.result c.as_slice.result.now c.loop-text-test.true) in
    let by : (r : TextRefused)
    → RefusesScripts r (in_script (length c.loop-text.scripts.items)
    (commands_of c.args.tint c.args.side c.args.models.now c.as_slice.result.now))
    → RefusesScripts r (scripts_of c.args.tint c.args.side c.args.models.now
    (map (λ t. g.T.AsSlice.items t) texts)) =
    λ r. next_refused r c.args.tint c.args.side c.args.models.now
    (map (λ t. g.T.AsSlice.items t) texts)
    c.as_slice.result.now k c.loop-text.scripts.items
    (omega (arith, c.loop-text-test.true, length-map texts (λ t. g.T.AsSlice.items t)))
    one c.loop-text.invariant in
    search (by, rules)
