use Rattle.std.proofs.Common.{rules, false, ◌≡◌, ℕ, List, [], ◌∷◌, Ok, map, ap, sym, subst, ◌∙◌, arith}
use Rattle.vox_read.specs.Files.{ReadsModels}
use Rattle.gen_load.specs.Loads.{load_model, load_scripts}
use Rattle.commands.specs.Scripts.{scripts_of}
use Rattle.script_files.proofs.Loading.{few_texts, load_read}
use Rattle.script_files.proofs.demos.made_load.Goals as goal

pub read_scripts-requires-clause-few : goal.read_scripts-requires-clause-few
read_scripts-requires-clause-few c =
    few_texts c.args.n c.as_slice-2.result.now (ap (map (λ t. t.items)) c.as_slice-2.ensures.value
    ∙ ap (λ l. l.scripts) c.load-2.view_is ∙ c.in_ok-load.ensures.scripts)

pub returns-clause-read : goal.returns-clause-read
returns-clause-read c =
    let texts : map (λ t. t.items) c.as_slice-2.result.now ≡ load_scripts c.args.n =
    ap (map (λ t. t.items)) c.as_slice-2.ensures.value ∙ ap (λ l. l.scripts) c.load-2.view_is
    ∙ c.in_ok-load.ensures.scripts in
    let vox : c.as_slice.result.now ≡ c.in_ok-load.load.vox =
    c.as_slice.ensures.value ∙ ap (λ l. l.vox) c.load-2.view_is in
    let found : ReadsModels c.as_slice.result.now (Ok c.in-Ok.models) = search rules in
    load_read c.args.n c.as_slice.result.now
    (record { models = c.in-Ok.models; scripts = c.in-Ok-read_scripts.scripts })
    (map (λ t. t.items) c.as_slice-2.result.now) found
    (subst (λ (v : List ℕ). ReadsModels v (Ok (load_model c.args.n ∷ []))) (sym vox)
    c.in_ok-load.ensures.reads) texts
    (subst (λ (side : ℕ). scripts_of false side c.in-Ok.models
    (map (λ t. t.items) c.as_slice-2.result.now) ≡ Ok c.in-Ok-read_scripts.scripts.items)
    c.side.ensures c.in-Ok-read_scripts.ensures.read)

pub returns-clause-number : goal.returns-clause-number
returns-clause-number c =
    let few =
    few_texts c.args.n c.as_slice-2.result.now (ap (map (λ t. t.items)) c.as_slice-2.ensures.value
    ∙ ap (λ l. l.scripts) c.load-2.view_is ∙ c.in_ok-load.ensures.scripts) in
    omega (arith, few, c.in-Ok-read_scripts.ensures.number)
