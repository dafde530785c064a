use Rattle.std.proofs.Common.{ℕ, take, ◌∙◌, ap}
use Rattle.script.proofs.SaveNames.{all_bytes, is_utf8}
use Rattle.script.proofs.commands.SaveName.as_str.Goals as goal

-- src/save_names.rt:17:23
pub unreachable-requires : goal.unreachable-requires
unreachable-requires c =
    c.in-Err.ensures.cases.0
    (is_utf8 c.args.self.now _ c.requires
    (ap (λ (n : ℕ). take n c.args.self.now.bytes) c.from-len.ensures))

-- src/save_names.rt:9:5
pub returns : goal.returns
returns c =
    c.in-Ok.ensures.cases.0
    ∙ ap (λ (n : ℕ). take n c.args.self.now.bytes) c.from-len.ensures
    ∙ all_bytes c.args.self.now c.requires
