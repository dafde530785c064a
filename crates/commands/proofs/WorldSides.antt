-- The side of the world that a store of tints keeps, and the scripts of its runs.
use Rattle.std.proofs.Common.{◌≡◌, ℕ, ◌-◌, ◌/◌, ◌≤◌, ◌^◌, Bool, true, List, Option, Some, None, Ok, map, ap, sym, subst, ◌∙◌, arith}
use Rattle.std.proofs.lemmas.List.{map-id}
use Rattle.std.specs.Prelude.{IfSome}
use Rattle.colour.proofs.Quarters.{quarter_is}
use Rattle.vox_scene.proofs.Ends.{same_exponent}
use Rattle.vox_read.specs.Contents.{Content}
use Rattle.history_model.specs.Logs.{Log, store_exponent}
use Rattle.script.specs.declared.commands.ScriptLine.{ScriptLine}
use Rattle.requests.specs.Orders.{world_exponent}
use Rattle.commands.specs.Refusals.{RefusesScripts}
use Rattle.commands.specs.Scripts.{AreFitScripts, lines_in_history, scripts_of}
use Rattle.commands.specs.declared.refusals.TextRefused.{TextRefused}

side_is : (s p cells : ℕ) → 4 ≤ p → cells ≡ 2 ^ p → 2 ^ s ≡ cells / 4 → s ≡ p - 2
side_is s p cells low of is =
    same_exponent s (p - 2) (is ∙ quarter_is p cells (omega (arith, low)) of)

pub quarter_side : (r : Option ℕ) (p cells : ℕ) → 4 ≤ p → cells ≡ 2 ^ p
    → IfSome r (λ s. 2 ^ s ≡ cells / 4) → IfSome r (λ s. s ≡ p - 2)
quarter_side None p cells low of is = tt
quarter_side (Some s) p cells low of is = side_is s p cells low of is

pub quarter_kept : (r : Option ℕ) (tint : Bool) (p cells : ℕ) → tint ≡ true → 4 ≤ p
    → cells ≡ 2 ^ p → IfSome r (λ s. 2 ^ s ≡ cells / 4)
    → IfSome r (λ s. store_exponent tint s ≡ p)
quarter_kept None tint p cells tinted low of is = tt
quarter_kept (Some s) tint p cells tinted low of is =
    let e = side_is s p cells low of is in
    ap (λ (b : Bool). store_exponent b s) tinted ∙ omega (arith, e, low)

-- ---- scripts of a world of this side

pub fit_by : (tint : Bool) (side kept : ℕ) (models : List Content)
    (scripts : List (List ScriptLine)) → store_exponent tint side ≡ kept
    → AreFitScripts tint (store_exponent tint side) models scripts
    → AreFitScripts tint kept models scripts
fit_by tint side kept models scripts same fits =
    subst (λ (s : ℕ). AreFitScripts tint s models scripts) same fits

-- ---- what was read by the side of a history's world

told_is : (log : Log) (models : List Content) (texts : List (List ℕ)) (side : ℕ)
    → side ≡ world_exponent log.coloured log.side
    → scripts_of log.coloured side models (map (λ t. t) texts) ≡ lines_in_history log models texts
told_is log models texts side same =
    ap (λ (ts : List (List ℕ)). scripts_of log.coloured side models ts) (map-id texts)
    ∙ ap (λ (s : ℕ). scripts_of log.coloured s models texts) same

pub told_by : (log : Log) (models : List Content) (texts : List (List ℕ)) (side : ℕ)
    (scripts : List (List ScriptLine)) → side ≡ world_exponent log.coloured log.side
    → scripts_of log.coloured side models (map (λ t. t) texts) ≡ Ok scripts
    → lines_in_history log models texts ≡ Ok scripts
told_by log models texts side scripts same read = sym (told_is log models texts side same) ∙ read

pub told_refused : (log : Log) (models : List Content) (texts : List (List ℕ)) (side : ℕ)
    (r : TextRefused) → side ≡ world_exponent log.coloured log.side
    → RefusesScripts r (scripts_of log.coloured side models (map (λ t. t) texts))
    → RefusesScripts r (lines_in_history log models texts)
told_refused log models texts side r same refused =
    subst (RefusesScripts r) (told_is log models texts side same) refused
