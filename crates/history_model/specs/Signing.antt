-- Who did what a history tells.
use Rattle.std.specs.Prelude.{ℕ, ◌^◌, ◌<◌, All}
use Rattle.history_model.specs.Logs.{Log}

-- a session of a run, and a line of its script
pub record IsSigned (session line : ℕ) : Type 0 where
  pub of_64 : session < 64
  pub of_32_bits : line < 2 ^ 32

-- each record and each mark has these
pub record AreSigned (log : Log) : Type 0 where
  pub records : All (λ r. IsSigned r.session r.line) log.records
  pub marks : All (λ mark. IsSigned mark.session mark.line) log.marks
