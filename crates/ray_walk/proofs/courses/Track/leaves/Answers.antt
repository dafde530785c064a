use Rattle.std.proofs.Common.{◌≡◌, ℕ, ◌-◌, ◌*◌, arith, refl, ap, ◌∙◌}
use Rattle.ray_walk.proofs.TrackLaws.{ahead_stays}
use Rattle.ray_walk.proofs.courses.Track.leaves.Goals as goal

pub returns-then-self-gt0-clause-within : goal.returns-then-self-gt0-clause-within
returns-then-self-gt0-clause-within c k c' p low high =
    let way : c.saturating_sub-way.result ≡ c.args.self.now.unit * c.args.high - c.args.self.now.start = c.saturating_sub-way.ensures ∙ ap (λ (n : ℕ). c.args.self.now.unit * n - c.args.self.now.start) c.from.ensures in
    ahead_stays c.args.self.now c.args.low c.args.high k c' c.saturating_sub-way.result _ c.requires.track (omega arith) p low high way refl
