use Rattle.std.proofs.Common.{◌-◌, ◌+◌, ◌/◌, ℕ, arith}
use Rattle.dag_file.specs.Places.{versions_in, version_number}
use Rattle.dag_file.proofs.VersionLaws.{stands_above, stands_below, versions_rise, other_is_more}
use Rattle.dag_file.proofs.views.DagView.find.Goals as goal

pub loop-low-preserved-then-number-version-2 : goal.loop-low-preserved-then-number-version-2
loop-low-preserved-then-number-version-2 c =
    let o = c.args.self.now in
    let v : ℕ = (c.loop-low.low + c.loop-low.high) / 2 in
    let high = c.loop-low.invariant.within in
    let test = c.loop-low-test.true in
    let is = c.number_of-number.ensures in
    let less = c.if-number-version-2.true in
    stands_above o.bytes (o.side - 1) (versions_in o.bytes) c.args.version c.loop-low.low c.loop-low.high
    v
    (versions_rise c.self.inside.bytes.now c.self.inside.parts.starts c.self.inside.parts.side
    c.self.inside.parts.versions o c.self.invariant c.self.view_is)
    c.loop-low.invariant (omega (arith, high, test)) (omega (arith, is, less))

pub loop-low-preserved : goal.loop-low-preserved
loop-low-preserved c =
    let o = c.args.self.now in
    let v : ℕ = (c.loop-low.low + c.loop-low.high) / 2 in
    let high = c.loop-low.invariant.within in
    let test = c.loop-low-test.true in
    stands_below o.bytes (o.side - 1) (versions_in o.bytes) c.args.version c.loop-low.low c.loop-low.high
    v
    (versions_rise c.self.inside.bytes.now c.self.inside.parts.starts c.self.inside.parts.side
    c.self.inside.parts.versions o c.self.invariant c.self.view_is)
    c.loop-low.invariant (omega (arith, high, test))
    (other_is_more (version_number o.bytes (o.side - 1) v) c.args.version c.number_of-number.result
    c.number_of-number.ensures c.if-number-version.false c.if-number-version-2.false)
