use Rattle.std.proofs.Common.{◌≤◌, length, ap, sym, subst, arith}
use Rattle.std.specs.Prelude.{Err}
use Rattle.archcaraway_c.specs.Points.{PointsRefuse}
use Rattle.archcaraway_c.proofs.PointsRefused.{keys_refused, points_refused}
use Rattle.archcaraway_c.proofs.points_object.PointsObject.new.Goals as goal

pub returns-in-Err-clause-refused : goal.returns-in-Err-clause-refused
returns-in-Err-clause-refused c =
    let few : length c.args.lengths.now ≤ 63 = omega (arith, c.if-lengths-gt-MAX_SPLIT_POINTS.false) in
    keys_refused c.args.bytes.now c.args.lengths.now c.in-Err.refusal few c.in-Err.ensures.refused

pub returns-in-Err-checked-clause-refused : goal.returns-in-Err-checked-clause-refused
returns-in-Err-checked-clause-refused c =
    let few : length c.args.lengths.now ≤ 63 = omega (arith, c.if-lengths-gt-MAX_SPLIT_POINTS.false) in
    let keys = c.in-Ok.keys in
    subst (PointsRefuse c.args.bytes.now c.args.lengths.now) (sym c.refusal_of_points.ensures.refusal)
    (points_refused c.args.bytes.now c.args.lengths.now keys.items c.in-Err-checked.error few c.in-Ok.ensures.keys
    (λ is. omega (arith, c.in-Err-checked.ensures.too_many.0 (ap Err is), keys.ok.0))
    (λ index is.
    let fall = (c.in-Err-checked.ensures.not_rising index).0 (ap Err is) in (omega (arith, fall.0, keys.ok.0), fall.1)))
