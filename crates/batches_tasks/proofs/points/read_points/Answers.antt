use Rattle.std.proofs.Common.{◌≡◌, ℕ, List, Option, None, sym, subst, rules}
use Rattle.std.specs.Prelude.{IfNone, IfSome}
use Rattle.std.specs.Io.KnownBytes.{IsAtEnd}
use Rattle.batches_tasks.specs.Points.{ArePointLines, TakesPoint}
use Rattle.batches_tasks.proofs.PointLines.{all_keys, if_ok_weaker, one_key_more}
use Rattle.batches_tasks.proofs.points.read_points.Goals as goal

pub returns-in_default : goal.returns-in_default
returns-in_default g c =
    let left = g.R.Read.remaining c.args.reader.now in
    let now = g.R.Read.remaining c.loop-number.reader in
    let keys = c.loop-number.points.items in
    let none : c.in_ok-point.field-0 ≡ None = search rules in
    let end : IsAtEnd now = subst (λ (found : Option (List ℕ)). IfNone found (IsAtEnd now)) none c.in_ok-point.ensures.end in
    let all = all_keys left now keys c.loop-number.invariant end in
    record {
      points = if_ok_weaker (λ split. split ≡ keys) (λ split. IfSome left (λ bytes. ArePointLines bytes split)) c.checked.result
          (λ split is. subst (λ (ks : List (List ℕ)). IfSome left (λ bytes. ArePointLines bytes ks)) (sym is) all)
          c.checked.ensures.points;
    }

pub loop-number-preserved : goal.loop-number-preserved
loop-number-preserved g c =
    let left = g.R.Read.remaining c.args.reader.now in
    let now = g.R.Read.remaining c.loop-number.reader in
    let next = g.R.Read.remaining c.next_point.new.reader in
    let taken = subst (λ (found : Option (List ℕ)). IfSome found (TakesPoint now next)) c.in-Some.is c.in_ok-point.ensures.point in
    one_key_more left now next c.loop-number.points.items _ c.in-Some.point c.loop-number.invariant taken c.in_ok-push.ensures.items
