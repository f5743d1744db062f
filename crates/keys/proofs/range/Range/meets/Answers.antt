use Rattle.std.proofs.Common.{◌≡◌, ◌∙◌, sym, rules}
use Rattle.keys.specs.Range.{ranges_meet}
use Rattle.keys.proofs.callers.Meeting.{meets_from_test, test_from_meets}
use Rattle.keys.proofs.range.Range.meets.Goals as goal

pub returns-then-lt-3-clause-meets : goal.returns-then-lt-3-clause-meets
returns-then-lt-3-clause-meets c =
    let a = c.args.self.now in
    let b = c.args.other.now in
    let e : c.lt-then-lt-3.result ≡ ranges_meet a b = search rules in
    (λ h. meets_from_test a b (sym e ∙ h), λ m. e ∙ test_from_meets a b m)

pub returns-else-lt-3-clause-meets : goal.returns-else-lt-3-clause-meets
returns-else-lt-3-clause-meets c =
    let a = c.args.self.now in
    let b = c.args.other.now in
    let e : c.if-lt-2.value ≡ ranges_meet a b = search rules in
    (λ h. meets_from_test a b (sym e ∙ h), λ m. e ∙ test_from_meets a b m)
