use Rattle.keys.proofs.callers.KeyOrder.{is_le-cmp}
use Rattle.keys.proofs.range.Range.holds.Goals as goal

pub returns-then-is_le : goal.returns-then-is_le
returns-then-is_le c =
    let e = is_le-cmp c.args.self.now.begin c.args.key.now in
    record { holds = (λ h. (cc, cc), λ h. let k = h.1 in cc) }

pub returns-else-is_le : goal.returns-else-is_le
returns-else-is_le c =
    let e = is_le-cmp c.args.self.now.begin c.args.key.now in
    record { holds = (λ h. (cc, cc), λ h. let k = h.0 in cc) }
