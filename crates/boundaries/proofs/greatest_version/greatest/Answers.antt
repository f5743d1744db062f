use Rattle.std.proofs.Common.{rules, SFits, w64}
use Rattle.boundaries.proofs.AnsweredKeys.{root_known}
use Rattle.boundaries.proofs.Most.{least_kept, most_kept}
use Rattle.boundaries.proofs.greatest_version.greatest.Goals as goal

pub greatest_between-requires : goal.greatest_between-requires
greatest_between-requires c =
    let from = c.requires.from in
    let to = c.requires.to in
    record {
      from = rw c.new-from.ensures.sought record { searchable = from.searchable; known = root_known from };
      to = rw c.new-to.ensures.sought record { searchable = to.searchable; known = root_known to };
      nested = rw (c.new-from.ensures.sought, c.new-to.ensures.sought) c.requires.nested;
    }

pub returns : goal.returns
returns c =
    let most = rw (c.new-from.ensures.sought, c.new-to.ensures.sought) at c.greatest_between.ensures.most in
    let fits : SFits w64 c.args.least = search rules in
    let kept : SFits w64 c.greatest_between.result = search rules in
    record { most = most_kept kept (least_kept fits most) }
