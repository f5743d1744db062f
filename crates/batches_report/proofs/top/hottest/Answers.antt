use Rattle.std.proofs.Common.{List, map, subst, rules}
use Rattle.std.specs.Prelude.{IsPermutation}
use Rattle.std.proofs.lemmas.List.Sorted.{IsPermutation-map}
use Rattle.batches_report.specs.Hottest.{range_of}
use Rattle.batches_report.proofs.Falling.{fall_from_sort_by}
use Rattle.batches_report.proofs.top.hottest.Goals as goal

pub returns : goal.returns
returns c = record {
  hottest = record {
    all = c.sort_by.new.self.items;
    same =
        subst (λ all. IsPermutation all (map range_of c.sort_by.new.self.items)) c.in_ok-hot.ensures.all
        (IsPermutation-map range_of c.in_ok-hot.hot.items c.sort_by.new.self.items c.in_ok-sort_by.ensures.permutation);
    fall = fall_from_sort_by c.sort_by.new.self.items c.in_ok-sort_by.ensures.sorted (λ a r f k. search rules);
    first = c.truncate.ensures.items;
  };
}
