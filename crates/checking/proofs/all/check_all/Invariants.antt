use Rattle.std.proofs.Common.{◌≡◌, ◌+◌, ◌++◌, drop, map, vec_items}
use Rattle.std.specs.Prelude.{vec_len}
use Rattle.std.specs.Vec.Iter.{into_iter_items, into_iter_len}
use Rattle.checking.specs.Check.{count_differences, lines_from}
use Rattle.checking.proofs.all.check_all.Given as goal

-- the text so far, and the text about the remaining proxies
abbrev pub invariant-loop-replies : goal.invariant-loop-replies
invariant-loop-replies l = record {
  reported :
      l.checked.text.items
      ++ lines_from l.proxy (map vec_items (into_iter_items l.replies-iterator)) (map vec_items (into_iter_items l.recorded))
      ≡ lines_from 0 (map vec_items l.fn.expected.items) (map vec_items l.fn.recorded.items);
  counted :
      l.checked.difference_count
      + count_differences (map vec_items (into_iter_items l.replies-iterator)) (map vec_items (into_iter_items l.recorded))
      ≡ count_differences (map vec_items l.fn.expected.items) (map vec_items l.fn.recorded.items);
  passed : l.proxy + into_iter_len l.replies-iterator ≡ vec_len l.fn.expected;
  others : into_iter_len l.recorded ≡ into_iter_len l.replies-iterator;
  expected_left : into_iter_items l.replies-iterator ≡ drop l.proxy l.fn.expected.items;
  recorded_left : into_iter_items l.recorded ≡ drop l.proxy l.fn.recorded.items;
}
