use Rattle.std.proofs.Common.{◌≡◌, ◌-◌, ◌≤◌, length, take, drop}
use Rattle.std.specs.List.{AllZip}
use Rattle.keys.specs.Hash.{hash_of}
use Rattle.keys.specs.Range.{IsSingle}
use Rattle.stepmap.proofs.step_map.lookup.hashes_from.Given as goal

abbrev pub invariant-loop-index : goal.invariant-loop-index
invariant-loop-index g l = record {
  hashes : AllZip (λ q hash. IsSingle q.0 → hash ≡ hash_of q.0.begin)
      (take (l.index - l.from) (drop l.from (g.L.QueryList.queries l.queries))) l.hashes.items;
  count : length l.hashes.items ≡ l.index - l.from;
  from : l.from ≤ l.index;
}
