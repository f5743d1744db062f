use Rattle.std.proofs.Common.{ℕ, List, not, is_lt, nat_cmp, Bor, rules, subst, sym, IsSorted}
use Rattle.std.specs.Cmp.Lexicographic.{slice_cmp}
use Rattle.std.proofs.lemmas.List.{take_rest}
use Rattle.std.proofs.lemmas.List.Sorted.{IsPartitionPoint-from_clause}
use Rattle.keys.specs.Key.{is_before}
use Rattle.keys.proofs.callers.KeyOrder.{is_le-cmp}
use Rattle.shards.specs.Picking.{keys_of, IsRestAfter}
use Rattle.shards.proofs.KeyOrders.{sorted_drop, up_to_first, rest_from_point}
use Rattle.shards.proofs.balanced_points.keys_after.Goals as goal

pub returns-clause-sorted : goal.returns-clause-sorted
returns-clause-sorted c =
    let keys = c.args.keys.now in
    let first = c.partition_point-first.result in
    subst (IsSorted (λ (a b : Bor (List ℕ)). slice_cmp nat_cmp a.now b.now)) (sym (take_rest keys first))
    (sorted_drop (λ (a b : Bor (List ℕ)). is_lt (slice_cmp nat_cmp a.now b.now)) first keys c.requires.sorted)

pub returns-clause-rest : goal.returns-clause-rest
returns-clause-rest c =
    let keys = c.args.keys.now in
    let key = c.args.key.now in
    let first = c.partition_point-first.result in
    let test = λ (other : Bor (List ℕ)). not (is_before key other.now) in
    let parted = IsPartitionPoint-from_clause test keys first c.partition_point-first.ensures.partitioned
    (up_to_first keys c.requires.sorted key) (λ a r q k. search (rules, is_le-cmp)) in
    subst (λ (rest : List (Bor (List ℕ))). IsRestAfter key (keys_of keys) (keys_of rest)) (sym (take_rest keys first))
    (rest_from_point keys key first parted)
