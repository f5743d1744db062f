use Rattle.std.proofs.Common.{◌≡◌, ◌+◌, ◌-◌, ℕ, ℤ, [], ◌∷◌, ◌++◌, length, take, drop, slice_get, Some, ap, sym, subst, ◌∙◌, arith, length-append}
use Rattle.std.specs.List.{AllZip}
use Rattle.std.specs.Prelude.{Option, None, IsSomeAnd, unwrap_or}
use Rattle.std.proofs.lemmas.Slice.Zip.{all_zipped_more}
use Rattle.keys.specs.Hash.{hash_of, IsHashOf}
use Rattle.keys.specs.Range.{IsSingle}
use Rattle.keys.specs.declared.range.Range.{Range}
use Rattle.keys.proofs.callers.Lists.{part_more, some_at}
use Rattle.stepmap.proofs.step_map.lookup.hashes_from.Goals as goal

-- the hash of a single key is there
found : (q : Range × ℤ) (hash : Option ℕ) → IsHashOf q.0 hash → IsSingle q.0 → unwrap_or hash 0 ≡ hash_of q.0.begin
found q None none single = absurd (none single)
found q (Some hash) is single = is.1

pub loop-index-preserved : goal.loop-index-preserved
loop-index-preserved g c =
    let queries = g.L.QueryList.queries c.args.queries.now in
    let from = c.args.from in
    let index = c.loop-index.index in
    let n = index - from in
    let at = some_at queries index (omega (arith, c.loop-index-test, c.requires.within)) in
    let q = at.0 in
    let IsHash = λ (q : Range × ℤ) (hash : ℕ). IsSingle q.0 → hash ≡ hash_of q.0.begin in
    let place : from + n ≡ index = omega (arith, c.loop-index.invariant.from) in
    let is : slice_get queries (from + n) ≡ Some q = ap (slice_get queries) place ∙ at.1 in
    let answered = subst (λ o. IsSomeAnd o (λ q. IsHashOf q.0 c.hash.result)) at.1 c.hash.ensures.hash in
    let more : (index + 1) - from ≡ n + 1 = omega (arith, c.loop-index.invariant.from) in
    let next = ap (λ k. take k (drop from queries)) more ∙ part_more queries from n q is in
    let hash : IsHash q c.unwrap_or.result = λ single. c.unwrap_or.ensures ∙ found q c.hash.result answered single in
    record {
      hashes = subst (λ hashes. AllZip IsHash (take ((index + 1) - from) (drop from queries)) hashes) (sym c.push.ensures.items)
          (subst (λ part. AllZip IsHash part (c.loop-index.hashes.items ++ c.unwrap_or.result ∷ [])) (sym next)
          (all_zipped_more IsHash (take n (drop from queries)) c.loop-index.hashes.items q c.unwrap_or.result
          c.loop-index.invariant.hashes hash));
      count = omega (
        arith,
        ap length c.push.ensures.items,
        length-append c.loop-index.hashes.items (c.unwrap_or.result ∷ []),
        c.loop-index.invariant.count,
        c.loop-index.invariant.from,
      );
      from = omega (arith, c.loop-index.invariant.from);
    }
