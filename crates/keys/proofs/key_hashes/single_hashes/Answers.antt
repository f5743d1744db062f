use Rattle.std.proofs.Common.{◌+◌, get_or, inl, take, sym, subst}
use Rattle.std.specs.List.{AllZip}
use Rattle.std.proofs.lemmas.List.{get_or_default}
use Rattle.keys.specs.Hash.{IsHashOf}
use Rattle.keys.proofs.callers.Lists.{AllZip-more}
use Rattle.keys.proofs.Kept.{not_true}
use Rattle.keys.proofs.key_hashes.single_hashes.Goals as goal

pub returns-then-not-has_single : goal.returns-then-not-has_single
returns-then-not-has_single g c =
    let ranges = g.L.RangeList.ranges c.args.ranges.now in
    record {
      hashes = inl (
        c.new.ensures.items,
        λ k d within single.
            not_true _ c.if-not-has_single.true (c.has_single.ensures.single.1 (k, get_or ranges k d, within, get_or_default ranges k (get_or ranges k d) d within, single)),
      );
    }

pub loop-index-preserved : goal.loop-index-preserved
loop-index-preserved g c =
    let ranges = g.L.RangeList.ranges c.args.ranges.now in
    subst (AllZip IsHashOf (take (c.loop-index.index + 1) ranges)) (sym c.in_ok-push.ensures.items)
    (AllZip-more IsHashOf ranges c.loop-index.index c.loop-index.hashes.items c.range.result c.single_hash.result
    c.range.ensures.range c.loop-index.invariant c.single_hash.ensures.hash)
