use Rattle.std.proofs.Common.{true, ◌∙◌, sym}
use Rattle.boundaries.proofs.SingleRange.{single_of, single_equal}
use Rattle.boundaries.proofs.callers.WritingValues.{begins_before_end}
use Rattle.boundaries.proofs.overwrite.Overwrite.of.Goals as goal
use Rattle.boundaries.proofs.overwrite.Overwrite.of.Goals.{then-is_some, else-is_some}

pub invariant_of-result : goal.invariant_of-result
invariant_of-result c =
    let range = c.args.range.now in
    let begin = c.begin-2.ensures.bytes in
    let end = c.end-2.ensures.bytes in
    record {
      start_is_key = rw begin range.begin_is_key;
      end_is_key = rw end range.end_is_key;
      filled = rw (begin, end) (begins_before_end range c.requires.filled);
      common = elim c.if-is_some.branch [
        | then-is_some w ↦
            rw (w.common_prefix_len-is, begin, end, w.begin.ensures.bytes)
            (single_equal range (single_of range c.hash.result c.hash.ensures.hash (sym c.is_some.ensures ∙ w.if-is_some.true)))
        | else-is_some w ↦
            rw (begin, end, w.common_prefix_len-is)
            (rw (w.begin-else-is_some.ensures.bytes, w.end.ensures.bytes) at
            w.common_prefix_len-common_prefix_len.ensures.same)
      ];
    }
