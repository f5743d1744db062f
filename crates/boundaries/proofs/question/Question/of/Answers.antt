use Rattle.std.proofs.Common.{◌≡◌, ◌∷◌, ℕ, [], Option, None, Some, true, false, is_some, length, take, sym, ap, ◌∙◌}
use Rattle.std.proofs.Math.Seq.{take-append_seam, take-length}
use Rattle.keys.specs.Hash.{IsHashOf}
use Rattle.keys.specs.Range.{IsSingle}
use Rattle.keys.specs.declared.range.Range.{Range}
use Rattle.boundaries.proofs.callers.WritingValues.{begins_before_end}
use Rattle.boundaries.proofs.question.Question.of.Goals as goal
use Rattle.boundaries.proofs.question.Question.of.Goals.{then-is_single, else-is_single}

-- A range that has a hash holds one key alone.
single_of : (range : Range) (hash : Option ℕ) → IsHashOf range hash → is_some hash ≡ true → IsSingle range
single_of range None is some = absurd (let t : false ≡ true = some in cc)
single_of range (Some hash) is some = is.0

-- A key and the one right after it begin alike to the end of the former.
single_equal : (range : Range) → IsSingle range → take (length range.begin) range.begin ≡ take (length range.begin) range.end
single_equal range single =
    take-length range.begin ∙ sym (ap (take (length range.begin)) single ∙ take-append_seam range.begin (0 ∷ []))

pub invariant_of-result : goal.invariant_of-result
invariant_of-result c =
    let range = c.args.query.range in
    let is_begin : c.begin-begin.result.now ≡ range.begin = c.begin-begin.ensures.bytes in
    let is_end : c.end-end.result.now ≡ range.end = c.end-end.ensures.bytes in
    let single = λ (yes : c.is_some-is_single.result ≡ true).
    single_of range c.args.query.hash c.requires.hash (sym c.is_some-is_single.ensures ∙ yes) in
    record {
      filled = rw (is_begin, is_end) (begins_before_end range c.requires.filled);
      single = λ yes. rw (is_begin, is_end) (single yes);
      common = elim c.if-is_single.branch [
        | then-is_single w ↦
            rw (w.common_prefix_len-is, is_begin, is_end) (single_equal range (single w.if-is_single.true))
        | else-is_single w ↦ rw w.common_prefix_len-is w.common_prefix_len-common_prefix_len.ensures.same
      ];
    }
