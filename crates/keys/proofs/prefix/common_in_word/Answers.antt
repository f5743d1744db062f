use Rattle.std.proofs.Common.{ap, sym, ◌∙◌, arith, take, slice_index}
use Rattle.std.specs.Int.{w64, to_be_bytes}
use Rattle.keys.proofs.FirstWord.{equal_by_heads, apart_by_heads}
use Rattle.keys.proofs.Words.{are_bytes}
use Rattle.keys.proofs.prefix.common_in_word.Goals as goal

pub returns-clause-same : goal.returns-clause-same
returns-clause-same c =
    let n = c.same_bytes.result in
    equal_by_heads c.args.a.now c.args.b.now (are_bytes c.args.a.now (λ i. omega (arith, c.type_inv.a i)))
    (are_bytes c.args.b.now (λ i. omega (arith, c.type_inv.b i))) c.requires.long.0 c.requires.long.1 n c.same_bytes.ensures.within
    (ap (λ h. take n (to_be_bytes w64 h)) (sym c.key_head.ensures.key_head) ∙ c.same_bytes.ensures.same
    ∙ ap (λ h. take n (to_be_bytes w64 h)) c.key_head-2.ensures.key_head)

pub returns-clause-differ : goal.returns-clause-differ
returns-clause-differ c less =
    let n = c.same_bytes.result in
    apart_by_heads c.args.a.now c.args.b.now (are_bytes c.args.a.now (λ i. omega (arith, c.type_inv.a i)))
    (are_bytes c.args.b.now (λ i. omega (arith, c.type_inv.b i))) c.requires.long.0 c.requires.long.1 n less
    (λ e. c.same_bytes.ensures.differ less (ap (λ h. slice_index (to_be_bytes w64 h) n) c.key_head.ensures.key_head ∙ e
    ∙ sym (ap (λ h. slice_index (to_be_bytes w64 h) n) c.key_head-2.ensures.key_head)))
