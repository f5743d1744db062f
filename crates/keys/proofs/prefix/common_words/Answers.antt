use Rattle.std.proofs.Common.{rules, arith, ap, ◌∙◌, ◌≡◌, ◌*◌, take, drop}
use Rattle.std.specs.Slice.Iter.{chunks_exact_size, chunks_exact_rest}
use borrow.Author.Tests.{tests}
use Rattle.keys.specs.Head.{head_of}
use Rattle.keys.proofs.Words.{equal_by_heads, same_of_pair}
use Rattle.keys.proofs.prefix.common_words.Goals as goal

-- At each place that is counted stands a pair of words, one of each list, whose heads are equal.
pub returns-clause-same : goal.returns-clause-same
returns-clause-same c =
    let a = c.args.a.now in
    let b = c.args.b.now in
    let counted = c.count.ensures.runs in
    let taken = c.take_while.ensures.runs counted.0 counted.0.seen counted.1 in
    let pairs = c.zip.ensures.runs taken.0 taken.0.seen taken.1 in
    let left = pairs.0 in
    let right = pairs.2.0 in
    let left_size : chunks_exact_size left.from ≡ 8 = search rules in
    let right_size : chunks_exact_size right.from ≡ 8 = search rules in
    let left_rest : chunks_exact_rest left.from ≡ a = search rules in
    let right_rest : chunks_exact_rest right.from ≡ b = search rules in
    let left_words = c.chunks_exact.ensures.runs left left.seen (search rules) in
    let right_words = c.chunks_exact-2.ensures.runs right right.seen (search rules) in
    let equal = (taken.2.2 (λ x r q h. search rules)).0 in
    equal_by_heads c.count.result a b (λ i. omega (arith, c.type_inv.a i)) (λ i. omega (arith, c.type_inv.b i))
    (search rules) (search rules)
    (λ k less. same_of_pair (counted.0.at k) (left.at k) (right.at k) (λ z. head_of z.now)
    (head_of (take 8 (drop (k * 8) a))) (head_of (take 8 (drop (k * 8) b)))
    (counted.0.reads k (c.args.a, c.args.b) (search rules))
    (search rules) (search rules)
    (left_words.2 k) (right_words.2 k) (equal k)
    (λ z h. ap head_of (h.2.0 ∙ ap (λ n. take n (drop (k * n) (chunks_exact_rest left.from))) left_size
    ∙ ap (λ xs. take 8 (drop (k * 8) xs)) left_rest))
    (λ z h. ap head_of (h.2.0 ∙ ap (λ n. take n (drop (k * n) (chunks_exact_rest right.from))) right_size
    ∙ ap (λ xs. take 8 (drop (k * 8) xs)) right_rest))
    (λ z h. search (rules, tests)))
