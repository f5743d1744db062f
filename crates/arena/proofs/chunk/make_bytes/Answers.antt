use Rattle.std.proofs.Common.{◌≡◌, [], vec_len, sym, ◌∙◌, arith}
use Rattle.std.proofs.lemmas.Bool.{eqb-true}
use Rattle.std.proofs.lemmas.List.{nil_from_length}
use Rattle.arena.proofs.chunk.make_bytes.Goals as goal

pub returns-then-is_empty-clause-bytes : goal.returns-then-is_empty-clause-bytes
returns-then-is_empty-clause-bytes g c =
    let none : vec_len c.args.bytes.now ≡ 0 = eqb-true _ 0 (sym c.is_empty.ensures ∙ c.if-is_empty.true) in
    let empty : c.args.bytes.now.items ≡ [] = nil_from_length _ (omega (arith, none)) in
    rw empty (rw (c.unwrap.ensures, empty, none) at c.resize.ensures.items)
