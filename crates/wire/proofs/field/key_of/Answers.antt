use Rattle.std.proofs.Common.{take, drop, sym, arith}
use Rattle.std.proofs.lemmas.List.{take-append-drop, take_rest}
use Rattle.wire.proofs.Taken.{number_takes, back_2}
use Rattle.wire.proofs.Rests.{rest_after, rest_parts, rest_following}
use Rattle.wire.proofs.field.key_of.Goals as goal

pub returns-clause-rest : goal.returns-clause-rest
returns-clause-rest c =
    let frame = c.args.frame.now in
    let rest = c.in_ok-length.rest.now in
    let n = c.in_ok-length.length in
    let t = number_takes 2 back_2 c.args.bytes.now n rest (λ i. omega (arith, c.type_inv.bytes i))
    c.in_ok-length.ensures.reads in
    let stands = rest_after frame c.args.bytes.now _ rest c.requires.rest t.0 in
    rw (take_rest rest n) (rest_following frame (take n rest) (drop n rest)
    (rest_parts frame rest (take n rest) (drop n rest) stands (sym (take-append-drop n rest))))
