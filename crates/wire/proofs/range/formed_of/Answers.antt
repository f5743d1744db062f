use Rattle.std.proofs.Common.{arith}
use Rattle.wire.proofs.Taken.{number_takes, back_1}
use Rattle.wire.proofs.Rests.{rest_after}
use Rattle.wire.proofs.range.formed_of.Goals as goal

pub form_0_of-requires-clause-rest : goal.form_0_of-requires-clause-rest
form_0_of-requires-clause-rest c =
    let rest = c.in_ok-form.rest.now in
    let t = number_takes 1 back_1 c.args.bytes.now c.in_ok-form.form rest (λ i. omega (arith, c.type_inv.bytes i))
    c.in_ok-form.ensures.reads in
    rest_after c.args.frame.now c.args.bytes.now _ rest c.requires.rest t.0

pub form_1_of-requires-clause-rest : goal.form_1_of-requires-clause-rest
form_1_of-requires-clause-rest c =
    let rest = c.in_ok-form.rest.now in
    let t = number_takes 1 back_1 c.args.bytes.now c.in_ok-form.form rest (λ i. omega (arith, c.type_inv.bytes i))
    c.in_ok-form.ensures.reads in
    rest_after c.args.frame.now c.args.bytes.now _ rest c.requires.rest t.0
