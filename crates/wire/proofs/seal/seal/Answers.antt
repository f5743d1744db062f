use Rattle.std.proofs.Common.{◌≡◌, ℕ, length, vec_len, subst, arith, rules}
use Rattle.keyspace.specs.declared.span.Span.{Span}
use Rattle.wire.specs.Lying.{AreApart}
use Rattle.wire.proofs.Sealing.{next_key, sealed_all}
use Rattle.wire.proofs.seal.seal.Goals as goal

pub index_mut-requires : goal.index_mut-requires
index_mut-requires c =
    let none : Span = record { begin = 0; begin_length = 0; end = 0; end_length = 0 } in
    let l = c.loop-span in
    let within = next_key c.args.spans.now l.span-index none l.invariant.2 (length c.args.frame.now.items) c.loop-span-test.true
    l.invariant.3 in
    let len : vec_len l.frame ≡ length l.frame.items = search rules in
    omega (arith, within, len, l.invariant.1)

pub returns-clause-reported : goal.returns-clause-reported
returns-clause-reported c =
    let old = c.args.frame.now in
    let len : vec_len old ≡ length old.items = search rules in
    sealed_all old.items c.loop-span.frame.items c.args.spans.now c.loop-span.span-index
    (subst (λ (n : ℕ). AreApart 0 c.args.spans.now n) len c.requires.apart) c.loop-span-test.false c.loop-span.invariant.0
