use Rattle.std.proofs.Common.{rules, ◌≡◌, List, ℕ, Err, ap, arith, inl, inr, subst, take, ◌∙◌}
use Rattle.std.specs.Prelude.{IfSome}
use Rattle.std.specs.Io.KnownBytes.{Appends}
use Rattle.wire.specs.declared.error.WireError.TheVariants.{Memory}
use Rattle.workload_program.specs.Chain.{IsBatchOf}
use Rattle.workload_program.proofs.FrameLengths.{body_most}
use Rattle.workload_program.proofs.Frames.{on_err, one_more, so_far_breaks, write_breaks}
use Rattle.workload_program.proofs.generate.write_batches.Goals as goal

pub loop-number-preserved : goal.loop-number-preserved
loop-number-preserved g c =
    let batch = c.in_ok-batch.batch in
    let before = g.W.Sink.given c.args.out.now in
    let between = g.W.Sink.given c.loop-number.out in
    let after = g.W.Sink.given c.write_all.new.writer in
    let is_batch : IsBatchOf c.args.plan.shape c.args.plan.transactions c.loop-number.number batch = record {
      version = c.in_ok-batch.ensures.version;
      previous = c.in_ok-batch.ensures.previous;
      counted = c.in_ok-batch.ensures.count;
      txns = c.in_ok-batch.ensures.txns;
      received_none = c.in_ok-batch.ensures.received_none;
      received = c.in_ok-batch.ensures.received;
    } in
    let grown = subst (λ (bytes : List ℕ). Appends between after bytes)
    c.deref.ensures.value c.in_ok-write_all.ensures.entire in (
      one_more c.args.plan.shape c.args.plan.transactions c.loop-number.number batch c.in_ok-frame.frame.items
          before between after c.loop-number.invariant.0 is_batch c.in_ok-frame.ensures.spelled grown,
      c.in_ok-write_all.ensures.ok ∙ c.loop-number.invariant.1,
    )

pub returns-in_err-frame-clause-never_limit : goal.returns-in_err-frame-clause-never_limit
returns-in_err-frame-clause-never_limit g c =
    let batch = c.in_ok-batch.batch in
    let short = body_most c.args.plan.shape c.loop-number.number batch c.in_ok-batch.ensures.txns in
    let refused = c.in_err-frame.ensures in
    let memory : c.in_err-frame.field-0.0 ≡ Memory = elim refused.err [
      | inl long ↦
          let above = refused.long.0 (ap Err long) in
          absurd (omega (arith, short, above, c.in_ok-batch.ensures.count, c.args.plan.most_transactions))
      | inr memory ↦ memory
    ] in search rules

pub returns-in_err-frame-clause-broken_off : goal.returns-in_err-frame-clause-broken_off
returns-in_err-frame-clause-broken_off g c =
    on_err c.from_residual-in_err-frame.result _
    (so_far_breaks c.args.plan.shape c.args.plan.transactions c.loop-number.number c.args.plan.batches
    (g.W.Sink.given c.args.out.now) (g.W.Sink.given c.loop-number.out) (omega (arith, c.loop-number-test.true))
    c.loop-number.invariant.0)

pub returns-in_err-write_all-clause-broken_off : goal.returns-in_err-write_all-clause-broken_off
returns-in_err-write_all-clause-broken_off g c =
    let batch = c.in_ok-batch.batch in
    let before = g.W.Sink.given c.args.out.now in
    let between = g.W.Sink.given c.loop-number.out in
    let after = g.W.Sink.given c.write_all.new.writer in
    let is_batch : IsBatchOf c.args.plan.shape c.args.plan.transactions c.loop-number.number batch = record {
      version = c.in_ok-batch.ensures.version;
      previous = c.in_ok-batch.ensures.previous;
      counted = c.in_ok-batch.ensures.count;
      txns = c.in_ok-batch.ensures.txns;
      received_none = c.in_ok-batch.ensures.received_none;
      received = c.in_ok-batch.ensures.received;
    } in
    let begun = subst (λ (bytes : List ℕ). IfSome after (λ _. (n : ℕ) × Appends between after (take n bytes)))
    c.deref.ensures.value c.in_err-write_all.ensures.prefix in
    on_err c.from_residual-in_err-write_all.result _
    (write_breaks c.args.plan.shape c.args.plan.transactions c.loop-number.number c.args.plan.batches batch
    c.in_ok-frame.frame.items before between after (omega (arith, c.loop-number-test.true)) c.loop-number.invariant.0
    is_batch c.in_ok-frame.ensures.spelled begun)
