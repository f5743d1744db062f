use Rattle.std.proofs.Common.{◌++◌, [], ◌∷◌, rules, sym, ap, subst, ◌∙◌, append_assoc, append-nil, List}
use Rattle.keyspace.specs.declared.batch.Batch.{Batch}
use Rattle.wire.specs.Batches.{GivesEach}
use Rattle.replay_workers.proofs.callers.Reading.{gives_also}
use Rattle.replay_stream.proofs.sender.Sender.send_batches.Goals as goal

pub returns-in-Err-send-clause-sent : goal.returns-in-Err-send-clause-sent
returns-in-Err-send-clause-sent g c =
    let Gives = g.B.Batches.gives in
    let before = c.loop.invariant.sent in
    let first = c.args.batches.now in
    let left = c.next-in-loop.new.self in
    let given = rw c.in-Ok-Some.field-0-is at c.in-Ok-Some.ensures.batch in
    let batches = gives_also Gives first c.loop.batches left before.0 c.in-Ok-Some.batch before.2 given in
    record {
      batches = before.0;
      left = left;
      sent = c.in-Err-send.ensures.unchanged ∙ before.1;
      frames = subst (λ (batch : Batch). GivesEach Gives first left (before.0 ++ batch ∷ [])) (sym c.in-Err-send.ensures.returned) batches;
      all = λ _ none. search rules;
      first_fault = tt;
    }

pub loop-preserved : goal.loop-preserved
loop-preserved g c =
    let before = c.loop.invariant in
    let given = rw c.in-Ok-Some.field-0-is at c.in-Ok-Some.ensures.batch in
    let batches = before.sent.0 ++ c.in-Ok-Some.batch ∷ [] in
    record {
      requests = search rules;
      fresh = search rules;
      sent = (
        batches,
        c.in_default.ensures.sent ∙ ap (λ (l : List Batch). l ++ c.in-Ok-Some.batch ∷ []) before.sent.1
            ∙ append_assoc _ before.sent.0 (c.in-Ok-Some.batch ∷ []),
        gives_also g.B.Batches.gives _ c.loop.batches c.next-in-loop.new.self before.sent.0 c.in-Ok-Some.batch before.sent.2 given,
      );
    }

pub returns-in-Ok-None-clause-sent : goal.returns-in-Ok-None-clause-sent
returns-in-Ok-None-clause-sent g c =
    let before = c.loop.invariant.sent in
    let end = rw c.in-Ok-None.field-0-is at c.in-Ok-None.ensures.end in
    record {
      batches = before.0;
      left = c.loop.batches;
      sent = before.1;
      frames =
          subst (λ (batches : List Batch). GivesEach g.B.Batches.gives c.args.batches.now c.loop.batches batches)
          (sym (append-nil before.0)) before.2;
      all = λ _ _. end.0;
      first_fault = tt;
    }

pub returns-in-Err-clause-sent : goal.returns-in-Err-clause-sent
returns-in-Err-clause-sent g c =
    let before = c.loop.invariant.sent in
    record {
      batches = before.0;
      left = c.loop.batches;
      sent = before.1;
      frames =
          subst (λ (batches : List Batch). GivesEach g.B.Batches.gives c.args.batches.now c.loop.batches batches)
          (sym (append-nil before.0)) before.2;
      all = λ none _. absurd cc;
      first_fault = c.in-Err.ensures.fault c.loop.invariant.fresh;
    }
