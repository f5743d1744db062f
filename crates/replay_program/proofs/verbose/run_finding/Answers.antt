use Rattle.std.proofs.Common.{Some, ap, ◌∙◌}
use Rattle.replay_program.proofs.Saying.{gate_found, weaker}
use Rattle.replay_program.proofs.verbose.run_finding.Goals as goal

pub returns-in_default : goal.returns-in_default
returns-in_default c = record {
  found = weaker c.output_finding.result (λ finding is all least. is all) (c.output_finding.ensures.found c.args.limit);
}

pub returns-in-GateFull : goal.returns-in-GateFull
returns-in-GateFull c = record {
  found = λ all least.
      gate_found c.args.limit c.args.met all c.gate_finding.result (c.in-Some.is ∙ ap Some c.in-GateFull.is)
      (c.gate_finding.ensures.found all least);
}

pub returns-in-Memory : goal.returns-in-Memory
returns-in-Memory c = record {
  found = weaker c.output_finding-in-Memory.result (λ finding is all least. is all)
      (c.output_finding-in-Memory.ensures.found c.args.limit);
}
