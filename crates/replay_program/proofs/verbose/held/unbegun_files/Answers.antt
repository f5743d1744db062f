use Rattle.std.proofs.Common.{List, ℕ, Bor, arith, subst}
use Rattle.replay_program.specs.Verbose.{AreExamined}
use Rattle.replay_program.proofs.Saying.{examined_more, none_examined, take_entire}
use Rattle.replay_program.proofs.verbose.held.unbegun_files.Goals as goal

pub loop-name-init : goal.loop-name-init
loop-name-init g c = record {
  examined = none_examined (g.F.Files.contents c.args.files.now) c.args.names.now c.none-batches.result.least_previous
      c.none-batches.ensures.none;
}

pub loop-name-preserved : goal.loop-name-preserved
loop-name-preserved g c = record {
  examined = examined_more (g.F.Files.contents c.args.files.now) c.args.names.now c.loop-name.name-index _
      c.loop-name.batches.least_previous c.join.new.self.least_previous c.in-Some.own.least_previous c.loop-name-test.true
      c.join.ensures.joined c.in-Some.ensures.batches c.loop-name.invariant.examined;
}

pub returns : goal.returns
returns g c = record {
  batches = subst (λ (l : List (List ℕ)). AreExamined (g.F.Files.contents c.args.files.now) l c.loop-name.batches.least_previous)
      (take_entire (λ (name : Bor (List ℕ)). name.now) c.args.names.now c.loop-name.name-index (omega arith))
      c.loop-name.invariant.examined;
}
