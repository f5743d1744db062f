use Rattle.std.proofs.Common.{take}
use Rattle.replay_program.specs.Program.{texts}
use Rattle.replay_program.specs.Verbose.{AreExamined}
use Rattle.replay_program.proofs.verbose.held.unbegun_files.Given as goal

abbrev pub invariant-loop-name : goal.invariant-loop-name
invariant-loop-name g l = record {
  examined : AreExamined (g.F.Files.contents l.fn.files) (take l.name-index (texts l.names)) l.batches.least_previous;
}
