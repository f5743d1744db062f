use Rattle.std.proofs.Common.{◌≡◌, map, take}
use Rattle.replay_summary.specs.Summary.{summary_of}
use Rattle.replay_summary.proofs.one.summarize.Given as goal

abbrev pub invariant-loop-answer : goal.invariant-loop-answer
invariant-loop-answer g l = l.summary ≡ summary_of (map g.T.HasCounted.item_counted (take l.answer-index l.answers))
