use Rattle.std.proofs.Common.{◌≡◌, drop}
use Rattle.std.specs.List.{list_any}
use Rattle.keyspace.specs.declared.reply.Entry.{Entry}
use Rattle.checking.specs.Difference.{is_same_verdict}
use Rattle.replay_output.proofs.options.line_filter.any_has.Given as goal

abbrev pub invariant-loop-entry : goal.invariant-loop-entry
invariant-loop-entry l =
    list_any (λ (entry : Entry). is_same_verdict l.verdict entry.verdict) (drop l.entry-index l.entries)
    ≡ list_any (λ (entry : Entry). is_same_verdict l.verdict entry.verdict) l.entries
