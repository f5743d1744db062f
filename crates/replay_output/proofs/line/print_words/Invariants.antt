use Rattle.std.proofs.Common.{◌≡◌, ◌++◌, take, codes}
use Rattle.std.specs.List.{flat_map}
use Rattle.keyspace.specs.declared.reply.Entry.{Entry}
use Rattle.replay_output.specs.Lines.{entry_word}
use Rattle.replay_output.proofs.line.print_words.Given as goal

abbrev pub invariant-loop-entry : goal.invariant-loop-entry
invariant-loop-entry l =
    l.text ≡ l.initial.text ++ flat_map (λ (entry : Entry). codes " " ++ entry_word entry) (take l.entry-index l.entries)
