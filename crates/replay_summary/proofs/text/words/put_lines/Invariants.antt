use Rattle.std.proofs.Common.{◌≡◌, ◌++◌, take}
use Rattle.std.specs.List.{flat_map, enumerate_from}
use Rattle.replay_summary.specs.Text.{proxy_line}
use Rattle.replay_summary.proofs.text.words.put_lines.Given as goal

abbrev pub invariant-loop-proxy : goal.invariant-loop-proxy
invariant-loop-proxy l =
    l.out.items ≡ l.initial.out.items ++ flat_map proxy_line (enumerate_from 0 (take l.proxy l.summaries))
