use Rattle.std.proofs.Common.{◌≡◌, length}
use Rattle.json_lines.specs.KeyForm.{spelled_key}
use Rattle.json_lines.proofs.Reading.{with_front}
use Rattle.json_lines.proofs.key_form.bytes_of.Given as goal

abbrev pub invariant-loop-rest : goal.invariant-loop-rest
invariant-loop-rest l = with_front l.key.items (spelled_key l.rest) ≡ spelled_key l.text

abbrev pub decreases-loop-rest : goal.decreases-loop-rest
decreases-loop-rest l = length l.rest
