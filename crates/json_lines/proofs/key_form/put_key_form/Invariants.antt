use Rattle.std.proofs.Common.{◌≡◌, ◌++◌, take}
use Rattle.json_lines.specs.KeyForm.{key_form}
use Rattle.json_lines.proofs.key_form.put_key_form.Given as goal

abbrev pub invariant-loop-byte : goal.invariant-loop-byte
invariant-loop-byte l = l.out.items ≡ l.fn.out.items ++ key_form (take l.byte-index l.key)
