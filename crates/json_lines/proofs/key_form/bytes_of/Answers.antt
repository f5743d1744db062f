use Rattle.std.proofs.Common.{◌≡◌, ◌<◌, length, Some, None, rules}
use Rattle.json_lines.specs.KeyForm.{spelled_key, byte_at}
use Rattle.json_lines.proofs.KeyForms.{key_on, key_ends, key_done}
use Rattle.json_lines.proofs.key_form.bytes_of.Goals as goal

pub returns-in_default : goal.returns-in_default
returns-in_default c =
    let some : 0 < length c.loop-rest.rest.now = search rules in
    let none : byte_at c.loop-rest.rest.now ≡ None = search rules in
    record { reads = λ _. key_ends c.loop-rest.key.items c.loop-rest.rest.now (spelled_key c.args.text.now) some none c.loop-rest.invariant }

pub loop-rest-preserved : goal.loop-rest-preserved
loop-rest-preserved c =
    let some : 0 < length c.loop-rest.rest.now = search rules in
    let read : byte_at c.loop-rest.rest.now ≡ Some (c.in-Some.byte, c.in-Some.after.now) = search rules in
    rw c.in_ok-push.ensures.items (key_on c.loop-rest.key.items c.loop-rest.rest.now c.in-Some.after.now c.in-Some.byte
    (spelled_key c.args.text.now) some read c.loop-rest.invariant)

pub returns : goal.returns
returns c =
    let none : length c.loop-rest.rest.now ≡ 0 = search rules in
    record { reads = key_done c.loop-rest.key.items c.loop-rest.rest.now (spelled_key c.args.text.now) none c.loop-rest.invariant }
