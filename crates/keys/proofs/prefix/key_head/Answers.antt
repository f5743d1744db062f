use Rattle.std.proofs.Common.{ap, sym, ◌∙◌, ◌≡◌, replicate, take, length, rules, ◌≤◌}
use Rattle.std.specs.Int.{w64, from_be_bytes}
use Rattle.std.proofs.lemmas.List.{take-append-le}
use Rattle.keys.specs.Head.{head_of}
use Rattle.keys.proofs.prefix.key_head.Goals as goal

pub returns-in-Some : goal.returns-in-Some
unfolding head_of
returns-in-Some c =
    let bytes = c.args.bytes.now in
    let long : 8 ≤ length bytes = search rules in
    let front : c.in-Some.first.now ≡ take 8 bytes = search rules in
    record {
      key_head = c.from_be_bytes.ensures
          ∙ ap (from_be_bytes w64) (front ∙ sym (take-append-le 8 bytes (replicate 8 0) long));
    }
