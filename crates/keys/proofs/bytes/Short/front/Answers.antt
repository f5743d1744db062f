use Rattle.std.proofs.Common.{rules, ap, sym, ◌∙◌, ◌≡◌, ◌≤◌, take, drop, length, arith}
use Rattle.std.proofs.lemmas.List.{length-take, take-append-drop, take-append-le}
use Rattle.keys.proofs.bytes.Short.front.Goals as goal

pub returns-in-Some : goal.returns-in-Some
returns-in-Some c =
    let bytes = c.args.bytes.now in
    let count = c.args.count in
    let long : 38 ≤ length bytes = search rules in
    let front : c.in-Some.first.now ≡ take 38 bytes = search rules in
    let enough : count ≤ length (take 38 bytes) = omega (arith, length-take 38 bytes, c.requires.short, long) in
    record {
      bytes = ap (take count) front
          ∙ sym (take-append-le count (take 38 bytes) (drop 38 bytes) enough)
          ∙ ap (take count) (take-append-drop 38 bytes);
    }
