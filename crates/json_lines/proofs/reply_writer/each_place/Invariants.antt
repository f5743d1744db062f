use Rattle.std.proofs.Common.{◌≡◌, ◌++◌, take}
use Rattle.json_lines.specs.Written.{all_tokens, place_json}
use Rattle.json_lines.proofs.reply_writer.each_place.Given as goal

abbrev pub invariant-loop-place : goal.invariant-loop-place
invariant-loop-place l =
    (l.writer.tokens ≡ l.fn.writer.tokens ++ all_tokens place_json (take l.place-index l.places))
    × (l.writer.before ≡ l.fn.writer.before)
