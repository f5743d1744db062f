use Rattle.std.proofs.Common.{◌≡◌, ◌<◌, ◌∙◌, ◌++◌, [], ℕ, List, length, sym, ap₂, subst, append-nil, take-append-drop, rules, arith}
use Rattle.std.proofs.lemmas.Grind.{common_steps}
use Rattle.std.proofs.lemmas.List.{nil_from_length}
use Rattle.std.specs.Io.BufRead.{take_through}
use Rattle.json_lines.specs.Ranges.{IsKeyLine}
use Rattle.replay_shards.specs.Points.{ArePointLines}
use Rattle.replay_shards.proofs.Lines.{Completes, completes_more}
use Rattle.replay_shards.proofs.points.keys_of_lines.Goals as goal

pub loop-rest-preserved : goal.loop-rest-preserved
loop-rest-preserved c =
    let bytes = c.args.bytes.now in
    let rest = c.loop-rest.rest.now in
    let after = c.split_at.result.1.now in
    let keys = c.loop-rest.keys.items in
    let key = c.in_ok-key_of_line.field-0 in
    let n = c.line_length.result in
    let some : 0 < length rest = first_of (search rules, grind (arith, common_steps)) in
    let parts : rest ≡ take_through 10 rest ++ after =
    sym (take-append-drop n rest) ∙ ap₂ (λ (a b : List ℕ). a ++ b) c.line_length.ensures.line (sym c.split_at.ensures.back) in
    let is = subst (λ (line : List ℕ). IsKeyLine line key) (c.split_at.ensures.front ∙ c.line_length.ensures.line)
    c.in_ok-key_of_line.ensures.key in
    subst (λ (all : List (List ℕ)). Completes bytes after all) (sym c.in_ok-push.ensures.items)
    (completes_more bytes rest after key keys c.loop-rest.invariant some parts is)

pub returns : goal.returns
returns c =
    let rest = c.loop-rest.rest.now in
    let keys = c.loop-rest.keys.items in
    let none : length rest ≡ 0 = first_of (search rules, grind (arith, common_steps)) in
    record {
      lines = subst (ArePointLines c.args.bytes.now) (append-nil keys) (c.loop-rest.invariant [] (nil_from_length rest none));
    }
