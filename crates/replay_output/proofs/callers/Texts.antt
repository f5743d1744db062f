-- Lemmas for callers: lines in a style are lines by their texts.
use Rattle.std.specs.Prelude.{ℕ, List}
use Rattle.replay_output.specs.declared.options.style.Style.{Style}
use Rattle.replay_output.specs.declared.line.Line.{Line}
use Rattle.replay_output.specs.Line.{AreLines, AreLinesBy}
use Rattle.replay_output.specs.Lines.{line}

pub are_lines_by : (style : Style) (ls : List (List Line)) → AreLines style ls → AreLinesBy (line style) ls
are_lines_by style ls are = λ proxy of_proxy at k d inside.
    let is = are proxy of_proxy at k d inside in
    record { text = is.text; counted = is.counted }
