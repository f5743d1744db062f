-- What is printed of answers as they come: their lines, those of each proxy in order. This project's own.
use Rattle.std.specs.Prelude.{ℕ, ◌==◌, if◌then◌else◌, List, [], ◌∷◌}
use Rattle.std.specs.List.{flat_map}
use Rattle.keyspace.specs.declared.answer.Answer.{Answer}
use Rattle.replay_output.specs.declared.options.style.Style.{Style}
use Rattle.replay_output.specs.Lines.{line}

-- an answer whose turn it was to be printed, and the proxy that it is for
pub record Printed : Type 0 where
  pub proxy : ℕ
  pub answer : Answer

-- the answer, if it is for this proxy
abbrev pub answer_for : ℕ → Printed → List Answer
answer_for proxy printed = if printed.proxy == proxy then printed.answer ∷ [] else []

-- the answers that were printed for this proxy, in order
abbrev pub printed_for : ℕ → List Printed → List Answer
printed_for proxy printed = flat_map (answer_for proxy) printed

-- the line of such an answer, if it is shown
abbrev pub printed_line : Style → Printed → List ℕ
printed_line style printed = line style printed.proxy printed.answer

-- the text: one line per answer that is shown, in the order printed
abbrev pub stream_text : Style → List Printed → List ℕ
stream_text style printed = flat_map (printed_line style) printed
