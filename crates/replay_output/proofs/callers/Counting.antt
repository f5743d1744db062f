-- Lemmas for callers: sorted lines have the counted answers of their answers in order.
use Rattle.std.specs.Prelude.{◌≡◌, ℕ, zero, suc, List, [], ◌∷◌, map, Some, slice_get}
use Rattle.std.specs.List.{All}
use Rattle.std.proofs.Common.{refl, ap, ap₂, ◌∙◌, arith, get_or}
use Rattle.std.proofs.lemmas.List.Elements.{All-cons, All-head, All-tail}
use Rattle.keyspace.specs.declared.answer.Answer.{Answer}
use Rattle.keyspace.specs.Answer.{version_of_answer}
use Rattle.keyspace.specs.storage.InOrder.{in_order_by, Rise}
use Rattle.replay_summary.specs.declared.counted.Counted.{Counted}
use Rattle.replay_summary.specs.Counted.{counted_of}
use Rattle.replay_output.specs.declared.options.style.Style.{Style}
use Rattle.replay_output.specs.declared.line.Line.{Line}
use Rattle.replay_output.specs.Line.{AreLines, IsLineOf, answer_of, answers_of, counted_of_line, version_of_line}
use Rattle.replay_output.specs.Lines.{in_order}
use Rattle.replay_output.proofs.InOrder.{All-in_order, Rise-in_order, map-in_order}
use Rattle.replay_output.proofs.LineTexts.{sorted_by}

-- the counted answers of a proxy, in order, from its lines
abbrev counted_lines : List Line → List Counted
counted_lines ls = map counted_of_line (in_order_by version_of_line ls)

-- the same from its answers
abbrev counted_answers : List Answer → List Counted
counted_answers own = map counted_of (in_order own)

counted : (style : Style) (proxy : ℕ) (ls : List Line) → All (IsLineOf style proxy) ls
    → map counted_of_line ls ≡ map counted_of (answers_of ls)
counted style proxy [] all = refl
counted style proxy (l ∷ ls) all =
    let P = IsLineOf style proxy in
    ap₂ (λ (c : Counted) (cs : List Counted). c ∷ cs) (All-head P l ls all).counted
    (counted style proxy ls (All-tail P l ls all))

counted_of_proxy : (style : Style) (proxy : ℕ) (ls : List Line) → All (IsLineOf style proxy) ls
    → counted_lines ls ≡ counted_answers (answers_of ls)
counted_of_proxy style proxy ls all =
    let P = IsLineOf style proxy in
    counted style proxy (in_order_by version_of_line ls) (All-in_order P version_of_line ls all)
    ∙ ap (map counted_of)
    (map-in_order answer_of version_of_line version_of_answer ls (λ k d inside. sorted_by style proxy (get_or ls k d) (all k d inside)))

counted_from : {X : Type 0} (summed : List Counted → X) (style : Style) (received : List (List Line))
    → ((place : ℕ) (ls : List Line) → slice_get received place ≡ Some ls → (proxy : ℕ) × All (IsLineOf style proxy) ls)
    → map (λ ls. summed (map counted_of_line ls)) (map (in_order_by version_of_line) received)
    ≡ map (λ own. summed (counted_answers own)) (map answers_of received)
counted_from summed style [] each = refl
counted_from {X} summed style (ls ∷ received) each =
    let first = each zero ls refl in
    ap₂ (λ (x : X) (rest : List X). x ∷ rest) (ap summed (counted_of_proxy style first.0 ls first.1))
    (counted_from summed style received (λ place l at. each (suc place) l at))

-- what is made of the counted answers of each proxy in order, of sorted lines and of their answers
pub counted_in_order : {X : Type 0} (summed : List Counted → X) (style : Style) (received : List (List Line))
    → AreLines style received
    → map (λ ls. summed (map counted_of_line ls)) (map (in_order_by version_of_line) received)
    ≡ map (λ own. summed (map counted_of (in_order own))) (map answers_of received)
counted_in_order summed style received are = counted_from summed style received (λ place ls at. (place, are place ls at))

-- sorted lines rise
pub lines_rise : (received : List (List Line)) → All (Rise version_of_line) (map (in_order_by version_of_line) received)
lines_rise [] = λ k d inside. absurd (omega arith)
lines_rise (ls ∷ received) =
    All-cons (Rise version_of_line) (in_order_by version_of_line ls) (map (in_order_by version_of_line) received)
    (Rise-in_order version_of_line ls) (lines_rise received)
