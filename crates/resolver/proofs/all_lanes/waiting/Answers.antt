use Rattle.std.proofs.Common.{◌≡◌, ◌+◌, cond, List, [], ◌∷◌, length, Option, None, Some, ◌∙◌, ap, sym, refl, rules, tests}
use Rattle.std.specs.Prelude.{is_some, option_to_list}
use Rattle.std.specs.List.{count_by}
use Rattle.keyspace.specs.declared.answer.Answer.{Answer}
use Rattle.resolver.specs.Parts.{ProxyLanesView, waiting_count}
use Rattle.std.proofs.lemmas.Iterator.{YieldsList-from_slice}
use Rattle.std.proofs.lemmas.Iterator.Consumers.{YieldsList-at, YieldsList-from_filter, count_from_yields_List}
use Rattle.std.proofs.lemmas.List.Sums.{length-filter, sum_by-cons}
use Rattle.resolver.proofs.all_lanes.waiting.Goals as goal

one_waits : (waiting : Option Answer) → cond (is_some waiting) 1 0 ≡ length (option_to_list waiting)
one_waits None = refl
one_waits (Some answer) = refl

counted : (all_lanes : List ProxyLanesView) → count_by (λ l. is_some l.waiting) all_lanes ≡ waiting_count all_lanes
counted [] = refl
counted (l ∷ all_lanes) =
    sum_by-cons (λ l. cond (is_some l.waiting) 1 0) l all_lanes
    ∙ ap (λ n. n + count_by (λ l. is_some l.waiting) all_lanes) (one_waits l.waiting)
    ∙ ap (λ n. length (option_to_list l.waiting) + n) (counted all_lanes)
    ∙ sym (sum_by-cons (λ l. length (option_to_list l.waiting)) l all_lanes)

pub returns-clause-count : goal.returns-clause-count
returns-clause-count c =
    let all_lanes = c.args.all_lanes.now in
    let source = YieldsList-at c.filter.ensures.source (YieldsList-from_slice all_lanes cc) in
    count_from_yields_List _ _ c.count.ensures.ran
    (YieldsList-from_filter _ (λ l. is_some l.waiting) source c.filter.ensures.closure
    (λ x b q k. search (rules, tests)))
    ∙ length-filter (λ l. is_some l.waiting) all_lanes ∙ counted all_lanes
