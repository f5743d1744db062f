use Rattle.std.proofs.Common.{◌∙◌, sym, rules, tests}
use Rattle.std.proofs.lemmas.Iterator.{YieldsList-from_slice}
use Rattle.std.proofs.lemmas.Iterator.Search.{all_from_yields_List}
use Rattle.std.proofs.lemmas.List.Folds.{list_all-map}
use Rattle.resolver.proofs.all_lanes.have_ended.Goals as goal

pub returns : goal.returns
returns c =
    let all_lanes = c.args.all_lanes.now in
    record {
      all =
          all_from_yields_List (λ l. l.lanes.ended) _ _ _ c.all.ensures.ran (YieldsList-from_slice all_lanes cc)
          (λ x b q k. search (rules, tests))
          ∙ sym (list_all-map (λ l. l.ended) (λ l. l.lanes) all_lanes);
    }
