use Rattle.std.proofs.Common.{[], length, sym, ap, subst, ◌∙◌, arith}
use Rattle.std.proofs.lemmas.Bool.{false≢true}
use Rattle.std.proofs.lemmas.List.{length-map}
use Rattle.resolver.specs.Core.{CoreState}
use Rattle.resolver.specs.Lanes.{sent_to}
use Rattle.resolver.specs.OpeningLog.{opening_log}
use Rattle.resolver.specs.Parts.{lanes_of, owed_with}
use Rattle.resolver.specs.Resolver.{FinishesBy}
use Rattle.resolver.proofs.NewLanes.{owed_with-new, all_ended-new, taken_from-new, new_proxy_lanes_at, Stands-new}
use Rattle.resolver.proofs.FromVersion.{Stands-opening}
use Rattle.resolver.proofs.resolver.Resolver.new.Goals as goal

pub invariant_of-result : goal.invariant_of-result
invariant_of-result c =
    let new = c.requires.all_lanes in
    let all_lanes = c.args.all_lanes.items in
    record {
      count = c.requires.count;
      few = c.requires.few;
      some = c.requires.some;
      in_range = omega arith;
      finished = λ _. sym (all_ended-new all_lanes c.requires.some new);
      ended = λ proxy l at ended. absurd (false≢true (sym (new_proxy_lanes_at all_lanes new proxy l at).1 ∙ ended));
      closed = λ proxy l at. (new_proxy_lanes_at all_lanes new proxy l at).0;
      through = λ closed. absurd (false≢true closed);
    }

pub returns-clause-stands : goal.returns-clause-stands
returns-clause-stands c = λ version stands.
    let new = c.requires.all_lanes in
    let all_lanes = c.args.all_lanes.items in
    let core : CoreState = record c.args.core { owed = owed_with all_lanes c.args.core.owed } in
    let proxies = length c.args.core.owed in
    let many = length-map all_lanes (λ l. l.lanes) ∙ c.requires.count in
    record {
      core =
          Stands-opening core (sent_to (lanes_of all_lanes)) version proxies (length (lanes_of all_lanes)) many
          (Stands-new c.args.core all_lanes (opening_log proxies version) c.requires.no_stop new stands);
      parts = λ proxy. sym (taken_from-new all_lanes proxy new);
      finish = λ _. subst (λ ended. FinishesBy ended []) (sym (all_ended-new all_lanes c.requires.some new)) tt;
      closed = λ _ proxy l at closed. absurd (false≢true (sym (new_proxy_lanes_at all_lanes new proxy l at).0 ∙ closed));
    }

pub returns-clause-core : goal.returns-clause-core
returns-clause-core c =
    ap (λ owed. record c.args.core { owed = owed })
    (owed_with-new c.args.all_lanes.items c.args.core.owed c.requires.all_lanes)
