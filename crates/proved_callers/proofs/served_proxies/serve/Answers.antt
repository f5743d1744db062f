use Rattle.std.proofs.Common.{◌≡◌, [], ◌∷◌, List, map, set, get_or, refl, sym, subst, ◌∙◌, arith}
use Rattle.std.proofs.lemmas.List.{length-set}
use Rattle.std.proofs.lemmas.Option.{slice_get-get_or}
use Rattle.std.specs.Prelude.{negsuc, slice_index_or}
use Rattle.keyspace.specs.declared.batch.Batch.{Batch}
use Rattle.keyspace.specs.declared.TheConstants.{WINDOW}
use Rattle.resolver.specs.declared.client.Client.{Client}
use Rattle.resolver.proofs.callers.Lists.{slice_get-set_other}
use Rattle.proved_callers.specs.Served.{AreServing}
use Rattle.proved_callers.proofs.TwoProxies.{serving_sent, serving_sent_by, serving_settled}
use Rattle.proved_callers.proofs.served_proxies.serve.Goals as goal
use Rattle.proved_callers.proofs.served_proxies.serve.Goals.{After-send_only-2, In_ok-first}

module _ (c : After-send_only-2) where
  abbrev clients : List Client
  clients = c.args.clients.now

  abbrev between : List Client
  between = set clients 0 c.send_only.new.client

  abbrev now : List Client
  now = set between 1 c.send_only-2.new.client

  abbrev sent : List (List Batch)
  sent = (c.args.first ∷ []) ∷ (c.args.second ∷ []) ∷ []

  first_sent : AreServing WINDOW c.args.resolver.now between ((c.args.first ∷ []) ∷ [] ∷ []) ([] ∷ [] ∷ [])
  first_sent =
      let is = c.send_only.ensures in
      let two = c.requires.serving.taken_count in
      serving_sent WINDOW c.args.resolver.now clients ([] ∷ [] ∷ []) ([] ∷ [] ∷ []) c.requires.serving 0
      (slice_index_or clients 0 c.index-clients-0.result) c.send_only.new.client [] (c.args.first ∷ []) []
      (slice_get-get_or clients 0 c.index-clients-0.result (omega (arith, two)))
      refl refl is.port is.sent is.replies

  both_sent : AreServing WINDOW c.args.resolver.now now sent ([] ∷ [] ∷ [])
  both_sent =
      let is = c.send_only-2.ensures in
      let two = first_sent.taken_count in
      serving_sent WINDOW c.args.resolver.now between ((c.args.first ∷ []) ∷ [] ∷ []) ([] ∷ [] ∷ []) first_sent 1
      (slice_index_or between 1 c.index-clients-1.result) c.send_only-2.new.client [] (c.args.second ∷ []) []
      (slice_get-get_or between 1 c.index-clients-1.result (omega (arith, two)))
      refl refl is.port is.sent is.replies

  -- what `receive_all` knows of the sent items
  sent_is : map (λ d. d.requests.sent) now ≡ sent
  sent_is = serving_sent_by WINDOW c.args.resolver.now now sent ([] ∷ [] ∷ []) both_sent

pub receive_all-requires : goal.receive_all-requires
receive_all-requires c =
    let j = (goal.at.receive_all-requires c).After-send_only-2 in
    let Serving : List (List Batch) → Type 0 = λ sent.
    AreServing WINDOW c.args.resolver.now (now j) (get_or sent 0 [] ∷ get_or sent 1 [] ∷ []) ([] ∷ [] ∷ []) in
    subst Serving {y = map (λ d. d.requests.sent) (now j)} (sym (sent_is j)) (both_sent j)

module _ (c : In_ok-first) where
  abbrev both : List (List Batch)
  both = (c.args.first ∷ []) ∷ (c.args.second ∷ []) ∷ []

  received : AreServing WINDOW c.receive_all.new.resolver c.receive_all.new.clients both
      (c.in_ok-first.first.items ∷ c.in_ok-first.second.items ∷ [])
  received =
      let j = (goal.at.In_ok-first c).After-send_only-2 in
      subst
      (λ (sent : List (List Batch)). AreServing WINDOW c.receive_all.new.resolver c.receive_all.new.clients
      (get_or sent 0 [] ∷ get_or sent 1 [] ∷ []) (c.in_ok-first.first.items ∷ c.in_ok-first.second.items ∷ []))
      (sent_is j) c.in_ok-first.ensures.serving

pub settle-account-requires : goal.settle-account-requires
settle-account-requires c = record { clients = (received (goal.at.settle-account-requires c).In_ok-first).same_lanes }

pub returns : goal.returns
returns c =
    let r = c.receive_all.new.resolver in
    let account = c.settle-account.result in
    let serving = received (goal.at.returns c).In_ok-first in
    record {
      served =
          serving_settled WINDOW r c.receive_all.new.clients c.args.first c.args.second
          (record { first = c.in_ok-first.first; second = c.in_ok-first.second; account = account }) serving
          (c.settle-account.ensures.settled_for_some (negsuc 0) serving.resolving);
    }
