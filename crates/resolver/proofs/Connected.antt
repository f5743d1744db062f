-- Pairs of lanes and clients that are made together, one of each for a proxy.
use Rattle.std.proofs.Common.{
  ◌≡◌,
  ℕ,
  zero,
  suc,
  ◌+◌,
  List,
  [],
  ◌∷◌,
  ◌++◌,
  length,
  Some,
  sym,
  refl,
  ap,
  subst,
  subst₂,
  ◌∙◌,
  arith,
}
use Rattle.std.specs.Prelude.{slice_get}
use Rattle.std.proofs.lemmas.Option.{none-some, same_Some}
use Rattle.std.proofs.lemmas.List.{length_push, length-map, map_push}
use Rattle.std.proofs.lemmas.List.Elements.{All-nil, All-push}
use Rattle.lane.specs.Lane.{SameLane}
use Rattle.resolver.specs.declared.client.Client.{Client}
use Rattle.resolver.specs.Resolver.{AreClients, IsNewClient}
use Rattle.resolver.specs.Parts.{ProxyLanesView, AreNewLanes, AreConnected, lanes_of}

module _ {A B : Type 0} (R : A → B → Type 0) where
  -- what holds of the elements at the same index
  abbrev Pairs : List A → List B → Type 0
  Pairs xs ys = (i : ℕ) (a : A) (b : B) → slice_get xs i ≡ Some a → slice_get ys i ≡ Some b → R a b

  pairs_push : (xs : List A) (ys : List B) (x : A) (y : B) → length xs ≡ length ys → Pairs xs ys → R x y
      → Pairs (xs ++ x ∷ []) (ys ++ y ∷ [])
  pairs_push [] [] x y same each here zero a b at_a at_b =
      subst₂ R (same_Some x a at_a) (same_Some y b at_b) here
  pairs_push [] [] x y same each here (suc i) a b at_a at_b = absurd (none-some a at_a)
  pairs_push [] (v ∷ ys) x y same each here i a b at_a at_b = absurd (omega (arith, same))
  pairs_push (u ∷ xs) [] x y same each here i a b at_a at_b = absurd (omega (arith, same))
  pairs_push (u ∷ xs) (v ∷ ys) x y same each here zero a b at_a at_b = each zero a b at_a at_b
  pairs_push (u ∷ xs) (v ∷ ys) x y same each here (suc i) a b at_a at_b =
      pairs_push xs ys x y (omega (arith, same)) (λ j. each (suc j)) here i a b at_a at_b

pub connected_none : (capacity : ℕ) → AreConnected capacity 0 [] []
connected_none capacity = record {
  proxy_lanes_count = refl;
  client_count = refl;
  new_all_lanes = All-nil AreNewLanes;
  new_clients = All-nil (IsNewClient capacity);
  same = record {
    count = refl;
    requests = λ proxy l c at. absurd (none-some l at);
    replies = λ proxy l c at. absurd (none-some l at);
  };
}

module _ (capacity count : ℕ) (all_lanes : List ProxyLanesView) (clients : List Client) (l : ProxyLanesView) (c : Client)
    (are : AreConnected capacity count all_lanes clients)
    (requests : SameLane c.requests l.lanes.requests) (replies : SameLane l.lanes.replies c.replies) where
  many : length (lanes_of all_lanes) ≡ length clients
  many = length-map all_lanes (λ k. k.lanes) ∙ are.proxy_lanes_count ∙ sym are.client_count

  same_more : AreClients (lanes_of all_lanes ++ l.lanes ∷ []) (clients ++ c ∷ [])
  same_more = record {
    count = length_push clients c ∙ ap (λ n. n + 1) (sym many) ∙ sym (length_push (lanes_of all_lanes) l.lanes);
    requests =
        pairs_push (λ k d. SameLane d.requests k.requests) (lanes_of all_lanes) clients l.lanes c many
        are.same.requests requests;
    replies =
        pairs_push (λ k d. SameLane k.replies d.replies) (lanes_of all_lanes) clients l.lanes c many
        are.same.replies replies;
  }

  -- one more of each
  pub connected_more : AreNewLanes l → IsNewClient capacity c
      → AreConnected capacity (count + 1) (all_lanes ++ l ∷ []) (clients ++ c ∷ [])
  connected_more new_proxy_lanes new_client = record {
    proxy_lanes_count = length_push all_lanes l ∙ ap (λ n. n + 1) are.proxy_lanes_count;
    client_count = length_push clients c ∙ ap (λ n. n + 1) are.client_count;
    new_all_lanes = All-push AreNewLanes all_lanes l are.new_all_lanes new_proxy_lanes;
    new_clients = All-push (IsNewClient capacity) clients c are.new_clients new_client;
    same =
        subst (λ lanes. AreClients lanes (clients ++ c ∷ [])) (sym (map_push (λ k. k.lanes) all_lanes l)) same_more;
  }
