-- Pairs of lanes settled with their clients one after another.
use Rattle.std.proofs.Common.{◌≡◌, ◌≢◌, ℕ, zero, suc, ◌+◌, ◌<◌, ◌≤◌, ◌⊎◌, ◌&&◌, Bool, true, List, [], ◌∷◌, ◌++◌, length, take, drop, append-nil, Some, set, refl, sym, ap, subst₂, ◌∙◌, inl, inr, arith}
use Rattle.std.specs.Prelude.{◌↔◌, option_map, slice_get}
use Rattle.std.proofs.lemmas.Bool.{cases_lt, and_parts, and_from}
use Rattle.std.proofs.lemmas.Option.{same_Some, slice_get-map, slice_get_within}
use Rattle.std.proofs.lemmas.List.{length-set, drop_all, take_all}
use Rattle.lane.specs.Lane.{SameLane}
use Rattle.resolver.specs.declared.client.Client.{Client}
use Rattle.resolver.specs.Resolver.{AreClients}
use Rattle.resolver.specs.Parts.{ProxyLanesView, SettlesLanes, EachSettled, lanes_of}

-- what stands at an index of a list, after a write
pub slice_get-set_same : {A : Type 0} (xs : List A) (i : ℕ) (x : A) → i < length xs
    → slice_get (set xs i x) i ≡ Some x
slice_get-set_same [] i x inside = absurd (omega (arith, inside))
slice_get-set_same (y ∷ xs) zero x inside = refl
slice_get-set_same (y ∷ xs) (suc i) x inside = slice_get-set_same xs i x (omega (arith, inside))

pub slice_get-set_other : {A : Type 0} (xs : List A) (i j : ℕ) (x : A) → j ≢ i
    → slice_get (set xs i x) j ≡ slice_get xs j
slice_get-set_other [] i j x other = refl
slice_get-set_other (y ∷ xs) zero zero x other = absurd (other refl)
slice_get-set_other (y ∷ xs) zero (suc j) x other = refl
slice_get-set_other (y ∷ xs) (suc i) zero x other = refl
slice_get-set_other (y ∷ xs) (suc i) (suc j) x other =
    slice_get-set_other xs i j x (λ same. other (ap suc same))

-- what stands in a Vec whose items were written as a slice of the same length
pub written_back : {A : Type 0} (n : ℕ) (new old : List A) → length new ≡ length old → n ≡ length old
    → take n (new ++ drop (length new) old) ≡ new
written_back n new old same entire =
    ap (λ rest. take n (new ++ rest)) (drop_all (length new) old (omega (arith, same)))
    ∙ ap (take n) (append-nil new)
    ∙ take_all n new (omega (arith, same, entire))

-- the lanes of a proxy stand at its index
pub lanes_at : (all_lanes : List ProxyLanesView) (proxy : ℕ) (l : ProxyLanesView) → slice_get all_lanes proxy ≡ Some l
    → slice_get (lanes_of all_lanes) proxy ≡ Some l.lanes
lanes_at all_lanes proxy l at = slice_get-map (λ k. k.lanes) all_lanes proxy ∙ ap (option_map (λ k. k.lanes)) at

-- each client of the first pairs of lanes has taken every answer sent to it
abbrev pub AllTaken : ℕ → List ProxyLanesView → List Client → Type 0
AllTaken count all_lanes clients =
    (proxy : ℕ) (l : ProxyLanesView) (c : Client) → proxy < count → slice_get all_lanes proxy ≡ Some l
    → slice_get clients proxy ≡ Some c → c.replies.taken ≡ l.lanes.replies.sent

-- the first pairs of lanes are settled with their clients, and the others are as before
pub record AreSettled (count : ℕ) (old : List ProxyLanesView) (clients_before : List Client) (new : List ProxyLanesView)
    (clients_after : List Client) : Type 0 where
  pub proxy_lanes_count : length new ≡ length old
  pub client_count : length clients_after ≡ length clients_before
  pub done : (proxy : ℕ) (l m : ProxyLanesView) (c d : Client) → proxy < count → slice_get old proxy ≡ Some l
      → slice_get new proxy ≡ Some m → slice_get clients_before proxy ≡ Some c
      → slice_get clients_after proxy ≡ Some d → SettlesLanes l c m d
  pub other_all_lanes : (proxy : ℕ) → count ≤ proxy → slice_get new proxy ≡ slice_get old proxy
  pub other_clients : (proxy : ℕ) → count ≤ proxy → slice_get clients_after proxy ≡ slice_get clients_before proxy

pub settled_none : (all_lanes : List ProxyLanesView) (clients : List Client) → AreSettled 0 all_lanes clients all_lanes clients
settled_none all_lanes clients = record {
  proxy_lanes_count = refl;
  client_count = refl;
  done = λ proxy l m c d before. absurd (omega (arith, before));
  other_all_lanes = λ proxy _. refl;
  other_clients = λ proxy _. refl;
}

-- below one more is below, or there
below_or_there : (i n : ℕ) → i < n + 1 → (i < n) ⊎ (i ≡ n)
below_or_there i n below = elim (cases_lt i n) [
  | inl before ↦ inl before
  | inr after ↦ inr (omega (arith, below, after))
]

module _ (count : ℕ) (old : List ProxyLanesView) (before : List Client) (new : List ProxyLanesView) (after : List Client)
    (l : ProxyLanesView) (c : Client) (are : AreSettled count old before new after)
    (l_at : slice_get new count ≡ Some l) (c_at : slice_get after count ≡ Some c) where
  inside : count < length new
  inside = slice_get_within new count l l_at

  client_inside : count < length after
  client_inside = slice_get_within after count c c_at

  -- the pair of lanes and client were there from the beginning
  proxy_lanes_was : slice_get old count ≡ Some l
  proxy_lanes_was = sym (are.other_all_lanes count (omega arith)) ∙ l_at

  client_was : slice_get before count ≡ Some c
  client_was = sym (are.other_clients count (omega arith)) ∙ c_at

  -- so they are the ends of the same lanes
  pub same_lanes : AreClients (lanes_of old) before
      → SameLane c.requests l.lanes.requests × SameLane l.lanes.replies c.replies
  same_lanes clients =
      let at = lanes_at old count l proxy_lanes_was in
      (clients.requests count l.lanes c at client_was, clients.replies count l.lanes c at client_was)

  -- one more pair of lanes is settled with its client
  pub settled_more : (m : ProxyLanesView) (d : Client) → SettlesLanes l c m d
      → AreSettled (count + 1) old before (set new count m) (set after count d)
  settled_more m d settles = record {
    proxy_lanes_count = length-set new count m ∙ are.proxy_lanes_count;
    client_count = length-set after count d ∙ are.client_count;
    done = λ proxy k n b e below k_at n_at b_at e_at. elim (below_or_there proxy count below) [
      | inl earlier ↦
          are.done proxy k n b e earlier k_at
          (sym (slice_get-set_other new count proxy m (omega (arith, earlier))) ∙ n_at) b_at
          (sym (slice_get-set_other after count proxy d (omega (arith, earlier))) ∙ e_at)
      | inr here ↦
          subst₂ (λ x y. SettlesLanes x b y e)
          (same_Some l k (sym proxy_lanes_was ∙ ap (slice_get old) (sym here) ∙ k_at))
          (same_Some m n (sym (slice_get-set_same new count m inside)
          ∙ ap (slice_get (set new count m)) (sym here) ∙ n_at))
          (subst₂ (λ x y. SettlesLanes l x m y)
          (same_Some c b (sym client_was ∙ ap (slice_get before) (sym here) ∙ b_at))
          (same_Some d e (sym (slice_get-set_same after count d client_inside)
          ∙ ap (slice_get (set after count d)) (sym here) ∙ e_at))
          settles)
    ];
    other_all_lanes = λ proxy above.
        slice_get-set_other new count proxy m (omega (arith, above)) ∙ are.other_all_lanes proxy (omega (arith, above));
    other_clients = λ proxy above.
        slice_get-set_other after count proxy d (omega (arith, above))
        ∙ are.other_clients proxy (omega (arith, above));
  }

  -- and by whether its client has taken every answer
  pub taken_more : (all here : Bool) → (all ≡ true) ↔ AllTaken count old before
      → (here ≡ true) ↔ (c.replies.taken ≡ l.lanes.replies.sent)
      → ((all && here) ≡ true) ↔ AllTaken (count + 1) old before
  taken_more all here all_is here_is = (there, back)
    where
      there : (all && here) ≡ true → AllTaken (count + 1) old before
      there both proxy k b below k_at b_at = elim (below_or_there proxy count below) [
        | inl earlier ↦ all_is.0 (and_parts all here both).0 proxy k b earlier k_at b_at
        | inr same ↦
            subst₂ (λ x y. y.replies.taken ≡ x.lanes.replies.sent)
            (same_Some l k (sym proxy_lanes_was ∙ ap (slice_get old) (sym same) ∙ k_at))
            (same_Some c b (sym client_was ∙ ap (slice_get before) (sym same) ∙ b_at))
            (here_is.0 (and_parts all here both).1)
      ]

      back : AllTaken (count + 1) old before → (all && here) ≡ true
      back taken =
          and_from all here (all_is.1 (λ proxy k b below. taken proxy k b (omega (arith, below))))
          (here_is.1 (taken count l c (omega arith) proxy_lanes_was client_was))

-- if all are settled, each is
pub settled_all : (count : ℕ) (old : List ProxyLanesView) (before : List Client) (new : List ProxyLanesView) (after : List Client)
    → length old ≤ count → AreSettled count old before new after → EachSettled old before new after
settled_all count old before new after all are = record {
  count = are.proxy_lanes_count;
  clients = are.client_count;
  each = λ proxy l m c d l_at.
      let inside = slice_get_within old proxy l l_at in
      are.done proxy l m c d (omega (arith, inside, all)) l_at;
}
