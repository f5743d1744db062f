-- What a round of all proxies passes on.
use Rattle.std.specs.Prelude.{◌≡◌, ℕ, ◌+◌, ◌<◌, Bool, List, length, map, set, Some, slice_get, slice_index_or as get_or}
use Rattle.std.proofs.Common.{refl, sym, ap, subst, ◌∙◌}
use Rattle.std.proofs.Math.Seq.{map-set_same}
use Rattle.std.proofs.lemmas.List.{map-set}
use Rattle.std.proofs.lemmas.Option.{get_or_from_slice_get, slice_get-get_or, slice_get_within}
use Rattle.replay_output.specs.declared.options.style.Style.{Style}
use Rattle.replay_stream.specs.declared.outlet.Outlet.{Outlet}
use Rattle.replay_stream.specs.declared.proxies.Proxy.{Proxy}
use Rattle.replay_stream.specs.Outlet.{AreNumbered, HasPassedAll, PassesSome, StreamContinues, StreamsOn}
use Rattle.replay_stream.specs.Proxies.{outlets_of, threads_of}
use Rattle.replay_stream.specs.Sinks.{SinkState}
use Rattle.replay_stream.proofs.Outlets.{numbered_set, passed_set, stream_at}
use Rattle.replay_workers.proofs.callers.Lists.{mapped_at}

module _ {S W : Type 0} (proxies : List (Proxy S W)) (i : ℕ) (d : Proxy S W) (x : Outlet) (inside : i < length proxies) where
  abbrev pub here : Proxy S W
  here = get_or proxies i d

  abbrev pub with_outlet : List (Proxy S W)
  with_outlet = set proxies i (record here { outlet = x })

  at : slice_get (outlets_of proxies) i ≡ Some here.outlet
  at = mapped_at (λ (p : Proxy S W). p.outlet) proxies i here (slice_get-get_or proxies i d inside)

  outlet_here : get_or (outlets_of proxies) i here.outlet ≡ here.outlet
  outlet_here = get_or_from_slice_get (outlets_of proxies) i here.outlet here.outlet at

  within : i < length (outlets_of proxies)
  within = slice_get_within (outlets_of proxies) i here.outlet at

  outlets_are : outlets_of with_outlet ≡ set (outlets_of proxies) i x
  outlets_are = map-set (λ (p : Proxy S W). p.outlet) proxies i (record here { outlet = x })

  pub threads_stay : map threads_of with_outlet ≡ map threads_of proxies
  threads_stay = map-set_same threads_of proxies i (record here { outlet = x }) d refl

  pub numbered_stay : AreNumbered (outlets_of proxies) → x.proxy ≡ here.outlet.proxy → AreNumbered (outlets_of with_outlet)
  numbered_stay numbered same =
      subst AreNumbered (sym outlets_are)
      (numbered_set (outlets_of proxies) i x here.outlet within numbered (same ∙ ap (λ (l : Outlet). l.proxy) (sym outlet_here)))

  pub passed_to : ((q : ℕ) (m : Outlet) → q < i → slice_get (outlets_of proxies) q ≡ Some m → HasPassedAll m) → HasPassedAll x
      → (q : ℕ) (m : Outlet) → q < i + 1 → slice_get (outlets_of with_outlet) q ≡ Some m → HasPassedAll m
  passed_to before now q m below there =
      passed_set (outlets_of proxies) i x within before now q m below (ap (λ l. slice_get l q) (sym outlets_are) ∙ there)

  -- the outlet at this place has passed some answers on
  pub streams_at : (style : Style) (start mid now : Bool) (first before after : SinkState) (old : List Outlet)
      → AreNumbered (outlets_of proxies) → StreamsOn style start mid first before old (outlets_of proxies)
      → PassesSome style mid now before after here.outlet x → StreamsOn style start now first after old (outlets_of with_outlet)
  streams_at style start mid now first before after old numbered streams step = λ failed given outlets was.
      subst (λ (l : List Outlet). StreamContinues style failed now given after outlets l) (sym outlets_are)
      (stream_at style failed mid now given before after outlets (outlets_of proxies) i x here.outlet within
      (ap (λ (l : Outlet). l.proxy) outlet_here ∙ numbered i here.outlet at) (streams failed given outlets was)
      (subst (λ (l : Outlet). PassesSome style mid now before after l x) (sym outlet_here) step))
