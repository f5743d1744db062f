-- The proxies of a stream, place by place: what each was given, and what was recorded of it.
use Rattle.std.specs.Prelude.{◌≡◌, ℕ, zero, suc, ◌+◌, List, [], ◌∷◌, ◌++◌, length, map, Option, Some, None, is_some, slice_get, slice_index_or as get_or}
use Rattle.std.specs.List.{AllZip, All}
use Rattle.std.proofs.Common.{refl, sym, ap, subst, ◌∙◌, append_assoc, arith}
use Rattle.std.proofs.lemmas.List.{map-append}
use Rattle.std.proofs.lemmas.Option.{none-some, same_Some, slice_get-get_or}
use Rattle.keyspace.specs.declared.answer.Answer.{Answer}
use Rattle.lane.specs.Lane.{PortView, IntakeView}
use Rattle.resolver.specs.declared.client.Client.{Client}
use Rattle.replay_output.specs.declared.options.reports.Reports.{Reports}
use Rattle.replay_stream.specs.declared.proxies.ProxyTask.{ProxyTask}
use Rattle.replay_stream.specs.declared.recorder.Recorder.{Recorder}
use Rattle.replay_stream.specs.Proxies.{GivenProxy, JoinsRecorder, given_proxies, given_with, threads_by}
use Rattle.replay_stream.specs.Streaming.{Recorded, recorded_each}
use Rattle.replay_stream.specs.Sinks.{SinkState}
use Rattle.replay_stream.proofs.Streams.{recorded_of}

-- what holds at each place holds of the lists
pub all_of : {X : Type 0} (P : X → Type 0) (xs : List X) → ((place : ℕ) (x : X) → slice_get xs place ≡ Some x → P x) → All P xs
all_of P xs each k d inside = each k (get_or xs k d) (slice_get-get_or xs k d inside)

pub zip_of : {X Y : Type 0} (R : X → Y → Type 0) (xs : List X) (ys : List Y) → length ys ≡ length xs
    → ((place : ℕ) (x : X) (y : Y) → slice_get xs place ≡ Some x → slice_get ys place ≡ Some y → R x y) → AllZip R xs ys
zip_of R [] [] same each = tt
zip_of R [] (y ∷ ys) same each = absurd (omega (arith, same))
zip_of R (x ∷ xs) [] same each = absurd (omega (arith, same))
zip_of R (x ∷ xs) (y ∷ ys) same each = (
  each 0 x y refl refl,
  zip_of R xs ys (omega (arith, same)) (λ place x y at there. each (suc place) x y at there),
)

-- what one proxy is given
abbrev pub given_one : {S W : Type 0} → Reports → ℕ → Client → S → Option W → GivenProxy S W
given_one reports proxy client reader out =
    record { proxy = proxy; client = client; reader = reader; reports = reports; out = out }

-- one proxy more has its outlet
pub given_also : {S W G : Type 0} (reports : Reports) (tasks after : List (ProxyTask S W G)) (task : ProxyTask S W G) (clients rest_clients : List Client)
    (client : Client) (readers rest_readers : List S) (reader : S) (outs rest_outs : List (Option W)) (out : Option W)
    (all : List (GivenProxy S W)) (first next : ℕ)
    → map (λ (t : ProxyTask S W G). given_with t.outlet (threads_by t)) tasks ++ given_proxies reports first clients readers outs ≡ all
    → clients ≡ client ∷ rest_clients → readers ≡ reader ∷ rest_readers → outs ≡ out ∷ rest_outs → after ≡ tasks ++ task ∷ []
    → next ≡ first + 1 → given_with task.outlet (threads_by task) ≡ given_one reports first client reader out
    → map (λ (t : ProxyTask S W G). given_with t.outlet (threads_by t)) after ++ given_proxies reports next rest_clients rest_readers rest_outs ≡ all
given_also {S} {W} {G} reports tasks after task clients rest_clients client readers rest_readers reader outs rest_outs out all first next before cs rs
    os pushed number given =
    let f = λ (t : ProxyTask S W G). given_with t.outlet (threads_by t) in
    let done = map f tasks in
    let rest = λ (n : ℕ). given_proxies reports n rest_clients rest_readers rest_outs in
    ap (λ (l : List (ProxyTask S W G)). map f l ++ rest next) pushed ∙ ap (λ (l : List (GivenProxy S W)). l ++ rest next) (map-append f tasks (task ∷ []))
    ∙ append_assoc done (f task ∷ []) (rest next) ∙ ap (λ (n : ℕ). done ++ f task ∷ rest n) number
    ∙ ap (λ (g : GivenProxy S W). done ++ g ∷ rest (first + 1)) given
    ∙ ap (λ (l : List Client). done ++ given_proxies reports first l (reader ∷ rest_readers) (out ∷ rest_outs)) (sym cs)
    ∙ ap (λ (l : List S). done ++ given_proxies reports first clients l (out ∷ rest_outs)) (sym rs)
    ∙ ap (λ (l : List (Option W)). done ++ given_proxies reports first clients readers l) (sym os) ∙ before

-- the number of the proxy at a place
pub given_number : {S W : Type 0} (reports : Reports) (first : ℕ) (clients : List Client) (readers : List S) (outs : List (Option W)) (place : ℕ)
    (g : GivenProxy S W) → slice_get (given_proxies reports first clients readers outs) place ≡ Some g → g.proxy ≡ first + place
given_number reports first [] readers outs place g at = absurd (none-some g at)
given_number reports first (c ∷ clients) [] outs place g at = absurd (none-some g at)
given_number reports first (c ∷ clients) (r ∷ readers) [] place g at = absurd (none-some g at)
given_number {S} {W} reports first (c ∷ clients) (r ∷ readers) (o ∷ outs) zero g at =
    let number : first ≡ first + 0 = omega arith in
    sym (ap (λ (g : GivenProxy S W). g.proxy) (same_Some _ g at)) ∙ number
given_number reports first (c ∷ clients) (r ∷ readers) (o ∷ outs) (suc place) g at =
    let number : (first + 1) + place ≡ first + suc place = omega arith in
    given_number reports (first + 1) clients readers outs place g at ∙ number

-- both lists have something at a place, or neither
pub length_given : {S W : Type 0} (reports : Reports) (first : ℕ) (clients : List Client) (readers : List S) (outs : List (Option W))
    → length readers ≡ length clients → length outs ≡ length clients
    → length (given_proxies reports first clients readers outs) ≡ length clients
length_given reports first [] readers outs same as_many = refl
length_given reports first (c ∷ clients) [] outs same as_many = absurd (omega (arith, same))
length_given reports first (c ∷ clients) (r ∷ readers) [] same as_many = absurd (omega (arith, as_many))
length_given reports first (c ∷ clients) (r ∷ readers) (o ∷ outs) same as_many =
    let rest = length_given reports (first + 1) clients readers outs (omega (arith, same)) (omega (arith, as_many)) in
    omega (arith, rest)

-- what the proxy at a place was given
pub given_at : {S W : Type 0} (reports : Reports) (first : ℕ) (clients : List Client) (readers : List S) (outs : List (Option W))
    → length readers ≡ length clients → length outs ≡ length clients → (place : ℕ) (c : Client) (r : S) (o : Option W)
    → slice_get clients place ≡ Some c → slice_get readers place ≡ Some r → slice_get outs place ≡ Some o
    → slice_get (given_proxies reports first clients readers outs) place
    ≡ Some (record { proxy = first + place; client = c; reader = r; reports = reports; out = o })
given_at reports first [] readers outs same as_many place c r o at_c at_r at_o = absurd (none-some c at_c)
given_at reports first (d ∷ clients) [] outs same as_many place c r o at_c at_r at_o = absurd (omega (arith, same))
given_at reports first (d ∷ clients) (s ∷ readers) [] same as_many place c r o at_c at_r at_o = absurd (omega (arith, as_many))
given_at {S = S} {W = W} reports first (d ∷ clients) (s ∷ readers) (p ∷ outs) same as_many zero c r o at_c at_r at_o =
    let number : first ≡ first + 0 = omega arith in
    ap (λ (n : ℕ). Some (given_one reports n d s p)) number
    ∙ ap (λ (c : Client). Some (given_one reports (first + 0) c s p)) (same_Some d c at_c)
    ∙ ap (λ (r : S). Some (given_one reports (first + 0) c r p)) (same_Some s r at_r)
    ∙ ap (λ (o : Option W). Some (given_one reports (first + 0) c r o)) (same_Some p o at_o)
given_at {S = S} {W = W} reports first (d ∷ clients) (s ∷ readers) (p ∷ outs) same as_many (suc place) c r o at_c at_r at_o =
    given_at reports (first + 1) clients readers outs (omega (arith, same)) (omega (arith, as_many)) place c r o at_c at_r at_o
    ∙ ap (λ (n : ℕ). Some (given_one reports n c r o)) (omega arith)

-- the writers with their recorders, place by place
pub recorded_at : {W : Type 0} (state_of : W → SinkState) (outs : List (Option W)) (recorders : List (Option (Recorder W)))
    (place : ℕ) (o : Option W) (r : Option (Recorder W)) → slice_get outs place ≡ Some o → slice_get recorders place ≡ Some r
    → slice_get (recorded_each state_of outs recorders) place ≡ Some (recorded_of state_of o r)
recorded_at state_of [] recorders place o r at there = absurd (none-some o at)
recorded_at state_of (o ∷ outs) [] place p r at there = absurd (none-some r there)
recorded_at {W} state_of (None ∷ outs) (q ∷ recorders) zero o r at there =
    subst (λ (o : Option W). ◌≡◌ {A = Option (Option Recorded)} (Some None) (Some (recorded_of state_of o r))) (same_Some None o at) refl
recorded_at {W} state_of (Some w ∷ outs) (None ∷ recorders) zero o r at there =
    subst (λ (o : Option W). ◌≡◌ {A = Option (Option Recorded)} (Some None) (Some (recorded_of state_of o r))) (same_Some (Some w) o at)
    (subst (λ (r : Option (Recorder W)). ◌≡◌ {A = Option (Option Recorded)} (Some None) (Some (recorded_of state_of (Some w) r)))
    (same_Some None r there) refl)
recorded_at {W} state_of (Some w ∷ outs) (Some q ∷ recorders) zero o r at there =
    subst (λ (o : Option W). Some (recorded_of state_of (Some w) (Some q)) ≡ Some (recorded_of state_of o r)) (same_Some (Some w) o at)
    (subst (λ (r : Option (Recorder W)). Some (recorded_of state_of (Some w) (Some q)) ≡ Some (recorded_of state_of (Some w) r))
    (same_Some (Some q) r there) refl)
recorded_at state_of (None ∷ outs) (q ∷ recorders) (suc place) o r at there = recorded_at state_of outs recorders place o r at there
recorded_at state_of (Some w ∷ outs) (None ∷ recorders) (suc place) o r at there =
    recorded_at state_of outs recorders place o r at there
recorded_at state_of (Some w ∷ outs) (Some q ∷ recorders) (suc place) o r at there =
    recorded_at state_of outs recorders place o r at there

pub length_recorded : {W : Type 0} (state_of : W → SinkState) (outs : List (Option W)) (recorders : List (Option (Recorder W)))
    → length recorders ≡ length outs → length (recorded_each state_of outs recorders) ≡ length outs
length_recorded state_of [] recorders same = refl
length_recorded state_of (o ∷ outs) [] same = absurd (omega (arith, same))
length_recorded state_of (None ∷ outs) (q ∷ recorders) same =
    let rest = length_recorded state_of outs recorders (omega (arith, same)) in
    omega (arith, rest)
length_recorded state_of (Some w ∷ outs) (None ∷ recorders) same =
    let rest = length_recorded state_of outs recorders (omega (arith, same)) in
    omega (arith, rest)
length_recorded state_of (Some w ∷ outs) (Some q ∷ recorders) same =
    let rest = length_recorded state_of outs recorders (omega (arith, same)) in
    omega (arith, rest)

-- a proxy has records if it has a writer
pub is_recorded : {W : Type 0} (state_of : W → SinkState) (out : Option W) (given : Option (IntakeView Answer))
    (old new : Option (PortView Answer)) (recorder : Option (Recorder W)) → JoinsRecorder state_of out given old new recorder
    → is_some (recorded_of state_of out recorder) ≡ is_some out
is_recorded state_of None given old new recorder joins = refl
is_recorded state_of (Some out) given old new (Some recorder) joins = refl
is_recorded state_of (Some out) (Some given) (Some old) (Some new) None joins = absurd joins
is_recorded state_of (Some out) (Some given) (Some old) None None joins = absurd joins
is_recorded state_of (Some out) (Some given) None new None joins = absurd joins
is_recorded state_of (Some out) None old new None joins = absurd joins

-- a proxy has a recorder if it has a writer
pub has_recorder : {W : Type 0} (state_of : W → SinkState) (out : Option W) (given : Option (IntakeView Answer))
    (old new : Option (PortView Answer)) (recorder : Option (Recorder W)) → JoinsRecorder state_of out given old new recorder
    → is_some recorder ≡ is_some out
has_recorder state_of None given old new None joins = refl
has_recorder state_of (Some out) given old new (Some recorder) joins = refl
has_recorder state_of (Some out) (Some given) (Some old) (Some new) None joins = absurd joins
has_recorder state_of (Some out) (Some given) (Some old) None None joins = absurd joins
has_recorder state_of (Some out) (Some given) None new None joins = absurd joins
has_recorder state_of (Some out) None old new None joins = absurd joins
has_recorder state_of None (Some given) old new (Some recorder) joins = absurd joins
has_recorder state_of None None (Some old) new (Some recorder) joins = absurd joins
has_recorder state_of None None None (Some new) (Some recorder) joins = absurd joins
has_recorder state_of None None None None (Some recorder) joins = absurd joins
