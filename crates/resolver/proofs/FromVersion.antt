-- The log of a resolver that started at a version: its opening, and the steps taken since.
use Rattle.std.proofs.Common.{◌≡◌, ℕ, zero, suc, ◌<◌, ◌≤◌, ◌==◌, cond, true, false, List, [], ◌∷◌, ◌++◌, length, take, drop, append-nil, append_assoc, sym, ap, subst, ◌∙◌, refl, inl, inr, arith}
use Rattle.std.specs.Prelude.{ℤ, pos, negsuc, ◌≤ℤ◌, ◌⊎◌, None, Some, slice_get}
use Rattle.std.proofs.lemmas.Int.{ints}
use Rattle.std.proofs.lemmas.Option.{none-some}
use Rattle.keyspace.specs.declared.batch.Batch.{Batch}
use Rattle.keyspace.specs.Processed.{Processed, version_of}
use Rattle.keyspace.specs.Laws.{RunsAreChains, held_of}
use Rattle.keyspace.specs.Run.{State, Step, Take, Finish, start, step, run_from, run, answers, part}
use Rattle.keyspace.proofs.callers.Chains.{each_is_answered}
use Rattle.serial.specs.Replies.{AnswersReportVerdicts}
use Rattle.serial.proofs.callers.Reading.{split_at}
use Rattle.resolver.specs.Core.{CoreState, Given}
use Rattle.resolver.specs.Stands.{Stands}
use Rattle.resolver.specs.OpeningLog.{opening_batch, opening_log, log_from}
use Rattle.resolver.specs.Lanes.{sent_to}
use Rattle.resolver.specs.Resolver.{ResolverState, StandsOverFrom, TakesOnlyFrom}
use Rattle.resolver.proofs.Growing.{Grows, grows_itself, grows_then, grows_step}
use Rattle.resolver.proofs.OpenedCore.{none_sent, openings_start}
use Rattle.resolver.proofs.Standing.{IsIn-standing}

-- with more steps, and as many proxies
pub log_from-more : (version : ℤ) (was now : ℕ) (log steps : List Step) → now ≡ was
    → log_from version was log ++ steps ≡ log_from version now (log ++ steps)
log_from-more version was now log steps count =
    append_assoc (opening_log was version) log steps
    ∙ ap (λ (n : ℕ). log_from version n (log ++ steps)) (sym count)

-- a core that represents the one represents the other
pub Stands-more : (core : CoreState) (given : Given) (version : ℤ) (was now : ℕ) (log steps : List Step) → now ≡ was
    → Stands core (log_from version was log ++ steps) given → Stands core (log_from version now (log ++ steps)) given
Stands-more core given version was now log steps count =
    subst (λ (entire : List Step). Stands core entire given) (log_from-more version was now log steps count)

pub Stands-as_many : (core : CoreState) (given : Given) (version : ℤ) (was now : ℕ) (log : List Step) → now ≡ was
    → Stands core (log_from version was log) given → Stands core (log_from version now log) given
Stands-as_many core given version was now log count =
    subst (λ (n : ℕ). Stands core (log_from version n log) given) (sym count)

-- and of no steps it is the opening
pub Stands-opening : (core : CoreState) (given : Given) (version : ℤ) (was now : ℕ) → now ≡ was
    → Stands core (opening_log was version) given → Stands core (log_from version now []) given
Stands-opening core given version was now count stands =
    Stands-as_many core given version was now [] count
    (subst (λ (entire : List Step). Stands core entire given) (sym (append-nil (opening_log was version))) stands)

-- what it takes from a proxy: what the opening does, and then what the steps do
pub part_from : (version : ℤ) (proxies : ℕ) (log : List Step) (proxy : ℕ)
    → part (log_from version proxies log) proxy ≡ part (opening_log proxies version) proxy ++ part log proxy
part_from (pos n) proxies log proxy =
    elim (proxies == proxy) as
    (λ own. cond own (opening_batch n ∷ part log proxy) (part log proxy)
    ≡ cond own (opening_batch n ∷ []) [] ++ part log proxy) [
      | true ↦ refl
      | false ↦ refl
    ]
part_from (negsuc n) proxies log proxy = refl

none_in_opening : (version : ℤ) (proxies proxy : ℕ) → proxy < proxies → part (opening_log proxies version) proxy ≡ []
none_in_opening (pos n) proxies proxy within = none_sent proxies n proxy within
none_in_opening (negsuc n) proxies proxy within = refl

pub part_of_proxy : (version : ℤ) (proxies : ℕ) (log : List Step) (proxy : ℕ) → proxy < proxies
    → part (log_from version proxies log) proxy ≡ part log proxy
part_of_proxy version proxies log proxy within =
    part_from version proxies log proxy
    ∙ ap (λ batches. batches ++ part log proxy) (none_in_opening version proxies proxy within)

-- what was processed and answered at the opening stays
grows_run : (window : ℤ) (log : List Step) (s : State) → Grows s (run_from window log s)
grows_run window [] s = grows_itself s
grows_run window (x ∷ log) s =
    let next = step window x s in
    grows_then s next (run_from window log next) (grows_step window x s) (grows_run window log next)

pub grows_from : (window version : ℤ) (proxies : ℕ) (log : List Step)
    → Grows (run window (opening_log proxies version)) (run window (log_from version proxies log))
grows_from window (pos n) proxies log = grows_run window log (step window (Take proxies (opening_batch n)) start)
grows_from window (negsuc n) proxies log = grows_run window log start

none_held : (window version : ℤ) (proxies : ℕ) → (run window (opening_log proxies version)).held ≡ []
none_held window (pos n) proxies = refl
none_held window (negsuc n) proxies = refl

-- the opening is answered, batch for batch
pub opening_answered : (window version : ℤ) (proxies proxy : ℕ)
    → length (answers window (opening_log proxies version) proxy) ≡ length (part (opening_log proxies version) proxy)
opening_answered window version proxies proxy =
    let all = each_is_answered window (opening_log proxies version) proxy in
    let none = ap (λ held. length (held_of proxy held)) (none_held window version proxies) in
    omega (arith, all, none)

same_head : (x y : Step) (xs ys : List Step) → x ∷ xs ≡ y ∷ ys → x ≡ y
same_head x y xs ys is = cc

same_tail : (x y : Step) (xs ys : List Step) → x ∷ xs ≡ y ∷ ys → xs ≡ ys
same_tail x y xs ys is = cc

-- a step of a log is its first or one of the others
first_or_later : (x : Step) (log before : List Step) (y : Step) (after : List Step) → x ∷ log ≡ before ++ y ∷ after
    → (x ≡ y) ⊎ ((others : List Step) × (log ≡ others ++ y ∷ after))
first_or_later x log [] y after is = inl (same_head x y log after is)
first_or_later x log (z ∷ before) y after is = inr (before, same_tail x z log (before ++ y ∷ after) is)

taken_batch : (p q : ℕ) (b c : Batch) → Take p b ≡ Take q c → b ≡ c
taken_batch p q b c is = cc

taken_known : (proxies : ℕ) (before after : List Step) (proxy : ℕ) (batch : Batch)
    → TakesOnlyFrom proxies (before ++ Take proxy batch ∷ after) → proxy < proxies
taken_known proxies [] after proxy batch only = only.0
taken_known proxies (Take p b ∷ before) after proxy batch only = taken_known proxies before after proxy batch only.1
taken_known proxies (Finish ∷ before) after proxy batch only = taken_known proxies before after proxy batch only

-- once something was processed, the version is natural
version_natural : (p : Processed) (ps : List Processed) → pos 0 ≤ℤ version_of (p ∷ ps)
version_natural p [] = p.batch.natural
version_natural p (q ∷ ps) = version_natural q ps

natural_before : (ps : List Processed) (index : ℕ) (entry : Processed) → slice_get ps index ≡ Some entry → 1 ≤ index
    → pos 0 ≤ℤ version_of (take index ps)
natural_before [] index entry at some = absurd (none-some entry at)
natural_before (p ∷ ps) zero entry at some = absurd (omega (arith, some))
natural_before (p ∷ ps) (suc index) entry at some = version_natural p (take index ps)

-- what was processed after the opening is of a proxy from which the steps take
pub known_sender : (window : ℤ) (proxies : ℕ) (log : List Step) → RunsAreChains → AnswersReportVerdicts
    → TakesOnlyFrom proxies log → (version : ℤ) (index : ℕ) (entry : Processed)
    → slice_get (run window (log_from version proxies log)).processed index ≡ Some entry
    → length (run window (opening_log proxies version)).processed ≤ index → entry.proxy < proxies
known_sender window proxies log chains known_verdicts only (pos n) index entry at later =
    let entire = log_from (pos n) proxies log in
    let own = part entire entry.proxy in
    let sent = known_verdicts.sent window entire index entry at own [] (sym (append-nil own)) in
    elim (first_or_later (Take proxies (opening_batch n)) log sent.before (Take entry.proxy entry.batch) sent.after
    sent.taken) [
      | inl first ↦
          let ps = (run window entire).processed in
          let some : 1 ≤ index = later in
          let same = taken_batch proxies entry.proxy (opening_batch n) entry.batch first in
          let least : negsuc 0 ≡ entry.batch.previous = ap (λ (b : Batch). b.previous) same in
          let follows : entry.batch.previous ≡ version_of (take index ps) =
          (chains window entire (take index ps) entry (drop (suc index) ps)
          (split_at ps index entry at)).previous in
          let natural = natural_before ps index entry at some in
          absurd (omega (arith, ints, least, follows, natural))
      | inr rest ↦
          taken_known proxies rest.0 sent.after entry.proxy entry.batch (subst (TakesOnlyFrom proxies) rest.1 only)
    ]
known_sender window proxies log chains known_verdicts only (negsuc n) index entry at later =
    let own = part log entry.proxy in
    let sent = known_verdicts.sent window log index entry at own [] (sym (append-nil own)) in
    taken_known proxies sent.before sent.after entry.proxy entry.batch (subst (TakesOnlyFrom proxies) sent.taken only)

-- a resolver that has taken no step since it started at a version has that version
pub version_opened : (version : ℤ) (r : ResolverState) → StandsOverFrom version r [] → r.core.stop ≡ None
    → negsuc 0 ≤ℤ version → r.core.version ≡ version
version_opened version r stands none from =
    let window = r.core.set.window in
    let opening = opening_log (length r.lanes) version in
    let are = IsIn-standing r.core.stop (log_from version (length r.lanes) []) (sent_to r.lanes) r.core none
    stands.core in
    are.version
    ∙ ap (λ (log : List Step). version_of (run window log).processed) (append-nil opening)
    ∙ (openings_start window (length r.lanes) version from).at
