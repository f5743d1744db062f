-- Where more batches are held than all shares come to, some proxy has more than its share unanswered.
use Rattle.std.proofs.Common.{
  ◌≡◌,
  ℕ,
  zero,
  suc,
  ◌+◌,
  ◌*◌,
  ◌<◌,
  ◌≤◌,
  ◌==◌,
  cond,
  true,
  false,
  List,
  [],
  ◌∷◌,
  ◌++◌,
  length,
  Option,
  Some,
  None,
  length-append,
  sym,
  ap,
  subst,
  ◌∙◌,
  refl,
  inl,
  inr,
  arith,
}
use Rattle.std.specs.Prelude.{ℤ, ◌<ℤ◌, int_lt, All, slice_get}
use Rattle.std.proofs.Math.Nat.{mul-div-le}
use Rattle.std.proofs.lemmas.Bool.{cases_lt, eq-eqb}
use Rattle.std.proofs.lemmas.Int.{ints}
use Rattle.std.proofs.lemmas.List.Elements.{All-append, All-cons, All-nil}
use Rattle.chain.specs.declared.gate.TheConstants.{MAX_HELD}
use Rattle.keyspace.specs.declared.batch.Batch.{Batch}
use Rattle.keyspace.specs.Processed.{version_of}
use Rattle.keyspace.specs.Leaving.{Held, next_due}
use Rattle.keyspace.specs.Laws.{held_of}
use Rattle.keyspace.specs.Run.{Step, Take, hold, admit, leave_all, run, answers, part}
use Rattle.keyspace.proofs.callers.Chains.{each_is_answered, run_quiet, next_due_leaves}
use Rattle.lane.specs.Lane.{Lane}
use Rattle.resolver.specs.declared.client.Client.{Client}
use Rattle.resolver.specs.Owed.{owed_to}
use Rattle.resolver.specs.Core.{made_to}
use Rattle.resolver.specs.Lanes.{Lanes, taken_from, sent_to}
use Rattle.resolver.specs.OpeningLog.{opening_log, log_from}
use Rattle.resolver.specs.Resolver.{ResolverState, StandsOverFrom, IsResolvingFrom, TakesFrom}
use Rattle.resolver.specs.Share.{share_of, HasMoreUnanswered, KeepsShare}
use Rattle.keys.proofs.callers.Lists.{All-without}
use Rattle.resolver.proofs.Accounts.{made_begins}
use Rattle.resolver.proofs.AtIndex.{field_at, field_past}
use Rattle.resolver.proofs.FromVersion.{log_from-more, part_from, part_of_proxy, grows_from, opening_answered}
use Rattle.resolver.proofs.Growing.{begins_answers_to}
use Rattle.resolver.proofs.Releasing.{leave_all-none}
use Rattle.resolver.proofs.Standing.{IsIn-standing, run-more}

-- the first of those held counts for its proxy
held_first : (q : ℕ) (h : Held) (hs : List Held)
    → length (held_of q (h ∷ hs)) ≡ cond (h.0 == q) 1 0 + length (held_of q hs)
held_first q h hs =
    elim (h.0 == q) as
    (λ own. length (cond own (h ∷ held_of q hs) (held_of q hs)) ≡ cond own 1 0 + length (held_of q hs)) [
      | true ↦ omega arith
      | false ↦ omega arith
    ]

held_own : (q : ℕ) (h : Held) (hs : List Held) → h.0 ≡ q → length (held_of q (h ∷ hs)) ≡ 1 + length (held_of q hs)
held_own q h hs own =
    held_first q h hs ∙ ap (λ is. cond is 1 0 + length (held_of q hs)) (eq-eqb h.0 q own)

-- how many of those held are of the proxies below this number
abbrev held_below : ℕ → List Held → ℕ
held_below zero hs = 0
held_below (suc n) hs = held_below n hs + length (held_of n hs)

no_fewer : (n : ℕ) (h : Held) (hs : List Held) → held_below n hs ≤ held_below n (h ∷ hs)
no_fewer zero h hs = omega arith
no_fewer (suc n) h hs = omega (arith, no_fewer n h hs, held_first n h hs)

one_more : (n : ℕ) (h : Held) (hs : List Held) → h.0 < n → held_below n hs < held_below n (h ∷ hs)
one_more zero h hs known = absurd (omega (arith, known))
one_more (suc n) h hs known = elim (cases_lt h.0 n) [
  | inl below ↦ omega (arith, one_more n h hs below, held_first n h hs)
  | inr last ↦ omega (arith, no_fewer n h hs, held_own n h hs (omega (arith, known, last)))
]

-- if no other proxy has one, all that are held are counted
all_below : (n : ℕ) (hs : List Held) → ((q : ℕ) → n ≤ q → length (held_of q hs) ≡ 0) → length hs ≤ held_below n hs
all_below n [] none = omega arith
all_below n (h ∷ hs) none = elim (cases_lt h.0 n) [
  | inl known ↦
      let rest = all_below n hs (λ q past. omega (arith, held_first q h hs, none q past)) in
      omega (arith, rest, one_more n h hs known)
  | inr past ↦ absurd (omega (arith, held_own h.0 h hs refl, none h.0 past))
]

-- and so some proxy has more than its share of them
some_has_more : (n share : ℕ) (hs : List Held) → n * share < held_below n hs
    → (q : ℕ) × (q < n) × (share < length (held_of q hs))
some_has_more zero share hs more = absurd (omega (arith, more))
some_has_more (suc n) share hs more = elim (cases_lt share (length (held_of n hs))) [
  | inl own ↦ (n, omega arith, own)
  | inr within ↦
      let other = some_has_more n share hs (omega (arith, more, within)) in
      (other.0, omega (arith, other.1), other.2)
]

-- if all that are held wait, none is due
none_due : (version : ℤ) (hs : List Held) → All (λ h. version <ℤ h.1.previous) hs → next_due version hs ≡ None
none_due version hs wait = by (next_due version hs) refl
  where
    by : (l : Option (Held × List Held)) → next_due version hs ≡ l → l ≡ None
    by None is = refl
    by (Some l) is =
        let leaves = next_due_leaves.some version hs l.0 l.1 is in
        let all = subst (All (λ h. version <ℤ h.1.previous)) leaves.held_is wait in
        let late = (All-without (λ h. version <ℤ h.1.previous) leaves.before l.0 leaves.after all).0 in
        absurd (omega (arith, ints, late, leaves.due))

-- if a batch is taken that is ahead of the version, it is held, and none leaves
held_ahead : (window : ℤ) (log : List Step) (proxy : ℕ) (b : Batch)
    → version_of (run window log).processed <ℤ b.previous
    → (run window (log ++ Take proxy b ∷ [])).held ≡ (run window log).held ++ (proxy, b) ∷ []
held_ahead window log proxy b ahead =
    let s = run window log in
    let version = version_of s.processed in
    let is_ahead : int_lt version b.previous ≡ true = grind (arith, ints, ahead) in
    let admitted : admit window proxy b s ≡ hold proxy b s = rw is_ahead refl in
    let wait = All-append (λ h. version <ℤ h.1.previous) s.held ((proxy, b) ∷ []) (run_quiet window log)
    (All-cons (λ h. version <ℤ h.1.previous) (proxy, b) [] ahead (All-nil (λ h. version <ℤ h.1.previous))) in
    ap (λ t. t.held)
    (run-more window log (Take proxy b)
    ∙ ap (leave_all window) admitted
    ∙ leave_all-none window (hold proxy b s) (none_due version (hold proxy b s).held wait))

module _ (version : ℤ) (r : ResolverState) (log : List Step) (stands : StandsOverFrom version r log)
    (count : length r.core.owed ≡ length r.lanes) where
  abbrev opening : List Step
  opening = opening_log (length r.lanes) version

  abbrev entire : List Step
  entire = log_from version (length r.lanes) log

  abbrev held : List Held
  held = (run r.core.set.window entire).held

  -- what is held of a proxy was taken, and no answer to it was made
  unanswered : (q : ℕ) → q < length r.lanes
      → length (made_to q (sent_to r.lanes) r.core) + length (held_of q held) ≤ length (taken_from r.lanes q)
  unanswered q inside =
      let made = made_begins r.core.stop entire (sent_to r.lanes) r.core stands.core q (omega (arith, inside, count)) in
      let long = ap length made.1 ∙ length-append (made_to q (sent_to r.lanes) r.core) made.0 in
      let own = ap length (part_of_proxy version (length r.lanes) log q inside) in
      omega (arith, long, each_is_answered r.core.set.window entire q, own, ap length (stands.parts q))

  -- and none is held of a proxy that there isn't
  none_unknown : (q : ℕ) → length r.lanes ≤ q → length (held_of q held) ≡ 0
  none_unknown q past =
      let window = r.core.set.window in
      let none = ap length (stands.parts q ∙ field_past (λ l. l.requests.taken) r.lanes q past) in
      let both = ap length (part_from version (length r.lanes) log q) ∙ length-append (part opening q) (part log q) in
      let first = opening_answered window version (length r.lanes) q in
      let begins = begins_answers_to q (run window opening).answered (run window entire).answered
      (grows_from window version (length r.lanes) log).answered in
      let more = ap length begins.1 ∙ length-append (answers window opening q) begins.0 in
      omega (arith, each_is_answered window entire q, none, both, first, more)

  -- where more are held than fall to all proxies, one has more than its share unanswered
  pub beyond : MAX_HELD < length held
      → (q : ℕ) × (q < length r.lanes) × HasMoreUnanswered (share_of (length r.lanes)) q r
  beyond full =
      let n = length r.lanes in
      let within = mul-div-le MAX_HELD n in
      let all = all_below n held none_unknown in
      let one = some_has_more n (share_of n) held (omega (arith, full, within, all)) in
      (one.0, one.1, omega (arith, unanswered one.0 one.1, one.2))

-- if a batch is taken that is ahead of the version, and the gate is full, one more is held by the log than the gate holds
pub beyond_share : (version : ℤ) (old new : ResolverState) → length new.lanes ≡ length old.lanes
    → new.core.set.window ≡ old.core.set.window → length new.core.owed ≡ length new.lanes → old.core.stop ≡ None
    → IsResolvingFrom version old
    → (proxy : ℕ) (took : TakesFrom proxy old new) → old.core.version <ℤ took.batch.previous
    → length old.core.held ≡ MAX_HELD
    → (q : ℕ) × (q < length new.lanes) × HasMoreUnanswered (share_of (length new.lanes)) q new
beyond_share version old new as_many same count running before proxy took ahead full =
    let window = old.core.set.window in
    let steps = Take proxy took.batch ∷ [] in
    let log = before.log ++ steps in
    let was = log_from version (length old.lanes) before.log in
    let are = IsIn-standing old.core.stop was (sent_to old.lanes) old.core running before.stands.core in
    let is_ahead = subst (λ (version : ℤ). version <ℤ took.batch.previous) are.version ahead in
    let held = ap length (held_ahead window was proxy took.batch is_ahead) in
    let more = length-append (run window was).held ((proxy, took.batch) ∷ []) in
    let entire = ap (λ (ss : List Step). length (run window ss).held)
    (log_from-more version (length old.lanes) (length new.lanes) before.log steps as_many) in
    let now = ap (λ (w : ℤ). length (run w (log_from version (length new.lanes) log)).held) same in
    let many = ap length (sym are.held) ∙ full in
    beyond version new log (took.adds version before.log before.stands) count
    (omega (arith, held, more, entire, now, many))

-- a client that keeps its share has no more unanswered
pub within_share : (share proxy : ℕ) (r : ResolverState) (c : Client) (l : Lanes) → slice_get r.lanes proxy ≡ Some l
    → Lane c.requests l.requests → Lane l.replies c.replies → KeepsShare share c → ¬ HasMoreUnanswered share proxy r
within_share share proxy r c l at requests replies keeps more =
    let taken = ap length (field_at (λ k. k.requests.taken) r.lanes proxy l at) in
    let sent = ap length (field_at (λ k. k.replies.sent) r.lanes proxy l at) in
    let made = length-append (sent_to r.lanes proxy) (owed_to proxy r.core.owed) in
    let batches = ap length requests.in_order.1 ∙ length-append l.requests.taken requests.in_order.0 in
    let answers = ap length replies.in_order.1 ∙ length-append c.replies.taken replies.in_order.0 in
    omega (arith, taken, sent, made, batches, answers, keeps, more)
