-- Over a log in which no batch follows version -1, the reference resolver holds every batch.
use Rattle.std.proofs.Common.{◌≡◌, ◌≢◌, ℕ, zero, suc, Bool, true, false, cond, List, [], ◌∷◌, length, Option, None, Some, refl, sym, ap, subst, ◌∙◌, arith}
use Rattle.std.specs.Prelude.{ℤ, pos, negsuc, ◌≤ℤ◌, int_lt, int_le, ◌==◌, IfSome}
use Rattle.std.specs.List.{AllByRecursion}
use Rattle.std.proofs.lemmas.Bool.{eq-eqb, false≢true}
use Rattle.std.proofs.lemmas.Int.{ints}
use Rattle.keyspace.specs.declared.batch.Batch.{Batch}
use Rattle.keyspace.specs.Leaving.{Held, first_or, if_due, least_first, next_due}
use Rattle.keyspace.specs.Processed.{Processed, version_of}
use Rattle.keyspace.specs.Run.{State, Step, Take, Finish, admit, hold, leave, leave_then, part, run_from, step}
use Rattle.replay_diagnosis.specs.Following.{NoneBegins}
use Rattle.replay_diagnosis.proofs.Following.{all_both}

-- the batch begins no chain
abbrev pub IsLater : Held → Type 0
IsLater h = h.1.previous ≢ negsuc 0

natural : (v : ℤ) → negsuc 0 ≤ℤ v → v ≢ negsuc 0 → (n : ℕ) × (v ≡ pos n)
natural (pos n) le other = (n, refl)
natural (negsuc zero) le other = absurd (other refl)
natural (negsuc (suc n)) le other = absurd (omega (arith, ints, le))

is_above : (b : Batch) → b.previous ≢ negsuc 0 → int_lt (negsuc 0) b.previous ≡ true
is_above b later =
    let is = natural b.previous b.previous_from later in
    ap (int_lt (negsuc 0)) is.1

isnt_below : (b : Batch) → b.previous ≢ negsuc 0 → int_le b.previous (negsuc 0) ≡ false
isnt_below b later =
    let is = natural b.previous b.previous_from later in
    ap (λ (v : ℤ). int_le v (negsuc 0)) is.1

-- the batch that leaves first begins no chain, if there is one
abbrev LeavesLater : Option (Held × List Held) → Type 0
LeavesLater o = IfSome {T = Held × List Held} o (λ l. IsLater l.0)

first_is : (h : Held) (hs : List Held) (o : Option (Held × List Held)) → IsLater h → LeavesLater o → LeavesLater (first_or h hs o)
first_is h hs None here rest = here
first_is h hs (Some l) here rest = go (int_lt l.0.1.previous h.1.previous)
  where
    go : (b : Bool) → LeavesLater (cond b (Some (l.0, h ∷ l.1)) (Some (h, hs)))
    go true = rest
    go false = here

least_is : (hs : List Held) → AllByRecursion IsLater hs → LeavesLater (least_first hs)
least_is [] all = tt
least_is (h ∷ hs) all = first_is h hs (least_first hs) all.0 (least_is hs all.1)

-- none of them leaves
none_due : (hs : List Held) → AllByRecursion IsLater hs → next_due (negsuc 0) hs ≡ None
none_due hs all = go (least_first hs) (least_is hs all)
  where
    go : (o : Option (Held × List Held)) → LeavesLater o → if_due (negsuc 0) o ≡ None
    go None later = refl
    go (Some l) later = ap (λ b. cond b (Some l) None) (isnt_below l.0.1 later)

-- nothing was processed, and nothing that is held begins a chain
pub record HoldsAll (s : State) : Type 0 where
  pub processed : s.processed ≡ []
  pub held : AllByRecursion IsLater s.held

leaves_none : (turns : ℕ) (window : ℤ) (s : State) → HoldsAll s → leave turns window s ≡ s
leaves_none zero window s holds = refl
leaves_none (suc turns) window s holds =
    ap (leave_then (leave turns window) window s)
    (ap (λ (ps : List Processed). next_due (version_of ps) s.held) holds.processed ∙ none_due s.held holds.held)

by_true : (P : State → Type 0) (b : Bool) (s t : State) → b ≡ true → P s → P (cond b s t)
by_true P true s t is holds = holds
by_true P false s t is holds = absurd (false≢true is)

admitted : (window : ℤ) (proxy : ℕ) (b : Batch) (s : State) → HoldsAll s → b.previous ≢ negsuc 0 → HoldsAll (admit window proxy b s)
admitted window proxy b s holds later =
    by_true HoldsAll (int_lt (version_of s.processed) b.previous) (hold proxy b s) _
    (ap (λ (ps : List Processed). int_lt (version_of ps) b.previous) holds.processed ∙ is_above b later)
    (record { processed = holds.processed; held = all_both IsLater s.held ((proxy, b) ∷ []) holds.held (later, tt) })

taken : (window : ℤ) (proxy : ℕ) (b : Batch) (s : State) → HoldsAll s → b.previous ≢ negsuc 0
    → HoldsAll (step window (Take proxy b) s)
taken window proxy b s holds later =
    let now = admit window proxy b s in
    let all = admitted window proxy b s holds later in
    subst HoldsAll (sym (leaves_none (length now.held) window now all)) all

others : (p : ℕ) (b : Batch) (log : List Step) (proxy : ℕ) → NoneBegins (part (Take p b ∷ log) proxy) → NoneBegins (part log proxy)
others p b log proxy = go (p == proxy)
  where
    go : (c : Bool) → NoneBegins (cond c (b ∷ part log proxy) (part log proxy)) → NoneBegins (part log proxy)
    go true all = all.1
    go false all = all

pub none_processed : (window : ℤ) (log : List Step) (s : State) → HoldsAll s → ((proxy : ℕ) → NoneBegins (part log proxy))
    → (run_from window log s).processed ≡ []
none_processed window [] s holds none = holds.processed
none_processed window (Take p b ∷ log) s holds none =
    let own : NoneBegins (b ∷ part log p) =
    subst (λ (c : Bool). NoneBegins (cond c (b ∷ part log p) (part log p))) (eq-eqb p p refl) (none p) in
    none_processed window log (step window (Take p b) s) (taken window p b s holds own.0) (λ proxy. others p b log proxy (none proxy))
none_processed window (Finish ∷ log) s holds none =
    none_processed window log (step window Finish s) (record { processed = holds.processed; held = tt }) none
