-- After each step no held batch is due.
use Rattle.std.proofs.Common.{
  ◌≡◌,
  ℕ,
  zero,
  suc,
  ◌≤◌,
  true,
  false,
  cond,
  List,
  [],
  ◌∷◌,
  length,
  refl,
  ap,
  arith,
  ◌++◌,
  subst,
}
use Rattle.std.specs.Prelude.{ℤ, ◌<ℤ◌, ◌≤ℤ◌, int_lt, int_le, Option, Some, None, All}
use Rattle.std.specs.List.{AllByRecursion}
use Rattle.std.proofs.lemmas.Int.{ints}
use Rattle.std.proofs.lemmas.List.Elements.{All-from_recursion}
use Rattle.keys.proofs.callers.Numbers.{not_less}
use Rattle.keyspace.specs.declared.batch.Batch.{Batch}
use Rattle.keyspace.specs.Processed.{version_of}
use Rattle.keyspace.specs.Found.{found}
use Rattle.keyspace.specs.Leaving.{Held, first_or, least_first, if_due, next_due}
use Rattle.keyspace.specs.Laws.{Leaves, NextDueLeaves}
use Rattle.keyspace.specs.Run.{
  State,
  start,
  Step,
  Take,
  Finish,
  hold,
  answer,
  process,
  admit,
  leave,
  leave_then,
  step,
  run_from,
  run,
}

-- each has at least this previous version
abbrev AllFrom : ℤ → List Held → Type 0
AllFrom least hs = AllByRecursion (λ (h : Held). least ≤ℤ h.1.previous) hs

-- each waits for a version to come
abbrev pub AllWait : ℤ → List Held → Type 0
AllWait version hs = AllByRecursion (λ (h : Held). version <ℤ h.1.previous) hs

-- what is said of the one that goes first: as many others, and none with a lesser previous version
abbrev IsLeast : List Held → Option (Held × List Held) → Type 0
IsLeast hs None = hs ≡ []
IsLeast hs (Some l) = (length hs ≡ suc (length l.1)) × AllFrom l.0.1.previous hs

all_from_less : (a b : ℤ) (hs : List Held) → a ≤ℤ b → AllFrom b hs → AllFrom a hs
all_from_less a b [] h k = tt
all_from_less a b (x ∷ xs) h k = (let p = k.0 in grind (arith, ints), all_from_less a b xs h k.1)

less : (a b : ℤ) → int_lt a b ≡ true → a ≤ℤ b
less a b h = grind (arith, ints)

from_itself : (a : ℤ) → a ≤ℤ a
from_itself a = omega (arith, ints)

first_or_least : (h : Held) (hs : List Held) (l : Option (Held × List Held)) → IsLeast hs l
    → IsLeast (h ∷ hs) (first_or h hs l)
first_or_least h hs None e = rw e (refl, (from_itself h.1.previous, tt))
first_or_least h hs (Some l) k =
    elim (int_lt l.0.1.previous h.1.previous) as (λ b. int_lt l.0.1.previous h.1.previous ≡ b
    → IsLeast (h ∷ hs) (cond b (Some (l.0, h ∷ l.1)) (Some (h, hs)))) [
      | true ↦ λ e. (ap suc k.0, (less l.0.1.previous h.1.previous e, k.1))
      | false ↦ λ e. (
        refl,
        (
          from_itself h.1.previous,
          all_from_less h.1.previous l.0.1.previous hs (not_less l.0.1.previous h.1.previous e) k.1,
        ),
      )
    ] refl

least_first_least : (hs : List Held) → IsLeast hs (least_first hs)
least_first_least [] = refl
least_first_least (h ∷ hs) = first_or_least h hs (least_first hs) (least_first_least hs)

-- what `next_due` says of those that are held
abbrev IsNext : ℤ → List Held → Option (Held × List Held) → Type 0
IsNext version hs None = AllWait version hs
IsNext version hs (Some l) = (length hs ≡ suc (length l.1)) × (int_le l.0.1.previous version ≡ true)

wait_from : (a version : ℤ) (hs : List Held) → int_le a version ≡ false → AllFrom a hs → AllWait version hs
wait_from a version [] h k = tt
wait_from a version (x ∷ xs) h k = (let p = k.0 in grind (arith, ints), wait_from a version xs h k.1)

if_due_next : (version : ℤ) (hs : List Held) (l : Option (Held × List Held)) → IsLeast hs l
    → IsNext version hs (if_due version l)
if_due_next version hs None e = rw e tt
if_due_next version hs (Some l) k =
    elim (int_le l.0.1.previous version) as (λ b. int_le l.0.1.previous version ≡ b
    → IsNext version hs (cond b (Some l) None)) [
      | true ↦ λ e. (k.0, e)
      | false ↦ λ e. wait_from l.0.1.previous version hs e k.1
    ] refl

next_due_next : (version : ℤ) (hs : List Held) → IsNext version hs (next_due version hs)
next_due_next version hs = if_due_next version hs (least_first hs) (least_first_least hs)

not_above : (a version : ℤ) → int_le a version ≡ true → int_lt version a ≡ false
not_above a version h = grind (arith, ints)

-- one that is due isn't held again
admit_due : (window : ℤ) (proxy : ℕ) (b : Batch) (s : State)
    → int_le b.previous (version_of s.processed) ≡ true → (admit window proxy b s).held ≡ s.held
admit_due window proxy b s h =
    let v = version_of s.processed in
    elim (int_lt v b.previous) as (λ above. int_lt v b.previous ≡ above
    → (cond above (hold proxy b s)
    (cond (int_lt b.previous v) (answer proxy (found s.processed proxy b.version) s)
    (process window proxy b s))).held ≡ s.held) [
      | true ↦ λ e. absurd (let f = not_above b.previous v h in cc)
      | false ↦ λ e. elim (int_lt b.previous v) as
          (λ below. (cond below (answer proxy (found s.processed proxy b.version) s)
          (process window proxy b s)).held ≡ s.held) [ true ↦ refl | false ↦ refl ]
    ] refl

-- nothing that is held is due
abbrev pub IsQuiet : State → Type 0
IsQuiet s = AllWait (version_of s.processed) s.held

leave_then_quiet : (continue_with : State → State) (window : ℤ) (turns : ℕ)
    → ((s : State) → length s.held ≤ turns → IsQuiet (continue_with s)) → (s : State) → length s.held ≤ suc turns
    → (l : Option (Held × List Held)) → IsNext (version_of s.processed) s.held l
    → IsQuiet (leave_then continue_with window s l)
leave_then_quiet continue_with window turns f s n None k = k
leave_then_quiet continue_with window turns f s n (Some l) k =
    f (admit window l.0.0 l.0.1 (record s { held = l.1 }))
    (let e = ap length (admit_due window l.0.0 l.0.1 (record s { held = l.1 }) k.1) in omega (arith, k.0, e))

leave_quiet : (turns : ℕ) (window : ℤ) (s : State) → length s.held ≤ turns → IsQuiet (leave turns window s)
leave_quiet zero window s n = none_held s.held n
  where
    none_held : (hs : List Held) → length hs ≤ 0 → AllWait (version_of s.processed) hs
    none_held [] n = tt
    none_held (h ∷ hs) n = absurd (omega arith)
leave_quiet (suc turns) window s n =
    leave_then_quiet (leave turns window) window turns (leave_quiet turns window) s n
    (next_due (version_of s.processed) s.held) (next_due_next (version_of s.processed) s.held)

step_quiet : (window : ℤ) (x : Step) (s : State) → IsQuiet (step window x s)
step_quiet window (Take proxy b) s =
    leave_quiet (length (admit window proxy b s).held) window (admit window proxy b s) (omega arith)
step_quiet window Finish s = tt

run_from_quiet : (window : ℤ) (log : List Step) (s : State) → IsQuiet s → IsQuiet (run_from window log s)
run_from_quiet window [] s q = q
run_from_quiet window (x ∷ log) s q = run_from_quiet window log (step window x s) (step_quiet window x s)

pub run_quiet : (window : ℤ) (log : List Step)
    → All (λ h. version_of (run window log).processed <ℤ h.1.previous) (run window log).held
run_quiet window log =
    All-from_recursion (λ (h : Held). version_of (run window log).processed <ℤ h.1.previous)
    (run window log).held (run_from_quiet window log start tt)

-- each has a greater previous version
abbrev AllAbove : ℤ → List Held → Type 0
AllAbove least hs = AllByRecursion (λ (h : Held). least <ℤ h.1.previous) hs

-- where the one that goes first stands
abbrev IsSplit : List Held → Option (Held × List Held) → Type 0
IsSplit hs None = Unit {0}
IsSplit hs (Some l) = (before : List Held) × (after : List Held) × (hs ≡ before ++ l.0 ∷ after)
    × (l.1 ≡ before ++ after) × AllAbove l.0.1.previous before × AllFrom l.0.1.previous after

less_than : (a b : ℤ) → int_lt a b ≡ true → a <ℤ b
less_than a b h = grind (arith, ints)

first_or_split : (h : Held) (hs : List Held) (l : Option (Held × List Held)) → IsLeast hs l → IsSplit hs l
    → IsSplit (h ∷ hs) (first_or h hs l)
first_or_split h hs None e s = ([], hs, refl, refl, tt, rw e tt)
first_or_split h hs (Some l) k s =
    elim (int_lt l.0.1.previous h.1.previous) as (λ b. int_lt l.0.1.previous h.1.previous ≡ b
    → IsSplit (h ∷ hs) (cond b (Some (l.0, h ∷ l.1)) (Some (h, hs)))) [
      | true ↦ λ e. (
        h ∷ s.0,
        s.1,
        ap (λ xs. h ∷ xs) s.2,
        ap (λ xs. h ∷ xs) s.3,
        (less_than l.0.1.previous h.1.previous e, s.4),
        s.5,
      )
      | false ↦ λ e. (
        [],
        hs,
        refl,
        refl,
        tt,
        all_from_less h.1.previous l.0.1.previous hs (not_less l.0.1.previous h.1.previous e) k.1,
      )
    ] refl

least_first_split : (hs : List Held) → IsSplit hs (least_first hs)
least_first_split [] = tt
least_first_split (h ∷ hs) =
    first_or_split h hs (least_first hs) (least_first_least hs) (least_first_split hs)

at_most : (a b : ℤ) → int_le a b ≡ true → a ≤ℤ b
at_most a b h = grind (arith, ints)

leaves_from : (version : ℤ) (hs : List Held) (l : Option (Held × List Held)) → IsSplit hs l
    → (leaver : Held) (others : List Held) → if_due version l ≡ Some (leaver, others)
    → Leaves version hs leaver others
leaves_from version hs None s leaver others e = cc
leaves_from version hs (Some l) s leaver others e =
    elim (int_le l.0.1.previous version) as (λ b. int_le l.0.1.previous version ≡ b
    → cond b (Some l) None ≡ Some (leaver, others) → Leaves version hs leaver others) [
      | true ↦ λ t f.
          let found : l ≡ (leaver, others) = cc in
          subst (λ (x : Held × List Held). Leaves version hs x.0 x.1) found (record {
            before = s.0;
            after = s.1;
            held_is = s.2;
            others_are = s.3;
            first = All-from_recursion (λ (h : Held). l.0.1.previous <ℤ h.1.previous) s.0 s.4;
            least = All-from_recursion (λ (h : Held). l.0.1.previous ≤ℤ h.1.previous) s.1 s.5;
            due = at_most l.0.1.previous version t;
          })
      | false ↦ λ t f. cc
    ] refl e

wait_at_none : (version : ℤ) (hs : List Held) (l : Option (Held × List Held)) → IsNext version hs l → l ≡ None
    → AllWait version hs
wait_at_none version hs None n e = n
wait_at_none version hs (Some l) n e = cc

pub next_due_leaves : NextDueLeaves
next_due_leaves = record {
  some = λ version hs leaver others e. leaves_from version hs (least_first hs)
      (least_first_split hs) leaver others e;
  none = λ version hs e. All-from_recursion (λ (h : Held). version <ℤ h.1.previous) hs
      (wait_at_none version hs (next_due version hs) (next_due_next version hs) e);
}
