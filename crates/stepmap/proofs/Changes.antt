-- What each change of a step map keeps, said of the map before and the map after.
use Rattle.std.proofs.Common.{◌≡◌, ℕ, ◌+◌, ◌≤◌, ◌<◌, List, [], ◌∷◌, ◌++◌, length, get_or, sym, subst, arith}
use Rattle.std.specs.Prelude.{ℤ, ◌≤ℤ◌, None}
use Rattle.std.proofs.lemmas.Int.{ints}
use Rattle.keys.specs.Range.{Holds, IsEmpty}
use Rattle.keyspace.specs.Writes.{Write}
use Rattle.keys.specs.declared.range.Range.{Range}
use Rattle.stepmap.specs.Boundary.{Boundary, value_at, AreUpTo}
use Rattle.stepmap.specs.StepMap.{Steps, AreSteps, IsRound}
use Rattle.stepmap.specs.Writing.{after_write}
use Rattle.stepmap.specs.Sweeping.{cursor_of, rest, round_edge, after_sweep}
use Rattle.stepmap.specs.Covers.{SameFrom, Covers}
use Rattle.stepmap.specs.Rooted.{Ends, Rooted}
use Rattle.boundaries.proofs.callers.Order.{rising_in_order}
use Rattle.boundaries.proofs.callers.Counting.{written_length}
use Rattle.stepmap.proofs.Covering.{covers_same, covers_raise}
use Rattle.stepmap.proofs.Rooting.{rooted_raise}
use Rattle.boundaries.proofs.callers.WritingValues.{value_in, value_elsewhere}
use Rattle.stepmap.proofs.WritingRooted.{written_ends}
use Rattle.stepmap.proofs.WrittenMap.{
  written_steps,
  written_up_to,
  written_covers,
  written_map_rooted,
  written_rest,
  if_some_map,
}
use Rattle.boundaries.proofs.callers.Sweeps.{swept_has}
use Rattle.stepmap.proofs.SweptMap.{
  swept_steps,
  swept_count,
  swept_ends_stay,
  swept_same,
  swept_map_rooted,
  swept_ends,
  swept_round,
  swept_rest,
}

pub record WriteKeeps (range : Range) (version : ℤ) (old new : Steps) : Type 0 where
  pub steps : AreSteps new
  pub on_range : (key : List ℕ) → Holds range key → value_at new.boundaries key ≡ version
  pub elsewhere : (key : List ℕ) → ¬ Holds range key
      → value_at new.boundaries key ≡ value_at old.boundaries key
  pub newest : AreUpTo version new.boundaries
  pub covers : (ws : List Write) → Covers (value_at old.boundaries) ws old.edge
      → Covers (value_at new.boundaries) (ws ++ record { range = range; version = version } ∷ []) new.edge
  pub rooted : (ws : List Write) → Rooted old ws
      → Rooted new (ws ++ record { range = range; version = version } ∷ [])
  pub ends : (ws : List Write) (edge : ℤ) → edge ≤ℤ version → Ends old.boundaries ws edge
      → Ends new.boundaries (ws ++ record { range = range; version = version } ∷ []) edge
  pub rest_grows : rest new ≤ rest old + 2
  pub count : length new.boundaries ≤ length old.boundaries + 2

pub write_keeps : (range : Range) → ¬ IsEmpty range → (version : ℤ) (old : Steps) → AreSteps old
    → AreUpTo version old.boundaries → old.edge ≤ℤ version → 0 < length old.ready → (new : Steps)
    → new ≡ after_write range version old → WriteKeeps range version old new
write_keeps range filled version old h top late some new e =
    let rising = rising_in_order old.boundaries h.boundaries.in_order in
    subst (WriteKeeps range version old) (sym e) (record {
      steps = written_steps range filled version old h top late some;
      on_range = value_in range filled version old.boundaries rising;
      elsewhere = value_elsewhere range filled version old.boundaries rising;
      newest = written_up_to range filled version old h top late;
      covers = written_covers range filled version old h top late;
      rooted = written_map_rooted range filled version old h top late;
      ends = λ ws edge le. written_ends range filled version ws edge old.boundaries le;
      rest_grows = written_rest range filled version old h top late;
      count = written_length range filled version old.boundaries;
    })

pub record SweepKeeps (count : ℕ) (old new : Steps) : Type 0 where
  pub steps : AreSteps new
  pub same : SameFrom old.edge (value_at old.boundaries) (value_at new.boundaries)
  pub newest : (version : ℤ) → AreUpTo version old.boundaries → AreUpTo version new.boundaries
  pub covers : (ws : List Write) → Covers (value_at old.boundaries) ws old.edge
      → Covers (value_at new.boundaries) ws new.edge
  pub rooted : (ws : List Write) → Rooted old ws → Rooted new ws
  pub ends : rest old ≤ count → (ws : List Write) → Rooted old ws
      → Ends new.boundaries ws (round_edge old.edge old.round)
  pub front : rest old ≤ count → new.round ≡ None
  pub fewer : count < rest old → rest new + count ≡ rest old
  pub ends_stay : (ws : List Write) (edge : ℤ) → Ends old.boundaries ws edge → Ends new.boundaries ws edge
  pub no_more : length new.boundaries ≤ length old.boundaries

pub sweep_keeps : (count : ℕ) (old : Steps) → AreSteps old → (new : Steps) → new ≡ after_sweep count old
    → SweepKeeps count old new
sweep_keeps count old h new e =
    let same = swept_same count old h in
    subst (SweepKeeps count old) (sym e) (record {
      steps = swept_steps count old h;
      same = same;
      newest = λ version a. swept_has old.edge (cursor_of old.round) count
          (λ b. b.version ≤ℤ version) old.boundaries a;
      covers = λ ws. covers_same (value_at old.boundaries)
          (value_at (after_sweep count old).boundaries) ws old.edge same;
      rooted = swept_map_rooted count old h;
      ends = swept_ends count old h;
      front = swept_round count old h;
      fewer = swept_rest count old h;
      ends_stay = swept_ends_stay count old h;
      no_more = swept_count count old h;
    })

pub record RaiseKeeps (old new : Steps) : Type 0 where
  pub steps : AreSteps new
  pub covers : (ws : List Write) → Covers (value_at old.boundaries) ws old.edge
      → Covers (value_at new.boundaries) ws new.edge
  pub rooted : (ws : List Write) → Rooted old ws → Rooted new ws

pub raise_keeps : (edge : ℤ) (old : Steps) → AreSteps old → old.edge ≤ℤ edge → (new : Steps)
    → new ≡ record old { edge = edge } → RaiseKeeps old new
raise_keeps edge old h le new e =
    subst (RaiseKeeps old) (sym e) (record {
      steps = record {
        boundaries = h.boundaries;
        round =
            if_some_map old.round (IsRound old.edge) (IsRound edge) (λ r is. record {
              key = is.key;
              later =
                  is.later;
              began = (let began : r.edge ≤ℤ old.edge = is.began in omega (arith, ints));
            }) h.round;
        within = h.within;
        limit = h.limit;
      };
      covers = λ ws. covers_raise (value_at old.boundaries) ws old.edge edge le;
      rooted = λ ws r. record {
        each = rooted_raise ws old.edge edge _ old.boundaries le r.each;
        passed =
            r.passed;
      };
    })

pub up_to_later : (v w : ℤ) (bs : List Boundary) → v ≤ℤ w → AreUpTo v bs → AreUpTo w bs
up_to_later v w bs le a = λ k d lt. let below : (get_or bs k d).version ≤ℤ v = a k d lt in omega (arith, ints)
