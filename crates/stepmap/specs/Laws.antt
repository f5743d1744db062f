-- What a layer above may use of step maps, beside the calls. This project's own.
use Rattle.std.specs.Prelude.{
  ◌≡◌,
  ℕ,
  ◌+◌,
  ◌*◌,
  ◌≤◌,
  ℤ,
  ◌≤ℤ◌,
  ◌<ℤ◌,
  ◌↔◌,
  List,
  ◌++◌,
  length,
  map,
  take,
  drop,
  Any,
  Some,
  slice_get,
}
use Rattle.keys.specs.Key.{IsBytes}
use Rattle.keys.specs.Range.{IsEmpty, Holds, Meets}
use Rattle.keyspace.specs.Writes.{Write, at_version}
use Rattle.keys.specs.declared.range.Range.{Range}
use Rattle.stepmap.specs.Boundary.{Boundary, AreBoundaries, AreUpTo, value_at}
use Rattle.stepmap.specs.StepMap.{Steps, AreSteps, lengths}
use Rattle.stepmap.specs.Writing.{AreApart, after_write}
use Rattle.stepmap.specs.Sweeping.{rest}
use Rattle.stepmap.specs.Covers.{MapCovers, IsAbove}
use Rattle.stepmap.specs.Rooted.{Ends, Rooted}
use Rattle.stepmap.specs.Counting.{filled_count, live_count}
use Rattle.stepmap.specs.Uniting.{Unites}

-- If the map covers the writes, and the number is at or above the edge: the function is above it at some key of the range exactly if some
-- write above it meets the range.
abbrev pub DeterminesHits : Type 0
DeterminesHits =
    (m : Steps) (ws : List Write) (range : Range) (s : ℤ) → MapCovers m ws → m.edge ≤ℤ s →
    IsAbove m range s ↔ Any (λ w. Meets range w.range × (s <ℤ w.version)) ws

-- the greatest value in a range is above a number exactly if the function is, at some key of the range
abbrev pub GreatestDetermines : Type 0
GreatestDetermines =
    (m : Steps) (range : Range) (greatest s : ℤ) →
    ((key : List ℕ) → Holds range key → value_at m.boundaries key ≤ℤ greatest) →
    (key : List ℕ) × IsBytes key × Holds range key × (value_at m.boundaries key ≡ greatest) →
    (s <ℤ greatest) ↔ IsAbove m range s

-- boundaries that are begins and ends of writes at or above the edge are at most two for each of these, and one
abbrev pub FewBoundaries : Type 0
FewBoundaries =
    (bs : List Boundary) (ws : List Write) (edge : ℤ) → AreBoundaries bs → Ends bs ws edge →
    length bs ≤ 1 + 2 * live_count edge ws

-- ranges written at or above the edge count too, except empty ones
abbrev pub CountedAlong : Type 0
CountedAlong =
    (edge version : ℤ) (ws : List Write) (ranges : List Range) → edge ≤ℤ version →
    live_count edge (ws ++ at_version version ranges) ≡ live_count edge ws + filled_count ranges

-- if no version is above this one, none is above a later one
abbrev pub UpToLater : Type 0
UpToLater = (version later : ℤ) (bs : List Boundary) → version ≤ℤ later → AreUpTo version bs
    → AreUpTo later bs

-- the first n ranges are written at the version, in sequence, and the others are ready
pub record IsWriting (ranges : List Range) (version : ℤ) (done : ℕ) (before now : Steps) : Type 0 where
  pub steps : AreSteps now
  pub ready : now.ready ≡ map lengths (drop done ranges)
  pub newest : AreUpTo version now.boundaries
  pub late : now.edge ≤ℤ version
  pub edge : now.edge ≡ before.edge
  pub limit : now.limit ≡ before.limit
  pub round : now.round ≡ before.round
  pub covers :
      (ws : List Write) → MapCovers before ws → MapCovers now (ws ++ at_version version (take done ranges))
  pub rooted :
      (ws : List Write) → Rooted before ws → Rooted now (ws ++ at_version version (take done ranges))
  pub ends :
      (ws : List Write) (edge : ℤ) → edge ≤ℤ version → Ends before.boundaries ws edge →
      Ends now.boundaries (ws ++ at_version version (take done ranges)) edge
  pub left : rest now ≤ rest before + 2 * done
  pub count : length now.boundaries ≤ length before.boundaries + 2 * done

-- what `write` requires of the range that is next
pub record MayBeNext (range : Range) (version : ℤ) (now : Steps) : Type 0 where
  pub filled : ¬ IsEmpty range
  pub ready : slice_get now.ready 0 ≡ Some (lengths range)
  pub newest : AreUpTo version now.boundaries
  pub late : now.edge ≤ℤ version

-- all the ranges are written at the version
pub record IsWritten (ranges : List Range) (version : ℤ) (before now : Steps) : Type 0 where
  pub covers : (ws : List Write) → MapCovers before ws → MapCovers now (ws ++ at_version version ranges)
  pub rooted : (ws : List Write) → Rooted before ws → Rooted now (ws ++ at_version version ranges)
  pub ends :
      (ws : List Write) (edge : ℤ) → edge ≤ℤ version → Ends before.boundaries ws edge →
      Ends now.boundaries (ws ++ at_version version ranges) edge

-- ranges that were made ready are written in sequence
pub record WritesInTurn (united : List Range) (version : ℤ) : Type 0 where
  -- none is written yet
  pub start :
      (m : Steps) → AreSteps m → m.ready ≡ map lengths united → AreUpTo version m.boundaries →
      m.edge ≤ℤ version → IsWriting united version 0 m m
  -- the next one may be written
  pub next :
      (done : ℕ) (range : Range) (before now : Steps) → IsWriting united version done before now →
      slice_get united done ≡ Some range → MayBeNext range version now
  -- and then one more is
  pub step :
      (done : ℕ) (range : Range) (before now later : Steps) → IsWriting united version done before now →
      slice_get united done ≡ Some range → later ≡ after_write range version now →
      IsWriting united version (done + 1) before later
  -- if all are, so are those ranges that they unite
  pub entire :
      (ranges : List Range) (before now : Steps) → IsWriting united version (length united) before now →
      Unites united ranges → IsWritten ranges version before now

abbrev pub ApartWriteInTurn : Type 0
ApartWriteInTurn = (united : List Range) (version : ℤ) → AreApart united → WritesInTurn united version
