-- A range is written, run by run: first its boundaries are removed, and at last it is written over.
use Rattle.std.proofs.Common.{◌≡◌, ℕ, ◌+◌, ◌≤◌, arith, [], ◌∷◌, length, None, Some, refl, ◌∙◌}
use Rattle.std.specs.Prelude.{ℤ}
use Rattle.arena.specs.Arena.{HasRoomFor, wanted_of}
use Rattle.keys.specs.declared.range.Range.{Range}
use Rattle.boundaries.specs.declared.overwrite.Overwrite.{Overwrite}
use Rattle.boundaries.specs.Boundary.{AreBoundaries}
use Rattle.boundaries.specs.Stored.{IsCleared, IsWrittenOver, Stored, overwritten, spare_in, version_at_end}
use Rattle.boundaries.specs.Written.{boundaries_after_write}

-- the range can be written as at first
pub record IsToWrite (range : Range) (version : ℤ) (old now : Stored) (new : Overwrite) : Type 0 where
  pub start : new.start.now ≡ range.begin
  pub end : new.end.now ≡ range.end
  pub same : overwritten new (version_at_end new now.boundaries) now.boundaries ≡ boundaries_after_write range version old.boundaries
  pub boundaries : AreBoundaries now.boundaries
  pub few : length now.boundaries ≤ length old.boundaries
  pub spare : (size : ℕ) → spare_in old size ≤ spare_in now size
  pub room : now.room ≡ old.room

-- at first it is
pub to_write : (range : Range) (version : ℤ) (old : Stored) (new : Overwrite) → new.start.now ≡ range.begin → new.end.now ≡ range.end
    → new.version ≡ version → new.at_end ≡ None → AreBoundaries old.boundaries → IsToWrite range version old old new
to_write range version old new start end version_is none are = record {
  start = start;
  end = end;
  same = rw (start, end, version_is, none) refl;
  boundaries = are;
  few = omega arith;
  spare = λ size. omega arith;
  room = refl;
}

module _ {range : Range} {version : ℤ} {old now : Stored} {new : Overwrite} (h : IsToWrite range version old now new) where
  -- There is room.
  pub keys_fit : HasRoomFor (spare_in old) (length range.begin ∷ length range.end ∷ [])
      → HasRoomFor (spare_in now) (length new.start.now ∷ length new.end.now ∷ [])
  keys_fit room size within = rw (h.start, h.end) (omega (arith, room size within, h.spare size))

module _ {range : Range} {version : ℤ} {old now next : Stored} {new : Overwrite} (h : IsToWrite range version old now new) where
  -- some of its boundaries are removed
  pub to_write_still : (at_end : ℤ) (later : Overwrite) → later.start.now ≡ new.start.now → later.end.now ≡ new.end.now
      → later.version ≡ new.version → later.at_end ≡ Some at_end → IsCleared new now next at_end
      → next.room ≡ now.room → IsToWrite range version old next later
  to_write_still at_end later start end version_is at_is c room = record {
    start = start ∙ h.start;
    end = end ∙ h.end;
    same = rw (start, end, version_is, at_is) (c.same ∙ h.same);
    boundaries = c.boundaries;
    few = omega (arith, c.fewer, h.few);
    spare = λ size. omega (arith, h.spare size, c.none_used size);
    room = room ∙ h.room;
  }

  -- it is written over
  pub is_written : IsWrittenOver new now next → next.boundaries ≡ boundaries_after_write range version old.boundaries
  is_written w = w.boundaries ∙ h.same

  pub is_used : IsWrittenOver new now next → (size : ℕ)
      → spare_in old size ≤ spare_in next size + wanted_of (length range.begin ∷ length range.end ∷ []) size
  is_used w size =
      let used : spare_in old size ≤ spare_in next size + wanted_of (length new.start.now ∷ length new.end.now ∷ []) size =
      omega (arith, h.spare size, w.used_slots size) in
      rw (h.start, h.end) at used
