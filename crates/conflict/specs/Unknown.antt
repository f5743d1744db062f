-- A history that isn't known, as one write of every key. This project's own.
use Rattle.std.specs.Prelude.{◌≡◌, ℕ, ◌<◌, ◌≤◌, ℤ, pos, negsuc, ◌≤ℤ◌, ◌<ℤ◌, ◌↔◌, List, [], ◌∷◌, ◌++◌, length, replicate, All, Some, slice_get}
use Rattle.std.proofs.Common.{refl, sym, subst, zero-le}
use Rattle.std.proofs.Math.Nat.{le_refl}
use Rattle.std.proofs.Math.Dec.{lit<}
use Rattle.std.proofs.lemmas.List.{length-replicate}
use Rattle.std.proofs.lemmas.List.Elements.{All-nil, All-replicate}
use Rattle.keys.specs.declared.key.TheConstants.{MAX_KEY_LENGTH}
use Rattle.keys.specs.declared.range.Range.{Range}
use Rattle.keys.specs.Key.{IsBytes, IsKey, IsAtMost}
use Rattle.keys.specs.Range.{IsEmpty}
use Rattle.keyspace.specs.declared.txn.Txn.{Txn}
use Rattle.keyspace.specs.declared.reply.Verdict.TheVariants.{Committed}
use Rattle.keyspace.specs.Writes.{Write}
use Rattle.keyspace.specs.Judged.{IsHit, HasVerdict}

-- The greatest key of this length: bytes of 255. No key of at most this length comes after it.
unfoldable pub greatest_of_length : ℕ → List ℕ
greatest_of_length count = replicate count 255

pub length-greatest_of_length : (count : ℕ) → length (greatest_of_length count) ≡ count
unfolding greatest_of_length
length-greatest_of_length count = length-replicate count 255

pub bytes_of_greatest : (count : ℕ) → IsBytes (greatest_of_length count)
unfolding greatest_of_length
bytes_of_greatest count = All-replicate (λ byte. byte < 256) count 255 (lit< tt)

-- The empty key and the greatest key are keys, in order.
pub empty_is_key : IsKey []
empty_is_key = record { bytes = All-nil (λ byte. byte < 256); short = zero-le }

pub greatest_is_key : IsKey (greatest_of_length MAX_KEY_LENGTH)
greatest_is_key = record {
  bytes = bytes_of_greatest MAX_KEY_LENGTH;
  short = subst (λ n. n ≤ MAX_KEY_LENGTH) (sym (length-greatest_of_length MAX_KEY_LENGTH)) (le_refl MAX_KEY_LENGTH);
}

pub empty_is_first : (key : List ℕ) → IsAtMost [] key
empty_is_first [] = refl
empty_is_first (byte ∷ key) = refl

-- The range from the empty key to the greatest key. Every range that isn't empty overlaps it: it ends with the greatest
-- key at the latest, so it begins before that one.
abbrev pub every_key : Range
every_key = record {
  begin = [];
  end = greatest_of_length MAX_KEY_LENGTH;
  begin_is_key = empty_is_key;
  end_is_key = greatest_is_key;
  ordered = empty_is_first (greatest_of_length MAX_KEY_LENGTH);
}

-- A history up to this version that isn't known, as one write of every key at the version. Nothing was written before
-- version 0.
abbrev pub unknown_until : ℤ → List Write
unknown_until (pos version) = record { range = every_key; version = pos version } ∷ []
unknown_until (negsuc n) = []

-- None of the writes is later than the version.
abbrev pub AreUntil : ℤ → List Write → Type 0
AreUntil version ws = All (λ w. w.version ≤ℤ version) ws

-- Let any writes come up to the version. A read range that is hit after these and later writes is also hit after the
-- unknown history and the same later writes.
abbrev pub HitsCovered : Type 0
HitsCovered =
    (version : ℤ) (ws later : List Write) (t : Txn) (i : ℕ) → AreUntil version ws →
    IsHit (ws ++ later) t i → IsHit (unknown_until version ++ later) t i

-- So what is committed after the history that isn't known is also committed after any history up to the version.
abbrev pub CommitsCovered : Type 0
CommitsCovered =
    (version oldest : ℤ) (ws later : List Write) (written : List Range) (t : Txn) → AreUntil version ws →
    HasVerdict oldest (unknown_until version ++ later) written t Committed →
    HasVerdict oldest (ws ++ later) written t Committed

-- A read range with a snapshot below the version is hit, unless it is empty.
abbrev pub HitsBelow : Type 0
HitsBelow =
    (version : ℤ) (t : Txn) (i : ℕ) (range : Range) → slice_get t.reads i ≡ Some range →
    t.snapshot <ℤ version → IsHit (unknown_until version) t i ↔ ¬ IsEmpty range

-- One with a snapshot at or above the version is hit by the later writes alone.
abbrev pub HitsFromOn : Type 0
HitsFromOn =
    (version : ℤ) (later : List Write) (t : Txn) (i : ℕ) → version ≤ℤ t.snapshot →
    IsHit (unknown_until version ++ later) t i ↔ IsHit later t i
