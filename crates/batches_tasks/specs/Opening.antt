-- The batch that starts a chain at a version. This project's own.
use Rattle.std.specs.Prelude.{◌≡◌, ℕ, ℤ, pos, negsuc, false, List, [], ◌∷◌, replicate}
use Rattle.keys.specs.declared.key.TheConstants.{MAX_KEY_LENGTH}
use Rattle.keys.specs.declared.range.Range.{Range}
use Rattle.keys.specs.Range.{IsEmpty, Meets}
use Rattle.wire.specs.Fields.{RangeFields, TxnFields, BatchFields, range_fields}
use Rattle.wire.specs.Spelling.{batch_body, frame}
use Rattle.wire.specs.declared.version.WireVersion.TheVariants.{Two}

-- The greatest key: 10,001 bytes of 255. No range ends after it, so every range that isn't empty begins before it.
unfoldable pub greatest_key : List ℕ
greatest_key = replicate MAX_KEY_LENGTH 255

-- from the empty key to the greatest one
abbrev pub every_key : RangeFields
every_key = record { begin = []; end = greatest_key }

-- a transaction that reads nothing and writes every key
abbrev pub writes_every_key : TxnFields
writes_every_key = record { snapshot = pos 0; marked = false; reads = []; writes = every_key ∷ [] }

-- it comes after no batch, and its proxy has received nothing
abbrev pub opening_fields : ℤ → BatchFields
opening_fields version = record {
  previous = negsuc 0;
  version = version;
  received = negsuc 0;
  txns = writes_every_key ∷ [];
}

-- its frame, of wire version 2
abbrev pub opening_frame : ℤ → List ℕ
opening_frame version = frame (batch_body Two (opening_fields version))

-- the range overlaps every range that isn't empty
abbrev pub MeetsEveryRange : Type 0
MeetsEveryRange = (every range : Range) → range_fields every ≡ every_key → ¬ IsEmpty range → Meets every range
