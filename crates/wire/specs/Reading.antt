-- Reading from left to right, with the first fault that is met. The format is the project's own.
use Rattle.std.specs.Prelude.{◌≡◌, ◌≢◌, ℕ, ◌+◌, zero, suc, ℤ, pos, negsuc, Bool, ◌&&◌, List, [], ◌∷◌, length, take, drop, slice_index, Option, Some, None, Result, Ok, Err, nat_lt, nat_le, int_lt, int_le, ◌==◌, if◌then◌else◌}
use Rattle.std.specs.Int.{w64, cast_signed}
use Rattle.byteorder.specs.Endian.{big_number}
use Rattle.keys.specs.declared.key.TheConstants.{MAX_KEY_LENGTH}
use Rattle.keys.specs.declared.single_key.TheConstants.{MAX_SINGLE_KEY_LENGTH}
use Rattle.keyspace.specs.declared.txn.TheConstants.{MAX_RANGES}
use Rattle.keyspace.specs.declared.batch.TheConstants.{MAX_TXNS}
use Rattle.keys.specs.Key.{is_before}
use Rattle.keyspace.specs.declared.reply.Verdict.{Verdict}
use Rattle.keyspace.specs.declared.reply.Verdict.TheVariants.{Conflict, TooOld, Committed}
use Rattle.wire.specs.declared.error.WireError.{WireError}
use Rattle.wire.specs.declared.error.WireError.TheVariants.{Short, Long, Kind, Trailing, Version, Marks, Count, KeyLength, Inverted, Cut, Memory, Read, Form, Spelling, Write}
use Rattle.wire.specs.declared.field.TheConstants.{MAX_BODY_LENGTH}
use Rattle.wire.specs.declared.version.WireVersion.{WireVersion}
use Rattle.wire.specs.declared.version.WireVersion.TheVariants.{One, Two}
use Rattle.wire.specs.Fields.{RangeFields, TxnFields, BatchFields, EntryFields, ReplyFields}
use Rattle.wire.specs.Spelling.{single_key, is_single_key}

infixl 10 ◌>>=◌
abbrev pub ◌>>=◌ : {A B : Type 0} → Result A WireError → (A → Result B WireError) → Result B WireError
(Ok x) >>= f = f x
(Err e) >>= f = Err e

-- What may be answered instead of a value: the first fault, or that memory ran out. Never a failed read or write.
abbrev pub Refuses : {Y : Type 0} → WireError → Result Y WireError → Type 0
Refuses e read = (e ≢ Read) × (e ≢ Write) × (e ≢ Memory → read ≡ Err e)

-- What a function answered, seen by view, is what reading gives, unless memory ran out.
abbrev pub Gives : {X Y : Type 0} → (X → Y) → Result X WireError → Result Y WireError → Type 0
Gives view (Ok x) read = read ≡ Ok (view x)
Gives view (Err e) read = Refuses e read

-- A field of a body is a value and the bytes after it.

-- a number of n bytes
abbrev pub number_at : ℕ → List ℕ → Result (ℕ × List ℕ) WireError
number_at n bytes = if nat_lt (length bytes) n then Err Cut else Ok (big_number n bytes, drop n bytes)

-- a number of 8 bytes as two's complement
abbrev pub signed_at : List ℕ → Result (ℤ × List ℕ) WireError
signed_at bytes = do
  n ← number_at 8 bytes
  Ok (cast_signed w64 n.0, n.1)

unfoldable pub version_at : (ℤ → Bool) → List ℕ → Result (ℤ × List ℕ) WireError
version_at holds bytes = do
  version ← signed_at bytes
  if holds version.0 then Ok version else Err Version

unfoldable pub count_at : ℕ → List ℕ → Result (ℕ × List ℕ) WireError
count_at limit bytes = do
  n ← number_at 2 bytes
  if nat_le n.0 limit then Ok n else Err Count

unfoldable pub marks_at : List ℕ → Result (Bool × List ℕ) WireError
marks_at bytes = do
  n ← number_at 1 bytes
  if nat_lt 1 n.0 then Err Marks else Ok (n.0 == 1, n.1)

-- a key of at most n bytes
unfoldable pub key_at : ℕ → List ℕ → Result (List ℕ × List ℕ) WireError
key_at limit bytes = do
  n ← number_at 2 bytes
  if nat_lt limit n.0 then Err KeyLength
      else if nat_lt (length n.1) n.0 then Err Cut
      else Ok (take n.0 n.1, drop n.0 n.1)

-- both ends of a range
unfoldable pub ends_at : List ℕ → Result (RangeFields × List ℕ) WireError
ends_at bytes = do
  begin ← key_at MAX_KEY_LENGTH bytes
  end ← key_at MAX_KEY_LENGTH begin.1
  if is_before end.0 begin.0 then Err Inverted else Ok (record { begin = begin.0; end = end.0 }, end.1)

-- what follows a form: 0 has both ends of a range that isn't a single key, 1 has a single key
unfoldable pub form_at : ℕ → List ℕ → Result (RangeFields × List ℕ) WireError
form_at zero bytes = do
  range ← ends_at bytes
  if is_single_key range.0 then Err Spelling else Ok range
form_at (suc zero) bytes = do
  key ← key_at MAX_SINGLE_KEY_LENGTH bytes
  Ok (single_key key.0, key.1)
form_at (suc (suc n)) bytes = Err Form

unfoldable pub formed_at : List ℕ → Result (RangeFields × List ℕ) WireError
formed_at bytes = do
  form ← number_at 1 bytes
  form_at form.0 form.1

abbrev pub range_at : WireVersion → List ℕ → Result (RangeFields × List ℕ) WireError
range_at One = ends_at
range_at Two = formed_at

-- as many values, in sequence
unfoldable pub many_at : {A : Type 0} → (List ℕ → Result (A × List ℕ) WireError)
    → ℕ → List ℕ → Result (List A × List ℕ) WireError
many_at one zero bytes = Ok ([], bytes)
many_at one (suc n) bytes = do
  first ← one bytes
  others ← many_at one n first.1
  Ok (first.0 ∷ others.0, others.1)

unfoldable pub txn_at : WireVersion → List ℕ → Result (TxnFields × List ℕ) WireError
txn_at version bytes = do
  snapshot ← version_at (λ v. int_le (pos 0) v) bytes
  marked ← marks_at snapshot.1
  read_count ← count_at MAX_RANGES marked.1
  write_count ← count_at MAX_RANGES read_count.1
  reads ← many_at (range_at version) read_count.0 write_count.1
  writes ← many_at (range_at version) write_count.0 reads.1
  Ok (record { snapshot = snapshot.0; marked = marked.0; reads = reads.0; writes = writes.0 }, writes.1)

unfoldable pub kind_at : ℕ → List ℕ → Result (List ℕ) WireError
kind_at kind bytes = do
  n ← number_at 1 bytes
  if n.0 == kind then Ok n.1 else Err Kind

-- the wire version of a kind
abbrev pub version_of_kind : ℕ → Result WireVersion WireError
version_of_kind kind = if kind == 1 then Ok One else if kind == 3 then Ok Two else Err Kind

-- the wire version of a batch's kind
unfoldable pub batch_kind_at : List ℕ → Result (WireVersion × List ℕ) WireError
batch_kind_at bytes = do
  n ← number_at 1 bytes
  version ← version_of_kind n.0
  Ok (version, n.1)

-- the previous version, the version and the last received version of a batch
unfoldable pub header_at : List ℕ → Result ((ℤ × ℤ × ℤ) × List ℕ) WireError
header_at bytes = do
  previous ← version_at (λ v. int_le (negsuc 0) v) bytes
  version ← version_at (λ v. int_le (pos 0) v && int_lt previous.0 v) previous.1
  received ← version_at (λ v. int_le (negsuc 0) v && int_lt v version.0) version.1
  Ok ((previous.0, version.0, received.0), received.1)

-- a batch of this wire version, after its kind
unfoldable pub fields_at : WireVersion → List ℕ → Result (BatchFields × List ℕ) WireError
fields_at version bytes = do
  header ← header_at bytes
  count ← count_at MAX_TXNS header.1
  txns ← many_at (txn_at version) count.0 count.1
  Ok (record { previous = header.0.0; version = header.0.1; received = header.0.2; txns = txns.0 }, txns.1)

-- a batch and the wire version that it is spelled in
unfoldable pub batch_at : List ℕ → Result ((WireVersion × BatchFields) × List ℕ) WireError
batch_at bytes = do
  kind ← batch_kind_at bytes
  batch ← fields_at kind.0 kind.1
  Ok ((kind.0, batch.0), batch.1)

-- the verdict of a byte
abbrev pub verdict_of : ℕ → Result Verdict WireError
verdict_of zero = Ok Conflict
verdict_of (suc zero) = Ok TooOld
verdict_of (suc (suc zero)) = Ok Committed
verdict_of (suc (suc (suc n))) = Err Kind

unfoldable pub verdict_at : List ℕ → Result (Verdict × List ℕ) WireError
verdict_at bytes = do
  n ← number_at 1 bytes
  verdict ← verdict_of n.0
  Ok (verdict, n.1)

-- as many places as the report of this verdict may have
abbrev pub most_places : Verdict → ℕ
most_places Conflict = MAX_RANGES
most_places TooOld = 0
most_places Committed = 0

-- a place that isn't below the least one that may be here
unfoldable pub place_at : ℕ → List ℕ → Result (ℕ × List ℕ) WireError
place_at least bytes = do
  n ← number_at 2 bytes
  if nat_le least n.0 && nat_lt n.0 MAX_RANGES then Ok n else Err Marks

-- as many places, each above the one before it
unfoldable pub places_at : ℕ → ℕ → List ℕ → Result (List ℕ × List ℕ) WireError
places_at least zero bytes = Ok ([], bytes)
places_at least (suc n) bytes = do
  first ← place_at least bytes
  others ← places_at (first.0 + 1) n first.1
  Ok (first.0 ∷ others.0, others.1)

unfoldable pub entry_at : List ℕ → Result (EntryFields × List ℕ) WireError
entry_at bytes = do
  verdict ← verdict_at bytes
  count ← count_at (most_places verdict.0) verdict.1
  places ← places_at 0 count.0 count.1
  Ok (record { verdict = verdict.0; places = places.0 }, places.1)

unfoldable pub reply_at : List ℕ → Result (ReplyFields × List ℕ) WireError
reply_at bytes = do
  rest ← kind_at 2 bytes
  version ← version_at (λ v. int_le (pos 0) v) rest
  count ← count_at MAX_TXNS version.1
  entries ← many_at entry_at count.0 count.1
  Ok (record { version = version.0; entries = entries.0 }, entries.1)

-- the body of the frame at the front
unfoldable pub body_at : List ℕ → Result (List ℕ) WireError
body_at bytes =
    if nat_lt (length bytes) 4 then Err Short
    else if nat_lt MAX_BODY_LENGTH (big_number 4 bytes) then Err Long
    else if nat_lt (length bytes) (4 + big_number 4 bytes) then Err Short
    else Ok (take (big_number 4 bytes) (drop 4 bytes))

-- a value, with nothing left after it
abbrev pub all_of : {A : Type 0} → Result (A × List ℕ) WireError → Result A WireError
all_of read = read >>= λ x. if length x.1 == 0 then Ok x.0 else Err Trailing

-- what the frame of a batch at the front says, and in which wire version
unfoldable pub read_batch : List ℕ → Result (WireVersion × BatchFields) WireError
read_batch bytes = do
  body ← body_at bytes
  all_of (batch_at body)

-- what the frame of a reply at the front says
unfoldable pub read_reply : List ℕ → Result ReplyFields WireError
read_reply bytes = do
  body ← body_at bytes
  all_of (reply_at body)

abbrev pub refusal : {A : Type 0} → Result A WireError → Option WireError
refusal (Ok x) = None
refusal (Err e) = Some e

-- the first fault of the frame of a batch at the front, or none
abbrev pub batch_fault : List ℕ → Option WireError
batch_fault bytes = refusal (read_batch bytes)

-- the first fault of the frame of a reply at the front, or none
abbrev pub reply_fault : List ℕ → Option WireError
reply_fault bytes = refusal (read_reply bytes)

-- the wire version of the kind of the first frame
abbrev pub version_at_front : List ℕ → WireVersion
version_at_front bytes = if slice_index bytes 4 == 3 then Two else One
