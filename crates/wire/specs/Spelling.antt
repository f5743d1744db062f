-- How each value is spelled: a text is the joining of its fields' texts. The format is the project's own. Every number
-- is big-endian; versions and snapshots are two's complement in eight bytes. The wire version settles the kind of a
-- batch and how a range is spelled, and nothing else.
use Rattle.std.specs.Prelude.{◌≡◌, ◌≢◌, ℕ, ℤ, pos, negsuc, ◌≤◌, ◌≤ℤ◌, ◌<ℤ◌, Bool, List, [], ◌∷◌, ◌++◌, length, if◌then◌else◌}
use Rattle.std.specs.List.{flat_map, AllByRecursion}
use Rattle.std.specs.Int.{w64, cast_unsigned}
use Rattle.std.specs.Int.RustNames.{FitsSigned}
use Rattle.byteorder.specs.Endian.{big_bytes}
use Rattle.keys.specs.Range as ends
use Rattle.keyspace.specs.declared.txn.TheConstants.{MAX_RANGES}
use Rattle.keyspace.specs.declared.batch.TheConstants.{MAX_TXNS}
pub use Rattle.keyspace.specs.storage.Fields.{RangeHolds}
use Rattle.keyspace.specs.Places.{ArePlaces}
use Rattle.keyspace.specs.declared.batch.Batch.{Batch}
use Rattle.keyspace.specs.declared.reply.Verdict.{Verdict}
use Rattle.keyspace.specs.declared.reply.Verdict.TheVariants.{Conflict, TooOld, Committed}
use Rattle.keyspace.specs.declared.reply.Reply.{Reply}
use Rattle.wire.specs.declared.field.TheConstants.{MAX_BODY_LENGTH}
use Rattle.wire.specs.declared.version.WireVersion.{WireVersion}
use Rattle.wire.specs.declared.version.WireVersion.TheVariants.{One, Two}
use Rattle.wire.specs.Fields.{RangeFields, TxnFields, BatchFields, batch_fields, EntryFields, ReplyFields, reply_fields}

abbrev pub signed_text : ℤ → List ℕ
signed_text n = big_bytes 8 (cast_unsigned w64 n)

-- a length and that many bytes
abbrev pub key_text : List ℕ → List ℕ
key_text key = big_bytes 2 (length key) ++ key

-- both ends of a range
abbrev pub ends_text : RangeFields → List ℕ
ends_text range = key_text range.begin ++ key_text range.end

-- the range of a single key: it ends with that key and one zero byte
abbrev pub single_key : List ℕ → RangeFields
single_key key = record { begin = key; end = key ++ 0 ∷ [] }

abbrev pub is_single_key : RangeFields → Bool
is_single_key range = ends.is_single_key range.begin range.end

-- version 2 begins a range with its form: 1 and the key of a single key, 0 and both ends of any other range
unfoldable pub formed_text : RangeFields → List ℕ
formed_text range = if is_single_key range then 1 ∷ key_text range.begin else 0 ∷ ends_text range

abbrev pub range_text : WireVersion → RangeFields → List ℕ
range_text One = ends_text
range_text Two = formed_text

abbrev pub marks_text : Bool → List ℕ
marks_text marked = (if marked then 1 else 0) ∷ []

unfoldable pub txn_text : WireVersion → TxnFields → List ℕ
txn_text version txn =
    signed_text txn.snapshot ++ (marks_text txn.marked
    ++ (big_bytes 2 (length txn.reads) ++ (big_bytes 2 (length txn.writes)
    ++ (flat_map (range_text version) txn.reads ++ flat_map (range_text version) txn.writes))))

-- the kind of a batch
abbrev pub batch_kind : WireVersion → ℕ
batch_kind One = 1
batch_kind Two = 3

-- the three versions of a batch
abbrev pub header_text : ℤ → ℤ → ℤ → List ℕ
header_text previous version received = signed_text previous ++ (signed_text version ++ signed_text received)

unfoldable pub batch_body : WireVersion → BatchFields → List ℕ
batch_body version batch =
    (batch_kind version ∷ []) ++ (header_text batch.previous batch.version batch.received
    ++ (big_bytes 2 (length batch.txns) ++ flat_map (txn_text version) batch.txns))

abbrev pub verdict_text : Verdict → List ℕ
verdict_text Conflict = 0 ∷ []
verdict_text TooOld = 1 ∷ []
verdict_text Committed = 2 ∷ []

abbrev pub places_text : List ℕ → List ℕ
places_text places = flat_map (λ place. big_bytes 2 place) places

unfoldable pub entry_text : EntryFields → List ℕ
entry_text entry =
    verdict_text entry.verdict ++ (big_bytes 2 (length entry.places) ++ places_text entry.places)

unfoldable pub reply_body : ReplyFields → List ℕ
reply_body reply =
    (2 ∷ []) ++ (signed_text reply.version
    ++ (big_bytes 2 (length reply.entries) ++ flat_map entry_text reply.entries))

-- a body after its length
abbrev pub frame : List ℕ → List ℕ
frame body = big_bytes 4 (length body) ++ body

-- what must hold of each field; a number of a type of the program fits that type
pub record TxnHolds (txn : TxnFields) : Type 0 where
  pub snapshot_fits : FitsSigned w64 txn.snapshot
  pub snapshot : pos 0 ≤ℤ txn.snapshot
  pub few_reads : length txn.reads ≤ MAX_RANGES
  pub few_writes : length txn.writes ≤ MAX_RANGES
  pub reads : AllByRecursion RangeHolds txn.reads
  pub writes : AllByRecursion RangeHolds txn.writes

pub record BatchHolds (batch : BatchFields) : Type 0 where
  pub previous_fits : FitsSigned w64 batch.previous
  pub version_fits : FitsSigned w64 batch.version
  pub received_fits : FitsSigned w64 batch.received
  pub previous : negsuc 0 ≤ℤ batch.previous
  pub version : pos 0 ≤ℤ batch.version
  pub rises : batch.previous <ℤ batch.version
  pub received : negsuc 0 ≤ℤ batch.received
  pub received_before : batch.received <ℤ batch.version
  pub few : length batch.txns ≤ MAX_TXNS
  pub txns : AllByRecursion TxnHolds batch.txns

pub record EntryHolds (entry : EntryFields) : Type 0 where
  pub few : length entry.places ≤ MAX_RANGES
  pub only_conflict : entry.verdict ≢ Conflict → entry.places ≡ []
  pub places : ArePlaces entry.places

pub record ReplyHolds (reply : ReplyFields) : Type 0 where
  pub version_fits : FitsSigned w64 reply.version
  pub version : pos 0 ≤ℤ reply.version
  pub few : length reply.entries ≤ MAX_TXNS
  pub entries : AllByRecursion EntryHolds reply.entries

-- the longest body of a frame
abbrev pub IsShort : List ℕ → Type 0
IsShort body = length body ≤ MAX_BODY_LENGTH

-- the bytes are the frame of the batch in this wire version, all of them
pub record SpellsBatch (version : WireVersion) (bytes : List ℕ) (batch : Batch) : Type 0 where
  pub text : bytes ≡ frame (batch_body version (batch_fields batch))
  pub holds : BatchHolds (batch_fields batch)
  pub short : IsShort (batch_body version (batch_fields batch))

-- the bytes are the frame of the reply, all of them
pub record SpellsReply (bytes : List ℕ) (reply : Reply) : Type 0 where
  pub text : bytes ≡ frame (reply_body (reply_fields reply))
  pub holds : ReplyHolds (reply_fields reply)
  pub short : IsShort (reply_body (reply_fields reply))
