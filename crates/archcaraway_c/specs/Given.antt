-- What C sees of an answer. This project's own.
use Rattle.std.specs.Prelude.{◌≡◌, ◌≤◌, ◌<◌, ◌⊎◌, ℕ, ℤ, pos, negsuc, List, length, take, Option, Some, None}
use Rattle.keyspace.specs.declared.reply.Reply.{Reply as ReplyValue}
use Rattle.keyspace.specs.declared.answer.Answer.{Answer}
use Rattle.keyspace.specs.declared.answer.Answer.TheVariants as answer
use Rattle.wire.specs.declared.error.WireError.TheVariants as wire
use Rattle.wire.specs.Spelling.{SpellsReply}
use Rattle.archcaraway_c.specs.declared.refusal.Refusal.{Refusal}
use Rattle.archcaraway_c.specs.declared.refusal.Refusal.TheVariants.{Stop, Wire, Version, Argument, Buffer, Behind}
use Rattle.archcaraway_c.specs.declared.given.Given.{Given}
use Rattle.archcaraway_c.specs.declared.given.Given.TheVariants.{Nothing, Reply, Never, Held}

abbrev pub given_kind : Given → ℤ
given_kind Nothing = pos 0
given_kind (Reply version count) = pos 1
given_kind (Never version) = pos 2
given_kind (Held version) = pos 3

abbrev pub given_version : Given → ℤ
given_version Nothing = negsuc 0
given_version (Reply version count) = version
given_version (Never version) = version
given_version (Held version) = version

abbrev pub given_length : Given → ℕ
given_length Nothing = 0
given_length (Reply version count) = count
given_length (Never version) = 0
given_length (Held version) = 0

-- What was given is this answer, or none: of a reply the version, and the frame at the front of the buffer.
abbrev pub Reports : Given → List ℕ → Option Answer → Type 0
Reports Nothing buffer reported = reported ≡ None
Reports (Reply version count) buffer reported =
    (reply : ReplyValue) × (reported ≡ Some (answer.Reply reply)) × (version ≡ reply.version) × (count ≤ length buffer)
    × SpellsReply (take count buffer) reply
Reports (Never version) buffer reported = reported ≡ Some (answer.Never version)
Reports (Held version) buffer reported = reported ≡ Some (answer.Held version)

-- Why an answer isn't written to a buffer of this size: the frame needs more, or memory is refused. A reply that exceeds a frame
-- is refused too.
abbrev pub WriteRefuses : Option Answer → ℕ → Refusal → Type 0
WriteRefuses reported capacity (Buffer needed) =
    (capacity < needed)
    × ((reply : ReplyValue) × (bytes : List ℕ) × (reported ≡ Some (answer.Reply reply)) × SpellsReply bytes reply
    × (needed ≡ length bytes))
WriteRefuses reported capacity (Wire fault) = (fault ≡ wire.Memory) ⊎ (fault ≡ wire.Long)
WriteRefuses reported capacity (Stop stop) = ⊥
WriteRefuses reported capacity Version = ⊥
WriteRefuses reported capacity Argument = ⊥
WriteRefuses reported capacity Behind = ⊥
