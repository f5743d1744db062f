-- What is at a position where the frame of a batch has a fault.
use Rattle.std.proofs.Common.{◌≡◌, ◌≢◌, ℕ, ◌<◌, ◌≤◌, List, [], length, take, drop, take-append-drop, Some, refl, sym, ap, arith}
use Rattle.keyspace.specs.declared.reply.Reply.{Reply}
use Rattle.wire.specs.declared.error.WireError.{WireError}
use Rattle.wire.specs.FrameLength.{frame_length}
use Rattle.wire.specs.Spelling.{SpellsReply}
use Rattle.wire.specs.Reading.{batch_fault, reply_fault}
use Rattle.replay_diagnosis.specs.declared.position.Position.{Position}
use Rattle.replay_diagnosis.specs.declared.run_findings.Finding.TheVariants as found
use Rattle.replay_diagnosis.specs.Content.{IsFindingAt, IsNoJson}

not_empty : (front : List ℕ) → 0 < length front → front ≢ []
not_empty front some = λ none. omega (arith, some, ap length none)

-- the frame of a reply
pub is_reply : (position : Position) (front : List ℕ) (reply : Reply) (used : ℕ) (fault : WireError) → 0 < length front
    → batch_fault front ≡ Some fault → SpellsReply (take used front) reply
    → IsFindingAt position (Some front) (found.Reply position)
is_reply position front reply used fault some is spelled = (
  refl,
  (reply, take used front, drop used front, sym (take-append-drop used front), spelled),
  (fault, (not_empty front some, is)),
)

-- no frame of a reply either
pub is_no_frame : (position : Position) (front : List ℕ) (fault other : WireError) → 0 < length front
    → frame_length front ≤ length front → batch_fault front ≡ Some fault → reply_fault front ≡ Some other → IsNoJson position front
    → IsFindingAt position (Some front) (found.NotAFrame position fault)
is_no_frame position front fault other some complete is is_other no_json = (
  refl,
  record {
    fault_is = (not_empty front some, is);
    complete = complete;
    no_reply = (other, (not_empty front some, is_other));
  },
  no_json,
)
