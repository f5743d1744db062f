-- The files of replies that another resolver gave. This project's own.
use Rattle.std.specs.Prelude.{◌≡◌, ◌≢◌, ℕ, List, [], ◌∷◌, ◌++◌, codes, Option, Some, IfSome, slice_get, ⊤}
use Rattle.std.specs.Io.KnownBytes.{IsAtEnd}
use Rattle.keyspace.specs.declared.reply.Reply.{Reply}
use Rattle.wire.specs.declared.error.WireError.{WireError}
use Rattle.wire.specs.declared.error.WireError.TheVariants as wire
use Rattle.wire.specs.NextReply.{IsReplyFaultOf, TakesReply}
use Rattle.replay_tasks.specs.declared.check.replies.RepliesError.{RepliesError}
use Rattle.replay_tasks.specs.declared.check.replies.RepliesError.TheVariants.{CannotOpen, Fault, Memory}
use Rattle.replay_output.specs.declared.start.StartError.TheVariants as start
use Rattle.replay_output.specs.Failures.{fault_name}
use Rattle.replay_arguments.specs.Opening.{IsFirstRefused, contents_each, replies_of}
use Rattle.replay_output.specs.Start.{start_line}

-- the frames of these replies are at the front, in order, and just those frames leave
abbrev pub TakesReplies : Option (List ℕ) → Option (List ℕ) → List Reply → Type 0
TakesReplies old new [] = new ≡ old
TakesReplies old new (reply ∷ rest) =
    (between : Option (List ℕ)) × TakesReply old between reply × TakesReplies between new rest

-- the bytes are the frames of these replies, each once, in order, and nothing else
pub record IsReplyFile (bytes : Option (List ℕ)) (replies : List Reply) : Type 0 where
  pub left : Option (List ℕ)
  pub taken : TakesReplies bytes left replies
  pub at_end : IsAtEnd left

-- the frames of some replies are at the front, and a fault other than these two is the first one of the next bytes
pub record HasReplyFault (bytes : Option (List ℕ)) (e : WireError) : Type 0 where
  pub replies : List Reply
  pub left : Option (List ℕ)
  pub taken : TakesReplies bytes left replies
  pub first_fault : e ≢ wire.Memory → e ≢ wire.Read → IfSome left (IsReplyFaultOf e)

-- a fault is that of the file of its proxy; a file that can't be opened is not covered here
abbrev pub IsFaultIn : List (Option (List ℕ)) → RepliesError → Type 0
IsFaultIn files (CannotOpen proxy) = ⊥
IsFaultIn files (Fault proxy e) = (bytes : Option (List ℕ)) × (slice_get files proxy ≡ Some bytes) × HasReplyFault bytes e
IsFaultIn files Memory = ⊤

-- why the files of these names were not read
abbrev pub IsCauseOf : (List ℕ → Type 0) → (List ℕ → Type 0) → (List ℕ → Option (List ℕ)) → List (List ℕ) → RepliesError → Type 0
IsCauseOf has_opened cannot_open contents names (CannotOpen proxy) = IsFirstRefused has_opened cannot_open names proxy
IsCauseOf has_opened cannot_open contents names (Fault proxy e) = IsFaultIn (contents_each contents names) (Fault proxy e)
IsCauseOf has_opened cannot_open contents names Memory = ⊤

-- the line of standard error where the replies were not read
abbrev pub replies_line : RepliesError → List ℕ
replies_line (CannotOpen proxy) = replies_of proxy ++ codes ": cannot open\n"
replies_line (Fault proxy e) = replies_of proxy ++ (codes ": wire " ++ (fault_name e ++ codes "\n"))
replies_line Memory = start_line start.Memory
