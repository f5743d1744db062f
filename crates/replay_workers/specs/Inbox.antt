-- What an inbox keeps. This project's own.
use Rattle.std.specs.Prelude.{◌≡◌, ℕ, Bool, false, List, [], ◌++◌}
use Rattle.std.specs.List.{All}
use Rattle.keyspace.specs.declared.answer.Answer.{Answer}
use Rattle.replay_output.specs.declared.options.style.Style.{Style}
use Rattle.replay_output.specs.declared.line.Line.{Line}
use Rattle.replay_workers.specs.declared.inbox.Inbox.{Inbox}
use Rattle.replay_workers.specs.Ends.{EndsContinue}
use Rattle.replay_output.specs.Line.{answers_of, IsLineOf}

-- These lines are of the answers taken since `before`, in order. After a loss the last of them have no line.
pub record KeepsLines (style : Style) (proxy : ℕ) (before now : List Answer) (lines : List Line) (lost : Bool) :
    Type 0 where
  pub dropped : List Answer
  pub taken : now ≡ before ++ (answers_of lines ++ dropped)
  pub none_dropped : lost ≡ false → dropped ≡ []
  pub each : All (IsLineOf style proxy) lines

-- the inbox has the lines of what it has taken since
abbrev pub Keeps : List Answer → Inbox → Type 0
Keeps before inbox = KeepsLines inbox.style inbox.proxy before inbox.ends.replies.taken inbox.lines.items inbox.lost

-- the same inbox later
pub record InboxContinues (old new : Inbox) : Type 0 where
  pub ends : EndsContinue old.ends new.ends
  pub proxy : new.proxy ≡ old.proxy
  pub style : new.style ≡ old.style
  pub lines : (before : List Answer) → Keeps before old → Keeps before new
