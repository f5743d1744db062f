use Rattle.std.proofs.Common.{◌∙◌, Err, ap, rules}
use Rattle.replay_stream.proofs.Recording.{failed_after, none_yet, written_after}
use Rattle.replay_stream.proofs.recorder.Recorder.write.Goals as goal

pub returns-in-Ok-clause-writes : goal.returns-in-Ok-clause-writes
returns-in-Ok-clause-writes g c = λ first taken before was.
    let failure = c.args.self.now.failure in
    let none = none_yet failure (search rules) in
    written_after first taken before _ _ c.args.answer.now failure none was (c.in-Ok.ensures.entire, c.in-Ok.ensures.ok)

pub returns-in-Err-Write-clause-writes : goal.returns-in-Err-Write-clause-writes
returns-in-Err-Write-clause-writes g c = λ first taken before was.
    let failure = c.args.self.now.failure in
    let none = none_yet failure (search rules) in
    let failed = c.in-Err-Write.is ∙ ap Err c.in-Err-Write.field-0-is in
    failed_after first taken before _ _ c.args.answer.now failure none was
    (c.write_record.ensures.write.0 failed, c.write_record.ensures.prefix failed)
