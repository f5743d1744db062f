use Rattle.keys.proofs.callers.Meeting.{meets_by_ends}
use Rattle.keys.proofs.laws.meeting.Goals as goal

pub returns : goal.returns
returns c = record { by_ends = meets_by_ends }
