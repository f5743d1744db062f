use Rattle.stepmap.proofs.Changes.{up_to_later}
use Rattle.stepmap.proofs.WritingInTurn.{apart_write_in_turn}
use Rattle.stepmap.proofs.laws.writing.Goals as goal

pub returns : goal.returns
returns c = record { in_turn = apart_write_in_turn; later = up_to_later }
