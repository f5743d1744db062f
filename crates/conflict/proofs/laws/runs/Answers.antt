use Rattle.conflict.proofs.Overlap.{runs_determine_overlap}
use Rattle.conflict.proofs.laws.runs.Goals as goal

pub returns : goal.returns
returns c = record { overlap = runs_determine_overlap c.runs.ensures.meeting }
