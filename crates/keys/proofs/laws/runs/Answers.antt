use Rattle.keys.proofs.Runs.{runs_determine_meeting, runs_are_within}
use Rattle.keys.proofs.laws.runs.Goals as goal

pub returns-clause-meeting : goal.returns-clause-meeting
returns-clause-meeting c = runs_determine_meeting

pub returns-clause-within : goal.returns-clause-within
returns-clause-within c = runs_are_within
