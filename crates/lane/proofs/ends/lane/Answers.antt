use Rattle.lane.proofs.RingRule.{begins}
use Rattle.lane.proofs.ends.lane.Goals as goal

pub vacant-requires : goal.vacant-requires
vacant-requires g c = begins _ c.requires.some
