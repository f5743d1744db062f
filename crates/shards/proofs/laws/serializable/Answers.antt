use Rattle.shards.proofs.Together.{are_by_shards}
use Rattle.shards.proofs.laws.serializable.Goals as goal

pub returns-clause-current : goal.returns-clause-current
returns-clause-current c window points each ps are =
    c.serializable_by_shards.ensures.current window points each ps (are_by_shards window points each ps are)

pub returns-clause-isolated : goal.returns-clause-isolated
returns-clause-isolated c window points each ps are =
    c.serializable_by_shards.ensures.isolated window points each ps (are_by_shards window points each ps are)

pub returns-clause-serializable : goal.returns-clause-serializable
returns-clause-serializable c window points each ps are =
    c.serializable_by_shards.ensures.serializable window points each ps (are_by_shards window points each ps are)

pub returns-clause-effects : goal.returns-clause-effects
returns-clause-effects c window points each ps are =
    c.serializable_by_shards.ensures.effects window points each ps (are_by_shards window points each ps are)

pub returns-clause-places : goal.returns-clause-places
returns-clause-places c window points each ps are =
    c.serializable_by_shards.ensures.places window points each ps (are_by_shards window points each ps are)

pub returns-clause-follows : goal.returns-clause-follows
returns-clause-follows c window points each ps are =
    c.serializable_by_shards.ensures.follows window points each ps (are_by_shards window points each ps are)
