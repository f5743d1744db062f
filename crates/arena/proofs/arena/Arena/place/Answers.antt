use Rattle.std.proofs.Common.{ap, ◌∙◌}
use Rattle.std.specs.FinMap as map
use Rattle.arena.proofs.Records.{get-put_same, get-put_other}
use Rattle.arena.proofs.arena.Arena.place.Goals as goal

pub returns-clause-record : goal.returns-clause-record
returns-clause-record g c = rw c.give.ensures.placed (get-put_same _ c.give.result _)

pub returns-clause-others : goal.returns-clause-others
returns-clause-others g c = λ other apart.
    rw c.give.ensures.placed (get-put_other _ c.give.result _ other apart)
    ∙ ap (λ m. map.get m other) c.spare_one.ensures.records
