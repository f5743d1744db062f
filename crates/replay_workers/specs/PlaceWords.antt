-- The place of the waiting room that three words carry. This project's own.
use Rattle.std.specs.Prelude.{◌≡◌}
use Rattle.replay_workers.specs.declared.shares.place.Place.{Place}
use Rattle.replay_workers.specs.declared.shares.place.Place.TheVariants.{Goes, Stands, Admitted, Closed}
use Rattle.replay_workers.specs.declared.shares.words.Words.{Words}
use Rattle.replay_workers.specs.declared.shares.words.TheConstants.{GOES, STANDS, ADMITTED, CLOSED}

-- Each state is of one place. If the proxy stands, the other two words are those of its batch.
abbrev pub Carries : Words → Place → Type 0
Carries words Goes = words.state ≡ GOES
Carries words (Stands stand) =
    (words.state ≡ STANDS) × (words.answered ≡ stand.answered) × (words.previous ≡ stand.previous)
Carries words Admitted = words.state ≡ ADMITTED
Carries words Closed = words.state ≡ CLOSED
