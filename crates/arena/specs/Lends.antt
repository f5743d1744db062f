-- What an arena ends as, where a header of it is lent for writing.
use Rattle.std.specs.Prelude.{ℕ}
use Rattle.std.specs.Borrow.{Lends, Fml, RattleType, MutBor}
use Rattle.std.specs.declared.alloc.Allocator.{Ghosts}
use Rattle.arena.specs.Arena.{Arena, with_header}
use Rattle.arena.specs.contracts.arena.Arena.{the_row}

-- once the borrow r ends, the slot has the last header written through r, and all else is as it was
abbrev pub lends_header : (H A : RattleType) (alloc : Ghosts A.Denot)
    → MutBor (Arena H.Denot) → ℕ → MutBor H.Denot → Fml
lends_header H A alloc a slot r = Lends (the_row H A alloc) H a r (with_header a.now slot)
