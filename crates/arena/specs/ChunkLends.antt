-- What a chunk ends as, where a header of it is lent for writing. No public clause cites this module.
use Rattle.std.specs.Prelude.{ℕ, [], option_map, unwrap_or, slice_set}
use Rattle.std.specs.Borrow.{Lends, Fml, RattleType, MutBor}
use Rattle.std.specs.declared.alloc.Allocator.{Ghosts}
use Rattle.arena.specs.Entry.{Live, held_at}
use Rattle.arena.specs.Chunk.{Chunk}
use Rattle.arena.specs.contracts.chunk.Chunk.{the_row}

-- the chunk with this header at a live slot
abbrev pub with_header : {H : Type 0} → Chunk H → ℕ → H → Chunk H
with_header c index header =
    let key = unwrap_or (option_map (λ r. r.key) (held_at c.cells index)) [] in
    record c { cells = slice_set c.cells index (Live (record { header = header; key = key })) }

-- once the borrow r ends, the slot has the last header written through r
abbrev pub lends_header : (H A : RattleType) (alloc : Ghosts A.Denot)
    → MutBor (Chunk H.Denot) → ℕ → MutBor H.Denot → Fml
lends_header H A alloc c index r = Lends (the_row H A alloc) H c r (with_header c.now index)
