use Rattle.std.proofs.Common.{ap, ◌∙◌, arith}
use Rattle.arena.specs.Chunk.{entries_of, with_free}
use Rattle.arena.proofs.Entries.{with_free-made}
use Rattle.arena.proofs.Lengths.{length-entries_of, entries_of-pushed}
use Rattle.arena.proofs.chunk.add_free.Goals as goal

pub loop-header-preserved : goal.loop-header-preserved
loop-header-preserved g c =
    let paired = c.loop-header.invariant.paired in
    record {
      paired = omega (arith, paired, c.push_reserved.ensures.len, c.push_reserved-in-loop-header.ensures.len);
      free = λ count below.
          ap (with_free count)
          (entries_of-pushed c.loop-header.lengths.items c.push_reserved.new.self.items c.loop-header.headers.items
          c.push_reserved-in-loop-header.new.self.items c.args.header paired c.push_reserved.ensures.items
          c.push_reserved-in-loop-header.ensures.items)
          ∙ with_free-made count (entries_of c.loop-header.lengths.items c.loop-header.headers.items)
          (omega (arith, length-entries_of c.loop-header.lengths.items c.loop-header.headers.items paired))
          ∙ c.loop-header.invariant.free count below;
      few = λ count below few. omega arith;
      lengths_capacity =
          omega (arith, c.loop-header.invariant.lengths_capacity, c.push_reserved.ensures.capacity);
      headers_capacity =
          omega (
            arith,
            c.loop-header.invariant.headers_capacity,
            c.push_reserved-in-loop-header.ensures.capacity,
          );
    }
