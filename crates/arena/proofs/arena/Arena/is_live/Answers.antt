use Rattle.std.proofs.Common.{◌/◌, ◌<◌, ◌≤◌, length, arith, sym}
use Rattle.arena.proofs.Reading.{IsRead-within}
use Rattle.arena.proofs.Records.{none_past}
use Rattle.arena.proofs.arena.Arena.is_live.Goals as goal

pub returns-then-chunk-len : goal.returns-then-chunk-len
returns-then-chunk-len g c = record {
  live =
      let past : length c.self.inside.chunks.items ≤ c.args.slot / 512 = omega (arith, c.chunk.ensures.chunk) in
      rw (← c.self.view_is) (sym (none_past c.self.inside.chunks.items c.args.slot past));
}

pub returns : goal.returns
returns g c = record {
  live =
      let within : c.args.slot / 512 < length c.self.inside.chunks.items = omega (arith, c.chunk.ensures.chunk) in
      let read = IsRead-within c.self.inside.chunks.items c.args.slot _ _ _ within c.chunk-2.ensures.chunk
      c.index.ensures.index c.index-chunk.ensures in
      rw (← c.self.view_is, read.has) c.is_live.ensures.live;
}
