use Rattle.std.proofs.Common.{refl, sym, ◌∙◌, arith}
use Rattle.std.proofs.lemmas.Bool.{le-ltb}
use Rattle.std.proofs.lemmas.Option.{slice_get_read}
use Rattle.arena.proofs.Chunks.{is_live-length, none_after}
use Rattle.arena.proofs.chunk.Chunk.is_live.Goals as goal

pub returns-then-index-len : goal.returns-then-index-len
returns-then-index-len g c =
    let read =
    slice_get_read c.self.inside.lengths.items _ c.args.index c.index.result.now refl (omega arith) c.index.ensures in
    record {
      live = rw (← c.self.view_is)
          (is_live-length _ _ c.self.inside.size _ _ c.args.index _ c.self.invariant.paired read);
    }

pub returns-else-index-len : goal.returns-else-index-len
returns-else-index-len g c = record {
  live = rw (← c.self.view_is) (le-ltb c.args.index c.len.result (omega arith)
      ∙ sym (none_after _ _ c.self.inside.size _ _ c.args.index c.self.invariant.paired (omega arith)));
}
