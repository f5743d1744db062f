use Rattle.std.proofs.Common.{◌<◌, ◌∙◌, inr, sym, get_or-take, length, length-take, arith}
use Rattle.boundaries.specs.Node.{entries_of}
use Rattle.boundaries.proofs.HeadAt.{entry_at, entry_there, key_there, agrees_at}
use Rattle.boundaries.proofs.KeyBytes.{known_bytes}
use Rattle.boundaries.proofs.node.Node.has_prefix_of.Goals as goal

pub returns : goal.returns
returns c = record {
  has_prefix = λ enough.
      let node = c.args.self.now in
      let es = entries_of node in
      let i = c.args.index in
      let inside : i < length es = omega (arith, c.if-index-len.false, c.len.ensures.len) in
      let e = entry_at es i inside in
      let same = entry_there node.entries node.len i e.0 c.index-self-index.result e.1 in
      let own = get_or-take node.len node.heads i 0 (omega (arith, inside, length-take node.len node.entries)) in
      agrees_at _ _ c.requires.headed i e.0.key _ (key_there es i e.0 e.1)
      (inr (λ zero. c.if-self-index-eq0.false (sym own ∙ zero)))
      (λ text known long. rw (← c.prefix_len.ensures.prefix_len)
      (rw (known_bytes c.args.keys.now e.0.key text known) at rw same at (c.begins_as.ensures.same.0 enough)));
}
