use Rattle.std.proofs.Common.{ℤ, slice_get}
use Rattle.keys.specs.Hash.{IsHashOf}
use Rattle.keys.specs.declared.range.Range.{Range}
use Rattle.conflict.specs.Lookup.{queries_named}
use Rattle.conflict.proofs.NamedQuery.{found, held}
use Rattle.conflict.proofs.lookup.AskedReadsQueryList.hash.Goals as goal

pub returns : goal.returns
returns c =
    let a = c.args.self.now in
    let f = found a.txns.now a.names.now a.named c.args.index c.requires.within in
    let asked = slice_get (queries_named a.txns.now a.names.now) c.args.index in
    record { hash = held (λ (q : Range × ℤ). IsHashOf q.0 c.hash.result) asked f.0 f.1 (c.hash.ensures.hash f.0.0 f.2) }
