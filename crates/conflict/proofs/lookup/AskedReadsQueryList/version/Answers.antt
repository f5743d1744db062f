use Rattle.std.proofs.Common.{rules, SFits, w64, ◌≡◌, ℤ, slice_get, subst, ◌∙◌}
use Rattle.std.specs.Prelude.{IsSomeAnd}
use Rattle.std.proofs.lemmas.Int.{to_z-of_z}
use Rattle.std.proofs.lemmas.Option.{slice_get_within}
use Rattle.keys.specs.declared.range.Range.{Range}
use Rattle.keyspace.specs.declared.txn.Txn.{Txn}
use Rattle.conflict.specs.Lookup.{queries_named}
use Rattle.conflict.proofs.NamedQuery.{name, found, held}
use Rattle.conflict.proofs.lookup.AskedReadsQueryList.version.Goals as goal

pub snapshot-requires : goal.snapshot-requires
snapshot-requires c =
    let a = c.args.self.now in
    let f = found a.txns.now a.names.now a.named c.args.index c.requires.within in
    record { within = slice_get_within a.txns.now (name a.names.now c.args.index).txn f.3.0 f.3.1 }

pub returns : goal.returns
returns c =
    let a = c.args.self.now in
    let f = found a.txns.now a.names.now a.named c.args.index c.requires.within in
    let same = subst (λ o. IsSomeAnd o (λ (t : Txn). c.snapshot.result ≡ t.snapshot)) f.3.1 c.snapshot.ensures.snapshot in
    let fits : SFits w64 c.snapshot.result = search rules in
    record {
      version = held (λ (q : Range × ℤ). _ ≡ q.1) (slice_get (queries_named a.txns.now a.names.now) c.args.index) f.0 f.1
          (to_z-of_z w64 c.snapshot.result fits ∙ same ∙ f.3.2);
    }
